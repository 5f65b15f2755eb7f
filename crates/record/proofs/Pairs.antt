-- Which enter an exit belongs to. In a sound list the enter events that are open before an event are, with their names, the open names; so
-- the innermost of them is the partner of an exit that comes there, and in the end none is open.
-- Assumes nothing.
use mathlib.Core.Path.{◌≡◌, refl, ap, ◌∙◌}
use mathlib.Core.Bool.{true}
use mathlib.Core.Logic.{◌⊎◌, inl, inr}
use mathlib.Core.List.{List, [], ◌∷◌}
use Prim.Native.Nat.{ℕ, zero, suc, ◌+◌, ◌≤◌, ◌<◌}
use native.Mathlib.Omega.{arith}
use lib.ListN.{length, take, drop}
use lib.Seq.{drop-cons, drop-length}
use Rattle.record.specs.Event.{event}
use Rattle.record.specs.Stack.{none, outer, after, open_after, open_at, nth}
use Rattle.record.specs.Sound.{sound_from, sound}
use Rattle.record.specs.declared.event.Event.{Event}
use Rattle.record.proofs.Soundness.{Stands, stands, sound_rest, after_enter, after_exit}

-- the numbers are enter events below k, falling, and the names are theirs
pub data Pairs (all : List Event) : ℕ → List ℕ → List ℕ → Type 0 where
  closed : {k : ℕ} → Pairs all k [] []
  opened : {k i n : ℕ} {is ns : List ℕ} → i < k → (nth all i).kind ≡ 0 → (nth all i).name ≡ n → Pairs all i is ns → Pairs all k (i ∷ is) (n ∷ ns)

-- a later bound
later : {all : List Event} {k m : ℕ} {is ns : List ℕ} → k ≤ m → Pairs all k is ns → Pairs all m is ns
later h closed = closed
later {k = k} {m = m} h (opened {i = i} l a b r) =
    let l' : i < m = omega arith in
    opened l' a b r

leave : {all : List Event} {k : ℕ} {is ns : List ℕ} → Pairs all k is ns → Pairs all k (outer is) (outer ns)
leave closed = closed
leave (opened l a b r) = later (omega arith) r

split_kind : (n : ℕ) → n ≤ 1 → (n ≡ 0) ⊎ (n ≡ 1)
split_kind zero h = inl refl
split_kind (suc n) h = inr (omega arith)

-- one event more
step : {all : List Event} {deep d last k : ℕ} {is ns : List ℕ} (e : Event) → nth all k ≡ e → Stands deep d last ns e → Pairs all k is ns →
    Pairs all (k + 1) (after e k is) (after e e.name ns)
step {all} {deep} {d} {last} {k} {is} {ns} e q s p = go (split_kind e.kind s.kind)
  where
    go : (e.kind ≡ 0) ⊎ (e.kind ≡ 1) → Pairs all (k + 1) (after e k is) (after e e.name ns)
    go (inl z) =
        let l : k < k + 1 = omega arith in
        rw (after_enter e k is z, after_enter e e.name ns z) (opened l (ap (λ (x : Event). x.kind) q ∙ z) (ap (λ (x : Event). x.name) q) p)
    go (inr z) = rw (after_exit e k is z, after_exit e e.name ns z) (later (omega arith) (leave p))

-- the head of what is left is the event of that number
drop_head : (all : List Event) (k : ℕ) (e : Event) (es : List Event) → drop k all ≡ e ∷ es → (nth all k ≡ e) × (drop (k + 1) all ≡ es)
drop_head [] zero e es q = let z : ◌≡◌ {A = ℕ} 0 1 = cc in absurd (omega arith)
drop_head [] (suc k) e es q = let z : ◌≡◌ {A = ℕ} 0 1 = cc in absurd (omega arith)
drop_head (x ∷ all) zero e es q = (cc, cc)
drop_head (x ∷ all) (suc k) e es q =
    let r = drop_head all k e es q in
    let n : suc k + 1 ≡ suc (k + 1) = omega arith in
    (r.0, ap (λ (m : ℕ). drop m (x ∷ all)) n ∙ r.1)

-- after j events more, from event k on
pub record Reached (all : List Event) (deep d k : ℕ) (is : List ℕ) : Type 0 where
  pub last : ℕ
  pub names : List ℕ
  pub pairs : Pairs all k is names
  pub rest : sound_from deep d last names (drop k all) ≡ true

reach : (all rest : List Event) (deep d last k j : ℕ) (is ns : List ℕ) → drop k all ≡ rest → sound_from deep d last ns rest ≡ true →
    Pairs all k is ns → j ≤ length rest → Reached all deep d (k + j) (open_after (take j rest) k is)
unfolding open_after
reach all rest deep d last k zero is ns q s p h =
    let z : k + 0 ≡ k = omega arith in
    record { last = last; names = ns; pairs = rw z p; rest = rw (z, q) s }
reach all [] deep d last k (suc j) is ns q s p h = absurd (omega arith)
reach all (e ∷ es) deep d last k (suc j) is ns q s p h =
    let r = drop_head all k e es q in
    let z : k + suc j ≡ k + 1 + j = omega arith in
    let st = stands deep d last ns e es s in
    rw z (reach all es deep d e.place (k + 1) j (after e k is) (after e e.name ns) r.1 (sound_rest deep d last ns e es s) (step e r.0 st p) (omega arith))

-- what is open before event k of a sound list
pub reached : (all : List Event) (deep d k : ℕ) → sound deep d all ≡ true → k ≤ length all → Reached all deep d k (open_at all k)
reached all deep d k s h =
    let z : 0 + k ≡ k = omega arith in
    rw z at (reach all all deep d 0 0 k [] [] refl s closed h)

-- the partner of an exit: the innermost enter that is open there, of the same name
pub record Partner (all : List Event) (k : ℕ) : Type 0 where
  pub number : ℕ
  pub innermost : open_at all k ≡ number ∷ outer (open_at all k)
  pub before : number < k
  pub enters : (nth all number).kind ≡ 0
  pub same_name : (nth all number).name ≡ (nth all k).name

partner_of : (all : List Event) (k n : ℕ) (is ns : List ℕ) → ns ≡ n ∷ outer ns → Pairs all k is ns →
    (i : ℕ) × (is ≡ i ∷ outer is) × (i < k) × ((nth all i).kind ≡ 0) × ((nth all i).name ≡ n)
partner_of all k n [] [] q closed = let z : ◌≡◌ {A = ℕ} 0 1 = cc in absurd (omega arith)
partner_of all k n [] (m ∷ ns) q x = elim x [ ]
partner_of all k n (i ∷ is) [] q x = elim x [ ]
partner_of all k n (i ∷ is) (m ∷ ns) q (opened l a b r) = (i, refl, l, a, b ∙ cc)

pub partner : (all : List Event) (deep d k : ℕ) → sound deep d all ≡ true → k < length all → (nth all k).kind ≡ 1 → Partner all k
partner all deep d k s h x =
    let r = reached all deep d k s (omega arith) in
    let t : sound_from deep d r.last r.names (nth all k ∷ drop (suc k) all) ≡ true = rw (drop-cons all k (event 0 0 0) h) at r.rest in
    let st = stands deep d r.last r.names (nth all k) (drop (suc k) all) t in
    let f = partner_of all k (nth all k).name (open_at all k) r.names (st.partner x) r.pairs in
    record { number = f.0; innermost = f.1; before = f.2; enters = f.3; same_name = f.4 }

none_closed : (all : List Event) (k : ℕ) (is ns : List ℕ) → none ns ≡ true → Pairs all k is ns → is ≡ []
none_closed all k [] [] q closed = refl
none_closed all k [] (n ∷ ns) q x = elim x [ ]
none_closed all k (i ∷ is) [] q x = elim x [ ]
none_closed all k (i ∷ is) (n ∷ ns) q (opened l a b r) = let z : ◌≡◌ {A = ℕ} 0 1 = cc in absurd (omega arith)

-- in the end none is open
pub all_closed : (all : List Event) (deep d : ℕ) → sound deep d all ≡ true → open_at all (length all) ≡ []
unfolding sound_from
all_closed all deep d s =
    let r = reached all deep d (length all) s (omega arith) in
    let t : sound_from deep d r.last r.names [] ≡ true = rw drop-length at r.rest in
    none_closed all (length all) (open_at all (length all)) r.names t r.pairs
