-- The walk that finds partners, over plain lists, from the first event on. Before event i, `held` are the open enters, innermost first, each with what is
-- to close it; and every other event before i is in a pair.
-- Assumes nothing.
use mathlib.Core.Path.{◌≡◌, refl, sym, ap, ◌∙◌}
use mathlib.Core.Bool.{true}
use mathlib.Core.Logic.{◌⊎◌, inl, inr}
use mathlib.Core.List.{List, [], ◌∷◌}
use Prim.Native.Nat.{ℕ, zero, suc, ◌+◌, ◌-◌, ◌≤◌, ◌<◌}
use native.Mathlib.Numerals.{add-one}
use native.Mathlib.Omega.{arith}
use lib.ListN.{length, get_or, drop}
use lib.Seq.{drop-cons, drop-length}
use borrow.Author.Tests.{eq-eqb, ne_eqb, eqb-true, ltb-true}
use Rattle.record.specs.Choice.{choose, and}
use Rattle.record.specs.Event.{event}
use Rattle.record.specs.Partners.{balanced_from, closing, partners_from, partners}
use Rattle.record.specs.Stack.{innermost_of, outer, after, nth}
use Rattle.record.specs.declared.event.Event.{Event}
use Rattle.record.proofs.Bools.{and_left, and_right}

-- the enters `held`, innermost first, of which m are inside the first: each one's partner is what closes it
pub data Chain (es : List Event) (ps : List ℕ) (left : List Event) (i : ℕ) : ℕ → ℕ → List ℕ → Type 0 where
  closed : {m bound : ℕ} → Chain es ps left i m bound []
  opened : {m bound h : ℕ} {hs : List ℕ} → h < bound → (nth es h).kind ≡ 0 → get_or ps h 0 ≡ closing m left i →
      Chain es ps left i (m + 1) h hs → Chain es ps left i m bound (h ∷ hs)

pub data Held (k : ℕ) : List ℕ → Type 0 where
  here : {hs : List ℕ} → Held k (k ∷ hs)
  there : {h : ℕ} {hs : List ℕ} → Held k hs → Held k (h ∷ hs)

-- q is the partner of k and k is q's; k is the enter, q the exit
pub record Pair (es : List Event) (ps : List ℕ) (k q : ℕ) : Type 0 where
  pub forth : get_or ps k 0 ≡ q
  pub back : get_or ps q 0 ≡ k
  pub order : k < q
  pub inside : q < length es
  pub enters : (nth es k).kind ≡ 0
  pub exits : (nth es q).kind ≡ 0 → ⊥

-- an event in a pair, on either side
pub data Paired (es : List Event) (ps : List ℕ) (k : ℕ) : Type 0 where
  as_enter : {q : ℕ} → Pair es ps k q → Paired es ps k
  as_exit : {q : ℕ} → Pair es ps q k → Paired es ps k

pub record Walk (es : List Event) (ps : List ℕ) (i : ℕ) (held : List ℕ) : Type 0 where
  pub within : i ≤ length es
  pub rest : drop i ps ≡ partners_from (drop i es) i held
  pub fits : balanced_from (length held) (drop i es) ≡ true
  pub chain : Chain es ps (drop i es) i 0 i held
  pub pairs : (k : ℕ) → k < i → Held k held ⊎ Paired es ps k

pub start : (es : List Event) → balanced_from 0 es ≡ true → Walk es (partners es) 0 []
start es b =
    record {
      within = omega arith;
      rest = refl;
      fits = b;
      chain = closed;
      pairs = λ k h. absurd (omega arith);
    }

-- one event of each definition
pub closing_enter : (e : Event) (es : List Event) (n m i : ℕ) → e.kind ≡ 0 → m ≡ n + 1 → closing n (e ∷ es) i ≡ closing m es (i + 1)
unfolding closing choose
closing_enter e es n m i z h = rw (eq-eqb _ _ z, h)

pub closing_inner : (e : Event) (es : List Event) (n m i : ℕ) → (e.kind ≡ 0 → ⊥) → n ≡ m + 1 → closing n (e ∷ es) i ≡ closing m es (i + 1)
unfolding closing choose
closing_inner e es n m i z h =
    let k : n - 1 ≡ m = omega arith in
    rw (ne_eqb e.kind 0 z, ne_eqb n 0 (λ q. omega arith), k)

pub closing_here : (e : Event) (es : List Event) (i : ℕ) → (e.kind ≡ 0 → ⊥) → closing 0 (e ∷ es) i ≡ i
unfolding closing choose
closing_here e es i z = rw (ne_eqb e.kind 0 z)

pub fits_enter : (n : ℕ) (e : Event) (es : List Event) → e.kind ≡ 0 → balanced_from n (e ∷ es) ≡ true → balanced_from (suc n) es ≡ true
unfolding balanced_from choose
fits_enter n e es z q = rw (eq-eqb _ _ z, add-one) at q

pub fits_exit : (n : ℕ) (e : Event) (es : List Event) → (e.kind ≡ 0 → ⊥) → balanced_from n (e ∷ es) ≡ true → (0 < n) × (balanced_from (n - 1) es ≡ true)
unfolding balanced_from choose
fits_exit n e es z q =
    let r : and (lib.Dec.ltb 0 n) (balanced_from (n - 1) es) ≡ true = rw (ne_eqb e.kind 0 z) at q in
    (ltb-true _ _ (and_left _ _ r), and_right _ _ r)

pub rest_enter : (e : Event) (es : List Event) (i : ℕ) (held : List ℕ) → e.kind ≡ 0 →
    partners_from (e ∷ es) i held ≡ closing 0 es (i + 1) ∷ partners_from es (i + 1) (i ∷ held)
unfolding partners_from after choose
rest_enter e es i held z = rw (eq-eqb _ _ z)

pub rest_exit : (e : Event) (es : List Event) (i : ℕ) (held : List ℕ) → (e.kind ≡ 0 → ⊥) →
    partners_from (e ∷ es) i held ≡ innermost_of held ∷ partners_from es (i + 1) (outer held)
unfolding partners_from after choose
rest_exit e es i held z = rw (ne_eqb e.kind 0 z)

-- the head and the tail of what is left
drop_both : (ps : List ℕ) (i p : ℕ) (qs : List ℕ) → drop i ps ≡ p ∷ qs → (get_or ps i 0 ≡ p) × (drop (i + 1) ps ≡ qs)
drop_both [] zero p qs q = let z : ◌≡◌ {A = ℕ} 0 1 = cc in absurd (omega arith)
drop_both [] (suc i) p qs q = let z : ◌≡◌ {A = ℕ} 0 1 = cc in absurd (omega arith)
drop_both (x ∷ ps) zero p qs q = (cc, cc)
drop_both (x ∷ ps) (suc i) p qs q =
    let r = drop_both ps i p qs q in
    let n : suc i + 1 ≡ suc (i + 1) = omega arith in
    (r.0, ap (λ (m : ℕ). drop m (x ∷ ps)) n ∙ r.1)

-- a chain, where the event in between makes the depths m to m'
lift : {es : List Event} {ps : List ℕ} {left left' : List Event} {i i' m m' bound : ℕ} {hs : List ℕ} →
    ((a b : ℕ) → m ≤ a → a + m' ≡ b + m → closing a left i ≡ closing b left' i') →
    Chain es ps left i m bound hs → Chain es ps left' i' m' bound hs
lift shift closed = closed
lift {es} {ps} {left} {left'} {i} {i'} {m} {m'} {bound} shift (opened {h = h} {hs = hs} l z w r) =
    opened l z (w ∙ shift m m' (omega arith) (omega arith)) (lift (λ a b g e. shift a b (omega arith) (omega arith)) r)

-- a number below the next is below this one, or this one
pub split_lt : (k i : ℕ) → k < i + 1 → (k < i) ⊎ (k ≡ i)
split_lt zero zero h = inr refl
split_lt zero (suc i) h = inl (omega arith)
split_lt (suc k) zero h = absurd (omega arith)
split_lt (suc k) (suc i) h = go (split_lt k i (omega arith))
  where
    go : (k < i) ⊎ (k ≡ i) → (suc k < suc i) ⊎ (suc k ≡ suc i)
    go (inl l) = inl (omega arith)
    go (inr e) = inr (ap suc e)

pub same : (a b : ℕ) → (a ≡ b) ⊎ (a ≡ b → ⊥)
same zero zero = inl refl
same zero (suc b) = inr (λ e. omega arith)
same (suc a) zero = inr (λ e. omega arith)
same (suc a) (suc b) = go (same a b)
  where
    go : (a ≡ b) ⊎ (a ≡ b → ⊥) → (suc a ≡ suc b) ⊎ (suc a ≡ suc b → ⊥)
    go (inl e) = inl (ap suc e)
    go (inr n) = inr (λ e. n (omega arith))

pub drop_next : (es : List Event) (i : ℕ) → i < length es → drop i es ≡ nth es i ∷ drop (i + 1) es
drop_next es i more = drop-cons es i (event 0 0 0) more ∙ ap (λ (m : ℕ). nth es i ∷ drop m es) (sym (add-one i))

-- one enter: it is open
module _ {es : List Event} {ps : List ℕ} {i : ℕ} {held : List ℕ} (w : Walk es ps i held) (more : i < length es) (z : (nth es i).kind ≡ 0) where
  enter_rest : drop i ps ≡ closing 0 (drop (i + 1) es) (i + 1) ∷ partners_from (drop (i + 1) es) (i + 1) (i ∷ held)
  enter_rest = w.rest ∙ ap (λ (l : List Event). partners_from l i held) (drop_next es i more) ∙ rest_enter (nth es i) (drop (i + 1) es) i held z

  enter_chain : Chain es ps (drop (i + 1) es) (i + 1) 0 (i + 1) (i ∷ held)
  enter_chain =
      let b : i < i + 1 = omega arith in
      let inner : Chain es ps (drop (i + 1) es) (i + 1) 1 i held =
      lift
      (λ a b g e. ap (λ (l : List Event). closing a l i) (drop_next es i more) ∙ closing_enter (nth es i) (drop (i + 1) es) a b i z (omega arith))
      w.chain in
      opened b z (drop_both ps i _ _ enter_rest).0 inner

  enter_held : {A : ℕ → Type 0} (k : ℕ) → ((j : ℕ) → j < i → Held j held ⊎ A j) → k < i + 1 → Held k (i ∷ held) ⊎ ((k < i) × A k)
  enter_held {A} k f h = go (split_lt k i h)
    where
      on : k < i → Held k held ⊎ A k → Held k (i ∷ held) ⊎ ((k < i) × A k)
      on l (inl g) = inl (there g)
      on l (inr a) = inr (l, a)

      go : (k < i) ⊎ (k ≡ i) → Held k (i ∷ held) ⊎ ((k < i) × A k)
      go (inl l) = on l (f k l)
      go (inr e) =
          let g : Held i (i ∷ held) = here in
          inl (rw e g)

  pub entered : Walk es ps (i + 1) (i ∷ held)
  entered =
      record {
        within = omega arith;
        rest = (drop_both ps i _ _ enter_rest).1;
        fits = fits_enter (length held) (nth es i) (drop (i + 1) es) z (rw (drop_next es i more) at w.fits);
        chain = enter_chain;
        pairs = λ k h. on k (enter_held {A = λ (j : ℕ). Paired es ps j} k w.pairs h);
      }
    where
      on : (k : ℕ) → Held k (i ∷ held) ⊎ ((k < i) × Paired es ps k) → Held k (i ∷ held) ⊎ Paired es ps k
      on k (inl h) = inl h
      on k (inr a) = inr a.1

-- what the innermost of a chain tells
record Top (es : List Event) (ps : List ℕ) (left : List Event) (i m bound h : ℕ) (hs : List ℕ) : Type 0 where
  below : h < bound
  enters : (nth es h).kind ≡ 0
  closes : get_or ps h 0 ≡ closing m left i
  inner : Chain es ps left i (m + 1) h hs

top_of : {es : List Event} {ps : List ℕ} {left : List Event} {i m bound h : ℕ} {hs : List ℕ} → Chain es ps left i m bound (h ∷ hs) →
    Top es ps left i m bound h hs
top_of (opened l z q r) = record { below = l; enters = z; closes = q; inner = r }

held_below : {k h : ℕ} {hs : List ℕ} → (k ≡ h → ⊥) → Held k (h ∷ hs) → Held k hs
held_below n here = absurd (n refl)
held_below n (there g) = g

-- one exit: it is the partner of the innermost open enter
module _ {es : List Event} {ps : List ℕ} {i h : ℕ} {hs : List ℕ} (w : Walk es ps i (h ∷ hs)) (more : i < length es) (z : (nth es i).kind ≡ 0 → ⊥) where
  exit_top : Top es ps (drop i es) i 0 i h hs
  exit_top = top_of w.chain

  exit_rest : drop i ps ≡ h ∷ partners_from (drop (i + 1) es) (i + 1) hs
  exit_rest = w.rest ∙ ap (λ (l : List Event). partners_from l i (h ∷ hs)) (drop_next es i more) ∙ rest_exit (nth es i) (drop (i + 1) es) i (h ∷ hs) z

  exit_pair : Pair es ps h i
  exit_pair =
      record {
        forth = exit_top.closes ∙ ap (λ (l : List Event). closing 0 l i) (drop_next es i more) ∙ closing_here (nth es i) (drop (i + 1) es) i z;
        back = (drop_both ps i _ _ exit_rest).0;
        order = exit_top.below;
        inside = more;
        enters = exit_top.enters;
        exits = z;
      }

  exit_chain : Chain es ps (drop (i + 1) es) (i + 1) 0 (i + 1) hs
  exit_chain =
      let b : h < i = exit_top.below in
      let r : Chain es ps (drop (i + 1) es) (i + 1) 0 h hs =
      lift
      (λ a b g e. ap (λ (l : List Event). closing a l i) (drop_next es i more) ∙ closing_inner (nth es i) (drop (i + 1) es) a b i z (omega arith))
      exit_top.inner in
      wider r (omega arith)
    where
      wider : {left : List Event} {i m b b' : ℕ} {hs : List ℕ} → Chain es ps left i m b hs → b ≤ b' → Chain es ps left i m b' hs
      wider closed l = closed
      wider {b' = b'} (opened {h = h} l z q r) g =
          let l' : h < b' = omega arith in
          opened l' z q r

  -- an event below i: the enter that is closed now, or still held, or done before
  exit_held : {A : ℕ → Type 0} (k : ℕ) → ((j : ℕ) → j < i → Held j (h ∷ hs) ⊎ A j) → k < i → (k ≡ h) ⊎ (Held k hs ⊎ ((k ≡ h → ⊥) × A k))
  exit_held {A} k f l = go (same k h)
    where
      on : (k ≡ h → ⊥) → Held k (h ∷ hs) ⊎ A k → Held k hs ⊎ ((k ≡ h → ⊥) × A k)
      on n (inl g) = inl (held_below n g)
      on n (inr a) = inr (n, a)

      go : (k ≡ h) ⊎ (k ≡ h → ⊥) → (k ≡ h) ⊎ (Held k hs ⊎ ((k ≡ h → ⊥) × A k))
      go (inl e) = inl e
      go (inr n) = inr (on n (f k l))

  exit_pairs : (k : ℕ) → k < i + 1 → Held k hs ⊎ Paired es ps k
  exit_pairs k l = go (split_lt k i l)
    where
      first : Paired es ps h
      first = as_enter exit_pair

      last : Paired es ps i
      last = as_exit exit_pair

      on : (k ≡ h) ⊎ (Held k hs ⊎ ((k ≡ h → ⊥) × Paired es ps k)) → Held k hs ⊎ Paired es ps k
      on (inl e) = inr (rw e first)
      on (inr (inl x)) = inl x
      on (inr (inr a)) = inr a.1

      go : (k < i) ⊎ (k ≡ i) → Held k hs ⊎ Paired es ps k
      go (inl g) = on (exit_held {A = λ (j : ℕ). Paired es ps j} k w.pairs g)
      go (inr e) = inr (rw e last)

  exit_fits : balanced_from (length hs) (drop (i + 1) es) ≡ true
  exit_fits =
      let r = fits_exit (suc (length hs)) (nth es i) (drop (i + 1) es) z (rw (drop_next es i more) at w.fits) in
      let k : suc (length hs) - 1 ≡ length hs = omega arith in
      rw k at r.1

  exited : Walk es ps (i + 1) hs
  exited =
      record {
        within = omega arith;
        rest = (drop_both ps i _ _ exit_rest).1;
        fits = exit_fits;
        chain = exit_chain;
        pairs = exit_pairs;
      }

-- at an exit some enter is open
pub left_one : {es : List Event} {ps : List ℕ} {i : ℕ} {held : List ℕ} → Walk es ps i held → i < length es → ((nth es i).kind ≡ 0 → ⊥) →
    Walk es ps (i + 1) (outer held)
left_one {es} {i = i} {held = []} w more z =
    let r = fits_exit 0 (nth es i) (drop (i + 1) es) z (rw (drop_next es i more) at w.fits) in
    absurd (omega (arith, r.0))
left_one {held = h ∷ hs} w more z = exited w more z

open_end : (n : ℕ) → balanced_from (suc n) [] ≡ true → ⊥
unfolding balanced_from
open_end n q = let z : suc n ≡ 0 = eqb-true (suc n) 0 q in omega arith

-- in the end none is open
all_closed : {es : List Event} {ps : List ℕ} {i : ℕ} {held : List ℕ} → Walk es ps i held → length es ≤ i → held ≡ []
all_closed {held = []} w h = refl
all_closed {es} {i = i} {held = k ∷ hs} w h =
    let n : i ≡ length es = omega (arith, w.within) in
    let f : balanced_from (suc (length hs)) [] ≡ true = rw (n, drop-length) at w.fits in
    absurd (open_end (length hs) f)

length_from : (es : List Event) (i : ℕ) (held : List ℕ) → length (partners_from es i held) ≡ length es
unfolding partners_from
length_from [] i held = refl
length_from (e ∷ es) i held = ap suc (length_from es (i + 1) (after e i held))

pub length_partners : (es : List Event) → length (partners es) ≡ length es
length_partners es = length_from es 0 []

not_held : {A : Type 0} (k : ℕ) (held : List ℕ) → held ≡ [] → Held k held ⊎ A → A
not_held k [] e (inr a) = a
not_held {A = A} k [] e (inl x3) = elim x3 [ ]
not_held k (h ∷ hs) e s = let z : ◌≡◌ {A = ℕ} 0 1 = cc in absurd (omega arith)

-- the walk can be gone
pub record Gone (es : List Event) (i : ℕ) : Type 0 where
  pub held : List ℕ
  pub walk : Walk es (partners es) i held

pub gone : (es : List Event) → balanced_from 0 es ≡ true → (i : ℕ) → i ≤ length es → Gone es i
gone es b zero h = record { held = []; walk = start es b }
gone es b (suc i) h = go (gone es b i (omega arith)) (same (nth es i).kind 0)
  where
    go : Gone es i → ((nth es i).kind ≡ 0) ⊎ ((nth es i).kind ≡ 0 → ⊥) → Gone es (suc i)
    go g (inl z) = rw (← add-one i) (record { held = _; walk = entered g.walk (omega arith) z })
    go g (inr z) = rw (← add-one i) (record { held = _; walk = left_one g.walk (omega arith) z })

-- every event of a balanced list is in a pair
pub all_paired : (es : List Event) → balanced_from 0 es ≡ true → (k : ℕ) → k < length es → Paired es (partners es) k
all_paired es b k h =
    let g = gone es b (length es) (omega arith) in
    not_held k g.held (all_closed g.walk (omega arith)) (g.walk.pairs k h)
