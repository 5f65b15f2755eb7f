-- The laws of specs/Laws.antt that speak of lists alone.
-- Assumes nothing.
use mathlib.Core.Path.{◌≡◌, refl, sym, ap, ◌∙◌}
use mathlib.Core.Bool.{true}
use mathlib.Core.Logic.{◌⊎◌, inl, inr}
use mathlib.Core.List.{List, [], ◌∷◌}
use Prim.Native.Nat.{ℕ, zero, suc, ◌+◌, ◌-◌, ◌≤◌, ◌<◌}
use native.Mathlib.Omega.{arith}
use lib.ListN.{length, get_or, take, drop, length-drop}
use lib.Seq.{get_or-drop, drop-cons}
use Rattle.record.specs.Event.{event}
use Rattle.record.specs.Partners.{balanced_from, balanced, closing, partners_from, partners}
use Rattle.record.specs.Sound.{sound_from, sound}
use Rattle.record.specs.Stack.{innermost_of, none, outer, after, open_after, open_at, nth}
use Rattle.record.specs.declared.event.Event.{Event}
use Rattle.record.proofs.Soundness.{stands, sound_rest, after_enter, after_exit}
use Rattle.record.proofs.Pairs.{partner, reached}
use Rattle.partners.specs.Laws.{partner_of, Closes, SoundIsBalanced, PartnerOfPartner, EnterToExit, OnlyOneCloses, PartnersShareAName}
use Rattle.partners.proofs.Walk.{Pair, Paired, as_enter, as_exit, all_paired, drop_next, rest_enter, rest_exit}
use Rattle.partners.proofs.Closing.{balanced_enter, balanced_exit, balanced_none, closing_between, closing_at}

-- the partners of what is left after k events, and of the event that comes next
open_drop : (es : List Event) (i k : ℕ) (held : List ℕ) → k ≤ length es →
    drop k (partners_from es i held) ≡ partners_from (drop k es) (i + k) (open_after (take k es) i held)
unfolding partners_from open_after
open_drop es i zero held h =
    let z : i + 0 ≡ i = omega arith in
    rw z
open_drop [] i (suc k) held h = absurd (omega arith)
open_drop (e ∷ es) i (suc k) held h =
    let z : i + suc k ≡ i + 1 + k = omega arith in
    rw z (open_drop es (i + 1) k (after e i held) (omega arith))

module _ (es : List Event) (k : ℕ) (h : k < length es) where
  partner_next : partner_of es k ≡ get_or (partners_from (nth es k ∷ drop (k + 1) es) k (open_at es k)) 0 0
  partner_next =
      let a : k + 0 ≡ k = omega arith in
      let z : 0 + k ≡ k = omega arith in
      ap (λ (m : ℕ). get_or (partners es) m 0) (sym a)
      ∙ sym (get_or-drop k (partners es) 0 0)
      ∙ ap (λ (l : List ℕ). get_or l 0 0) (open_drop es 0 k [] (omega arith))
      ∙ ap (λ (m : ℕ). get_or (partners_from (drop k es) m (open_at es k)) 0 0) z
      ∙ ap (λ (l : List Event). get_or (partners_from l k (open_at es k)) 0 0) (drop_next es k h)

  -- an exit's partner is the innermost enter that is open there
  pub exit_innermost : ((nth es k).kind ≡ 0 → ⊥) → partner_of es k ≡ innermost_of (open_at es k)
  exit_innermost z = partner_next ∙ ap (λ (l : List ℕ). get_or l 0 0) (rest_exit (nth es k) (drop (k + 1) es) k (open_at es k) z)

  pub exit_number : (n : ℕ) → ((nth es k).kind ≡ 0 → ⊥) → open_at es k ≡ n ∷ outer (open_at es k) → partner_of es k ≡ n
  exit_number n z q = exit_innermost z ∙ ap innermost_of q

  -- an enter's is the exit that closes it
  pub enter_closing : (nth es k).kind ≡ 0 → partner_of es k ≡ closing 0 (drop (k + 1) es) (k + 1)
  enter_closing z = partner_next ∙ ap (λ (l : List ℕ). get_or l 0 0) (rest_enter (nth es k) (drop (k + 1) es) k (open_at es k) z)

-- what a pair is, of a balanced list
module _ (es : List Event) (b : balanced es ≡ true) (k : ℕ) (h : k < length es) where
  pub partner_inside : partner_of es k < length es
  partner_inside = go (all_paired es b k h)
    where
      go : Paired es (partners es) k → partner_of es k < length es
      go (as_enter p) = rw p.forth p.inside
      go (as_exit p) = rw p.back (omega (arith, p.order, h))

  pub partner_twice : partner_of es (partner_of es k) ≡ k
  partner_twice = go (all_paired es b k h)
    where
      go : Paired es (partners es) k → partner_of es (partner_of es k) ≡ k
      go (as_enter p) = rw p.forth p.back
      go (as_exit p) = rw p.back p.forth

  pub enter_partner : (nth es k).kind ≡ 0 → Pair es (partners es) k (partner_of es k)
  enter_partner z = go (all_paired es b k h)
    where
      go : Paired es (partners es) k → Pair es (partners es) k (partner_of es k)
      go (as_enter p) = rw p.forth p
      go (as_exit p) = absurd (p.exits z)

  pub exit_partner : ((nth es k).kind ≡ 0 → ⊥) → Pair es (partners es) (partner_of es k) k
  exit_partner z = go (all_paired es b k h)
    where
      go : Paired es (partners es) k → Pair es (partners es) (partner_of es k) k
      go (as_enter p) = absurd (z p.enters)
      go (as_exit p) = rw p.back p

pub partner_of_partner : PartnerOfPartner
partner_of_partner es b k h = (partner_inside es b k h, partner_twice es b k h)

-- the events between two partners
pair_closes : (es : List Event) (k q : ℕ) → Pair es (partners es) k q → Closes es k q
pair_closes es k q p =
    let o : k < q = p.order in
    let i : q < length es = p.inside in
    let l : length (drop (k + 1) es) ≡ length es - (k + 1) = length-drop (k + 1) es in
    let c : closing 0 (drop (k + 1) es) (k + 1) ≡ q = sym (enter_closing es k (omega arith) p.enters) ∙ p.forth in
    record {
      order = o;
      inside = i;
      enters = p.enters;
      exits = p.exits;
      between = closing_between 0 (drop (k + 1) es) (k + 1) q c (omega arith);
    }

pub enter_to_exit : EnterToExit
enter_to_exit es b k h = (λ z. pair_closes es k (partner_of es k) (enter_partner es b k h z), λ z. pair_closes es (partner_of es k) k (exit_partner es b k h z))

pub only_one_closes : OnlyOneCloses
only_one_closes es b k q c =
    let o : k < q = c.order in
    let i : q < length es = c.inside in
    let l : length (drop (k + 1) es) ≡ length es - (k + 1) = length-drop (k + 1) es in
    let m : k + 1 + (q - (k + 1)) ≡ q = omega arith in
    let e : nth (drop (k + 1) es) (q - (k + 1)) ≡ nth es q = get_or-drop (k + 1) es (q - (k + 1)) (event 0 0 0) ∙ ap (λ (j : ℕ). nth es j) m in
    let p : partner_of es k ≡ q =
    enter_closing es k (omega arith) c.enters
    ∙ closing_at 0 (drop (k + 1) es) (k + 1) (q - (k + 1)) c.between (omega arith) (λ z. c.exits (ap (λ (x : Event). x.kind) (sym e) ∙ z))
    ∙ m in
    (p, ap (λ (j : ℕ). partner_of es j) (sym p) ∙ partner_twice es b k (omega arith))

-- a sound list, of any depth, is balanced
split_kind : (n : ℕ) → n ≤ 1 → (n ≡ 0) ⊎ (n ≡ 1)
split_kind zero h = inl refl
split_kind (suc n) h = inr (omega arith)

none_open : (held : List ℕ) → none held ≡ true → balanced_from (length held) [] ≡ true
none_open [] q = balanced_none
none_open (h ∷ hs) q = let z : ◌≡◌ {A = ℕ} 0 1 = cc in absurd (omega arith)

balance : (deep d last : ℕ) (held : List ℕ) (es : List Event) → sound_from deep d last held es ≡ true → balanced_from (length held) es ≡ true
unfolding sound_from
balance deep d last held [] s = none_open held s
balance deep d last held (e ∷ es) s =
    go (split_kind e.kind (stands deep d last held e es s).kind) (balance deep d e.place (after e e.name held) es (sound_rest deep d last held e es s))
  where
    go : (e.kind ≡ 0) ⊎ (e.kind ≡ 1) → balanced_from (length (after e e.name held)) es ≡ true → balanced_from (length held) (e ∷ es) ≡ true
    go (inl z) q = balanced_enter (length held) e es z (rw (after_enter e e.name held z) at q)
    go (inr z) q =
        let o = (stands deep d last held e es s).partner z in
        let r : balanced_from (length (outer held)) es ≡ true = rw (after_exit e e.name held z) at q in
        ap (λ (l : List ℕ). balanced_from (length l) (e ∷ es)) o ∙ balanced_exit (length (outer held)) e es (λ y. omega arith) r

pub sound_balanced : SoundIsBalanced
sound_balanced deep d es s = balance deep d 0 [] es s

module _ (deep d : ℕ) (es : List Event) (s : sound deep d es ≡ true) (k : ℕ) (h : k < length es) where
  exit_name : (nth es k).kind ≡ 1 → (nth es (partner_of es k)).name ≡ (nth es k).name
  exit_name z =
      let p = partner es deep d k s h z in
      ap (λ (m : ℕ). (nth es m).name) (exit_number es k h p.number (λ y. omega arith) p.innermost) ∙ p.same_name

  kind_low : (nth es k).kind ≤ 1
  kind_low =
      let r = reached es deep d k s (omega arith) in
      let t : sound_from deep d r.last r.names (nth es k ∷ drop (suc k) es) ≡ true = rw (drop-cons es k (event 0 0 0) h) at r.rest in
      (stands deep d r.last r.names (nth es k) (drop (suc k) es) t).kind

-- partners have one name
pub same_name : PartnersShareAName
same_name deep d es s k h = go (split_kind (nth es k).kind (kind_low deep d es s k h))
  where
    b : balanced es ≡ true
    b = sound_balanced deep d es s

    go : ((nth es k).kind ≡ 0) ⊎ ((nth es k).kind ≡ 1) → (nth es (partner_of es k)).name ≡ (nth es k).name
    go (inr z) = exit_name deep d es s k h z
    go (inl z) =
        let p = enter_partner es b k h z in
        let q : ℕ = partner_of es k in
        let l : (nth es q).kind ≤ 1 = kind_low deep d es s q p.inside in
        let n : (nth es q).kind ≡ 0 → ⊥ = p.exits in
        let e = exit_name deep d es s q p.inside (one (nth es q).kind l n) in
        sym e ∙ ap (λ (m : ℕ). (nth es m).name) p.back
      where
        one : (x : ℕ) → x ≤ 1 → (x ≡ 0 → ⊥) → x ≡ 1
        one zero l n = absurd (n refl)
        one (suc x) l n = omega arith
