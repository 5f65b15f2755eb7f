-- The shape of an item, event by event: the cases of the definitions of specs/Walk.antt, as the functions of src/item.rt meet them.
-- Assumes nothing.
use Rattle.std.proofs.Common.{◌≡◌, refl, sym, ap, ◌∙◌, ℕ, zero, suc, ◌+◌, ◌-◌, ◌≤◌, ◌<◌, Bool, true, false, List, [], ◌∷◌, length, get_or, drop, arith, length-drop}
use lib.Seq.{get_or-drop}
use borrow.Author.Tests.{eq-eqb, ne_eqb}
use Rattle.record.specs.Choice.{choose, and}
use Rattle.record.specs.Stack.{nth, after}
use Rattle.record.specs.Sound.{sound_from}
use Rattle.record.specs.declared.event.Event.{Event}
use Rattle.record.proofs.Bools.{and_left, and_right}
use Rattle.record.proofs.Soundness.{stands, sound_rest}
use Rattle.list.specs.Item.{known}
use Rattle.list.specs.Walk.{Placed, tail, first, first_leaf, behind_leaf, mark_over, marker_in, prefix_in, mark_in}

one_behind : (es : List Event) → tail es ≡ drop 1 es
one_behind [] = refl
one_behind (x ∷ es) = refl

two_behind : (es : List Event) → tail (tail es) ≡ drop 2 es
two_behind [] = refl
two_behind (x ∷ []) = refl
two_behind (x ∷ y ∷ es) = refl

-- a leaf pair, and what is behind it
module _ (name : ℕ) (es : List Event) where
  pub by_exit : first 0 name es ≡ true → (rest : List Event) → rest ≡ drop 1 es → first 1 name rest ≡ first_leaf name es
  unfolding first_leaf and
  by_exit q rest r = rw (q, r, one_behind es)

  pub no_enter : first 0 name es ≡ false → false ≡ first_leaf name es
  unfolding first_leaf and
  no_enter q = rw q

  pub behind_pair : first_leaf name es ≡ true → (rest : List Event) → rest ≡ drop 2 es → rest ≡ behind_leaf name es
  unfolding behind_leaf choose
  behind_pair q rest r = rw (q, two_behind es) r

  pub no_leaf : first_leaf name es ≡ false → es ≡ behind_leaf name es
  unfolding behind_leaf choose
  no_leaf q = rw q

never : (kind name : ℕ) → first kind name [] ≡ true → ⊥
never kind name q = cc

pub two_there : (name : ℕ) (es : List Event) → first_leaf name es ≡ true → 2 ≤ length es
unfolding first_leaf
two_there name [] q = absurd (never 0 name (and_left _ _ q))
two_there name (x ∷ []) q = absurd (never 1 name (and_right _ _ q))
two_there name (x ∷ y ∷ es) q = omega arith

-- an item's mark, test by test: of the events es, behind what may stand before the prefix, and so on
module _ (document : List ℕ) (es : List Event) {ps : List Event} (hp : ps ≡ behind_leaf 14 es) where
  pub no_prefix : first 0 16 ps ≡ false → 0 ≡ mark_in document es
  unfolding mark_in prefix_in choose
  no_prefix q = rw (← hp, q)

  module _ (q : first 0 16 ps ≡ true) {bs ms : List Event} (hb : bs ≡ drop 1 ps) (hm : ms ≡ behind_leaf 18 bs) where
    here : mark_in document es ≡ marker_in document ms
    unfolding mark_in prefix_in choose
    here = rw (← hp, q, one_behind ps, ← hb, ← hm)

    pub no_marker : first_leaf 17 ms ≡ false → 0 ≡ mark_in document es
    unfolding marker_in choose
    no_marker r = sym (here ∙ rw r)

    module _ (r : first_leaf 17 ms ≡ true) {ds zs : List Event} (hd : ds ≡ drop 2 ms) (hz : zs ≡ behind_leaf 14 ds) where
      last : mark_in document es ≡ choose (first 1 16 zs) (mark_over document ms) 0
      unfolding marker_in choose
      last = here ∙ rw (r, two_behind ms, ← hd, ← hz)

      pub more_inside : first 1 16 zs ≡ false → 0 ≡ mark_in document es
      unfolding choose
      more_inside x = sym (last ∙ rw x)

      pub whole_prefix : first 1 16 zs ≡ true → (m : ℕ) → m ≡ mark_over document ms → m ≡ mark_in document es
      unfolding choose
      whole_prefix x m em = em ∙ sym (last ∙ rw x)

-- the mark that a pair lies over
module _ (document : List ℕ) where
  pub over_other : (es : List Event) (p q : Event) → 2 ≤ length es → p ≡ nth es 0 → q ≡ nth es 1 → (q.place ≡ p.place + 1 → ⊥) → 0 ≡ mark_over document es
  unfolding mark_over choose
  over_other [] p q h ep eq x = absurd (omega arith)
  over_other (a ∷ []) p q h ep eq x = absurd (omega arith)
  over_other (a ∷ b ∷ es) p q h ep eq x = let x' = rw (ep, eq) at x in rw (ne_eqb _ _ x')

  pub over_one : (es : List Event) (p q : Event) → 2 ≤ length es → p ≡ nth es 0 → q ≡ nth es 1 → q.place ≡ p.place + 1 → (m : ℕ) → m ≡ known (get_or document p.place 0) →
      m ≡ mark_over document es
  unfolding mark_over choose
  over_one [] p q h ep eq x m em = absurd (omega arith)
  over_one (a ∷ []) p q h ep eq x m em = absurd (omega arith)
  over_one (a ∷ b ∷ es) p q h ep eq x m em = let x' = rw (ep, eq) at x in rw (eq-eqb _ _ x', ← ep) em

-- places within the document
pub placed_behind : (document : List ℕ) (es : List Event) (n : ℕ) (rest : List Event) → rest ≡ drop n es → Placed document es → Placed document rest
placed_behind document es n rest r p =
    record {
      within = λ k h.
          let l : length rest ≡ length es - n = ap length r ∙ length-drop n es in
          let z : nth rest k ≡ nth es (n + k) = ap (λ (x : List Event). nth x k) r ∙ get_or-drop n es k (record { kind = 0; name = 0; place = 0 }) in
          rw z (p.within (n + k) (omega arith));
    }

leaf_or_not : (name : ℕ) (es : List Event) → (b : Bool) → choose b (tail (tail es)) es ≡ drop (choose b 2 0) es
unfolding choose
leaf_or_not name es true = two_behind es
leaf_or_not name es false = refl

pub placed_leaf : (document : List ℕ) (name : ℕ) (es rest : List Event) → rest ≡ behind_leaf name es → Placed document es → Placed document rest
unfolding behind_leaf
placed_leaf document name es rest r p = placed_behind document es (choose (first_leaf name es) 2 0) rest (r ∙ leaf_or_not name es (first_leaf name es)) p

-- those of sound events are
sound_within : (d last : ℕ) (held : List ℕ) (es : List Event) → sound_from 64 d last held es ≡ true → (k : ℕ) → k < length es → (nth es k).place ≤ d
sound_within d last held [] q k h = absurd (omega arith)
sound_within d last held (x ∷ es) q zero h = (stands 64 d last held x es q).inside
sound_within d last held (x ∷ es) q (suc k) h =
    sound_within d x.place (after x x.name held) es (sound_rest 64 d last held x es q) k (omega arith)

pub sound_placed : (document : List ℕ) (last : ℕ) (held : List ℕ) (es : List Event) → sound_from 64 (length document) last held es ≡ true → Placed document es
sound_placed document last held es q = record { within = sound_within (length document) last held es q }
