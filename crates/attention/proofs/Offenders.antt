-- The definition's offender is the earliest run that breaks the shape rule, and where it names none no run does.
-- Assumes nothing.
use Prim.Native.Nat.{ℕ, zero, suc, ◌+◌, ◌<◌}
use mathlib.Core.Path.{◌≡◌, refl, ap}
use mathlib.Core.Bool.{Bool, true, false, not}
use mathlib.Core.List.{List, [], ◌∷◌}
use mathlib.Core.Option.{none, some}
use native.Mathlib.Omega.{arith}
use borrow.Author.Tests.{eqb-true, eq-eqb, not-true}
use Rattle.record.specs.Choice.{choose, and}
use Rattle.record.specs.declared.event.Event.{Event}
use Rattle.record.proofs.Bools.{and_left, and_right, and_both, clash}
use Rattle.runs.specs.Runs.{enters_run, shaped, offender_from, offender}
use Rattle.attention.specs.Shape.{Offends}
use Rattle.attention.proofs.Shapes.{shape_of, shaped_so}

module _ (doc : List ℕ) (options : ℕ) where
  test : Event → List Event → Bool
  test e es = and (enters_run e) (not (shaped doc options e es))

  -- the test of one event is the predicate at the front of a list
  here : (e : Event) (es : List Event) → test e es ≡ true → Offends doc options (e ∷ es) 0
  unfolding test enters_run
  here e es q =
      let enters = and_left _ _ q in
      record {
        within = omega arith;
        enters = eqb-true _ _ (and_left _ _ enters);
        run = eqb-true _ _ (and_right _ _ enters);
        unlike = λ s. clash (shaped_so doc options e es s) (not-true _ (and_right _ _ q));
      }

  not_here : (e : Event) (es : List Event) → test e es ≡ false → Offends doc options (e ∷ es) 0 → ⊥
  unfolding test enters_run
  not_here e es q o = go (shaped doc options e es) refl
    where
      go : (z : Bool) → shaped doc options e es ≡ z → ⊥
      go true s = o.unlike (shape_of doc options e es s)
      go false s = clash (and_both _ _ (and_both _ _ (eq-eqb _ _ o.enters) (eq-eqb _ _ o.run)) (ap not s)) q

  later : (e : Event) (es : List Event) (k : ℕ) → Offends doc options es k → Offends doc options (e ∷ es) (suc k)
  later e es k o = let h = o.within in record { within = omega arith; enters = o.enters; run = o.run; unlike = o.unlike }

  earlier : (e : Event) (es : List Event) (k : ℕ) → Offends doc options (e ∷ es) (suc k) → Offends doc options es k
  earlier e es k o = let h = o.within in record { within = omega arith; enters = o.enters; run = o.run; unlike = o.unlike }

  -- where an offender is named, it is that many events on, it offends, and none before it does
  pub record Named (es : List Event) (i k : ℕ) : Type 0 where
    pub on : ℕ
    pub number : k ≡ i + on
    pub offends : Offends doc options es on
    pub first : (j : ℕ) → j < on → Offends doc options es j → ⊥

  module _ (es : List Event) where
    none_before : (j : ℕ) → j < 0 → Offends doc options es j → ⊥
    none_before j h o = omega arith

  named : (es : List Event) (i k : ℕ) → offender_from doc options es i ≡ some k → Named es i k
  unfolding offender_from test choose
  named [] i k q = let z : ◌≡◌ {A = ℕ} 0 1 = cc in absurd (omega arith)
  named (e ∷ es) i k q = go (test e es) refl q (named es (i + 1) k)
    where
      go : (z : Bool) → test e es ≡ z → choose z (some i) (offender_from doc options es (i + 1)) ≡ some k →
          (offender_from doc options es (i + 1) ≡ some k → Named es (i + 1) k) → Named (e ∷ es) i k
      go true t q f =
          let x : i ≡ k = cc in
          record { on = 0; number = omega arith; offends = here e es t; first = none_before (e ∷ es) }
      go false t q f =
          let r = f q in
          let n = r.number in
          record { on = suc r.on; number = omega arith; offends = later e es r.on r.offends; first = first r }
        where
          first : (r : Named es (i + 1) k) → (j : ℕ) → j < suc r.on → Offends doc options (e ∷ es) j → ⊥
          first r zero h o = not_here e es t o
          first r (suc j) h o = r.first j (omega arith) (earlier e es j o)

  pub none_named : (es : List Event) (i : ℕ) → offender_from doc options es i ≡ none → (j : ℕ) → Offends doc options es j → ⊥
  unfolding offender_from test choose
  none_named [] i q j o = let h = o.within in omega arith
  none_named (e ∷ es) i q j o = go (test e es) refl q (none_named es (i + 1)) j o
    where
      go : (z : Bool) → test e es ≡ z → choose z (some i) (offender_from doc options es (i + 1)) ≡ none →
          (offender_from doc options es (i + 1) ≡ none → (j : ℕ) → Offends doc options es j → ⊥) → (j : ℕ) → Offends doc options (e ∷ es) j → ⊥
      go true t q f j o = let z : ◌≡◌ {A = ℕ} 0 1 = cc in omega arith
      go false t q f zero o = not_here e es t o
      go false t q f (suc j) o = f q j (earlier e es j o)

  -- the whole list
  pub earliest_offender : (es : List Event) (k : ℕ) → offender doc options es ≡ some k → Offends doc options es k × ((j : ℕ) → j < k → Offends doc options es j → ⊥)
  unfolding offender
  earliest_offender es k q =
      let r = named es 0 k q in
      let e : r.on ≡ k = omega (arith, r.number) in
      let o = r.offends in
      let f = r.first in
      (rw e at o, rw e at f)

  pub none_offends : (es : List Event) → offender doc options es ≡ none → (j : ℕ) → Offends doc options es j → ⊥
  unfolding offender
  none_offends es q = none_named es 0 q
