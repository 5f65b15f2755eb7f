-- Read off the events of a tree one by one, the definitions of specs/Walk.antt are those of specs/Lists.antt.
-- Assumes nothing.
use Prim.Native.Nat.{ℕ, suc, ◌+◌, ◌-◌}
use mathlib.Core.Path.{◌≡◌, refl, sym, ap}
use mathlib.Core.Bool.{Bool, true, false}
use mathlib.Core.List.{List, [], ◌∷◌}
use native.Mathlib.Omega.{arith}
use native.Mathlib.Nat.{zero-add}
use lib.ListN.{length, get_or}
use lib.Dec.{eqb}
use borrow.Author.Tests.{ne_eqb, eqb-true}
use Rattle.record.specs.Choice.{choose, and}
use Rattle.record.specs.Event.{enter, exit}
use Rattle.record.specs.declared.event.Event.{Event}
use Rattle.record.proofs.Bools.{and_false}
use Rattle.list.specs.Tree.{Row, none, pair, written}
use Rattle.list.specs.Item.{past_leaf, is_none, known, marker_of, prefix_of, mark_of}
use Rattle.list.specs.Lists.{offending, offenders, between, no_item, neighbour}
use Rattle.list.specs.Walk.{first, first_leaf, behind_leaf, mark_over, marker_in, prefix_in, mark_in, passing, nearest, offenders_in}

-- what may follow a row: nothing, or the exit of the pair that holds it
pub data Stops : List Event → Type 0 where
  ended : Stops []
  exited : {name place : ℕ} {es : List Event} → Stops (exit name place ∷ es)

leaf_by : (z : Bool) (n from to : ℕ) (next : Row) (es : List Event) →
    choose (and z z) (written next es) (enter n from ∷ exit n to ∷ written next es) ≡ written (choose z next (pair n from to none next)) es
unfolding choose and written
leaf_by true n from to next es = refl
leaf_by false n from to next es = refl

leaf_written : (name : ℕ) (row : Row) {es : List Event} → Stops es → behind_leaf name (written row es) ≡ written (past_leaf name row) es
unfolding behind_leaf first_leaf written past_leaf choose and
leaf_written name none ended = refl
leaf_written name none exited = refl
leaf_written name (pair n from to none next) {es} h = leaf_by (eqb n name) n from to next es
leaf_written name (pair n from to (pair m a b i k) next) h = rw (and_false (eqb n name) false refl)

-- the mark
exit_first : (row : Row) (p : ℕ) (es : List Event) → first 1 16 (written row (exit 16 p ∷ es)) ≡ is_none row
unfolding written and
exit_first none p es = refl
exit_first (pair n from to inside next) p es = refl

marker_by : (z y w : Bool) (k : ℕ) → choose (and z z) (choose w (choose y k 0) 0) 0 ≡ choose (and z (and y w)) k 0
unfolding choose and
marker_by true true true k = refl
marker_by true true false k = refl
marker_by true false true k = refl
marker_by true false false k = refl
marker_by false y w k = refl

marker_written : (document : List ℕ) (row : Row) (p : ℕ) (es : List Event) → marker_in document (written row (exit 16 p ∷ es)) ≡ marker_of document row
unfolding marker_in mark_over first_leaf written marker_of choose and
marker_written document none p es = refl
marker_written document (pair n from to none next) p es =
    rw (leaf_written 14 next (exited {name = 16} {place = p} {es = es}), exit_first (past_leaf 14 next) p es) (marker_by (eqb n 17) (eqb to (from + 1)) (is_none (past_leaf 14 next)) (known (get_or document from 0)))
marker_written document (pair n from to (pair m a b i k) next) p es = rw (and_false (eqb n 17) false refl)

prefix_written : (document : List ℕ) (row : Row) {es : List Event} → Stops es → prefix_in document (written row es) ≡ prefix_of document row
unfolding prefix_in written prefix_of choose and
prefix_written document none ended = refl
prefix_written document none exited = refl
prefix_written document (pair n from to inside next) {es} h = go (eqb n 16) refl
  where
    go : (z : Bool) → eqb n 16 ≡ z →
        choose (eqb n 16) (marker_in document (behind_leaf 18 (written inside (exit n to ∷ written next es)))) 0 ≡ choose (eqb n 16) (marker_of document (past_leaf 18 inside)) 0
    go true e =
        let k : n ≡ 16 = eqb-true _ _ e in
        rw (e, leaf_written 18 inside (exited {name = n} {place = to} {es = written next es}), k) (marker_written document (past_leaf 18 inside) to (written next es))
    go false e = rw e

pub mark_written : (document : List ℕ) (row : Row) {es : List Event} → Stops es → mark_in document (written row es) ≡ mark_of document row
unfolding mark_in mark_of
mark_written document row h = rw (leaf_written 14 row h) (prefix_written document (past_leaf 14 row) h)

-- the neighbouring item
inside_by : (z i n : Bool) (k : ℕ) → choose z 0 (choose i (choose n k 0) 0) ≡ choose (and (choose z false true) (and i n)) k 0
unfolding choose and
inside_by true i n k = refl
inside_by false true true k = refl
inside_by false true false k = refl
inside_by false false n k = refl

-- inside of a pair that may be passed the look ends at an item
inside_written : (document : List ℕ) (depth : ℕ) (row : Row) (es : List Event) → (depth ≡ 0 → ⊥) →
    nearest document depth (written row es) ≡ choose (no_item row) (nearest document depth es) 0
unfolding nearest passing no_item written choose
inside_written document depth none es h = refl
inside_written document depth (pair n from to inside next) es h =
    let k : depth + 1 - 1 ≡ depth = omega arith in
    rw (
      ne_eqb _ _ h,
      inside_written document (depth + 1) inside (exit n to ∷ written next es) (λ z. omega arith),
      ne_eqb (depth + 1) 0 (λ z. omega arith),
      k,
      inside_written document depth next es h,
    )
    (inside_by (eqb n 15) (no_item inside) (no_item next) (nearest document depth es))

nearest_by : (z b i : Bool) (m k : ℕ) → choose z m (choose b (choose i k 0) 0) ≡ choose z m (choose (and b i) k 0)
unfolding choose and
nearest_by true b i m k = refl
nearest_by false true i m k = refl
nearest_by false false i m k = refl

pub nearest_written : (document : List ℕ) (row : Row) {es : List Event} → Stops es → nearest document 0 (written row es) ≡ neighbour document row
unfolding nearest passing neighbour written choose
nearest_written document none ended = refl
nearest_written document none exited = refl
nearest_written document (pair n from to inside next) {es} h =
    rw (mark_written document inside (exited {name = n} {place = to} {es = written next es}), inside_written document (0 + 1) inside (exit n to ∷ written next es) (λ z. omega arith), nearest_written document next h)
    (nearest_by (eqb n 15) (between n) (no_item inside) (mark_of document inside) (neighbour document next))

-- the offending items
length_written : (row : Row) (es : List Event) → length (written row es) ≡ length (written row []) + length es
unfolding written
length_written none es = sym (zero-add _)
length_written (pair n from to inside next) es =
    omega (arith, length_written inside (exit n to ∷ written next es), length_written inside (exit n to ∷ written next []), length_written next es)

pub offenders_written : (document : List ℕ) (i : ℕ) (behind : Bool) (row : Row) {es : List Event} → Stops es →
    offenders_in document i behind (written row es) ≡ offenders document i behind row (offenders_in document (i + length (written row [])) false es)
unfolding offenders_in offenders offending written choose and
offenders_written document i behind none ended = refl
offenders_written document i behind none (exited {name = n} {place = p} {es = es}) =
    let k : i + 1 ≡ i + 0 + 1 = omega arith in
    ap (λ (m : ℕ). offenders_in document m (eqb n 15) es) k
offenders_written document i behind (pair n from to inside next) {es} h =
    let k : i + 1 + length (written inside []) + 1 + length (written next []) ≡ i + suc (length (written inside (exit n to ∷ written next []))) =
    omega (arith, length_written inside (exit n to ∷ written next [])) in
    rw (
      mark_written document inside (exited {name = n} {place = to} {es = written next es}),
      offenders_written document (i + 1) false inside (exited {name = n} {place = to} {es = written next es}),
      offenders_written document (i + 1 + length (written inside []) + 1) (eqb n 15) next h,
      k,
    )
