-- The shape rule, where it is kept and where it is broken: where no item offends, each has a mark; the offending items come in rising order,
-- so that the first is the earliest.
-- Assumes nothing.
use Prim.Native.Nat.{ℕ, suc, ◌+◌, ◌≤◌}
use mathlib.Core.Path.{◌≡◌, refl, ap}
use mathlib.Core.Bool.{Bool, true, false}
use mathlib.Core.List.{List, [], ◌∷◌}
use native.Mathlib.Omega.{arith}
use lib.ListN.{length}
use borrow.Author.Tests.{eq-eqb}
use Rattle.record.specs.Choice.{choose, and}
use Rattle.record.specs.Event.{exit}
use Rattle.record.specs.Outcome.{offends}
use Rattle.record.specs.declared.event.Event.{Event}
use Rattle.record.proofs.Bools.{clash}
use Rattle.list.specs.Tree.{Row, none, pair, written, tree_of}
use Rattle.list.specs.Item.{mark_of}
use Rattle.list.specs.Lists.{is_item, offending, offenders, listed, settling, lists}

-- every item of a row, at any depth, has a mark
pub data Shaped (document : List ℕ) : Row → Type 0 where
  no_pair : Shaped document none
  with_pair : {n from to : ℕ} {inside next : Row} → (n ≡ 15 → mark_of document inside ≡ 0 → ⊥) → Shaped document inside → Shaped document next →
      Shaped document (pair n from to inside next)

none_chosen : (b : Bool) (i : ℕ) (ks : List ℕ) → choose b (i ∷ ks) ks ≡ [] → (b ≡ false) × (ks ≡ [])
unfolding choose
none_chosen true i ks q = let z : ◌≡◌ {A = ℕ} 0 1 = cc in absurd (omega arith)
none_chosen false i ks q = (refl, q)

unmarked : (document : List ℕ) (behind : Bool) (n : ℕ) (inside : Row) → n ≡ 15 → mark_of document inside ≡ 0 → offending document behind n inside ≡ true
unfolding offending choose and
unmarked document true n inside h m = rw (eq-eqb _ _ h)
unmarked document false n inside h m = rw (eq-eqb _ _ h, eq-eqb _ _ m)

-- a neighbour that is there is behind a pair that may stand between
pub passed_over : (b : Bool) (k : ℕ) → (choose b k 0 ≡ 0 → ⊥) → (b ≡ true) × (k ≡ 0 → ⊥)
unfolding choose
passed_over true k w = (refl, w)
passed_over false k w = absurd (w refl)

-- where none offends, every item has a mark
pub all_shaped : (document : List ℕ) (i : ℕ) (behind : Bool) (row : Row) (ks : List ℕ) → offenders document i behind row ks ≡ [] → Shaped document row × (ks ≡ [])
unfolding offenders
all_shaped document i behind none ks q = (no_pair, q)
all_shaped document i behind (pair n from to inside next) ks q =
    let a = none_chosen (offending document behind n inside) i _ q in
    let b = all_shaped document (i + 1) false inside (offenders document (i + 1 + length (written inside []) + 1) (is_item n) next ks) a.1 in
    let c = all_shaped document (i + 1 + length (written inside []) + 1) (is_item n) next ks b.1 in
    (with_pair (λ h m. clash (unmarked document behind n inside h m) a.0) b.0 c.0, c.1)

-- numbers from k on, each above the one before
pub data Rising : ℕ → List ℕ → Type 0 where
  no_more : {k : ℕ} → Rising k []
  then : {k j : ℕ} {js : List ℕ} → k ≤ j → Rising (j + 1) js → Rising k (j ∷ js)

lower : {k m : ℕ} {js : List ℕ} → k ≤ m → Rising m js → Rising k js
lower h no_more = no_more
lower {k} {m} h (then {j = j} l r) =
    let l' : k ≤ j = omega arith in
    then l' r

events_long : (row : Row) (es : List Event) → length (written row es) ≡ length (written row []) + length es
unfolding written
events_long none es = omega arith
events_long (pair n from to inside next) es =
    omega (arith, events_long inside (exit n to ∷ written next es), events_long inside (exit n to ∷ written next []), events_long next es)

either_rising : (b : Bool) (i : ℕ) (ks : List ℕ) → Rising (i + 1) ks → Rising i (choose b (i ∷ ks) ks)
unfolding choose
either_rising true i ks r = let l : i ≤ i = omega arith in then l r
either_rising false i ks r = let l : i ≤ i + 1 = omega arith in lower l r

-- the offending items come in rising order
pub offenders_rising : (document : List ℕ) (i : ℕ) (behind : Bool) (row : Row) (ks : List ℕ) → Rising (i + length (written row [])) ks →
    Rising i (offenders document i behind row ks)
unfolding offenders written
offenders_rising document i behind none ks r = let l : i ≤ i + 0 = omega arith in lower l r
offenders_rising document i behind (pair n from to inside next) ks r =
    let k : i + 1 + length (written inside []) + 1 + length (written next []) ≡ i + suc (length (written inside (exit n to ∷ written next []))) =
    omega (arith, events_long inside (exit n to ∷ written next [])) in
    let a = offenders_rising document (i + 1 + length (written inside []) + 1) (is_item n) next ks (rw k r) in
    let l : i + 1 + length (written inside []) ≤ i + 1 + length (written inside []) + 1 = omega arith in
    let b = offenders_rising document (i + 1) false inside (offenders document (i + 1 + length (written inside []) + 1) (is_item n) next ks) (lower l a) in
    either_rising (offending document behind n inside) i _ b

settled_first : (k : ℕ) (ks : List ℕ) (es : List Event) → settling ks es ≡ offends k → (rest : List ℕ) × (ks ≡ k ∷ rest)
settled_first k [] es q = let z : ◌≡◌ {A = ℕ} 0 1 = cc in absurd (omega arith)
settled_first k (j ∷ ks) es q = let z : j ≡ k = cc in (ks, ap (λ (m : ℕ). m ∷ ks) z)

above : {k : ℕ} {js : List ℕ} → Rising k js → (first : ℕ) (rest : List ℕ) → js ≡ first ∷ rest → Rising (first + 1) rest
above no_more first rest q = let z : ◌≡◌ {A = ℕ} 0 1 = cc in absurd (omega arith)
above (then {j = j} {js = js} l r) first rest q =
    let e : j ≡ first = cc in
    let f : js ≡ rest = cc in
    rw (e, f) at r

-- "enter event of the earliest offending .. item": the number that is given is an offending item's, and all others are above it
pub earliest : (document : List ℕ) (es : List Event) (k : ℕ) → lists document es ≡ offends k →
    (rest : List ℕ) × (offenders document 0 false (tree_of es) [] ≡ k ∷ rest) × Rising (k + 1) rest
unfolding lists
earliest document es k q =
    let f = settled_first k (offenders document 0 false (tree_of es) []) (listed document false (tree_of es) []) q in
    (f.0, f.1, above (offenders_rising document 0 false (tree_of es) [] no_more) k f.0 f.1)

-- a number among some
pub data Among (k : ℕ) : List ℕ → Type 0 where
  front : {j : ℕ} {js : List ℕ} → k ≡ j → Among k (j ∷ js)
  behind : {j : ℕ} {js : List ℕ} → Among k js → Among k (j ∷ js)
