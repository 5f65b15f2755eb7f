-- A result is the record's events with lists added (`Listing`), and nothing else.
-- Assumes nothing.
use Prim.Native.Nat.{ℕ}
use mathlib.Core.Path.{◌≡◌, refl}
use mathlib.Core.Bool.{Bool, true, false}
use mathlib.Core.Logic.{◌⊎◌, inl, inr}
use mathlib.Core.List.{List, [], ◌∷◌}
use native.Mathlib.Omega.{arith}
use lib.Dec.{eqb}
use borrow.Author.Tests.{eqb-true}
use Rattle.record.specs.Choice.{choose}
use Rattle.record.specs.Event.{enter, exit}
use Rattle.record.specs.Outcome.{gives}
use Rattle.record.specs.Sound.{sound}
use Rattle.record.specs.declared.event.Event.{Event}
use Rattle.list.specs.Tree.{Row, none, pair, written, tree_of}
use Rattle.list.proofs.Reading.{tree_written}
use Rattle.list.specs.Item.{mark_of}
use Rattle.list.specs.Lists.{offenders, joins, list_name, listed, settling, lists}
use Rattle.list.specs.Listing.{Listing, all_kept, keeps, begins, ends}

name_by : (a b : Bool) → (choose {A = ℕ} a 19 (choose b 19 20) ≡ 19) ⊎ (choose {A = ℕ} a 19 (choose b 19 20) ≡ 20)
unfolding choose
name_by true b = inl refl
name_by false true = inl refl
name_by false false = inr refl

pub list_named : (mark : ℕ) → (list_name mark ≡ 19) ⊎ (list_name mark ≡ 20)
unfolding list_name
list_named mark = name_by (eqb mark 46) (eqb mark 41)

begun : (joined : Bool) (mark from : ℕ) (es out : List Event) → Listing es out →
    Listing (enter 15 from ∷ es) (choose joined (enter 15 from ∷ out) (enter (list_name mark) from ∷ enter 15 from ∷ out))
unfolding choose
begun true mark from es out l = keeps l
begun false mark from es out l = begins (list_named mark) l

ended : (on : Bool) (mark to : ℕ) (es out : List Event) → Listing es out →
    Listing (exit 15 to ∷ es) (exit 15 to ∷ choose on out (exit (list_name mark) to ∷ out))
unfolding choose
ended true mark to es out l = keeps l
ended false mark to es out l = ends (list_named mark) l

pub row_listing : (document : List ℕ) (joined : Bool) (row : Row) {es out : List Event} → Listing es out → Listing (written row es) (listed document joined row out)
unfolding written listed choose
row_listing document joined none l = l
row_listing document joined (pair n from to inside next) {es} {out} l = go (eqb n 15) refl
    (λ j. row_listing document j next l)
    (λ fs ou a. row_listing document false inside {es = fs} {out = ou} a)
  where
    go : (z : Bool) → eqb n 15 ≡ z → ((j : Bool) → Listing (written next es) (listed document j next out)) →
        ((fs ou : List Event) → Listing fs ou → Listing (written inside fs) (listed document false inside ou)) →
        Listing (written (pair n from to inside next) es) (listed document joined (pair n from to inside next) out)
    go true z later held =
        let k : n ≡ 15 = eqb-true _ _ z in
        let mark : ℕ = mark_of document inside in
        let on : Bool = joins document mark next in
        let rest : List Event = listed document on next out in
        let tail : List Event = exit 15 to ∷ choose on rest (exit (list_name mark) to ∷ rest) in
        rw (z, k)
        (begun joined mark from (written inside (exit 15 to ∷ written next es)) (listed document false inside tail)
        (held (exit 15 to ∷ written next es) tail (ended on mark to (written next es) rest (later on))))
    go false z later held =
        rw z (keeps (held (exit n to ∷ written next es) (exit n to ∷ listed document joined next out) (keeps (later joined))))

settled_result : (ks : List ℕ) (es out : List Event) → settling ks es ≡ gives out → (ks ≡ []) × (es ≡ out)
settled_result [] es out q = (refl, cc)
settled_result (k ∷ ks) es out q = let z : ◌≡◌ {A = ℕ} 0 1 = cc in absurd (omega arith)

-- what a result is
pub result_of : (document : List ℕ) (es out : List Event) → lists document es ≡ gives out →
    (offenders document 0 false (tree_of es) [] ≡ []) × (listed document false (tree_of es) [] ≡ out)
unfolding lists
result_of document es out q = settled_result (offenders document 0 false (tree_of es) []) (listed document false (tree_of es) []) out q

-- the result is the record's events with lists added
pub listing : (deep d : ℕ) (document : List ℕ) (es out : List Event) → sound deep d es ≡ true → lists document es ≡ gives out → Listing es out
listing deep d document es out s q =
    let r = result_of document es out q in
    let l : Listing (written (tree_of es) []) (listed document false (tree_of es) []) = row_listing document false (tree_of es) all_kept in
    rw (tree_written deep d es s, r.1) at l
