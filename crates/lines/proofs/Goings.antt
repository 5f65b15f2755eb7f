-- Continuation, case by case.
-- Assumes nothing.
use mathlib.Core.Path.{◌≡◌, refl, sym, ap, ◌∙◌}
use mathlib.Core.Bool.{Bool, true, false}
use mathlib.Core.List.{List}
use Prim.Native.Nat.{ℕ, ◌≤◌, ◌<◌}
use native.Mathlib.Omega.{arith}
use lib.ListN.{take}
use lib.Dec.{leb}
use borrow.Author.Tests.{le-leb, lt-leb, leb-true, leb-false}
use Rattle.std.specs.Prelude.{Ok}
use Rattle.record.specs.Choice.{choose, and}
use Rattle.scan.specs.Run.{space_or_tab, first, blank}
use Rattle.scan.specs.Columns.{columns, reach}
use Rattle.scan.specs.Line.{checked_line}
use Rattle.lines.specs.Going.{cleared, blank_going, filled_going, going_in, going_of}
use Rattle.scan.specs.declared.columns.Reach.{Reach}
use Rattle.lines.specs.declared.container.Container.{Container}
use Rattle.lines.specs.declared.going.Going.{Going}
use Rattle.lines.specs.declared.going.Going.TheVariants.{Goes, Stops}
use Rattle.scan.proofs.Checks.{found_as}
use Rattle.scan.proofs.InColumns.{columns_none, reach_counted}
use Rattle.scan.proofs.Taken.{columns_full, some_columns}

-- the first byte, as it was looked at
pub first_kind : {first byte : ℕ} {z x : Bool} → byte ≡ first → z ≡ space_or_tab byte → z ≡ x → space_or_tab first ≡ x
first_kind e q p = sym (ap space_or_tab e) ∙ sym q ∙ p

module _ (l : List ℕ) (column : ℕ) (held : Container) (r : Reach) (k : r ≡ reach held.size column l) where
  module _ (h : blank l ≡ true) where
    pub blank_stops : held.blank ≡ true → Stops held ≡ going_in l column held
    unfolding going_in blank_going choose
    blank_stops f = rw (h, f)

    pub blank_goes : held.blank ≡ false → Goes r.bytes r.left held ≡ going_in l column held
    unfolding going_in blank_going choose
    blank_goes f = rw (h, f, ← k)

  module _ (h : blank l ≡ false) (clear : Container) (c : clear ≡ cleared held) where
    pub none_stops : space_or_tab (first l) ≡ false → Stops clear ≡ going_in l column held
    unfolding going_in filled_going choose and
    none_stops z = rw (h, columns_none column l z, c)

    module _ (z : space_or_tab (first l) ≡ true) where
      some : 1 ≤ columns column l
      some = some_columns column l z

      -- the reach has as many columns as the container's size just where the line has
      too_few : r.columns < held.size → columns column l < held.size
      too_few m = go (leb held.size (columns column l)) refl
        where
          go : (b : Bool) → leb held.size (columns column l) ≡ b → columns column l < held.size
          go true q = let f : r.columns ≡ held.size = rw k (columns_full held.size column l (leb-true _ _ q)) in absurd (omega arith)
          go false q = leb-false _ _ q

      enough : held.size ≤ r.columns → held.size ≤ columns column l
      enough m = let t : r.columns ≤ columns column l = rw k (reach_counted held.size column l).there in omega arith

      pub few_stops : r.columns < held.size → Stops clear ≡ going_in l column held
      unfolding going_in filled_going choose and
      few_stops m = rw (h, le-leb _ _ some, lt-leb _ _ (too_few m), c)

      pub enough_goes : held.size ≤ r.columns → Goes r.bytes r.left clear ≡ going_in l column held
      unfolding going_in filled_going choose and
      enough_goes m = rw (h, le-leb _ _ some, le-leb _ _ (enough m), ← k, c)

pub going_found : (s : List ℕ) (options column : ℕ) (held : Container) (n : ℕ) (r : Going) →
    Ok n ≡ checked_line s options column → r ≡ going_in (take n s) column held → Ok r ≡ going_of s options column held
unfolding going_of
going_found s options column held n r q e = found_as s options column (λ (l : List ℕ). going_in l column held) n r q e
