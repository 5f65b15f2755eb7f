-- Space-or-tab on a line, case by case.
-- Assumes nothing.
use mathlib.Core.Path.{◌≡◌}
use mathlib.Core.List.{List}
use Prim.Native.Nat.{ℕ, ◌≤◌, ◌<◌}
use lib.ListN.{take}
use borrow.Author.Tests.{le-leb, lt-leb}
use Rattle.std.specs.Prelude.{Ok, None, Option}
use Rattle.lines.specs.declared.spaces.Taken.{Taken}
use Rattle.record.specs.Choice.{choose}
use Rattle.scan.specs.Columns.{reach}
use Rattle.scan.specs.Line.{checked_line}
use Rattle.scan.specs.declared.columns.Reach.{Reach}
use Rattle.scan.proofs.Checks.{found_as}
use Rattle.lines.specs.Spaces.{spaces_in, spaces_of, takes}

module _ (l : List ℕ) (column min max : ℕ) (r : Reach) (e : r ≡ reach max column l) where
  pub too_few : r.columns < min → None ≡ spaces_in l column min max
  unfolding spaces_in choose
  too_few h = rw (← e, lt-leb _ _ h)

  pub enough : min ≤ r.columns → takes r.bytes r.left ≡ spaces_in l column min max
  unfolding spaces_in choose
  enough h = rw (← e, le-leb _ _ h)

-- the part of a lent line before its end
pub spaces_found : (s : List ℕ) (options column min max n : ℕ) (r : Option Taken) →
    Ok n ≡ checked_line s options column → r ≡ spaces_in (take n s) column min max → Ok r ≡ spaces_of s options column min max
unfolding spaces_of
spaces_found s options column min max n r q e = found_as s options column (λ (l : List ℕ). spaces_in l column min max) n r q e
