-- `scan::columns::reached_by_stretch` meets its contract. The invariant: some bytes of some columns are passed, and what is taken behind them makes up the whole; the
-- measure is what is left of the slice.
use Prim.Native.Nat.{◌-◌}
use lib.ListN.{length}
use Rattle.scan.proofs.InColumns.{Reaching}
use Rattle.scan.proofs.columns.reached_by_stretch.Given as goal

abbrev pub invariant-loop-at : goal.invariant-loop-at
invariant-loop-at l = Reaching l.max l.column l.rest l.at l.columns

abbrev pub decreases-loop-at : goal.decreases-loop-at
decreases-loop-at l = length l.rest - l.at
