-- `atx::count_pieces` meets its contract. The invariant: n pieces are passed, and those from here on make up all; the measure
-- is what is left of the line.
use Prim.Native.Nat.{◌-◌}
use lib.ListN.{length}
use Rattle.atx.proofs.Pieces.{Split}
use Rattle.atx.proofs.count_pieces.Given as goal

abbrev pub invariant-loop-at : goal.invariant-loop-at
invariant-loop-at l = Split l.line l.at l.n

abbrev pub decreases-loop-at : goal.decreases-loop-at
decreases-loop-at l = length l.line - l.at
