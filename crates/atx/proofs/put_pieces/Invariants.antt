-- `atx::put_pieces` meets its contract. The invariant: the events of the pieces passed are written, and those from here on
-- make up all; the measure is what is left of the line.
use Prim.Native.Nat.{◌-◌}
use lib.ListN.{length}
use Rattle.atx.proofs.Pieces.{Putting}
use Rattle.atx.proofs.put_pieces.Given as goal

abbrev pub invariant-loop-at : goal.invariant-loop-at
invariant-loop-at l = Putting l.initial.out l.from l.line l.out l.at l.to

abbrev pub decreases-loop-at : goal.decreases-loop-at
decreases-loop-at l = length l.line - l.at
