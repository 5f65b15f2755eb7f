-- `scan::columns::past` meets its contract. The invariant of the loop over the first bytes: what is passed is all of the byte.
-- Where there are more, the blocks go on from there.
use Rattle.record.specs.Stretch.{AllAre}
use Rattle.scan.specs.Run.{same}
use Rattle.scan.proofs.columns.past.Given as goal

abbrev pub invariant-loop-at : goal.invariant-loop-at
invariant-loop-at l = AllAre (same l.what) l.s l.from l.at
