-- `KeptGroups::put_closings` meets its contract. The invariant: what is written is the run's closing pieces among the groups that are past, and
-- its next byte stands behind them.
use Rattle.writing.proofs.ClosingTurn.{Closing}
use Rattle.writing.proofs.KeptGroups.put_closings.Given as goal

abbrev pub invariant-loop-i : goal.invariant-loop-i
invariant-loop-i l =
    Closing l.initial.section l.self.memory.now l.self.groups l.q l.marker l.from l.i l.section l.place
