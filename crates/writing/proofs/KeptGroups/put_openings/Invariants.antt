-- `KeptGroups::put_openings` meets its contract. The invariant: what is written is the run's opening pieces among the groups that are behind, and
-- its next byte with what it gave to the others is its end; the measure is the group's number, since a link names an earlier one.
use Rattle.writing.proofs.OpeningTurn.{Opening}
use Rattle.writing.proofs.KeptGroups.put_openings.Given as goal

abbrev pub invariant-loop-g : goal.invariant-loop-g
invariant-loop-g l =
    Opening l.initial.section l.self.memory.now l.self.groups l.q l.marker l.from l.g l.section l.place

abbrev pub decreases-loop-g : goal.decreases-loop-g
decreases-loop-g l = l.g
