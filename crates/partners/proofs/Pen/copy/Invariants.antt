-- `Pen::copy` meets its contract. The invariant: the first i events are put.
use Rattle.record.specs.Event.{events_by}
use Rattle.partners.specs.Pen.{Put}
use Rattle.partners.proofs.Pen.copy.Given as goal

abbrev pub invariant-loop-i : goal.invariant-loop-i
invariant-loop-i l = Put l.initial.out l.initial.self (events_by l.width l.i l.s l.from) l.out l.self
