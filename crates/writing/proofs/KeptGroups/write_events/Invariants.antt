-- `KeptGroups::write_events` meets its contract. The invariant: the section is still the output's; what is put, with what the events ahead come to, is
-- what the record comes to, and the runs of the events ahead are the record's from the next one on.
use mathlib.Core.Path.{◌≡◌}
use Rattle.record.specs.Event.{document_in}
use Rattle.writing.specs.Kept.{runs_in, written_of}
use Rattle.writing.proofs.EventTurn.{Writing}
use Rattle.writing.proofs.KeptGroups.write_events.Given as goal

abbrev pub invariant-loop-k : goal.invariant-loop-k
invariant-loop-k l =
    (l.section.out.ghost_name ≡ l.initial.section.out.ghost_name)
    × Writing l.form.width l.initial.section l.s l.self.memory.now (document_in l.form l.s l.d) l.self.groups (runs_in l.form l.s l.d l.e)
    (written_of l.form l.s l.d l.e l.self.memory.now l.self.groups) l.section l.first l.e l.k l.q
