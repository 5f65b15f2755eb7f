-- `list::write::write_lists` meets its contract. The invariant: the section is still the output's, and what is put and what is still to come is the whole result.
use Rattle.std.proofs.Common.{◌≡◌}
use Rattle.record.specs.EventsOf.{events_of}
use Rattle.list.proofs.Written.{Writing}
use Rattle.list.proofs.write.write_lists.Given as goal

abbrev pub invariant-loop-i : goal.invariant-loop-i
invariant-loop-i l =
    (l.section.out.ghost_name ≡ l.initial.section.out.ghost_name) × Writing l.fn.form.width (events_of l.events) l.work l.initial.section l.section l.i
