-- `heading::write::put_resolved` meets its contract. The invariant: the section is still the output's, and what is put, with what is left behind it, is the
-- whole result; the measure is the number of events left.
use Rattle.std.proofs.Common.{◌≡◌}
use Rattle.record.specs.EventsOf.{events_of}
use Rattle.heading.proofs.Passes.{Writing}
use Rattle.heading.proofs.write.put_resolved.Given as goal

abbrev pub invariant-loop-event : goal.invariant-loop-event
invariant-loop-event l =
    (l.section.out.ghost_name ≡ l.initial.section.out.ghost_name) × Writing l.fn.form.width (events_of l.fn.events) l.initial.section (events_of l.rest) l.section

abbrev pub decreases-loop-event : goal.decreases-loop-event
decreases-loop-event l = l.rest.count
