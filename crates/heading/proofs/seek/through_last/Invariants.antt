-- `heading::seek::through_last` meets its contract. The invariant: among what is left the last such event is where it is among all; the measure is the number of
-- events left.
use Rattle.std.proofs.Common.{◌≡◌}
use Rattle.record.specs.EventsOf.{events_of}
use Rattle.heading.specs.Headings.{through_last}
use Rattle.heading.proofs.seek.through_last.Given as goal

abbrev pub invariant-loop-last : goal.invariant-loop-last
invariant-loop-last g l = through_last g.such (events_of l.rest) ≡ through_last g.such (events_of l.events)

abbrev pub decreases-loop-last : goal.decreases-loop-last
decreases-loop-last g l = l.rest.count
