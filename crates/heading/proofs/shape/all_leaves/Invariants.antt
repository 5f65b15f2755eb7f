-- `heading::shape::all_leaves` meets its contract. The invariant: what is left is leaf pairs just if all is; the measure is the number of events left.
use Rattle.std.proofs.Common.{◌≡◌}
use Rattle.record.specs.EventsOf.{events_of}
use Rattle.heading.specs.Headings.{leaves}
use Rattle.heading.proofs.shape.all_leaves.Given as goal

abbrev pub invariant-loop-enter : goal.invariant-loop-enter
invariant-loop-enter l = leaves (events_of l.rest) ≡ leaves (events_of l.events)

abbrev pub decreases-loop-enter : goal.decreases-loop-enter
decreases-loop-enter l = l.rest.count
