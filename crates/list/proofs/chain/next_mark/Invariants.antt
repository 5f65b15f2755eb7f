-- `list::chain::next_mark` meets its contract. The invariant: what the look finds from here it finds from the start; the measure is the
-- number of events left.
use Rattle.record.specs.EventsOf.{events_of}
use Rattle.list.proofs.Nearest.{Seeking}
use Rattle.list.proofs.chain.next_mark.Given as goal

abbrev pub invariant-loop-event : goal.invariant-loop-event
invariant-loop-event l = Seeking l.document (events_of l.behind) (events_of l.rest) l.depth

abbrev pub decreases-loop-event : goal.decreases-loop-event
decreases-loop-event l = l.rest.count
