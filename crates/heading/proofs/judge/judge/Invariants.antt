-- `heading::judge::judge` meets its contract. The invariant: what is left to judge finds what the whole judgement finds, and its events with those
-- counted are as many as the result's; the measure is the number of events left.
use Rattle.record.specs.EventsOf.{events_of}
use Rattle.heading.proofs.Passes.{Judging}
use Rattle.heading.proofs.judge.judge.Given as goal

abbrev pub invariant-loop-event : goal.invariant-loop-event
invariant-loop-event l = Judging (events_of l.events) (events_of l.rest) l.size

abbrev pub decreases-loop-event : goal.decreases-loop-event
decreases-loop-event l = l.rest.count
