-- `heading::seek::before_first` meets its contract. The invariant: k events are passed, and as many more as the definition counts in the rest make what it counts
-- in all.
use Rattle.std.proofs.Common.{◌≡◌, ◌+◌, drop}
use Rattle.record.specs.EventsOf.{events_of}
use Rattle.heading.specs.Headings.{before_first}
use Rattle.heading.proofs.seek.before_first.Given as goal

abbrev pub invariant-loop-k : goal.invariant-loop-k
invariant-loop-k g l = l.k + before_first g.such (drop l.k (events_of l.events)) ≡ before_first g.such (events_of l.events)
