-- `record::check::check_events` meets its contract. The invariant: what is left to judge, with the names that are open, finds what the whole
-- judgement finds.
use Rattle.std.proofs.Common.{◌-◌}
use Rattle.record.proofs.Events.{Judging}
use Rattle.record.proofs.check.check_events.Given as goal

abbrev pub invariant-loop-number : goal.invariant-loop-number
invariant-loop-number l = Judging l.s l.front l.width l.d l.e l.held.names l.held.numbers l.held.depth l.first l.at l.number l.last (l.e - l.number)
