use Rattle.record.specs.EventsOf.{events_of}
use Rattle.record.proofs.ListedEvents.{taken}
use Rattle.record.proofs.listed.Events.take.Goals as goal

pub returns-clause-listed : goal.returns-clause-listed
unfolding events_of
returns-clause-listed c = taken _ _ _ _ _ _ c.min.ensures
