use Rattle.std.proofs.Common.{refl}
use Rattle.record.specs.Event.{events_in}
use Rattle.record.specs.EventsOf.{events_of}
use Rattle.record.proofs.listed.Events.of_record.Goals as goal

pub returns-clause-listed : goal.returns-clause-listed
unfolding events_of events_in
returns-clause-listed c = refl
