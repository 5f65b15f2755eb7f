use Rattle.record.proofs.ListedEvents.{none_of, split_last_of}
use Rattle.record.proofs.listed.Events.split_last.Goals as goal

pub returns-then-self-eq0-clause-listed : goal.returns-then-self-eq0-clause-listed
returns-then-self-eq0-clause-listed c = none_of _ c.if-self-eq0.true

pub returns-clause-listed : goal.returns-clause-listed
returns-clause-listed c = split_last_of c.args.self _ _ c.if-self-eq0.false c.event.ensures c.take.ensures.listed
