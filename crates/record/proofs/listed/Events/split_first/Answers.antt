use Rattle.record.proofs.ListedEvents.{none_of, split_of}
use Rattle.record.proofs.listed.Events.split_first.Goals as goal

pub returns-then-self-eq0-clause-listed : goal.returns-then-self-eq0-clause-listed
returns-then-self-eq0-clause-listed c = none_of c.args.self c.if-self-eq0.true

pub returns-clause-listed : goal.returns-clause-listed
returns-clause-listed c = split_of c.args.self _ _ c.if-self-eq0.false c.event.ensures c.skip.ensures.listed
