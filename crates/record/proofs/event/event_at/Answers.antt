use borrow.Author.Rules.{rules}
use Rattle.record.proofs.event.event_at.Goals as goal

pub returns : goal.returns
returns c = (cc, search rules)
