-- `ledgerlark::line::kind_of` meets its contract: each arm is a case of the definition.
use borrow.Author.Tests.{eq-eqb, ne_eqb}
use Rattle.std.proofs.Common.{rules}
use Rattle.record.specs.Choice.{choose}
use Rattle.ledgerlark.specs.Answers.{kind_of}
use Rattle.ledgerlark.proofs.line.kind_of.Goals as goal

pub returns-in-46 : goal.returns-in-46
unfolding kind_of choose
returns-in-46 c = search (rules, eq-eqb, ne_eqb)

pub returns-in-41 : goal.returns-in-41
unfolding kind_of choose
returns-in-41 c = search (rules, eq-eqb, ne_eqb)

pub returns-in_default : goal.returns-in_default
unfolding kind_of choose
returns-in_default c = search (rules, eq-eqb, ne_eqb)
