use borrow.Author.Tests.{eq-eqb, ne_eqb}
use Rattle.std.proofs.Common.{rules}
use Rattle.scan.specs.Run.{or, space_or_tab}
use Rattle.scan.proofs.run.is_blank.Goals as goal

pub returns-in-32 : goal.returns-in-32
unfolding space_or_tab or
returns-in-32 c = search (rules, eq-eqb, ne_eqb)

pub returns-in_default : goal.returns-in_default
unfolding space_or_tab or
returns-in_default c = search (rules, eq-eqb, ne_eqb)
