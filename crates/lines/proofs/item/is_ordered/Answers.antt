-- `lines::item::is_ordered` meets its contract: each byte is one of the definition's.
use borrow.Author.Tests.{eq-eqb, ne_eqb}
use Rattle.std.proofs.Common.{rules}
use Rattle.scan.specs.Run.{or}
use Rattle.lines.specs.Item.{ordered_mark}
use Rattle.lines.proofs.item.is_ordered.Goals as goal

pub returns-in-46 : goal.returns-in-46
unfolding ordered_mark or
returns-in-46 c = search (rules, eq-eqb, ne_eqb)

pub returns-in_default : goal.returns-in_default
unfolding ordered_mark or
returns-in_default c = search (rules, eq-eqb, ne_eqb)
