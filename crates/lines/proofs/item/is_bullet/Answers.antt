-- `lines::item::is_bullet` meets its contract: each byte is one of the definition's.
use borrow.Author.Tests.{eq-eqb, ne_eqb}
use Rattle.std.proofs.Common.{rules}
use Rattle.scan.specs.Run.{or}
use Rattle.lines.specs.Item.{bullet_mark}
use Rattle.lines.proofs.item.is_bullet.Goals as goal

pub returns-in_default : goal.returns-in_default
unfolding bullet_mark or
returns-in_default c = search (rules, eq-eqb, ne_eqb)

pub returns-in_default-2 : goal.returns-in_default-2
unfolding bullet_mark or
returns-in_default-2 c = search (rules, eq-eqb, ne_eqb)

pub returns-in-42 : goal.returns-in-42
unfolding bullet_mark or
returns-in-42 c = search (rules, eq-eqb, ne_eqb)

pub returns-in-42-2 : goal.returns-in-42-2
unfolding bullet_mark or
returns-in-42-2 c = search (rules, eq-eqb, ne_eqb)
