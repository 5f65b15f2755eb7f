-- `list::item::leaf` meets its contract: a leaf pair is an enter and, right behind it, an exit.
use Rattle.std.proofs.Common.{sym, ◌∙◌}
use Rattle.list.proofs.Shapes.{by_exit, no_enter}
use Rattle.list.proofs.item.leaf.Goals as goal

pub returns-then-stands : goal.returns-then-stands
returns-then-stands c = c.stands-then-stands.ensures ∙ by_exit _ _ (sym c.stands.ensures ∙ c.if-stands.true) _ c.skip.ensures.listed

pub returns-else-stands : goal.returns-else-stands
returns-else-stands c = c.if-stands.false ∙ no_enter _ _ (sym c.stands.ensures ∙ c.if-stands.false)
