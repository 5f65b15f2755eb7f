-- `list::item::past_leaf` meets its contract: behind a leaf pair are the events two further on.
use Rattle.std.proofs.Common.{sym, ◌∙◌}
use Rattle.record.proofs.ListedEvents.{last_same}
use Rattle.list.proofs.Shapes.{behind_pair, no_leaf}
use Rattle.list.proofs.item.past_leaf.Goals as goal

pub returns-then-leaf-clause-listed : goal.returns-then-leaf-clause-listed
returns-then-leaf-clause-listed c = behind_pair _ _ (sym c.leaf.ensures ∙ c.if-leaf.true) _ c.skip.ensures.listed

pub returns-else-leaf-clause-listed : goal.returns-else-leaf-clause-listed
returns-else-leaf-clause-listed c = no_leaf _ _ (sym c.leaf.ensures ∙ c.if-leaf.false)

pub returns-then-leaf-clause-last : goal.returns-then-leaf-clause-last
returns-then-leaf-clause-last c = c.skip.ensures.last

pub returns-else-leaf-clause-last : goal.returns-else-leaf-clause-last
returns-else-leaf-clause-last c = last_same c.args.ahead
