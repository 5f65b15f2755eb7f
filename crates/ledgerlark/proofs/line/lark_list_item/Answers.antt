-- `ledgerlark::line::lark_list_item` meets its contract: the promise of the call below, in numbers.
use Rattle.lines.specs.Item.{Start}
use mathlib.Core.Path.{ap, ◌∙◌}
use Rattle.ledgerlark.specs.Answers.{lark_item}
use Rattle.ledgerlark.proofs.line.lark_list_item.Goals as goal

pub returns : goal.returns
returns c = c.from.ensures ∙ ap (λ (x : Start). lark_item x) c.list_item.ensures
