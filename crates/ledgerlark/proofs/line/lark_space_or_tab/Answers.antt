-- `ledgerlark::line::lark_space_or_tab` meets its contract: the promise of the call below, in numbers.
use Rattle.lines.specs.Spaces.{Spaces}
use mathlib.Core.Path.{ap, ◌∙◌}
use Rattle.ledgerlark.specs.Answers.{lark_spaces}
use Rattle.ledgerlark.proofs.line.lark_space_or_tab.Goals as goal

pub returns : goal.returns
returns c = c.from.ensures ∙ ap (λ (x : Spaces). lark_spaces x) c.space_or_tab.ensures
