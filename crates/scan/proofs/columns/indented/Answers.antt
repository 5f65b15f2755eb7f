-- `scan::columns::indented` meets its contract: up to four columns to each byte is all of them.
use mathlib.Core.Path.{◌∙◌}
use Rattle.scan.proofs.Taken.{indent_most}
use Rattle.scan.proofs.columns.indented.Goals as goal

pub returns : goal.returns
returns c = c.reached.ensures ∙ indent_most _ _ _ _ c.most_indented.ensures
