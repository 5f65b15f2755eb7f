-- `scan::columns::most_indented` meets its contract: each return is a case of the definition.
use Rattle.scan.proofs.Blanks.{with_option, without_option}
use borrow.Author.Rules.{rules}
use Rattle.scan.proofs.columns.most_indented.Goals as goal

pub returns-then-options-eq1 : goal.returns-then-options-eq1
returns-then-options-eq1 c = with_option _ _ _ _ (search rules)

pub returns : goal.returns
returns c = without_option _ _ _ _ (search rules)
