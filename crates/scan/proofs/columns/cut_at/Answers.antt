-- `scan::columns::cut_at` meets its contract: each return is a case of the definition.
use Rattle.scan.proofs.InColumns.{cut_full, cut_part}
use borrow.Author.Rules.{rules}
use Rattle.scan.proofs.columns.cut_at.Goals as goal

pub returns-then-columns-max : goal.returns-then-columns-max
returns-then-columns-max c = cut_full _ _ _ _ (search rules)

pub returns : goal.returns
returns c = cut_part _ _ _ _ (search rules) (search rules)
