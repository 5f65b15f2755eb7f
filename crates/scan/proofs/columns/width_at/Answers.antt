-- `scan::columns::width_at` meets its contract: each return is a case of the definition.
use mathlib.Core.Path.{sym}
use Rattle.scan.proofs.InColumns.{width_tab, width_space}
use borrow.Author.Rules.{rules}
use Rattle.scan.proofs.columns.width_at.Goals as goal

pub returns-then-byte-eq9 : goal.returns-then-byte-eq9
returns-then-byte-eq9 c = sym (width_tab _ _ (search rules))

pub returns : goal.returns
returns c = sym (width_space _ _ (search rules))
