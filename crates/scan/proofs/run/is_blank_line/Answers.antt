-- `scan::run::is_blank_line` meets its contract: a byte that is neither space nor tab decides it, wherever it stands; else their count does.
use mathlib.Core.Path.{sym, ◌∙◌}
use Rattle.scan.proofs.Blanks.{blank_all, blank_not}
use borrow.Author.Rules.{rules}
use Rattle.scan.proofs.run.is_blank_line.Goals as goal

pub returns-then-not-is_blank : goal.returns-then-not-is_blank
returns-then-not-is_blank c = blank_not _ _ (search rules) (sym c.is_blank.ensures ∙ c.if-not-is_blank.true)

pub returns : goal.returns
returns c = blank_all _ _ c.blanks.ensures
