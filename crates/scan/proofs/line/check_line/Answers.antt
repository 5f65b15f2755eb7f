-- `scan::line::check_line` meets its contract: each return is a case of the definition.
use mathlib.Core.Path.{◌∙◌}
use Rattle.scan.proofs.Checks.{either_over, neither_over, too_long, returned, passed}
use borrow.Author.Rules.{rules}
use Rattle.scan.proofs.line.check_line.Goals as goal

pub returns-then-options-column : goal.returns-then-options-column
returns-then-options-column c = c.refused.ensures ∙ either_over _ _ _ c.if-options-column.true

pub returns-then-s-gt-MAX_LINE : goal.returns-then-s-gt-MAX_LINE
returns-then-s-gt-MAX_LINE c = c.refused-then-s-gt-MAX_LINE.ensures ∙ too_long _ _ _ c.if-options-column.false (search rules)

pub returns-then-s-lt-SHORT : goal.returns-then-s-lt-SHORT
returns-then-s-lt-SHORT c = c.check_short.ensures ∙ neither_over _ _ _ c.if-options-column.false

pub returns-then-returned-s : goal.returns-then-returned-s
returns-then-returned-s c = c.refused-then-returned-s.ensures ∙ returned _ _ _ c.if-options-column.false (search rules) _ c.first_return-returned.ensures (search rules)

pub returns : goal.returns
returns c = passed _ _ _ c.if-options-column.false (search rules) _ c.first_return-returned.ensures (search rules) _ c.line_end-end.ensures.0
