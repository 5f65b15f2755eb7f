-- `record::check::admit_second` meets its contract: each return is a case of the definition.
use mathlib.Core.Path.{◌∙◌}
use borrow.Author.Rules.{rules}
use Rattle.record.proofs.Whole.{short_count, wrong_count, no_options, wrong_options, rest_checked}
use borrow.Author.Rules.{rules}
use Rattle.record.proofs.check.admit_second.Goals as goal

pub returns-then-s-lt4 : goal.returns-then-s-lt4
returns-then-s-lt4 c = c.refused.ensures ∙ short_count _ _ (search rules)

pub returns-then-count-ne1 : goal.returns-then-count-ne1
returns-then-count-ne1 c = c.refused-then-count-ne1.ensures ∙ wrong_count _ _ (search rules) _ c.u32_at-count.ensures.0 c.if-count-ne1.true

pub returns-then-s-lt5 : goal.returns-then-s-lt5
returns-then-s-lt5 c = c.refused-then-s-lt5.ensures ∙ no_options _ _ (search rules) _ c.u32_at-count.ensures.0 c.if-count-ne1.false (search rules)

pub returns-then-s-gt63 : goal.returns-then-s-gt63
returns-then-s-gt63 c = c.refused-then-s-gt63.ensures ∙ wrong_options _ _ (search rules) _ c.u32_at-count.ensures.0 c.if-count-ne1.false (search rules) (search rules)

pub returns : goal.returns
returns c = c.check.ensures ∙ rest_checked _ _ (search rules) _ c.u32_at-count.ensures.0 c.if-count-ne1.false (search rules) (search rules)
