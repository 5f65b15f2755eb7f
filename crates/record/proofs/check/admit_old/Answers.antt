-- `record::check::admit_old` meets its contract: each return is a case of the definition.
use mathlib.Core.Path.{◌∙◌}
use Rattle.record.proofs.Whole.{options_over, options_known}
use borrow.Author.Rules.{rules}
use Rattle.record.proofs.check.admit_old.Goals as goal

pub returns-then-options-gt-MAX_OPTIONS : goal.returns-then-options-gt-MAX_OPTIONS
returns-then-options-gt-MAX_OPTIONS c = c.refused.ensures ∙ options_over _ _ _ (search rules)

pub returns : goal.returns
returns c = c.check.ensures ∙ options_known _ _ _ (search rules)
