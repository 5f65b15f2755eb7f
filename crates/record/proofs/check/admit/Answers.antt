-- `record::check::admit` meets its contract: the memory first, then the front and the record by how it is handed over.
use mathlib.Core.Path.{◌∙◌}
use Rattle.record.proofs.Whole.{short_work, enough_work, old_handed, second_handed}
use borrow.Author.Rules.{rules}
use Rattle.record.proofs.check.admit.Goals as goal

pub returns-then-works-lt-MIN_WORK : goal.returns-then-works-lt-MIN_WORK
returns-then-works-lt-MIN_WORK c = c.refused.ensures ∙ short_work _ _ _ (search rules)

pub returns-in-Old : goal.returns-in-Old
returns-in-Old c = c.admit_old.ensures ∙ old_handed _ _ _ c.in-Old.is ∙ enough_work _ _ _ (search rules)

pub returns-in-Second : goal.returns-in-Second
returns-in-Second c = c.admit_second.ensures ∙ second_handed _ _ c.in-Second.is ∙ enough_work _ _ _ (search rules)
