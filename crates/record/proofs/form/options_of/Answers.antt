-- `record::form::options_of` meets its contract, case by case.
use mathlib.Core.Path.{◌∙◌}
use Rattle.record.proofs.Whole.{own_options}
use Rattle.record.proofs.form.options_of.Goals as goal

pub returns-in-Second : goal.returns-in-Second
returns-in-Second c = c.option_byte.ensures ∙ own_options _ _ c.in-Second.is
