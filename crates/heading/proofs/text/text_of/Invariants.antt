-- `heading::text::text_of` looks for Data or a `#` run.
use Rattle.heading.specs.Headings.{is_data_or_run}
use Rattle.heading.proofs.text.text_of.Given as goal

abbrev pub ghost-before_first : goal.ghost-before_first
ghost-before_first a = is_data_or_run
