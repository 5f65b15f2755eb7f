-- `heading::text::to_last` looks for Data or a `#` run.
use Rattle.heading.specs.Headings.{is_data_or_run}
use Rattle.heading.proofs.text.to_last.Given as goal

abbrev pub ghost-through_last : goal.ghost-through_last
ghost-through_last a = is_data_or_run
