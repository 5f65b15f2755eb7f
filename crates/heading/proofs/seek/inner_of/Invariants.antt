-- `heading::seek::inner_of` looks for the exit of a heading.
use Rattle.heading.specs.Headings.{is_of}
use Rattle.heading.proofs.seek.inner_of.Given as goal

abbrev pub ghost-before_first : goal.ghost-before_first
ghost-before_first a = is_of 1 11
