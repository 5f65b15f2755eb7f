use Rattle.heading.specs.Headings.{inner_of}
use Rattle.heading.proofs.seek.inner_of.Goals as goal

pub returns-clause-listed : goal.returns-clause-listed
unfolding inner_of
returns-clause-listed c = cc (c.before_first.ensures.first, c.take.ensures.listed)
