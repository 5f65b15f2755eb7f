use Rattle.heading.specs.Headings.{to_last}
use Rattle.heading.proofs.text.to_last.Goals as goal

pub returns : goal.returns
unfolding to_last
returns c = cc (c.through_last.ensures.last, c.take.ensures.listed)
