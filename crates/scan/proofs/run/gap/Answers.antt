use Rattle.scan.specs.Run.{blanks}
use Rattle.scan.proofs.run.gap.Goals as goal

pub returns : goal.returns
unfolding blanks
returns c = c.leading.ensures
