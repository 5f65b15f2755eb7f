use Rattle.std.proofs.Common.{rules, tests}
use Rattle.scan.specs.Run.{filled}
use Rattle.scan.proofs.run.is_filled.Goals as goal

pub returns : goal.returns
unfolding filled
returns c = search (rules, tests)
