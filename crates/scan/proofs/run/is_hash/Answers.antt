use Rattle.std.proofs.Common.{rules, tests}
use Rattle.scan.specs.Run.{hash}
use Rattle.scan.proofs.run.is_hash.Goals as goal

pub returns : goal.returns
unfolding hash
returns c = search (rules, tests)
