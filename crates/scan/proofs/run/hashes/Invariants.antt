-- The kind of byte that `leading` counts for `scan::run::hashes`.
use Rattle.scan.specs.Run.{hash}
use Rattle.scan.proofs.run.hashes.Given as goal

abbrev pub ghost-leading : goal.ghost-leading
ghost-leading a = hash
