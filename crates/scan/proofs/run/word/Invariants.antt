-- The kind of byte that `leading` counts for `scan::run::word`.
use Rattle.scan.specs.Run.{filled}
use Rattle.scan.proofs.run.word.Given as goal

abbrev pub ghost-leading : goal.ghost-leading
ghost-leading a = filled
