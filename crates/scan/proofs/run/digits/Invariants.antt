-- The kind of byte that `leading` counts for `scan::run::digits`.
use Rattle.scan.specs.Run.{digit}
use Rattle.scan.proofs.run.digits.Given as goal

abbrev pub ghost-leading : goal.ghost-leading
ghost-leading a = digit
