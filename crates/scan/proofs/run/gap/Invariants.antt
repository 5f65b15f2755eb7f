-- The kind of byte that `leading` counts for `scan::run::gap`.
use Rattle.scan.specs.Run.{space_or_tab}
use Rattle.scan.proofs.run.gap.Given as goal

abbrev pub ghost-leading : goal.ghost-leading
ghost-leading a = space_or_tab
