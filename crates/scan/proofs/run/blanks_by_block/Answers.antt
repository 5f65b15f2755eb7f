-- `scan::run::blanks_by_block` meets its contract: what is passed is the spaces and tabs in front.
use Rattle.scan.proofs.Blanks.{all_passed}
use Rattle.scan.proofs.run.blanks_by_block.Goals as goal

pub returns : goal.returns
returns c = all_passed c.blank_kind.ensures c.pass.ensures
