-- `scan::columns::past_by_block` meets its contract: what is passed is the one byte.
use Rattle.record.proofs.Stretch.{passed_as}
use Rattle.scan.proofs.columns.past_by_block.Goals as goal

pub returns : goal.returns
returns c = passed_as c.only.ensures c.pass.ensures
