-- `record::blocks::find` meets its contract: what is passed is every byte but the one that is looked for.
use Rattle.record.proofs.Stretch.{passed_as}
use Rattle.record.proofs.blocks.find.Goals as goal

pub returns : goal.returns
returns c = passed_as c.all_but.ensures c.pass.ensures
