-- `record::blocks::all_but` meets its contract: neither of one byte twice is every other.
use Rattle.record.proofs.Stretch.{is_not_lem}
use Rattle.record.proofs.blocks.all_but.Goals as goal

pub returns : goal.returns
returns c = λ b. is_not_lem _ b
