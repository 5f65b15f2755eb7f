-- `record::blocks::pass` meets its contract: narrower blocks go on where wider ones came to, at last by the byte.
use Rattle.record.proofs.Stretch.{passed_on}
use Rattle.record.proofs.blocks.pass.Goals as goal

pub returns : goal.returns
returns c = passed_on c.pass_blocks-wide.ensures (passed_on c.pass_blocks-middle.ensures (passed_on c.pass_blocks-narrow.ensures c.pass_blocks.ensures))
