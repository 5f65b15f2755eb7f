-- `ledgerlark::resolve::lark_read` meets its contract: the promise of the call below, in numbers.
use Rattle.ledgerlark.specs.Answers.{lark_reading}
use Rattle.ledgerlark.proofs.Passed.{read_on}
use Rattle.ledgerlark.proofs.resolve.lark_read.Goals as goal

pub returns : goal.returns
returns c = read_on _ _ lark_reading _ _ _ _ c.read.ensures c.from.ensures
