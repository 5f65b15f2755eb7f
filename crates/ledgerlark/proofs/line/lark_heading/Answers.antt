-- `ledgerlark::line::lark_heading` meets its contract: the promise of the call below, in numbers.
use Rattle.ledgerlark.proofs.Passed.{headed_on}
use Rattle.ledgerlark.proofs.line.lark_heading.Goals as goal

pub returns : goal.returns
returns c = headed_on _ _ _ _ _ _ _ c.heading.ensures c.from.ensures
