-- `ledgerlark::resolve::lark_resolve_lists` meets its contract: the promise of the call below, in numbers.
use Rattle.ledgerlark.specs.Answers.{lark_lists}
use Rattle.ledgerlark.proofs.Passed.{written_on}
use Rattle.ledgerlark.proofs.resolve.lark_resolve_lists.Goals as goal

pub returns : goal.returns
returns c = written_on _ _ _ lark_lists _ _ _ _ _ _ c.resolve_lists.ensures c.from.ensures
