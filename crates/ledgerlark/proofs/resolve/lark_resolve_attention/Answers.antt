-- `ledgerlark::resolve::lark_resolve_attention` meets its contract: the promise of the call below, in numbers.
use Rattle.ledgerlark.specs.Answers.{lark_attention}
use Rattle.ledgerlark.proofs.Passed.{written_on}
use Rattle.ledgerlark.proofs.resolve.lark_resolve_attention.Goals as goal

pub returns : goal.returns
returns c = written_on _ _ _ lark_attention _ _ _ _ _ _ c.resolve_attention.ensures c.from.ensures
