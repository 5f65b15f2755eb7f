-- `ledgerlark::resolve::lark_resolve_headings` meets its contract: the promise of the call below, in numbers.
use Rattle.ledgerlark.specs.Answers.{lark_headings}
use Rattle.ledgerlark.proofs.Passed.{written_on}
use Rattle.ledgerlark.proofs.resolve.lark_resolve_headings.Goals as goal

pub returns : goal.returns
returns c = written_on _ _ _ lark_headings _ _ _ _ _ _ c.resolve_headings.ensures c.from.ensures
