-- `attention::call::resolve_attention` meets its contract: each return is a case of the definition.
use Rattle.record.proofs.Output.{then_wiped}
use borrow.Author.Rules.{rules}
use Rattle.attention.proofs.call.resolve_attention.Goals as goal

pub returns : goal.returns
returns c = then_wiped (search rules) (cc)
