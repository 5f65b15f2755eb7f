-- `lines::spaces::spaces_in` meets its contract: each return is a case of the definition.
use Rattle.lines.proofs.Taking.{too_few, enough}
use borrow.Author.Rules.{rules}
use Rattle.lines.proofs.spaces.spaces_in.Goals as goal

pub returns-then-reach-min : goal.returns-then-reach-min
returns-then-reach-min c = too_few _ _ _ _ _ c.reached-reach.ensures (search rules)

pub returns : goal.returns
returns c = enough _ _ _ _ _ c.reached-reach.ensures (search rules)
