-- `writing::put_leftover` meets its contract: nothing, or two events, one after the other.
use Rattle.partners.proofs.Sections.{puts_one, ready_one, ready_rest}
use Rattle.writing.proofs.RunParts.{none_left, some_left}
use Rattle.writing.proofs.put_leftover.Goals as goal

pub put-requires : goal.put-requires
put-requires c = ready_one (rw (some_left _ _ c.if-from-to.true) at c.requires)

pub put-requires-then-from-to : goal.put-requires-then-from-to
put-requires-then-from-to c = ready_rest c.put.ensures (rw (some_left _ _ c.if-from-to.true) at c.requires)

pub returns-then-from-to : goal.returns-then-from-to
returns-then-from-to c = rw (some_left _ _ c.if-from-to.true) (puts_one c.put.ensures c.put-then-from-to.ensures)

pub returns-else-from-to : goal.returns-else-from-to
returns-else-from-to c = none_left _ _ c.if-from-to.false _
