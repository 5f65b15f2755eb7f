-- `list::write::put_list` meets its contract: each return is a case of what a note adds on a side.
use Rattle.list.proofs.Written.{none_added, none_here, one_fits, one_added}
use Rattle.list.proofs.write.put_list.Goals as goal

pub returns-then-n-eq0 : goal.returns-then-n-eq0
returns-then-n-eq0 c = none_added _ _ _ _ c.if-n-eq0.true

pub put-requires : goal.put-requires
put-requires c = one_fits _ _ _ _ c.if-n-eq0.false c.if-here.true c.requires

pub returns-then-here : goal.returns-then-here
returns-then-here c = one_added _ _ _ _ c.if-n-eq0.false c.if-here.true c.put.ensures

pub returns-else-here : goal.returns-else-here
returns-else-here c = none_here _ _ _ _ c.if-n-eq0.false c.if-here.false
