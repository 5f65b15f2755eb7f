-- `list::write::put_noted` meets its contract: one event, or two, as the note says.
use Rattle.list.proofs.Written.{before_fits, event_fits, behind_fits, noted_put}
use Rattle.list.proofs.write.put_noted.Goals as goal

pub put_list-requires : goal.put_list-requires
put_list-requires c = before_fits _ _ c.requires

pub put-requires : goal.put-requires
put-requires c = event_fits _ _ c.requires c.put_list.ensures

pub put_list-requires-2 : goal.put_list-requires-2
put_list-requires-2 c = behind_fits _ _ c.requires c.put_list.ensures c.put.ensures

pub returns : goal.returns
returns c = noted_put _ _ c.put_list.ensures c.put.ensures c.put_list-2.ensures
