-- `attention::call::match_runs` meets its contract: each return is a case of the definition.
use Rattle.attention.proofs.Calls.{by_crate, begun, matched, too_many}
use Rattle.attention.proofs.call.match_runs.Goals as goal

pub find_groups-requires : goal.find_groups-requires
find_groups-requires c = begun c.requires.0 c.requires.1 c.requires.2 c.clear_heads.ensures

pub returns-in-Err : goal.returns-in-Err
returns-in-Err c = too_many c.requires.0 c.requires.1 c.requires.2 c.clear_heads.ensures _ _ (by_crate _ c.option_on-single.ensures c.find_groups.ensures) c.in-Err.is _ _ c.refused.ensures

pub finish-requires : goal.finish-requires
finish-requires c = matched c.requires.0 c.requires.1 c.requires.2 c.clear_heads.ensures _ _ (by_crate _ c.option_on-single.ensures c.find_groups.ensures) _ c.in-Ok.is c.find_groups.auto.w
