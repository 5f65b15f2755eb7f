-- `attention::call::resolve_good` meets its contract: each return is a case of the definition.
use Rattle.attention.proofs.Calls.{offender_low, offended_call}
use borrow.Author.Rules.{rules}
use Rattle.attention.proofs.call.resolve_good.Goals as goal

pub place_of-requires : goal.place_of-requires
place_of-requires c =
    let k = offender_low c.load.ensures _ c.in-Err.is in
    let g = c.requires.0 in
    search rules

pub returns-in-Err : goal.returns-in-Err
returns-in-Err c = offended_call c.load.ensures _ _ c.in-Err.is c.place_of.ensures _ _ c.refused.ensures

pub match_runs-requires : goal.match_runs-requires
match_runs-requires c = (c.requires.0, search rules, c.load.ensures.runs _ c.in-Ok.is)
