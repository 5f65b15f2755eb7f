-- `attention::call::finish` meets its contract: what is answered of the result, with the groups and the candidates.
use Rattle.std.proofs.lemmas.Result.{err_from_is_err_and}
use Rattle.attention.proofs.Calls.{finished_refused, finished_written}
use Rattle.attention.proofs.call.finish.Goals as goal

pub returns-in_err-events : goal.returns-in_err-events
returns-in_err-events c =
    let p = err_from_is_err_and c.from_residual.result c.from_residual.ensures.1 in
    rw (p.1, p.2) (finished_refused c.requires c.write_result.ensures _ c.in_err-events.was)

pub returns : goal.returns
returns c = finished_written c.requires c.write_result.ensures _ c.in_ok-events.was
