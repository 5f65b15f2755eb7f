-- `record::event::put_event` meets its contract: two writes, the second behind the first.
use native.Mathlib.Omega.{arith}
use Rattle.record.proofs.Splice.{wrote_event}
use Rattle.record.proofs.event.put_event.Goals as goal

pub returns : goal.returns
returns c =
    wrote_event _ _ _ _ c.put_u32.ensures c.put_u32-2.ensures (omega arith) (omega (arith, c.wide.ensures.0, c.wide-2.ensures.0))
    (omega (arith, c.wide.ensures.0, c.wide.ensures.1)) (omega (arith, c.wide-2.ensures.0, c.wide-2.ensures.1))
