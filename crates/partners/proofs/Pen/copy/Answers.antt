use mathlib.Core.Path.{◌≡◌}
use native.Mathlib.Omega.{arith}
use Rattle.partners.proofs.Copying.{begun, one_fits, one_more}
use Rattle.partners.proofs.Pen.copy.Goals as goal

pub loop-i-init : goal.loop-i-init
loop-i-init c = begun _ _ _ _ _

pub put-requires : goal.put-requires
put-requires c = one_fits _ _ _ _ c.loop-i.invariant _ c.loop-i-test.true c.event_at-event.ensures.0 c.requires.2

pub loop-i-preserved : goal.loop-i-preserved
loop-i-preserved c = one_more _ _ _ _ c.loop-i.invariant c.event_at-event.ensures.0 c.put.ensures

pub returns : goal.returns
returns c =
    let e : c.loop-i.i ≡ c.args.n = omega arith in
    rw (← e) c.loop-i.invariant
