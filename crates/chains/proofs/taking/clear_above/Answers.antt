use Prim.Native.Nat.{◌-◌}
use mathlib.Core.Path.{refl}
use native.Mathlib.Omega.{arith}
use Rattle.chains.proofs.Pops.{downward_again, downward_stop, downward_end}
use Rattle.chains.proofs.taking.clear_above.Goals as goal

pub loop-h-init : goal.loop-h-init
loop-h-init c = record { same = refl; ranged = c.requires }

pub returns-then-q-o : goal.returns-then-q-o
returns-then-q-o c = downward_stop c.get-q.result c.loop-h.invariant c.loop-h-test.true c.get-q.ensures.0 c.if-q-o.true

pub pop-requires : goal.pop-requires
pop-requires c =
    let r = c.loop-h.invariant.ranged in
    let h = c.loop-h.h in
    (omega (arith, r.runs (h - 1) (omega arith)), (rw c.get-q.ensures.0 (r.chains (h - 1) (omega arith)), r.room))

pub loop-h-preserved : goal.loop-h-preserved
loop-h-preserved c = downward_again c.get-q.result c.loop-h.invariant c.loop-h-test.true c.get-q.ensures.0 (omega arith) c.pop.ensures

pub returns : goal.returns
returns c = downward_end c.loop-h.invariant (omega arith)
