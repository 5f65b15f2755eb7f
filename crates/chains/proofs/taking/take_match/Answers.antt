-- `taking::take_match`: the pieces of a match, one after the other. An opener that is open stays so until it is emptied.
use native.Mathlib.Omega.{arith}
use Rattle.chains.proofs.Pops.{amount_le, cleared_kept}
use Rattle.chains.proofs.taking.take_match.Goals as goal

pub leave-open_runs-requires : goal.leave-open_runs-requires
leave-open_runs-requires c =
    let x = c.args in
    let t = c.requires in
    let k = rw (← c.clear_above-above.ensures) at (cleared_kept x.height x.w.now x.o t.place t.ranged t.below t.stands) in
    let h = rw t.stands at (t.ranged.chains t.place t.below) in
    ((omega (arith, t.before, t.within), omega (arith, k.high)), (omega (arith, k.chain x.o (omega (arith, t.before, t.within))), omega (arith, k.len, t.ranged.room)))

pub overflow_sub-a : goal.overflow_sub-a
overflow_sub-a c =
    let a = c.get-a in
    let b = c.get-b in
    let t = c.requires in
    omega (arith, c.amount-k.ensures, amount_le a.result b.result (omega (arith, a.ensures, t.some)) (omega (arith, b.ensures, t.some')))

pub overflow_sub-b : goal.overflow_sub-b
overflow_sub-b c =
    let a = c.get-a in
    let b = c.get-b in
    let t = c.requires in
    omega (arith, c.amount-k.ensures, amount_le a.result b.result (omega (arith, a.ensures, t.some)) (omega (arith, b.ensures, t.some')))

pub join-requires : goal.join-requires
join-requires c =
    let a = c.get-a in
    let b = c.get-b in
    let t = c.requires in
    let k = amount_le a.result b.result (omega (arith, a.ensures, t.some)) (omega (arith, b.ensures, t.some')) in
    ((omega (arith, t.before, t.within), t.within), (t.few, (omega (arith, c.amount-k.ensures, k), omega (arith, t.ranged.room, c.put-2.auto.w, c.put.auto.w, c.leave-open_runs.auto.w, c.clear_above-above.auto.w))))
