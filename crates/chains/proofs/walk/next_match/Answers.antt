use Prim.Native.Nat.{◌+◌, ◌≤◌}
use mathlib.Core.Path.{◌≡◌, ◌∙◌, sym}
use native.Mathlib.Omega.{arith}
use Rattle.runs.specs.Rule.{rule_for}
use Rattle.runs.specs.Plain.{miss}
use Rattle.chains.specs.Walk.{seek}
use Rattle.chains.proofs.Steps.{inner_again, inner_found, inner_none, outer_again, outer_end, outer_found, seek_not}
use Rattle.chains.proofs.Flags.{closing_by}
use Rattle.chains.proofs.walk.next_match.Goals as goal
use Rattle.chains.proofs.walk.next_match.Goals.{then-able+in_default, else-able, else-closers-test, then-closers-test+then-able+in-Some+then-takes}

pub loop-o-preserved : goal.loop-o-preserved
loop-o-preserved c = (
  c.loop-o.invariant.0,
  inner_again c.loop-o.invariant.1 c.closers.invariant.1.sound.links c.closers-test.true c.in-Some.ensures
      (sym c.takes.ensures ∙ c.if-takes.false) c.get-p.ensures.0,
)

pub closers-preserved : goal.closers-preserved
closers-preserved c =
    let o = c.closers in
    let e = c.pass-held.ensures in
    -- the search below the closer found nothing
    let k : (seek (rule_for c.args.single) o.w o.i o.tried ≡ miss c.if-able.tried) × (c.if-able.tried ≤ o.tried + o.i) =
    elim c.if-able.branch [
      | then-able+in_default w ↦
          (rw w.tried-is (inner_none w.loop-o.invariant.1 o.invariant.1.sound.links w.in_default.ensures (sym (closing_by _ _ c.able.ensures) ∙ w.if-able.true) w.first-p.ensures), omega (arith, w.tried-is, w.loop-o.invariant.1.count))
      | else-able w ↦ (rw w.tried-is (seek_not (rule_for c.args.single) o.w o.i o.tried (sym (closing_by _ _ c.able.ensures) ∙ w.if-able.false)), omega (arith, w.tried-is))
    ] in
    (elim c.if-able.branch [ then-able+in_default w ↦ w.found-is ∙ w.loop-o.invariant.0 | else-able w ↦ w.found-is ∙ o.invariant.0 ], outer_again o.invariant.1 c.closers-test.true k.0 k.1 e.1 e.0 c.pass-held.auto.w)

pub returns : goal.returns
returns c =
    let o = c.closers.invariant in
    rw c.unwrap_or.ensures
    (elim c.closers-test.branch [
      | else-closers-test w ↦ rw (w.found-is, o.0, w.tried-is) (outer_end o.1 w.closers-test.false)
      | then-closers-test+then-able+in-Some+then-takes w ↦
          rw w.found-is
          (outer_found o.1 w.closers-test.true
          (inner_found w.loop-o.invariant.1 o.1.sound.links w.in-Some.ensures (sym w.takes.ensures ∙ w.if-takes.true)
          (sym (closing_by _ _ w.able.ensures) ∙ w.if-able.true) w.first-p.ensures))
    ])
