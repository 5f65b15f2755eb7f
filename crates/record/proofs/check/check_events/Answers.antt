use mathlib.Core.Path.{refl, sym, ap, ◌∙◌}
use Rattle.std.proofs.Common.{◌≡◌, ◌+◌, ◌-◌, ◌<◌}
use lib.ListN.{length}
use native.Mathlib.Omega.{arith}
use Rattle.record.proofs.Events.{start, finished, unclosed, ill_formed, too_deep, none_open, other_open, here, mate_room, untrue, entered, left_one}
use borrow.Author.Rules.{rules}
use Rattle.record.proofs.check.check_events.Goals as goal
use Rattle.record.proofs.check.check_events.Goals.{then-s-at-eq-ENTER+else-depth-ge-MAX_DEPTH, else-s-at-eq-ENTER+else-depth-eq0+else-held-top+else-not-pair_true}

pub loop-number-init : goal.loop-number-init
loop-number-init c =
    let all : c.args.e - 0 ≡ c.args.e = omega arith in
    rw all (start _ _ _ _ _ _ _ _ (search rules) (search rules) c.new-held.ensures.0 (ap length c.new-held.ensures.1) (ap length c.new-held.ensures.2))

pub returns-then-not-well_formed : goal.returns-then-not-well_formed
returns-then-not-well_formed c = c.refused.ensures ∙ ill_formed c.loop-number.invariant (omega arith) (sym c.well_formed-in-loop-number.ensures ∙ c.if-not-well_formed.true)

pub returns-then-depth-ge-MAX_DEPTH : goal.returns-then-depth-ge-MAX_DEPTH
returns-then-depth-ge-MAX_DEPTH c = c.refused-then-depth-ge-MAX_DEPTH.ensures ∙ too_deep c.loop-number.invariant (omega arith) c.if-s-at-eq-ENTER.true c.if-depth-ge-MAX_DEPTH.true

pub returns-then-depth-eq0 : goal.returns-then-depth-eq0
returns-then-depth-eq0 c = c.refused-then-depth-eq0.ensures ∙ none_open c.loop-number.invariant (omega arith) c.if-s-at-eq-ENTER.false c.if-depth-eq0.true

pub returns-then-held-top : goal.returns-then-held-top
returns-then-held-top c = c.refused-then-held-top.ensures ∙ other_open c.loop-number.invariant (omega arith) c.if-s-at-eq-ENTER.false (omega (arith, c.if-depth-eq0)) c.if-held-top.true

pub overflow_mul-there : goal.overflow_mul-there
overflow_mul-there c =
    let h = mate_room c.loop-number.invariant (omega arith) _ refl (omega (arith, c.if-depth-eq0)) in
    search rules

pub overflow_add-there : goal.overflow_add-there
overflow_add-there c =
    let h = mate_room c.loop-number.invariant (omega arith) _ refl (omega (arith, c.if-depth-eq0)) in
    search rules

pub pair_true-requires : goal.pair_true-requires
pair_true-requires c =
    let h = mate_room c.loop-number.invariant (omega arith) _ refl (omega (arith, c.if-depth-eq0)) in
    let g = here c.loop-number.invariant (omega arith) in
    search rules

pub returns-then-not-pair_true : goal.returns-then-not-pair_true
returns-then-not-pair_true c =
    c.refused-then-not-pair_true.ensures
    ∙ untrue c.loop-number.invariant (omega arith) _ _ c.if-s-at-eq-ENTER.false (omega (arith, c.if-depth-eq0)) refl refl (sym c.pair_true.ensures ∙ c.if-not-pair_true.true)

pub loop-number-preserved : goal.loop-number-preserved
loop-number-preserved c =
    let i = c.loop-number.invariant in
    let more : 0 < c.args.e - c.loop-number.number = omega arith in
    let next : c.args.e - c.loop-number.number - 1 ≡ c.args.e - (c.loop-number.number + 1) = omega arith in
    let good = sym c.well_formed-in-loop-number.ensures ∙ c.if-not-well_formed.false in
    let la = c.u32_at-last.ensures.0 in
    elim c.if-s-at-eq-ENTER.branch [
      | then-s-at-eq-ENTER+else-depth-ge-MAX_DEPTH w ↦
          rw (w.held-is, ← next) (entered i more good _ la w.if-s-at-eq-ENTER.true w.if-depth-ge-MAX_DEPTH.false _ _ refl refl)
      | else-s-at-eq-ENTER+else-depth-eq0+else-held-top+else-not-pair_true w ↦
          rw (w.held-is, ← next) (left_one i more good _ la _ _ w.if-s-at-eq-ENTER.false (omega arith) w.if-held-top.false refl refl (sym w.pair_true.ensures ∙ w.if-not-pair_true.false))
    ]

pub returns-then-held-ne0 : goal.returns-then-held-ne0
returns-then-held-ne0 c = c.refused-then-held-ne0.ensures ∙ unclosed c.loop-number.invariant (omega arith) c.if-held-ne0.true

pub returns : goal.returns
returns c = finished c.loop-number.invariant (omega arith) (search rules)
