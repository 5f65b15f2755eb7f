use mathlib.Core.Path.{◌∙◌}
use native.Mathlib.Omega.{arith}
use Rattle.matcher.proofs.Handling.{keeps_small, keeps_done_few, keeps_done, keeps_few, keeps_below, keeps_full, keeps_takable, keeps_again, handled_by_closer_by}
use Rattle.matcher.proofs.closers.handle_closer.Goals as goal

pub overflow_add-result : goal.overflow_add-result
overflow_add-result c =
    let k = c.loop-more.invariant in
    omega (arith, keeps_small k, keeps_done_few k c.next_match-walked.ensures c.in-Done.is)

pub returns-in-Done : goal.returns-in-Done
returns-in-Done c =
    let s = c.requires in
    let e = keeps_done c.loop-more.invariant c.next_match-walked.ensures c.in-Done.is in
    record { of = handled_by_closer_by _ _ _ s e; along = e }

pub returns-then-groups-eq1000 : goal.returns-then-groups-eq1000
returns-then-groups-eq1000 c =
    let s = c.requires in
    let e = keeps_full c.loop-more.invariant c.next_match-walked.ensures c.in-Match.is c.if-groups-eq1000.true in
    record { of = handled_by_closer_by _ _ _ s e; along = e }

pub take_match-height-requires : goal.take_match-height-requires
take_match-height-requires c = keeps_takable c.loop-more.invariant c.next_match-walked.ensures c.in-Match.is c.if-groups-eq1000.false

pub overflow_add-tried : goal.overflow_add-tried
overflow_add-tried c =
    let k = c.loop-more.invariant in
    omega (arith, keeps_small k, keeps_few k c.next_match-walked.ensures c.in-Match.is)

pub overflow_add-until : goal.overflow_add-until
overflow_add-until c = omega (arith, keeps_below c.loop-more.invariant c.next_match-walked.ensures c.in-Match.is)

pub loop-more-preserved : goal.loop-more-preserved
loop-more-preserved c =
    keeps_again c.loop-more.invariant c.next_match-walked.ensures c.in-Match.is c.if-groups-eq1000.false c.take_match-height.ensures
    (c.take_match-height.auto.w ∙ c.next_match-walked.auto.w)
