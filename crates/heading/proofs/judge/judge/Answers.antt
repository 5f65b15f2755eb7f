use Rattle.std.proofs.Common.{sym, ◌∙◌, arith}
use Rattle.record.proofs.ListedEvents.{length_of}
use Rattle.heading.proofs.Passes.{judging_other, judging_refused, judging_heading, judging_done}
use Rattle.heading.proofs.judge.judge.Goals as goal

pub overflow_add-size : goal.overflow_add-size
overflow_add-size c = omega (arith, c.loop-event.invariant.low, c.loop-event.invariant.small, length_of c.args.events)

pub loop-event-preserved-then-not-is_of : goal.loop-event-preserved-then-not-is_of
loop-event-preserved-then-not-is_of c = judging_other c.loop-event.invariant _ _ c.in-Some.ensures.listed (sym c.is_of.ensures ∙ c.if-not-is_of.true)

pub overflow_sub-result : goal.overflow_sub-result
overflow_sub-result c = omega (arith, c.loop-event.invariant.low, length_of c.args.events, length_of c.loop-event.rest)

pub returns-then-not-is_shaped : goal.returns-then-not-is_shaped
returns-then-not-is_shaped c =
    judging_refused c.loop-event.invariant _ _ c.in-Some.ensures.listed (sym c.is_of.ensures ∙ c.if-not-is_of.false) _ c.inner_of-inner.ensures.listed _
    (omega (arith, length_of c.args.events, length_of c.loop-event.rest)) (sym c.is_shaped.ensures ∙ c.if-not-is_shaped.true)

pub inner_size-size-requires : goal.inner_size-size-requires
inner_size-size-requires c = (omega (arith, c.loop-event.invariant.low, length_of c.args.events, length_of c.loop-event.rest, c.in-Some.ensures.counted), sym c.is_shaped.ensures ∙ c.if-not-is_shaped.false)

pub overflow_add-size-in-Some : goal.overflow_add-size-in-Some
overflow_add-size-in-Some c =
    omega (arith, c.loop-event.invariant.low, c.loop-event.invariant.small, length_of c.args.events, length_of c.loop-event.rest, c.in-Some.ensures.counted, c.inner_size-size.ensures.1)

pub loop-event-preserved : goal.loop-event-preserved
loop-event-preserved c =
    judging_heading c.loop-event.invariant _ _ c.in-Some.ensures.listed (sym c.is_of.ensures ∙ c.if-not-is_of.false) _ c.inner_of-inner.ensures.listed _ _
    (sym (length_of c.inner_of-inner.result)) (sym c.is_shaped.ensures ∙ c.if-not-is_shaped.false) c.inner_size-size.ensures.0 c.inner_size-size.ensures.1 _ c.skip-rest.ensures.listed

pub returns : goal.returns
returns c = judging_done c.loop-event.invariant c.in_default.ensures.listed
