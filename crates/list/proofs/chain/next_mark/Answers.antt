use Rattle.std.proofs.Common.{refl, sym, ap, ◌∙◌, arith}
use Rattle.record.proofs.ListedEvents.{length_of}
use Rattle.list.specs.Walk.{marked}
use Rattle.list.proofs.Nearest.{nothing_left, placed_on, parent_left, pair_left, item_found, item_inside, barred, passed}
use Rattle.list.proofs.chain.next_mark.Goals as goal

pub returns-then-depth-eq0 : goal.returns-then-depth-eq0
returns-then-depth-eq0 c = ap marked (parent_left c.loop-event.invariant _ _ c.in-Some.ensures.listed c.if-event-ne-ENTER.true c.if-depth-eq0.true)

pub loop-event-preserved-then-event-ne-ENTER : goal.loop-event-preserved-then-event-ne-ENTER
loop-event-preserved-then-event-ne-ENTER c = pair_left c.loop-event.invariant _ _ c.in-Some.ensures.listed c.if-event-ne-ENTER.true c.if-depth-eq0.false

pub returns-then-depth-ne0 : goal.returns-then-depth-ne0
returns-then-depth-ne0 c = ap marked (item_inside c.loop-event.invariant _ _ c.in-Some.ensures.listed c.if-event-ne-ENTER.false c.if-event-eq-LIST_ITEM.true c.if-depth-ne0.true)

pub item_mark-requires : goal.item_mark-requires
item_mark-requires c = placed_on c.loop-event.invariant _ _ c.in-Some.ensures.listed

pub returns-then-event-eq-LIST_ITEM : goal.returns-then-event-eq-LIST_ITEM
returns-then-event-eq-LIST_ITEM c =
    c.item_mark.ensures
    ∙ ap marked (item_found c.loop-event.invariant _ _ c.in-Some.ensures.listed c.if-event-ne-ENTER.false c.if-event-eq-LIST_ITEM.true c.if-depth-ne0.false _ refl)

pub returns-then-not-passes : goal.returns-then-not-passes
returns-then-not-passes c =
    ap marked (barred c.loop-event.invariant _ _ c.in-Some.ensures.listed c.if-event-ne-ENTER.false c.if-event-eq-LIST_ITEM.false (sym c.passes.ensures ∙ c.if-not-passes.true))

pub overflow_add-depth : goal.overflow_add-depth
overflow_add-depth c = omega (arith, c.loop-event.invariant.low, length_of c.args.behind, length_of c.loop-event.rest, c.in-Some.ensures.counted, c.ranges.behind)

pub loop-event-preserved : goal.loop-event-preserved
loop-event-preserved c =
    passed c.loop-event.invariant _ _ c.in-Some.ensures.listed c.if-event-ne-ENTER.false c.if-event-eq-LIST_ITEM.false (sym c.passes.ensures ∙ c.if-not-passes.false)

pub returns : goal.returns
returns c = ap marked (nothing_left c.loop-event.invariant c.in_default.ensures.listed)
