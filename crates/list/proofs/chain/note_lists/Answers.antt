use Rattle.std.proofs.Common.{[], ◌+◌, refl, sym, ap, ◌∙◌, arith}
use Rattle.record.proofs.ListedEvents.{length_of}
use Rattle.list.specs.Walk.{mark_in, marked, nearest}
use Rattle.list.proofs.Shapes.{sound_placed, placed_behind}
use Rattle.list.proofs.Notings.{start, finished, other, room_inside, coming, right_behind, broken, entered, some_open, left_one}
use Rattle.list.proofs.chain.note_lists.Goals as goal

pub loop-i-init : goal.loop-i-init
loop-i-init c = start _ _ _ _ c.requires.0 c.requires.2 refl

pub loop-i-preserved-then-event-ne-LIST_ITEM : goal.loop-i-preserved-then-event-ne-LIST_ITEM
loop-i-preserved-then-event-ne-LIST_ITEM c =
    other c.loop-i.invariant (omega (arith, length_of c.args.events)) _ c.event-event.ensures c.if-event-ne-LIST_ITEM.true c.loop-i.invariant.room (omega (arith, length_of c.args.events))

pub returns-then-behind : goal.returns-then-behind
returns-then-behind c =
    right_behind c.loop-i.invariant (omega (arith, length_of c.args.events)) _ c.event-event.ensures c.if-event-ne-LIST_ITEM.false c.if-event-eq-ENTER.true c.if-behind.true

pub mark_here-requires-clause-placed : goal.mark_here-requires-clause-placed
mark_here-requires-clause-placed c = placed_behind _ _ (c.loop-i.i + 1) _ c.skip-onward.ensures.listed (sound_placed _ 0 [] _ c.requires.0)

pub mark_here-requires-clause-looked : goal.mark_here-requires-clause-looked
mark_here-requires-clause-looked c =
    λ z. coming c.loop-i.invariant (omega (arith, length_of c.args.events)) _ c.event-event.ensures c.if-event-ne-LIST_ITEM.false c.if-event-eq-ENTER.true z
    ∙ sym (ap (λ es. marked (mark_in c.args.document.now es)) c.skip-onward.ensures.listed)

pub returns-in_default : goal.returns-in_default
returns-in_default c =
    broken c.loop-i.invariant (omega (arith, length_of c.args.events)) _ c.event-event.ensures c.if-event-ne-LIST_ITEM.false c.if-event-eq-ENTER.true c.if-behind.false
    (c.in_default.ensures ∙ ap (λ es. marked (mark_in c.args.document.now es)) c.skip-onward.ensures.listed)

pub bounds-held-open : goal.bounds-held-open
bounds-held-open c =
    room_inside c.loop-i.invariant (omega (arith, length_of c.args.events)) _ c.event-event.ensures c.if-event-ne-LIST_ITEM.false c.if-event-eq-ENTER.true

pub loop-i-preserved-then-event-eq-ENTER : goal.loop-i-preserved-then-event-eq-ENTER
loop-i-preserved-then-event-eq-ENTER c =
    entered c.loop-i.invariant (omega (arith, length_of c.args.events)) _ c.event-event.ensures c.if-event-ne-LIST_ITEM.false c.if-event-eq-ENTER.true c.if-behind.false _
    (c.in-Some.ensures ∙ ap (λ es. marked (mark_in c.args.document.now es)) c.skip-onward.ensures.listed) c.loop-i.invariant.room
    (omega (arith, length_of c.args.events)) _ _ c.unless_joined-n.ensures c.more-count.ensures.0 c.more-count.ensures.1

pub overflow_sub-top : goal.overflow_sub-top
overflow_sub-top c =
    some_open c.loop-i.invariant (omega (arith, length_of c.args.events)) _ c.event-event.ensures c.if-event-ne-LIST_ITEM.false c.if-event-eq-ENTER.false

pub next_mark-found-requires : goal.next_mark-found-requires
next_mark-found-requires c = placed_behind _ _ (c.loop-i.i + 1) _ c.skip-onward.ensures.listed (sound_placed _ 0 [] _ c.requires.0)

pub loop-i-preserved : goal.loop-i-preserved
loop-i-preserved c =
    left_one c.loop-i.invariant (omega (arith, length_of c.args.events)) _ c.event-event.ensures c.if-event-ne-LIST_ITEM.false c.if-event-eq-ENTER.false c.loop-i.invariant.room
    (omega (arith, length_of c.args.events)) _ _ refl (c.next_mark-found.ensures ∙ ap (λ es. marked (nearest c.args.document.now 0 es)) c.skip-onward.ensures.listed)
    _ c.eq-joined.ensures _ _ c.unless_joined-n-in-loop-i.ensures c.more-count-in-loop-i.ensures.0 c.more-count-in-loop-i.ensures.1

pub returns : goal.returns
returns c = finished c.loop-i.invariant (omega (arith, length_of c.args.events))
