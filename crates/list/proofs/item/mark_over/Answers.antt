-- `list::item::mark_over` meets its contract: over one byte, or not.
use Rattle.std.proofs.Common.{refl, ap, ◌∙◌, arith}
use Rattle.record.proofs.ListedEvents.{length_of}
use Rattle.list.specs.Walk.{marked}
use Rattle.list.proofs.Shapes.{over_other, over_one}
use Rattle.list.proofs.item.mark_over.Goals as goal

pub returns-then-end-from : goal.returns-then-end-from
returns-then-end-from c = ap marked (over_other _ _ _ _ (omega (arith, length_of c.args.pair)) c.event-from.ensures c.event-end.ensures c.if-end-from.true)

pub returns : goal.returns
returns c = c.known_mark.ensures ∙ ap marked (over_one _ _ _ _ (omega (arith, length_of c.args.pair)) c.event-from.ensures c.event-end.ensures c.if-end-from.false _ refl)
