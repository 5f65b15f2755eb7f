-- `list::item::item_mark` meets its contract: each return is a way in which the shape is broken, but the last, where it is whole.
use Rattle.std.proofs.Common.{refl, sym, ap, ◌∙◌, arith}
use Rattle.record.proofs.ListedEvents.{length_of}
use Rattle.list.specs.Walk.{marked}
use Rattle.list.proofs.Shapes.{no_prefix, no_marker, more_inside, whole_prefix, two_there, placed_leaf, placed_behind}
use Rattle.list.proofs.item.item_mark.Goals as goal

pub returns-then-not-stands : goal.returns-then-not-stands
returns-then-not-stands c = ap marked (no_prefix _ _ c.past_leaf-prefix.ensures.listed (sym c.stands.ensures ∙ c.if-not-stands.true))

pub returns-then-not-leaf : goal.returns-then-not-leaf
returns-then-not-leaf c =
    ap marked (no_marker _ _ c.past_leaf-prefix.ensures.listed (sym c.stands.ensures ∙ c.if-not-stands.false) c.skip.ensures.listed c.past_leaf-marker.ensures.listed (sym c.leaf.ensures ∙ c.if-not-leaf.true))

pub returns-then-not-stands-2 : goal.returns-then-not-stands-2
returns-then-not-stands-2 c =
    ap marked (more_inside _ _ c.past_leaf-prefix.ensures.listed (sym c.stands.ensures ∙ c.if-not-stands.false) c.skip.ensures.listed c.past_leaf-marker.ensures.listed
    (sym c.leaf.ensures ∙ c.if-not-leaf.false) c.skip-2.ensures.listed c.past_leaf-end.ensures.listed (sym c.stands-2.ensures ∙ c.if-not-stands-2.true))

pub mark_over-requires : goal.mark_over-requires
mark_over-requires c =
    let prefix = placed_leaf _ _ _ _ c.past_leaf-prefix.ensures.listed c.requires in
    let behind = placed_behind _ _ 1 _ c.skip.ensures.listed prefix in
    let n = two_there _ _ (sym c.leaf.ensures ∙ c.if-not-leaf.false) in
    (placed_leaf _ _ _ _ c.past_leaf-marker.ensures.listed behind, omega (arith, n, length_of c.past_leaf-marker.result))

pub returns : goal.returns
returns c =
    c.mark_over.ensures
    ∙ ap marked (whole_prefix _ _ c.past_leaf-prefix.ensures.listed (sym c.stands.ensures ∙ c.if-not-stands.false) c.skip.ensures.listed c.past_leaf-marker.ensures.listed
    (sym c.leaf.ensures ∙ c.if-not-leaf.false) c.skip-2.ensures.listed c.past_leaf-end.ensures.listed (sym c.stands-2.ensures ∙ c.if-not-stands-2.false) _ refl)
