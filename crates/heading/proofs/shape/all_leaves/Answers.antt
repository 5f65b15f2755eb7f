use Rattle.std.proofs.Common.{sym, ◌∙◌}
use Rattle.heading.proofs.Shapes.{leaf_alone, leaf_other, leaf_turn, leaves_none}
use Rattle.heading.proofs.shape.all_leaves.Goals as goal

pub returns-in_default-split_first : goal.returns-in_default-split_first
returns-in_default-split_first c = sym (leaf_alone _ _ _ c.in-Some.ensures.listed c.in_default-split_first.ensures.listed) ∙ c.loop-enter.invariant

pub returns-then-not-is_leaf : goal.returns-then-not-is_leaf
returns-then-not-is_leaf c =
    sym (leaf_other _ _ _ c.in-Some.ensures.listed _ _ c.in-Some-split_first.ensures.listed (sym c.is_leaf.ensures ∙ c.if-not-is_leaf.true)) ∙ c.loop-enter.invariant

pub loop-enter-preserved : goal.loop-enter-preserved
loop-enter-preserved c =
    sym (leaf_turn _ _ _ c.in-Some.ensures.listed _ _ c.in-Some-split_first.ensures.listed (sym c.is_leaf.ensures ∙ c.if-not-is_leaf.false)) ∙ c.loop-enter.invariant

pub returns : goal.returns
returns c = sym (leaves_none _ c.in_default.ensures.listed) ∙ c.loop-enter.invariant
