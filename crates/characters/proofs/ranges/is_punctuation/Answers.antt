-- `characters::ranges::is_punctuation` meets its contract: past the last block nothing is, and within one the ranges that the index names are enough.
use mathlib.Core.Path.{◌∙◌}
use native.Mathlib.Omega.{arith}
use Rattle.characters.proofs.Window.{in_order_there, in_order_named, member_named, past_all}
use Rattle.characters.proofs.ranges.is_punctuation.Goals as goal

pub returns-then-c-ge131072 : goal.returns-then-c-ge131072
returns-then-c-ge131072 c = past_all _ c.if-c-ge131072.true

pub slice_bounds-in_ranges-count : goal.slice_bounds-in_ranges-count
slice_bounds-in_ranges-count c = omega (arith, in_order_there c.requires c.split_at.ensures.front c.split_at.ensures.back _ c.if-c-ge131072.false)

pub slice_bounds-in_ranges-start : goal.slice_bounds-in_ranges-start
slice_bounds-in_ranges-start c = omega (arith, in_order_there c.requires c.split_at.ensures.front c.split_at.ensures.back _ c.if-c-ge131072.false)

pub slice_bounds-in_ranges-end : goal.slice_bounds-in_ranges-end
slice_bounds-in_ranges-end c = omega (arith, in_order_there c.requires c.split_at.ensures.front c.split_at.ensures.back _ c.if-c-ge131072.false)

pub in_ranges-requires : goal.in_ranges-requires
in_ranges-requires c = in_order_named c.requires c.split_at.ensures.front c.split_at.ensures.back _ c.if-c-ge131072.false

pub returns : goal.returns
returns c = c.in_ranges.ensures ∙ member_named c.requires c.split_at.ensures.front c.split_at.ensures.back _ c.if-c-ge131072.false
