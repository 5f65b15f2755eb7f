-- `characters::ranges::is_space` meets its contract: nothing past the last range is a space, and the code's numbers are the definition's bounds, which are in
-- order.
use mathlib.Core.Path.{refl, ◌∙◌}
use Rattle.characters.specs.Ranges.{rising, unpacked}
use Rattle.characters.specs.Tables.{space_ranges}
use Rattle.characters.proofs.Window.{past_spaces, few_spaces}
use Rattle.characters.proofs.ranges.is_space.Goals as goal

pub returns-then-c-gt12288 : goal.returns-then-c-gt12288
returns-then-c-gt12288 c = past_spaces _ c.if-c-gt12288.true

pub in_ranges-requires : goal.in_ranges-requires
unfolding rising unpacked
in_ranges-requires c = refl

pub returns-then-c-lt5760 : goal.returns-then-c-lt5760
unfolding unpacked space_ranges
returns-then-c-lt5760 c = c.in_ranges.ensures ∙ few_spaces _ c.if-c-lt5760.true

pub in_ranges-requires-2 : goal.in_ranges-requires-2
unfolding rising unpacked
in_ranges-requires-2 c = refl

pub returns : goal.returns
unfolding unpacked space_ranges
returns c = c.in_ranges-2.ensures
