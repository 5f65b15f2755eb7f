-- The tables' ranges are in rising order and apart: one test over each whole table, which antt computes.
-- Assumes nothing.
use Rattle.std.specs.Prelude.{◌≡◌, refl, true}
use Rattle.characters.specs.Ranges.{rising}
use Rattle.characters.specs.Tables.{punctuation_ranges, space_ranges}

pub punctuation_ordered : rising 0 punctuation_ranges ≡ true
unfolding rising punctuation_ranges
punctuation_ordered = refl

pub spaces_ordered : rising 0 space_ranges ≡ true
unfolding rising space_ranges
spaces_ordered = refl
