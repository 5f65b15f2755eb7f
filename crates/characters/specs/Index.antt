-- The table of punctuation as the code has it: an index of 129 numbers, and then the ranges. For each 1,024 code points the index has the number of the first
-- range that ends there or later, or else of the last one, so that a look-up has few ranges to halve.
-- Assumes nothing.
use Rattle.std.specs.Prelude.{ℕ, ◌+◌, ◌-◌, ◌*◌, ◌<◌, ◌≡◌, Bool, true, ◌&&◌, ◌||◌, List, leb, ltb, eqb, length, get_or, drop}
use Rattle.characters.specs.Ranges.{unpacked, high}
use Rattle.characters.specs.Tables.{punctuation_ranges}

-- what is in a block that begins at a number is in the ranges from one to another, both included: the one before ends below the block, and the last of them ends
-- behind it or is the last of all
unfoldable pub enough : List ℕ → ℕ → ℕ → ℕ → Bool
enough t block from to =
    leb from to
    && (leb (2 * to + 2) (length t) && ((eqb from 0 || ltb (high t (from - 1)) block) && (eqb (2 * to + 2) (length t) || leb (block + 1024) (high t to))))

pub record Indexed (table : List ℕ) : Type 0 where
  pub size : length table ≡ 478
  pub ranges : unpacked (drop 129 table) ≡ punctuation_ranges
  pub blocks : (b : ℕ) → b < 128 → enough punctuation_ranges (1024 * b) (get_or table b 0) (get_or table (b + 1) 0) ≡ true
