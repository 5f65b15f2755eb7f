-- The standard's rule (CommonMark 0.31) where an amendment has another in specs/Item.antt, and what the amendment makes of it: D9, on numbers.
-- specs/Cases.antt computes both, and D20, on lines.
-- Assumes nothing.
use Rattle.std.specs.Prelude.{ℕ, ◌+◌, ◌-◌, ◌*◌, ◌≡◌, Bool, List, [], ◌∷◌, eqb}
use Rattle.record.specs.Choice.{choose, and}
use Rattle.scan.specs.Run.{digit, leading}
use Rattle.lines.specs.Item.{starts_with_one}

-- the number that the digits in front say, after those that said n
unfoldable pub number_from : ℕ → List ℕ → ℕ
number_from n [] = n
number_from n (b ∷ l) = choose (digit b) (number_from (10 * n + (b - 48)) l) n

-- §5.2: the number of an ordered item that interrupts a paragraph must be 1
unfoldable pub standard_starts_with_one : List ℕ → Bool
standard_starts_with_one l = eqb (number_from 0 l) 1

-- Amendment D9: the number is 1, and has one digit
abbrev pub OneDigit : Type 0
OneDigit = (l : List ℕ) → starts_with_one l ≡ and (eqb (leading digit l) 1) (standard_starts_with_one l)
