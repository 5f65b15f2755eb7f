-- The order of the refusals, for all tables of rows. Document 01: "Several at once: lowest number first, and within 3, 4 and 5 the earliest place".
-- The numbers are ranked by their place in one list, so that a new number can stand in it before a lower one. Each number that a row has must be in
-- the list: those that are not have one rank. The checks go through their tests in this order, and are proved to give the row that is the least by it.
-- Assumes nothing.
use Rattle.std.specs.Prelude.{ℕ, ◌+◌, ◌≤◌, ◌<◌, ◌≡◌, ◌⊎◌, List, [], ◌∷◌, eqb}
use Rattle.record.specs.Choice.{choose}

-- the numbers, the one that is given first standing first
abbrev pub order : List ℕ
order = 1 ∷ 2 ∷ 3 ∷ 4 ∷ 5 ∷ 6 ∷ 7 ∷ 8 ∷ []

-- how many of these stand before a number
unfoldable pub before : List ℕ → ℕ → ℕ
before [] n = 0
before (m ∷ ms) n = choose (eqb m n) 0 (before ms n + 1)

abbrev pub rank : ℕ → ℕ
rank n = before order n

-- of the rows that hold, the least: the number that comes first, and of its places the earliest
pub record Least (R : ℕ → ℕ → Type 0) (n p : ℕ) : Type 0 where
  pub holds : R n p
  pub least : (m q : ℕ) → R m q → (rank n < rank m) ⊎ ((n ≡ m) × (p ≤ q))
