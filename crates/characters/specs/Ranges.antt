-- What a table of ranges means, and what it has to look like: the first and the last number of each range, one range after the other. An odd entry at the
-- end is no range.
-- Assumes nothing.
use Rattle.std.specs.Prelude.{ℕ, ◌+◌, ◌*◌, ◌/◌, ◌%◌, ◌<◌, ◌≤◌, ◌≡◌, Bool, true, false, ◌&&◌, ◌||◌, List, [], ◌∷◌, leb, length, get_or}

-- first ≤ c ≤ last
abbrev pub within : ℕ → ℕ → ℕ → Bool
within first last c = leb first c && leb c last

-- c lies in one of the ranges
unfoldable pub member : List ℕ → ℕ → Bool
member [] c = false
member (first ∷ []) c = false
member (first ∷ last ∷ t) c = within first last c || member t c

-- "in rising order and apart": the first range begins at `from` or later, none is empty, and between the end of one and the next one's beginning lies a
-- number at least
unfoldable pub rising : ℕ → List ℕ → Bool
rising from [] = true
rising from (first ∷ []) = true
rising from (first ∷ last ∷ t) = leb from first && (leb first last && rising (last + 2) t)

-- a table as the code has it: a range is one number, its first times 2,048 and how many follow
unfoldable pub unpacked : List ℕ → List ℕ
unpacked [] = []
unpacked (range ∷ t) = (range / 2048) ∷ (range / 2048 + range % 2048) ∷ unpacked t

-- the bounds of range number k
abbrev pub low : List ℕ → ℕ → ℕ
low t k = get_or t (2 * k) 0

abbrev pub high : List ℕ → ℕ → ℕ
high t k = get_or t (2 * k + 1) 0

-- c lies in range number k
pub record In (t : List ℕ) (k c : ℕ) : Type 0 where
  pub there : 2 * k + 1 < length t
  pub least : low t k ≤ c
  pub most : c ≤ high t k

-- What holds of tables. proofs/Order.antt proves these two, each under its name in small letters.

-- a member is what lies in one of the ranges, whatever their order
abbrev pub MemberIn : Type 0
MemberIn = (t : List ℕ) (c : ℕ) → (member t c ≡ true → (k : ℕ) × In t k c) × ((k : ℕ) → In t k c → member t c ≡ true)

-- of a table in rising order and apart: a range ends two below the beginning of any later one at most
abbrev pub RangesApart : Type 0
RangesApart = (t : List ℕ) → rising 0 t ≡ true → (j k : ℕ) → j < k → 2 * k + 1 < length t → (low t j ≤ high t j) × (high t j + 2 ≤ low t k)
