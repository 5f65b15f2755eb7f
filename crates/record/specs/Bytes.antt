-- Numbers as bytes, and what a write into lent memory leaves. Document 01: "counts and places are u32 little endian".
-- Assumes nothing.
use Rattle.std.specs.Prelude.{ℕ, ◌+◌, ◌*◌, ◌/◌, ◌%◌, ◌≡◌, List, [], ◌∷◌, get_or}
use Rattle.std.proofs.lemmas.List.Edits.{sets}

-- the number that the four bytes at a place make, the lowest first
abbrev pub u32_at : List ℕ → ℕ → ℕ
u32_at s at = get_or s at 0 + 256 * get_or s (at + 1) 0 + 65536 * get_or s (at + 2) 0 + 16777216 * get_or s (at + 3) 0

-- a number as four bytes, the lowest first
abbrev pub u32_bytes : ℕ → List ℕ
u32_bytes x = x % 256 ∷ x / 256 % 256 ∷ x / 65536 % 256 ∷ x / 16777216 % 256 ∷ []

-- d' is d with xs stored from index at on, and else as it was. A record and not an equation, so that a proof that puts writes together
-- need not name d, at and xs.
pub record Wrote (d : List ℕ) (at : ℕ) (xs d' : List ℕ) : Type 0 where
  pub same : d' ≡ sets d at xs
