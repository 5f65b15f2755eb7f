-- Stretches of bytes of one kind, and how far they are passed: what the scans in blocks promise. What a call answers is defined without these.
-- Assumes nothing.
use Rattle.std.specs.Prelude.{ℕ, ◌+◌, ◌≤◌, ◌<◌, ◌≡◌, Bool, true, false, not, ◌||◌, List, get_or, eqb}
use Rattle.record.specs.Choice.{choose}
use Rattle.record.specs.declared.blocks.ByteKind.{ByteKind}

-- either of two bytes, or neither
unfoldable pub of_kind : ByteKind → ℕ → Bool
of_kind k b = choose k.within (eqb b k.one || eqb b k.other) (not (eqb b k.one || eqb b k.other))

-- any byte but one
unfoldable pub is_not : ℕ → ℕ → Bool
is_not what b = not (eqb b what)

-- the bytes from one place up to another are all of a kind
pub record AllAre (kind : ℕ → Bool) (s : List ℕ) (from end : ℕ) : Type 0 where
  pub each : (p : ℕ) → from ≤ p → p < end → kind (get_or s p 0) ≡ true

-- a yes says that they are, a no that they are not
pub record Tells (kind : ℕ → Bool) (s : List ℕ) (from end : ℕ) (r : Bool) : Type 0 where
  pub yes : r ≡ true → AllAre kind s from end
  pub no : r ≡ false → AllAre kind s from end → ⊥

-- r is reached from one place on towards another in whole blocks: what is passed is all of the kind, and the next block, if it is there whole,
-- is not. With blocks of one byte, r is the place of the first byte of another kind, or `end`
pub record Passed (kind : ℕ → Bool) (s : List ℕ) (from end width r : ℕ) : Type 0 where
  pub low : from ≤ r
  pub high : r ≤ end
  pub before : AllAre kind s from r
  pub stops : r + width ≤ end → AllAre kind s r (r + width) → ⊥
