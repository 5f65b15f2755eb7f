-- What clearing the heads of chains leaves: those chains empty, and all bytes before the heads, where the slots of runs stand, as they were.
-- Assumes nothing.
use Rattle.std.specs.Prelude.{ℕ, ◌<◌, ◌≡◌, List, length, get_or}
use Rattle.slots.specs.Layout.{head_of}

-- of the chains those below `below` are empty
pub record Cleared (w : List ℕ) (below : ℕ) (w' : List ℕ) : Type 0 where
  pub same_length : length w' ≡ length w
  pub heads : (k : ℕ) → k < below → head_of w' k ≡ 0
  pub slots : (b : ℕ) → b < 16384 → get_or w' b 0 ≡ get_or w b 0
