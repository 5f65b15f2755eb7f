-- The partner fields of events that stand in memory.
-- Assumes nothing.
use Rattle.std.specs.Prelude.{ℕ, zero, suc, ◌+◌, List, [], ◌∷◌}
use Rattle.record.specs.Bytes.{u32_at}

-- the numbers behind the eight bytes of n events, each event `width` bytes after the one before
unfoldable pub fields_by : ℕ → ℕ → List ℕ → ℕ → List ℕ
fields_by width zero s at = []
fields_by width (suc n) s at = u32_at s (at + 8) ∷ fields_by width n s (at + width)
