-- The options of a call. Document 01: "Options, summed: 1 attention, 2 strikethrough, 4 single tilde, 8 heading, 16 list item, 32 code indented."
-- Assumes nothing.
use Rattle.std.specs.Prelude.{ℕ, ◌/◌, ◌%◌, Bool, eqb}

-- "Options, summed": whether the option of a value (a power of two) is among them
unfoldable pub option_on : ℕ → ℕ → Bool
option_on options value = eqb (options / value % 2) 1
