-- Document 01's number 6 for attention, as its table has it: "the resolver's own shape rule is broken", at the "enter event of the earliest
-- offending run". The shape is said once more, as what a run may look like and not as a test.
-- Assumes nothing.
use Rattle.std.specs.Prelude.{ℕ, suc, ◌/◌, ◌%◌, ◌<◌, ◌≤◌, ◌≡◌, List, ◌∷◌, length, drop, get_or}
use Rattle.record.specs.Event.{exit}
use Rattle.record.specs.Stack.{nth}
use Rattle.record.specs.declared.event.Event.{Event}

-- "Options, summed": the one of this value is on
abbrev pub On : ℕ → ℕ → Type 0
On options value = options / value % 2 ≡ 1

-- "one marker `*`, `_` or `~`", and "its option is on (1 for `*` and `_`, 2 for `~`)"
pub data Marker (options : ℕ) : ℕ → Type 0 where
  star : On options 1 → Marker options 42
  line : On options 1 → Marker options 95
  tilde : On options 2 → Marker options 126

-- what follows the enter of a run at the place `from`: "at once left, at a later place; all bytes between are one marker ..; the byte after is
-- not that marker (the byte before may be)"
pub record Shape (doc : List ℕ) (options from : ℕ) (es : List Event) : Type 0 where
  pub to : ℕ
  pub rest : List Event
  pub marker : ℕ
  pub left_at_once : es ≡ exit 1 to ∷ rest
  pub later : from < to
  pub known : Marker options marker
  pub all_alike : (i : ℕ) → from ≤ i → i < to → get_or doc i 0 ≡ marker
  pub ends_there : to < length doc → get_or doc to 0 ≡ marker → ⊥

-- event k enters a run, and is followed by something else
pub record Offends (doc : List ℕ) (options : ℕ) (es : List Event) (k : ℕ) : Type 0 where
  pub within : k < length es
  pub enters : (nth es k).kind ≡ 0
  pub run : (nth es k).name ≡ 1
  pub unlike : Shape doc options (nth es k).place (drop (suc k) es) → ⊥
