-- What is written reads back: a number and an event, each through the readers that stand beside its writer. Without these laws readers and writers could
-- agree with the code and not with each other. proofs/ReadsBack.antt proves them. What a section and a whole record read back as, in either form, is said in
-- crates/partners/specs/Records.antt; what that takes of events and documents is here.
-- Assumes nothing.
use Rattle.std.specs.Prelude.{ℕ, ◌+◌, ◌≤◌, ◌<◌, ◌≡◌, true, List, ◌++◌, length, get_or}
use Rattle.record.specs.Bytes.{u32_at, u32_bytes, Wrote}
use Rattle.record.specs.Event.{Stored, stored_at, bytes_of}
use Rattle.record.specs.Stack.{nth}
use Rattle.record.specs.Sound.{sound}
use Rattle.record.specs.declared.event.Event.{Event}

-- "counts and places are u32 little endian": a number's four bytes read as the number, whatever stands before and behind them
abbrev pub NumberReadsBack : Type 0
NumberReadsBack = (before behind : List ℕ) (n : ℕ) → n < 4294967296 → u32_at (before ++ (u32_bytes n ++ behind)) (length before) ≡ n

-- an event as it is stored, its two zero bytes zero
abbrev pub stored : Event → Stored
stored e = record { what = e; zeros = 0 }

-- "kind (0 enter, 1 exit), name, two zero bytes, place": an event's eight bytes read as the event
abbrev pub EventReadsBack : Type 0
EventReadsBack = (before behind : List ℕ) (e : Event) → e.place < 4294967296 → stored_at (before ++ (bytes_of e ++ behind)) (length before) ≡ stored e

-- the same of lent memory, by what `put_u32` and `put_event` promise of it
abbrev pub PutNumberReadsBack : Type 0
PutNumberReadsBack = (d d' : List ℕ) (at n : ℕ) → Wrote d at (u32_bytes n) d' → at + 4 ≤ length d → n < 4294967296 → u32_at d' at ≡ n

abbrev pub PutEventReadsBack : Type 0
PutEventReadsBack =
    (d d' : List ℕ) (at : ℕ) (e : Event) → Wrote d at (bytes_of e) d' → at + 8 ≤ length d → e.place < 4294967296 → stored_at d' at ≡ stored e

-- places that four bytes hold
abbrev pub Storable : List Event → Type 0
Storable es = (k : ℕ) → k < length es → (nth es k).place < 4294967296

-- a document and events that a record may hold. "D ≤ 16,384. E ≤ 2,048. Depth of open events ≤ 64"; numbers 4 and 5 say the rest
pub record Holdable (document : List ℕ) (es : List Event) : Type 0 where
  pub small : length document ≤ 16384
  pub no_return : (k : ℕ) → k < length document → get_or document k 0 ≡ 13 → ⊥
  pub few : length es ≤ 2048
  pub sound_events : sound 64 (length document) es ≡ true

-- numbers that are bytes, as all in lent memory are
abbrev pub AreBytes : List ℕ → Type 0
AreBytes s = (k : ℕ) → k < length s → get_or s k 0 < 256
