-- What a reader finds, over the record's bytes and a number. Document 01: "A record reader holds the lent record and its own place in it."
-- Every definition has a value for all bytes: where a record is too short for what is asked, that is its end.
-- Assumes nothing.
use Rattle.std.specs.Prelude.{ℕ, ◌+◌, ◌*◌, ◌≤◌, ◌<◌, ◌≡◌, List, length, leb, ltb, Option, Some, None}
use Rattle.record.specs.Choice.{choose}
use Rattle.record.specs.Bytes.{u32_at}
use Rattle.record.specs.Form.{old}
use Rattle.record.specs.Event.{event_at, events_in}
use Rattle.record.specs.Stack.{nth}
use Rattle.record.specs.Check.{checked_in, accept}
use Rattle.record.specs.declared.event.Event.{Event}

-- the event whose eight bytes stand at a place, or nothing where the record ends before
unfoldable pub found_at : List ℕ → ℕ → Option Event
found_at s at = choose (leb (at + 8) (length s)) (Some (event_at s at)) None

-- a place, or the record's end if that comes first
unfoldable pub within : List ℕ → ℕ → ℕ
within s at = choose (leb at (length s)) at (length s)

-- the place so many events on
unfoldable pub past_events : List ℕ → ℕ → ℕ → ℕ
past_events s at events = within s (at + 8 * events)

-- "First the document: count D, D bytes. Then the events: count E": the first event stands after two counts and the document
unfoldable pub first_event : List ℕ → ℕ
first_event s = within s (8 + u32_at s 0)

-- what stands where event k would, the first being event 0, whatever the count says
unfoldable pub standing_at : List ℕ → ℕ → Option Event
standing_at s k = found_at s (8 + u32_at s 0 + 8 * k)

-- E, or 0 where the record ends before that count does
unfoldable pub count_of : List ℕ → ℕ
count_of s = choose (leb (8 + u32_at s 0) (length s)) (u32_at s (4 + u32_at s 0)) 0

-- event k of a record: its count says that it has one, and its bytes are there
unfoldable pub event_number : List ℕ → ℕ → Option Event
event_number s k = choose (ltb k (count_of s)) (standing_at s k) None

-- On a good record, of a document of d bytes and e events, event k is the k-th of its events, and from e on there is none: so these definitions,
-- which speak of any bytes, mean what document 01 calls a record's events. proofs/Numbered.antt proves both.
abbrev pub EventOfNumber : Type 0
EventOfNumber = (s : List ℕ) (d e k : ℕ) → checked_in old s ≡ accept d e → k < e → event_number s k ≡ Some (nth (events_in old s d e) k)

abbrev pub EndOfNumbers : Type 0
EndOfNumbers = (s : List ℕ) (d e k : ℕ) → checked_in old s ≡ accept d e → e ≤ k → event_number s k ≡ None
