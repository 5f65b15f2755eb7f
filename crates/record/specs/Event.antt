-- Events and their bytes. Document 01: "E events of 8 bytes: kind (0 enter, 1 exit), name, two zero bytes, place."
-- Assumes nothing.
use Rattle.std.specs.Prelude.{ℕ, zero, suc, ◌+◌, ◌*◌, List, [], ◌∷◌, ◌++◌, length, get_or, take, drop}
use Rattle.record.specs.Bytes.{u32_at, u32_bytes}
use Rattle.record.specs.Form.{old}
use Rattle.record.specs.declared.event.Event.{Event}
use Rattle.record.specs.declared.form.Form.{Form}

abbrev pub event : ℕ → ℕ → ℕ → Event
event kind name place = record { kind = kind; name = name; place = place }

abbrev pub enter : ℕ → ℕ → Event
enter name place = event 0 name place

abbrev pub exit : ℕ → ℕ → Event
exit name place = event 1 name place

-- the event whose eight bytes stand at a place
abbrev pub event_at : List ℕ → ℕ → Event
event_at s at = event (get_or s at 0) (get_or s (at + 1) 0) (u32_at s (at + 4))

-- an event as it is stored, with the two bytes that have to be zero, as one number
pub record Stored : Type 0 where
  pub what : Event
  pub zeros : ℕ

abbrev pub stored_at : List ℕ → ℕ → Stored
stored_at s at = record { what = event_at s at; zeros = get_or s (at + 2) 0 + 256 * get_or s (at + 3) 0 }

-- n events from a place on, each `width` bytes after the one before
unfoldable pub all_stored_at : ℕ → ℕ → List ℕ → ℕ → List Stored
all_stored_at width zero s at = []
all_stored_at width (suc n) s at = stored_at s at ∷ all_stored_at width n s (at + width)

-- the same as events
unfoldable pub events_by : ℕ → ℕ → List ℕ → ℕ → List Event
events_by width zero s at = []
events_by width (suc n) s at = event_at s at ∷ events_by width n s (at + width)

-- an event's eight bytes
abbrev pub event_bytes : ℕ → ℕ → ℕ → List ℕ
event_bytes kind name place = kind ∷ name ∷ 0 ∷ 0 ∷ u32_bytes place

abbrev pub bytes_of : Event → List ℕ
bytes_of e = event_bytes e.kind e.name e.place

unfoldable pub flat : List Event → List ℕ
flat [] = []
flat (e ∷ es) = bytes_of e ++ flat es

-- "Each section follows its count": how many, then each
unfoldable pub section_bytes : List Event → List ℕ
section_bytes es = u32_bytes (length es) ++ flat es

-- the events of the section that stands at a place, in a form: as many as its count says
abbrev pub section_at_in : Form → List ℕ → ℕ → List Event
section_at_in f s at = events_by f.width (u32_at s at) s (at + 4)

-- in the old form
abbrev pub section_at : List ℕ → ℕ → List Event
section_at s at = section_at_in old s at

-- "First the document: count D, D bytes. Then the events": a document before its section
unfoldable pub record_bytes : List ℕ → List Event → List ℕ
record_bytes document es = u32_bytes (length document) ++ (document ++ section_bytes es)

-- the parts of a good record of a form, whose counts are d and e
unfoldable pub document_in : Form → List ℕ → ℕ → List ℕ
document_in f s d = take d (drop (4 + f.front) s)

unfoldable pub events_in : Form → List ℕ → ℕ → ℕ → List Event
events_in f s d e = events_by f.width e s (8 + f.front + d)
