-- What is written reads back, in either form: a section, and a whole record, through the readers that stand beside their writers; and a good record is the
-- bytes of what is read from it. Said once, over a form or over how a record is handed over. Without these laws readers and writers could agree with the
-- code and not with each other. proofs/SectionReadsBack.antt, proofs/Records.antt and proofs/Rewritten.antt prove them.
-- Assumes nothing.
use Rattle.std.specs.Prelude.{ℕ, ◌+◌, ◌*◌, ◌≤◌, ◌<◌, ◌≡◌, ◌⊎◌, List, ◌++◌, length, take}
use Rattle.record.specs.Bytes.{u32_at}
use Rattle.record.specs.Check.{checked_in, fronted, accept}
use Rattle.record.specs.Event.{stored_at, section_at_in, record_bytes, document_in, events_in}
use Rattle.record.specs.Form.{old}
use Rattle.record.specs.Handed.{form_of, options_of}
use Rattle.record.specs.Partners.{section_in, record_in}
use Rattle.record.specs.ReadsBack.{stored, Storable, Holdable, AreBytes}
use Rattle.record.specs.Stack.{nth}
use Rattle.record.specs.declared.event.Event.{Event}
use Rattle.record.specs.declared.form.Form.{Form}
use Rattle.record.specs.declared.form.Handed.{Handed}
use Rattle.record.specs.declared.form.Handed.TheVariants.{Old, Second}
use Rattle.partners.specs.Laws.{partner_of}

-- at a place there is a section of these events in a form: its count, each by its number, all of them, and where events carry partner numbers, each event's
-- partner
pub record SectionThere (f : Form) (s : List ℕ) (at : ℕ) (es : List Event) : Type 0 where
  pub count : u32_at s at ≡ length es
  pub each : (k : ℕ) → k < length es → stored_at s (at + 4 + f.width * k) ≡ stored (nth es k)
  pub all : section_at_in f s at ≡ es
  pub mates : 12 ≤ f.width → (k : ℕ) → k < length es → u32_at s (at + 4 + f.width * k + 8) ≡ partner_of es k

-- "Each section follows its count", in the two forms that there are, whatever stands before and behind it. The events need not be sound, nor balanced
abbrev pub SectionReadsBack : Type 0
SectionReadsBack =
    (f : Form) → (f.width ≡ 8) ⊎ (f.width ≡ 12) → (before behind : List ℕ) (es : List Event) → length es < 4294967296 → Storable es →
    SectionThere f (before ++ (section_in f es ++ behind)) (length before) es

-- it is four bytes, and the width for each event
abbrev pub SectionLength : Type 0
SectionLength = (f : Form) (es : List Event) → (f.width ≡ 8) ⊎ (f.width ≡ 12) → length (section_in f es) ≡ 4 + f.width * length es

-- a record is handed over with these options: they stand beside the old form, and within form 2
pub data With : Handed → ℕ → Type 0 where
  beside : {options : ℕ} → With (Old options) options
  within : {options : ℕ} → With Second options

-- a record that is good, and what is read from it
pub record RecordThere (h : Handed) (options : ℕ) (s document : List ℕ) (es : List Event) : Type 0 where
  pub good : fronted h s (checked_in (form_of h) s) ≡ accept (length document) (length es)
  pub its_options : options_of h s ≡ options
  pub its_document : document_in (form_of h) s (length document) ≡ document
  pub its_events : events_in (form_of h) s (length document) (length es) ≡ es

abbrev pub RecordReadsBack : Type 0
RecordReadsBack =
    (h : Handed) (options : ℕ) (document : List ℕ) (es : List Event) → With h options → options ≤ 63 → Holdable document es →
    RecordThere h options (record_in (form_of h) options document es) document es

-- in the old form a record is what it was
abbrev pub OldRecord : Type 0
OldRecord = (options : ℕ) (document : List ℕ) (es : List Event) → record_in old options document es ≡ record_bytes document es

-- all numbers of a record are bytes
abbrev pub RecordIsBytes : Type 0
RecordIsBytes =
    (f : Form) (options : ℕ) (document : List ℕ) (es : List Event) → options ≤ 63 → AreBytes document → Holdable document es →
    AreBytes (record_in f options document es)

-- the other way: a good record is the bytes of the options, the document and the events that are read from it, and these a record may hold
pub record Rewritten (h : Handed) (s : List ℕ) (d e : ℕ) : Type 0 where
  pub same : s ≡ record_in (form_of h) (options_of h s) (document_in (form_of h) s d) (events_in (form_of h) s d e)
  pub options_known : options_of h s ≤ 63
  pub holdable : Holdable (document_in (form_of h) s d) (events_in (form_of h) s d e)
  -- what stands before its events, with a section of any other events behind it, is the record of its document and these
  pub other_events : (es : List Event) →
      take (4 + (form_of h).front + d) s ++ section_in (form_of h) es ≡ record_in (form_of h) (options_of h s) (document_in (form_of h) s d) es

abbrev pub GoodIsRewritten : Type 0
GoodIsRewritten = (h : Handed) (s : List ℕ) (d e : ℕ) → AreBytes s → fronted h s (checked_in (form_of h) s) ≡ accept d e → Rewritten h s d e
