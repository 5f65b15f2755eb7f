-- What the calls write reads back, in either form. The events read from an output, as many as the count that is read there says, are those of the
-- definition, and in form 2 each has its partner's number behind it; and the same document before the events that were written is a record again, which
-- the form's reader accepts, where its counts and its depth allow.
-- These are the statements; proofs/ReadsBack.antt proves each for every record or line, every option number and all buffers.
-- Assumes nothing.
use Rattle.std.specs.Prelude.{ℕ, ◌+◌, ◌*◌, ◌≤◌, ◌<◌, ◌≡◌, List, ◌++◌, length, take}
use Rattle.record.specs.Bytes.{u32_at}
use Rattle.record.specs.Event.{section_at, section_at_in}
use Rattle.record.specs.Handed.{form_of, options_of}
use Rattle.record.specs.Partners.{record_in}
use Rattle.record.specs.Sound.{OpenAtMost}
use Rattle.record.specs.Rows.{document_count_in}
use Rattle.record.specs.ReadsBack.{AreBytes, Holdable}
use Rattle.record.specs.Outcome.{Resolution, gives}
use Rattle.record.specs.declared.event.Event.{Event}
use Rattle.record.specs.declared.form.Handed.{Handed}
use Rattle.record.specs.declared.form.Handed.TheVariants.{Old, Second}
use Rattle.partners.specs.Laws.{partner_of}
use Rattle.partners.specs.Records.{With}
use Rattle.scan.specs.Line.{line_of}
use Rattle.atx.specs.Heading.{heading_events}
use Rattle.runs.specs.Rule.{Profile}
use Rattle.attention.specs.Attention.{attention}
use Rattle.heading.specs.Headings.{headings}
use Rattle.list.specs.Lists.{lists}
use Rattle.ledgerlark.specs.Answers.{ReadAs, Read2As, AttentionBy, HeadingsBy, ListsBy, HeadedAs}
use Rattle.ledgerlark.specs.declared.resolve.LarkReading.{LarkReading}
use Rattle.ledgerlark.specs.declared.resolve.LarkReading2.{LarkReading2}
use Rattle.ledgerlark.specs.declared.resolve.LarkResolved.{LarkResolved}
use Rattle.ledgerlark.specs.declared.line.LarkHeaded.{LarkHeaded}
use Rattle.claims.specs.Records.{doc_of, all_events}

-- the form's reader accepts a record, and answers these counts: `lark_read` with the options beside it, or `lark_read2`, which answers them too
abbrev pub ReaderAccepts : Handed → List ℕ → ℕ → ℕ → Type 0
ReaderAccepts (Old options) s d e =
    (work : List ℕ) (r : LarkReading) (work' : List ℕ) → 65536 ≤ length work → ReadAs s options work r work' →
    r ≡ record { number = 0; place = 0; document = d; events = e }
ReaderAccepts Second s d e =
    (work : List ℕ) (r : LarkReading2) (work' : List ℕ) → 65536 ≤ length work → Read2As s work r work' →
    r ≡ record { number = 0; place = 0; options = options_of Second s; document = d; events = e }

-- the other way: a record that its reader accepts is the bytes of its options, its document and its events, and these a record may hold. That its numbers are
-- bytes is so in lent memory
pub record IsRecord (h : Handed) (options : ℕ) (s : List ℕ) : Type 0 where
  pub same : s ≡ record_in (form_of h) options (doc_of h s) (all_events h s)
  pub holdable : Holdable (doc_of h s) (all_events h s)

abbrev pub AcceptedIsRecord : Type 0
AcceptedIsRecord =
    (s : List ℕ) (options : ℕ) (work : List ℕ) (r : LarkReading) (work' : List ℕ) → ReadAs s options work r work' → r.number ≡ 0 → AreBytes s →
    IsRecord (Old options) options s

-- in form 2 the options are those that are answered
abbrev pub AcceptedIsRecord2 : Type 0
AcceptedIsRecord2 =
    (s work : List ℕ) (r : LarkReading2) (work' : List ℕ) → Read2As s work r work' → r.number ≡ 0 → AreBytes s → IsRecord Second r.options s

-- the record made of options, a document and events is accepted by its form's reader, and is read as these
pub record ReadAgain (h : Handed) (options : ℕ) (document : List ℕ) (es : List Event) : Type 0 where
  pub accepted : ReaderAccepts h (record_in (form_of h) options document es) (length document) (length es)
  pub its_options : options_of h (record_in (form_of h) options document es) ≡ options
  pub its_document : doc_of h (record_in (form_of h) options document es) ≡ document
  pub its_events : all_events h (record_in (form_of h) options document es) ≡ es

-- whatever the options, and in whichever form
abbrev pub ReadAgainInEither : List ℕ → List Event → Type 0
ReadAgainInEither document es = (h : Handed) (options : ℕ) → With h options → options ≤ 63 → ReadAgain h options document es

-- a resolver's output: `made` is what its definition makes of the record. In memory the new record is what stands in front of the old one's events, as it
-- is, then the section as it stands in the output. That its events are sound, but for the depth, need not be asked
pub record ResolvedReadsBack (h : Handed) (made : Resolution) (s : List ℕ) (r : LarkResolved) (out' : List ℕ) : Type 0 where
  pub events : made ≡ gives (section_at_in (form_of h) out' 0)
  pub count : u32_at out' 0 ≡ r.events
  pub mates : 12 ≤ (form_of h).width → (k : ℕ) → k < r.events → u32_at out' (4 + (form_of h).width * k + 8) ≡ partner_of (section_at_in (form_of h) out' 0) k
  pub in_memory : AreBytes s →
      take (4 + (form_of h).front + document_count_in (form_of h) s) s ++ take (4 + (form_of h).width * r.events) out'
      ≡ record_in (form_of h) (options_of h s) (doc_of h s) (section_at_in (form_of h) out' 0)
  pub again : r.events ≤ 2048 → OpenAtMost 64 (section_at_in (form_of h) out' 0) → ReadAgainInEither (doc_of h s) (section_at_in (form_of h) out' 0)

abbrev pub AttentionReadsBack : Type 0
AttentionReadsBack =
    (profile : Profile) (h : Handed) (s : List ℕ) (out work : List ℕ) (r : LarkResolved) (out' work' : List ℕ) →
    AttentionBy profile h s out work r out' work' → r.number ≡ 0 →
    ResolvedReadsBack h (attention profile (options_of h s) (doc_of h s) (all_events h s)) s r out'

abbrev pub HeadingsReadBack : Type 0
HeadingsReadBack =
    (h : Handed) (s : List ℕ) (out work : List ℕ) (r : LarkResolved) (out' work' : List ℕ) →
    HeadingsBy h s out work r out' work' → r.number ≡ 0 → ResolvedReadsBack h (headings (all_events h s)) s r out'

abbrev pub ListsReadBack : Type 0
ListsReadBack =
    (h : Handed) (s : List ℕ) (out work : List ℕ) (r : LarkResolved) (out' work' : List ℕ) →
    ListsBy h s out work r out' work' → r.number ≡ 0 → ResolvedReadsBack h (lists (doc_of h s) (all_events h s)) s r out'

-- the heading reader's output, where it finds a heading: a record of the line. Its section is of the old form. Two of its events are open at most, so the
-- depth allows it
pub record HeadedReadsBack (s : List ℕ) (r : LarkHeaded) (out' : List ℕ) : Type 0 where
  pub events : section_at out' 0 ≡ heading_events (line_of s)
  pub count : u32_at out' 0 ≡ r.events
  pub again : r.events ≤ 2048 → ReadAgainInEither (line_of s) (section_at out' 0)

abbrev pub HeadingReadsBack : Type 0
HeadingReadsBack =
    (s : List ℕ) (options column : ℕ) (out : List ℕ) (r : LarkHeaded) (out' : List ℕ) → HeadedAs s options column out r out' → r.found ≡ 1 →
    HeadedReadsBack s r out'
