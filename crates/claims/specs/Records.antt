-- The claims of the calls on a record, as C sees them: `lark_read`, `lark_resolve_attention`, `lark_resolve_headings`, `lark_resolve_lists`, and those of
-- form 2, which end in 2.
-- For each: any two results that its promise allows are equal; what a buffer held before is in nothing that it answers or writes; each
-- number is given exactly when the table says; no refusal writes; and what number 0 comes with, in the answer and in the output. These are the
-- statements; proofs/Records.antt proves each for every record, in either form.
-- Assumes nothing.
use Rattle.std.specs.Prelude.{ℕ, ◌<◌, ◌≤◌, ◌≡◌, List, length, get_or, take, drop, replicate}
use Rattle.record.specs.Event.{document_in, events_in}
use Rattle.record.specs.Form.{old, second}
use Rattle.record.specs.Handed.{form_of, options_of}
use Rattle.record.specs.Partners.{section_in}
use Rattle.record.specs.Rows.{Row, document_count_in, event_count_in}
use Rattle.record.specs.Written.{WrittenRow}
use Rattle.record.specs.Outcome.{Resolution, gives, onto, bytes_written}
use Rattle.record.specs.declared.event.Event.{Event}
use Rattle.record.specs.declared.form.Form.{Form}
use Rattle.record.specs.declared.form.Handed.{Handed}
use Rattle.record.specs.declared.form.Handed.TheVariants.{Old, Second}
use Rattle.runs.specs.Rule.{Profile}
use Rattle.runs.specs.Pieces.{outcome}
use Rattle.attention.specs.Attention.{attention}
use Rattle.attention.specs.Promise as attentionCall
use Rattle.attention.specs.Shape.{Offends as RunOffends}
use Rattle.heading.specs.Headings.{headings}
use Rattle.heading.specs.Promise as headingsCall
use Rattle.heading.specs.Shape.{Broken as HeadingOffends}
use Rattle.list.specs.Lists.{lists}
use Rattle.list.specs.Promise as listsCall
use Rattle.list.specs.Offence.{Offends as ItemOffends}
use Rattle.ledgerlark.specs.Answers.{ReadAs, Read2As, AttentionBy, HeadingsBy, ListsBy}
use Rattle.ledgerlark.specs.declared.resolve.LarkReading.{LarkReading}
use Rattle.ledgerlark.specs.declared.resolve.LarkReading2.{LarkReading2}
use Rattle.ledgerlark.specs.declared.resolve.LarkResolved.{LarkResolved}
use Rattle.claims.specs.Told.{Told}

-- a record's document and its events, by its two counts, however it is handed over
abbrev pub doc_of : Handed → List ℕ → List ℕ
doc_of h s = document_in (form_of h) s (document_count_in (form_of h) s)

abbrev pub all_events : Handed → List ℕ → List Event
all_events h s = events_in (form_of h) s (document_count_in (form_of h) s) (event_count_in (form_of h) s)

-- "A refusal returns its number and place, all else zero"

abbrev pub read_refusal : ℕ → ℕ → LarkReading
read_refusal n p = record { number = n; place = p; document = 0; events = 0 }

abbrev pub read2_refusal : ℕ → ℕ → LarkReading2
read2_refusal n p = record { number = n; place = p; options = 0; document = 0; events = 0 }

abbrev pub refusal : ℕ → ℕ → LarkResolved
refusal n p = record { number = n; place = p; events = 0; groups = 0; tried = 0 }

-- every call that reads, once

-- the claim of a call that reads, of one record as it is handed over: `As` is the promise, `number` and `place` read an answer, `refusal` makes one, and
-- `good` is the answer with number 0
pub record ReadClaim {A : Type 0} (h : Handed) (s : List ℕ) (number place : A → ℕ) (refusal : ℕ → ℕ → A) (good : A) (As : List ℕ → A → List ℕ → Type 0) : Type 0 where
  pub unique : (work : List ℕ) (r₁ r₂ : A) (w₁ w₂ : List ℕ) → As work r₁ w₁ → As work r₂ w₂ → (r₁ ≡ r₂) × (w₁ ≡ w₂)
  pub isolated : (work₁ work₂ : List ℕ) (r₁ r₂ : A) (w₁ w₂ : List ℕ) → length work₁ ≡ length work₂ →
      As work₁ r₁ w₁ → As work₂ r₂ w₂ → (r₁ ≡ r₂) × (w₁ ≡ w₂)
  pub exactly : (work : List ℕ) (r : A) (work' : List ℕ) → As work r work' → Told number place refusal (Row h s (length work)) r
  pub accepts : (work : List ℕ) (r : A) (work' : List ℕ) → As work r work' → number r ≡ 0 → r ≡ good
  pub wiped : (work : List ℕ) (r : A) (work' : List ℕ) → As work r work' → work' ≡ replicate (length work) 0

-- lark_read
abbrev pub ReadingClaim : Type 0
ReadingClaim =
    (s : List ℕ) (options : ℕ) →
    ReadClaim (Old options) s (λ (x : LarkReading). x.number) (λ (x : LarkReading). x.place) read_refusal
    (record { number = 0; place = 0; document = document_count_in old s; events = event_count_in old s }) (ReadAs s options)

-- lark_read2: beside the counts the options, the byte that stands behind the first count
abbrev pub Reading2Claim : Type 0
Reading2Claim =
    (s : List ℕ) →
    ReadClaim Second s (λ (x : LarkReading2). x.number) (λ (x : LarkReading2). x.place) read2_refusal
    (record { number = 0; place = 0; options = get_or s 4 0; document = document_count_in second s; events = event_count_in second s }) (Read2As s)

-- every call that writes, once

-- number 0, and how much was made
abbrev pub resolved : ℕ → ℕ → ℕ → LarkResolved
resolved events groups tried = record { number = 0; place = 0; events = events; groups = groups; tried = tried }

-- two calls on one record, handed over in one way, on two pairs of buffers of the same lengths, whatever these held: the same answer, the same
-- bytes written, work memory alike, and behind what is written each output as it was
pub record Isolated (bytes out₁ out₂ : List ℕ) (r₁ r₂ : LarkResolved) (o₁ o₂ w₁ w₂ : List ℕ) : Type 0 where
  pub answer : r₁ ≡ r₂
  pub first : take (length bytes) o₁ ≡ bytes
  pub second : take (length bytes) o₂ ≡ bytes
  pub first_kept : drop (length bytes) o₁ ≡ drop (length bytes) out₁
  pub second_kept : drop (length bytes) o₂ ≡ drop (length bytes) out₂
  pub work : w₁ ≡ w₂

abbrev pub Numbered : (ℕ → ℕ → Type 0) → LarkResolved → Type 0
Numbered R r = Told (λ (x : LarkResolved). x.number) (λ (x : LarkResolved). x.place) refusal R r

-- with number 0 the resolver's definition makes events of the record: they are counted, with the groups and the candidates tried, and written
pub record Accepts (f : Form) (made : Resolution) (groups tried : ℕ) (out : List ℕ) (r : LarkResolved) (out' : List ℕ) : Type 0 where
  pub events : List Event
  pub made_so : made ≡ gives events
  pub answer : r ≡ resolved (length events) groups tried
  pub written : out' ≡ onto (section_in f events) out

-- the claim of a call that writes, of one record as it is handed over: `Offends` says which enter events break the shape rule, `made` is what
-- the definition makes of the record, `groups` and `tried` are counted with it, `As` is the promise, and `bytes` what is written with an output
-- and a work memory of these lengths
pub record Claim (h : Handed) (s : List ℕ) (Offends : ℕ → Type 0) (made : Resolution) (groups tried : ℕ)
    (As : List ℕ → List ℕ → LarkResolved → List ℕ → List ℕ → Type 0) (bytes : ℕ → ℕ → List ℕ) : Type 0 where
  pub unique : (out work : List ℕ) (r₁ r₂ : LarkResolved) (o₁ o₂ w₁ w₂ : List ℕ) →
      As out work r₁ o₁ w₁ → As out work r₂ o₂ w₂ → (r₁ ≡ r₂) × (o₁ ≡ o₂) × (w₁ ≡ w₂)
  pub isolated : (out₁ out₂ work₁ work₂ : List ℕ) (r₁ r₂ : LarkResolved) (o₁ o₂ w₁ w₂ : List ℕ) →
      length out₁ ≡ length out₂ → length work₁ ≡ length work₂ → As out₁ work₁ r₁ o₁ w₁ → As out₂ work₂ r₂ o₂ w₂ →
      Isolated (bytes (length out₁) (length work₁)) out₁ out₂ r₁ r₂ o₁ o₂ w₁ w₂
  pub exactly : (out work : List ℕ) (r : LarkResolved) (out' work' : List ℕ) → As out work r out' work' →
      Numbered (WrittenRow h s (length work) Offends made (length out)) r
  pub refusal_writes_nothing : (out work : List ℕ) (r : LarkResolved) (out' work' : List ℕ) → As out work r out' work' → 0 < r.number → out' ≡ out
  pub accepts : (out work : List ℕ) (r : LarkResolved) (out' work' : List ℕ) → As out work r out' work' → r.number ≡ 0 →
      Accepts (form_of h) made groups tried out r out'
  pub fits : (out work : List ℕ) → length (bytes (length out) (length work)) ≤ length out
  pub wiped : (out work : List ℕ) (r : LarkResolved) (out' work' : List ℕ) → As out work r out' work' → work' ≡ replicate (length work) 0

-- lark_resolve_attention and lark_resolve_attention2, over any profile: what offends is a run; the groups and the candidates tried are the plain rule's
abbrev pub AttentionClaim : Type 0
AttentionClaim =
    (profile : Profile) (h : Handed) (s : List ℕ) →
    Claim h s (RunOffends (doc_of h s) (options_of h s) (all_events h s)) (attention profile (options_of h s) (doc_of h s) (all_events h s))
    (length (outcome profile (options_of h s) (doc_of h s) (all_events h s)).groups) (outcome profile (options_of h s) (doc_of h s) (all_events h s)).tried
    (AttentionBy profile h s) (λ outs works. bytes_written (form_of h) (attentionCall.outcome_of profile h s outs works))

-- lark_resolve_headings and lark_resolve_headings2: what offends is a heading
abbrev pub HeadingsClaim : Type 0
HeadingsClaim =
    (h : Handed) (s : List ℕ) →
    Claim h s (HeadingOffends (all_events h s)) (headings (all_events h s)) 0 0 (HeadingsBy h s)
    (λ outs works. bytes_written (form_of h) (headingsCall.outcome_of h s outs works))

-- lark_resolve_lists and lark_resolve_lists2: what offends is an item
abbrev pub ListsClaim : Type 0
ListsClaim =
    (h : Handed) (s : List ℕ) →
    Claim h s (ItemOffends (doc_of h s) (all_events h s)) (lists (doc_of h s) (all_events h s)) 0 0 (ListsBy h s)
    (λ outs works. bytes_written (form_of h) (listsCall.outcome_of h s outs works))
