-- The two forms of a record are one. A document and events, with options, are written as a record in either form; what a call makes of the one it makes of
-- the other. If the record is refused, the number is the same, and its place is where the same thing stands. If it is good, the resolver sees the same
-- options, document and events, and so makes one resolution: an enter event that it names, which the answer gives by its place, or a list of events, which
-- is written as a section of the form. Only number 8 goes by the width: a section of form 2 is longer.
--
-- It is said by a finding, which knows no bytes: what a check finds of the options, the document and the events, and then where that stands in a form.
-- proofs/Found.antt, proofs/Holdable.antt and proofs/EitherForm.antt prove it.
-- Assumes nothing.
use Rattle.std.specs.Prelude.{ℕ, ◌+◌, ◌*◌, ◌≤◌, ◌<◌, ◌≡◌, List, [], ◌∷◌, length, ltb}
use Rattle.record.specs.Check.{refuse, first_return, admitted, Reading, accept}
use Rattle.record.specs.Choice.{choose, and}
use Rattle.record.specs.Event.{document_in, events_in}
use Rattle.record.specs.Form.{old, second, place_in}
use Rattle.record.specs.Handed.{form_of, options_of}
use Rattle.record.specs.Outcome.{Resolution, offends, gives, Outcome, accepted, refusing, settled, outcome, bytes_written}
use Rattle.record.specs.Partners.{section_in, record_in}
use Rattle.record.specs.ReadsBack.{Storable, Holdable}
use Rattle.record.specs.Sound.{placed}
use Rattle.record.specs.Stack.{none, fits_open, after}
use Rattle.record.specs.declared.event.Event.{Event}
use Rattle.record.specs.declared.form.Form.{Form}
use Rattle.record.specs.declared.form.Handed.{Handed}
use Rattle.record.specs.declared.form.Handed.TheVariants.{Old, Second}
use Rattle.partners.specs.Records.{With}

-- what a check can find, in the order of the numbers: 1 and 2; 3, a document or events over their limit; 4, a carriage return at an offset of the document;
-- 5, an event by its number, or events left open; or nothing. Counts fit and nothing follows, since the record is written so, and partner numbers are true
pub data Finding : Type 0 where
  little_memory : Finding
  options_over : Finding
  document_over : Finding
  events_over : Finding
  return_at : ℕ → Finding
  broken : ℕ → Finding
  left_open : Finding
  nothing : Finding

-- number 5: the first event that breaks a rule, where the names `held` are open before event k and the event before it has the place `last`; and where
-- none does, events left open
unfoldable pub broken_from : ℕ → ℕ → ℕ → List ℕ → List Event → Finding
broken_from d k last held [] = choose (none held) nothing left_open
broken_from d k last held (e ∷ es) =
    choose (and (placed e d last) (fits_open 64 e held)) (broken_from d (k + 1) e.place (after e e.name held) es) (broken k)

-- of options, a document and events, where the work memory has this length. A carriage return is found by its offset in the document
unfoldable pub found : ℕ → ℕ → List ℕ → List Event → Finding
found works options document es =
    choose (ltb works 65536) little_memory
    (choose (ltb 63 options) options_over
    (choose (ltb 16384 (length document)) document_over
    (choose (ltb 2048 (length es)) events_over
    (choose (ltb (first_return (length document) document 0) (length document)) (return_at (first_return (length document) document 0))
    (broken_from (length document) 0 0 [] es)))))

-- a finding as the check answers it of a record in a form, of a document of d bytes and e events: its number, and its place there
abbrev pub answer_in : Form → ℕ → ℕ → Finding → Reading
answer_in f d e little_memory = refuse 1 0
answer_in f d e options_over = refuse 2 0
answer_in f d e document_over = refuse 3 f.front
answer_in f d e events_over = refuse 3 (4 + f.front + d)
answer_in f d e (return_at k) = refuse 4 (4 + f.front + k)
answer_in f d e (broken k) = refuse 5 (place_in f d k)
answer_in f d e left_open = refuse 5 (place_in f d e)
answer_in f d e nothing = accept d e

-- a document and events whose counts and places four bytes hold: a record can be written of them, good or not. Kinds, names and options may be any numbers;
-- in lent memory they are bytes
pub record Writable (document : List ℕ) (es : List Event) : Type 0 where
  pub document_count : length document < 4294967296
  pub event_count : length es < 4294967296
  pub places : Storable es

-- the check of a record in either form answers what is found of its options, its document and its events
abbrev pub CheckedInEither : Type 0
CheckedInEither =
    (h : Handed) (options : ℕ) (document : List ℕ) (es : List Event) (works : ℕ) → With h options → Writable document es →
    admitted h (record_in (form_of h) options document es) works ≡ answer_in (form_of h) (length document) (length es) (found works options document es)

-- and nothing is found exactly where a record may hold them
abbrev pub NothingFound : Type 0
NothingFound =
    (works options : ℕ) (document : List ℕ) (es : List Event) →
    (65536 ≤ works → options ≤ 63 → Holdable document es → found works options document es ≡ nothing)
    × (found works options document es ≡ nothing → (65536 ≤ works) × (options ≤ 63) × Holdable document es)

-- the answers of a check in the old form and in the second, of a document of d bytes and e events: both good, or one number, at the places of one thing
pub data Alike (d e : ℕ) : Reading → Reading → Type 0 where
  both_good : Alike d e (accept d e) (accept d e)
  the_memory : Alike d e (refuse 1 0) (refuse 1 0)
  the_options : Alike d e (refuse 2 0) (refuse 2 0)
  the_document_count : Alike d e (refuse 3 0) (refuse 3 5)
  the_event_count : Alike d e (refuse 3 (4 + d)) (refuse 3 (9 + d))
  a_return : (k : ℕ) → k < d → Alike d e (refuse 4 (4 + k)) (refuse 4 (9 + k))
  an_event : (k : ℕ) → k < e → Alike d e (refuse 5 (8 + d + 8 * k)) (refuse 5 (13 + d + 12 * k))
  the_end : Alike d e (refuse 5 (8 + d + 8 * e)) (refuse 5 (13 + d + 12 * e))

abbrev pub AlikeInBoth : Type 0
AlikeInBoth =
    (options : ℕ) (document : List ℕ) (es : List Event) (works : ℕ) → Writable document es →
    Alike (length document) (length es) (admitted (Old options) (record_in old options document es) works)
    (admitted Second (record_in second options document es) works)

-- what a call comes to whose resolver looks at the options, the document and the events, and at nothing else of the record. Those of headings, lists and
-- attention are such
abbrev pub comes_to : (ℕ → List ℕ → List Event → Resolution) → Handed → List ℕ → ℕ → ℕ → Outcome
comes_to resolve h s works outs =
    outcome (form_of h) (admitted h s works) (λ d e. resolve (options_of h s) (document_in (form_of h) s d) (events_in (form_of h) s d e)) outs

-- on a record in either form: a refusal by what is found, or what the one resolution comes to
abbrev pub ComesInEither : Type 0
ComesInEither =
    (resolve : ℕ → List ℕ → List Event → Resolution) (h : Handed) (options : ℕ) (document : List ℕ) (es : List Event) (works outs : ℕ) →
    With h options → Writable document es →
    comes_to resolve h (record_in (form_of h) options document es) works outs
    ≡ outcome (form_of h) (answer_in (form_of h) (length document) (length es) (found works options document es)) (λ d e. resolve options document es) outs

-- what a call comes to on a document of d bytes in the old form, o₁, and in the second, o₂, the outputs of these lengths: one resolution, m, settled in each
pub record Either (d : ℕ) (m : Resolution) (outs₁ outs₂ : ℕ) (o₁ o₂ : Outcome) : Type 0 where
  pub in_old : o₁ ≡ settled old d m outs₁
  pub in_second : o₂ ≡ settled second d m outs₂
  -- so the shape rule is broken in both or in neither, and by one event, which each answer names by its place
  pub named : (k : ℕ) → m ≡ offends k → (o₁ ≡ refusing 6 (8 + d + 8 * k)) × (o₂ ≡ refusing 6 (13 + d + 12 * k))
  -- a result of over 8,000 events is refused in both
  pub too_many : (es : List Event) → m ≡ gives es → 8000 < length es → (o₁ ≡ refusing 7 0) × (o₂ ≡ refusing 7 0)
  -- and one for which there is room is written in both: the same events, each time as a section of the form
  pub written : (es : List Event) → m ≡ gives es → length es ≤ 8000 → 4 + 8 * length es ≤ outs₁ → 4 + 12 * length es ≤ outs₂ →
      (o₁ ≡ accepted es) × (o₂ ≡ accepted es) × (bytes_written old o₁ ≡ section_in old es) × (bytes_written second o₂ ≡ section_in second es)
  -- no two results differ
  pub same_events : (es₁ es₂ : List Event) → o₁ ≡ accepted es₁ → o₂ ≡ accepted es₂ → es₁ ≡ es₂

abbrev pub EitherForm : Type 0
EitherForm =
    (resolve : ℕ → List ℕ → List Event → Resolution) (options : ℕ) (document : List ℕ) (es : List Event) (works outs₁ outs₂ : ℕ) →
    options ≤ 63 → Holdable document es → 65536 ≤ works →
    Either (length document) (resolve options document es) outs₁ outs₂
    (comes_to resolve (Old options) (record_in old options document es) works outs₁)
    (comes_to resolve Second (record_in second options document es) works outs₂)
