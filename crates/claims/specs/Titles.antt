-- What the heading reader and the heading resolver do together: a heading reads what CommonMark 0.31 §4.2 says. What it reads is `content` in
-- crates/atx/specs/Content.antt, a definition over the bytes of the line alone. The statements are of every line that the reader finds to be a heading;
-- which lines these are is its own rule, with amendment D20 on the indentation. proofs/Titles.antt proves them.
-- Assumes nothing.
use Rattle.std.specs.Prelude.{ℕ, ◌+◌, ◌*◌, ◌≤◌, ◌≡◌, true, List, [], ◌∷◌, ◌++◌, length, take, drop, eqb}
use Rattle.record.specs.Choice.{choose}
use Rattle.record.specs.Event.{enter, exit, section_at, section_at_in}
use Rattle.record.specs.Handed.{form_of}
use Rattle.record.specs.Outcome.{gives}
use Rattle.record.specs.Partners.{record_in}
use Rattle.record.specs.declared.event.Event.{Event}
use Rattle.record.specs.declared.form.Handed.{Handed}
use Rattle.partners.specs.Records.{With}
use Rattle.scan.specs.Line.{line_of}
use Rattle.atx.specs.Heading.{is_heading, split, events_from, heading_events}
use Rattle.atx.specs.Content.{content, content_from, content_to}
use Rattle.heading.specs.Headings.{with_text, headings}
use Rattle.ledgerlark.specs.Answers.{HeadingsBy, HeadedAs}
use Rattle.ledgerlark.specs.declared.resolve.LarkResolved.{LarkResolved}
use Rattle.ledgerlark.specs.declared.line.LarkHeaded.{LarkHeaded}
use Rattle.claims.specs.Records.{resolved}

-- the content is what stands in the line between the two places that it is said to have
abbrev pub ContentThere : Type 0
ContentThere = (options column : ℕ) (l : List ℕ) → is_heading l options column ≡ true → take (length (content l)) (drop (content_from l) l) ≡ content l

-- the inner events of a heading whose line begins at a place of the document: a text round the content, with one Data pair in it, and before it and
-- behind it what the reader makes of the line there. Where there is no content there is no text, and they are what the reader makes of the line
unfoldable pub inner : ℕ → List ℕ → List Event
inner at l =
    let from = at + content_from l in
    let to = at + content_to l in
    choose (eqb (length (content l)) 0)
    (events_from at (split l))
    (events_from at (split (take (content_from l) l))
    ++ ((enter 13 from ∷ enter 0 from ∷ exit 0 to ∷ exit 13 to ∷ []) ++ events_from to (split (drop (content_to l) l))))

-- the text rule on the reader's events, wherever in a document the line begins
abbrev pub TextRoundContent : Type 0
TextRoundContent = (options column at : ℕ) (l : List ℕ) → is_heading l options column ≡ true → with_text (events_from at (split l)) ≡ inner at l

-- the resolver on the section that the reader writes: a heading from its enter to its exit
unfoldable pub heading : List ℕ → List Event
heading l = enter 11 0 ∷ (inner 0 l ++ (exit 11 (length l) ∷ []))

abbrev pub ReadsTheStandard : Type 0
ReadsTheStandard = (options column : ℕ) (l : List ℕ) → is_heading l options column ≡ true → headings (heading_events l) ≡ gives (heading l)

-- the two calls: `lark_heading` finds a heading, of no more events than a record may have, and the resolver of either form is given the line and the events
-- that were written as a record of its form. With room for the heading it accepts, and the heading is what is read from its output
abbrev pub CallsReadTheStandard : Type 0
CallsReadTheStandard =
    (s : List ℕ) (options column : ℕ) (out : List ℕ) (r : LarkHeaded) (out' : List ℕ) → HeadedAs s options column out r out' → r.found ≡ 1 → r.events ≤ 2048 →
    (h : Handed) (options₂ : ℕ) (out₂ work : List ℕ) (r₂ : LarkResolved) (out₂' work' : List ℕ) → With h options₂ → options₂ ≤ 63 → 65536 ≤ length work →
    4 + (form_of h).width * length (heading (line_of s)) ≤ length out₂ →
    HeadingsBy h (record_in (form_of h) options₂ (line_of s) (section_at out' 0)) out₂ work r₂ out₂' work' →
    (r₂ ≡ resolved (length (heading (line_of s))) 0 0) × (section_at_in (form_of h) out₂' 0 ≡ heading (line_of s))
