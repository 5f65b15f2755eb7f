-- A heading reads what the standard says: the content parts the reader's pieces (crates/atx/proofs/Parting.antt), so that the events of the line look as
-- the text rule has them (crates/heading/specs/Text.antt); and what the two calls do is what the two definitions say.
-- Assumes nothing.
use Prim.Native.Nat.{ℕ, ◌+◌, ◌*◌, ◌≤◌}
use native.Mathlib.Omega.{arith}
use mathlib.Core.Path.{◌≡◌, refl, sym, ap, ◌∙◌, subst}
use mathlib.Core.Bool.{Bool, true, false}
use mathlib.Core.Logic.{⊎_elim}
use mathlib.Core.List.{List, [], ◌∷◌, ◌++◌, append-nil}
use lib.ListN.{length, take, drop}
use lib.Seq.{length-take-le}
use lib.Dec.{eqb}
use borrow.Author.Tests.{eqb-true, eqb-false}
use Rattle.record.specs.Choice.{choose}
use Rattle.record.specs.Bytes.{u32_at}
use Rattle.record.specs.Event.{enter, exit, section_at, section_at_in}
use Rattle.record.specs.Handed.{form_of}
use Rattle.record.specs.Partners.{record_in}
use Rattle.record.specs.Rows.{Row, document_count_in}
use Rattle.record.specs.Written.{WrittenRow, by_check, row_6, row_7, row_8}
use Rattle.record.specs.Outcome.{Resolution, gives}
use Rattle.record.specs.declared.event.Event.{Event}
use Rattle.record.specs.declared.form.Handed.{Handed}
use Rattle.record.proofs.Exactly.{exactly}
use Rattle.record.proofs.Parts.{length_events}
use Rattle.partners.specs.Records.{With}
use Rattle.scan.specs.Line.{line_of}
use Rattle.atx.specs.Heading.{is_heading, split, events_from, heading_events}
use Rattle.atx.specs.Content.{content, content_from, content_to}
use Rattle.atx.specs.Parted.{Blank, none, some, Opened, bare, indented, Closed, closing, Filled, Empty}
use Rattle.atx.specs.declared.Piece.{Piece}
use Rattle.atx.proofs.Seams.{total, split_total, Named, no_piece, one_piece, split_named}
use Rattle.atx.proofs.Parting.{parted_by_content}
use Rattle.heading.specs.Headings.{headings}
use Rattle.heading.specs.Shape.{Broken}
use Rattle.heading.specs.Text.{Blanks, Before, DataOrRun, Ending, here, further, Behind, unclosed, Texted, text, closed, empty, done}
use Rattle.heading.specs.Text.{none as no-blanks, blank as one-blank, bare as opens-bare, indented as opens-indented, closing as closes, heading as a-heading}
use Rattle.heading.proofs.Offence.{gives_unbroken}
use Rattle.heading.proofs.Kept.{gives_is, resolved_small}
use Rattle.heading.proofs.TextAsSaid.{said_so}
use Rattle.heading.proofs.ResultAsSaid.{result_as_said}
use Rattle.ledgerlark.specs.Answers.{HeadedAs}
use Rattle.ledgerlark.specs.declared.line.LarkHeaded.{LarkHeaded}
use Rattle.claims.specs.Records.{all_events, resolved}
use Rattle.claims.specs.ReadsBack.{ReadAgain}
use Rattle.claims.specs.Titles.{ContentThere, inner, TextRoundContent, heading, ReadsTheStandard, CallsReadTheStandard}
use Rattle.claims.proofs.Records.{no_row_sound, headings_claim}
use Rattle.claims.proofs.ReadsBack.{admitted_again, heading_reads_back, headings_read_back, heading_found, heading_holds}

-- the events of pieces, one behind the other
events_append : (ps qs : List Piece) (at : ℕ) → events_from at (ps ++ qs) ≡ events_from at ps ++ events_from (at + total ps) qs
unfolding events_from total
events_append [] qs at = let z : at ≡ at + 0 = omega arith in ap (λ (k : ℕ). events_from k qs) z
events_append (p ∷ ps) qs at =
    let z : at + p.size + total ps ≡ at + (p.size + total ps) = omega arith in
    ap (λ (x : List Event). enter p.name at ∷ exit p.name (at + p.size) ∷ x)
    (events_append ps qs (at + p.size) ∙ ap (λ (k : ℕ). events_from (at + p.size) ps ++ events_from k qs) z)

-- of parts of a line the events are those of the text rule's parts
blank_events : {ps : List Piece} (at : ℕ) → Blank ps → Blanks (events_from at ps)
unfolding events_from
blank_events at none = no-blanks
blank_events at some = one-blank no-blanks

opened_events : {ps : List Piece} (at : ℕ) → Opened ps → Before (events_from at ps)
unfolding events_from
opened_events at (bare b) = opens-bare (blank_events _ b)
opened_events at (indented b) = opens-indented (blank_events _ b)

closed_events : {ps : List Piece} (last at : ℕ) → Closed ps → Behind last (events_from at ps)
unfolding events_from
closed_events last at (closing b) = closes last _ _ (enter 14 _ ∷ exit 14 _ ∷ []) _ (one-blank no-blanks) (blank_events _ b)

ending_events : (qs : List Piece) (z : Piece) (at : ℕ) → Named qs → DataOrRun z.name → Ending z.name (at + total (qs ++ (z ∷ []))) (events_from at (qs ++ (z ∷ [])))
unfolding events_from total
ending_events [] z at n w =
    let k : at + z.size ≡ at + (z.size + 0) = omega arith in
    subst (λ (x : ℕ). Ending z.name x (enter z.name at ∷ exit z.name (at + z.size) ∷ [])) k (here w)
ending_events (p ∷ qs) z at (one_piece m n) w =
    let k : at + p.size + total (qs ++ (z ∷ [])) ≡ at + (p.size + total (qs ++ (z ∷ []))) = omega arith in
    subst (λ (x : ℕ). Ending z.name x (events_from at ((p ∷ qs) ++ (z ∷ [])))) k (further m (ending_events qs z (at + p.size) n w))

named_front : (qs ps : List Piece) → Named (qs ++ ps) → Named qs
named_front [] ps n = no_piece
named_front (q ∷ qs) ps (one_piece m n) = one_piece m (named_front qs ps n)

-- a line that begins at a place of the document
module _ (at : ℕ) (l : List ℕ) where
  abbrev from : ℕ
  from = at + content_from l

  abbrev to : ℕ
  to = at + content_to l

  abbrev front : List Event
  front = events_from at (split (take (content_from l) l))

  abbrev back : List Event
  back = events_from to (split (drop (content_to l) l))

  from_within : content_from l ≤ length l
  unfolding content_from
  from_within = omega arith

  -- with content
  module _ (f : Filled l) where
    -- the events of the content
    inside : List Event
    inside = events_from from (split (content l))

    apart : events_from at (split l) ≡ front ++ (inside ++ back)
    unfolding inside content_to
    apart =
        let a : at + total (split (take (content_from l) l)) ≡ from =
        omega (arith, split_total (take (content_from l) l), length-take-le (content_from l) l from_within)
        in
        let b : from + total (split (content l)) ≡ to = omega (arith, split_total (content l)) in
        ap (events_from at) f.parts
        ∙ events_append (split (take (content_from l) l)) (split (content l) ++ split (drop (content_to l) l)) at
        ∙ ap (λ (k : ℕ). front ++ events_from k (split (content l) ++ split (drop (content_to l) l))) a
        ∙ ap (λ (x : List Event). front ++ x) (events_append (split (content l)) (split (drop (content_to l) l)) from)
        ∙ ap (λ (k : ℕ). front ++ (inside ++ events_from k (split (drop (content_to l) l)))) b

    begins : inside ≡ enter f.begin.name from ∷ exit f.begin.name (from + f.begin.size) ∷ events_from (from + f.begin.size) f.onward
    unfolding inside events_from
    begins = ap (events_from from) f.begins

    ends : Ending f.end.name to inside
    unfolding inside content_to
    ends =
        let n : Named f.before = named_front f.before (f.end ∷ []) (subst Named f.ends (split_named (content l))) in
        let k : from + total (f.before ++ (f.end ∷ [])) ≡ to = omega (arith, split_total (content l), ap total f.ends) in
        subst (λ (x : List Piece). Ending f.end.name to (events_from from x)) (sym f.ends)
        (subst (λ (x : ℕ). Ending f.end.name x (events_from from (f.before ++ (f.end ∷ [])))) k (ending_events f.before f.end from n f.ends_with))

    behind : Behind f.end.name back
    behind = ⊎_elim (λ b. unclosed b.1 (blank_events to b.0)) (λ c. closed_events f.end.name to c) f.behind

    filled_texted : Texted (events_from at (split l)) (front ++ ((enter 13 from ∷ enter 0 from ∷ exit 0 to ∷ exit 13 to ∷ []) ++ back))
    filled_texted =
        subst (λ (x : List Event). Texted x (front ++ ((enter 13 from ∷ enter 0 from ∷ exit 0 to ∷ exit 13 to ∷ []) ++ back)))
        (sym (apart ∙ ap (λ (x : List Event). front ++ (x ++ back)) begins))
        (text front (events_from (from + f.begin.size) f.onward) back f.begin.name from (from + f.begin.size) f.end.name to
        (opened_events at f.opened) f.begins_with (subst (Ending f.end.name to) begins ends) behind)

  -- without
  empty_texted : Empty l → Texted (events_from at (split l)) (events_from at (split l))
  unfolding events_from
  empty_texted e =
      subst (λ (x : List Event). Texted x x) (sym (ap (events_from at) e.parts ∙ events_append e.front e.back at))
      (⊎_elim
      (λ z.
      subst (λ (x : List Event). Texted x x)
      (sym (ap (λ (x : List Piece). events_from at e.front ++ events_from (at + total e.front) x) z ∙ append-nil (events_from at e.front)))
      (empty (events_from at e.front) (opened_events at e.opened)))
      (λ c.
      subst (λ (x : List Piece). Texted (events_from at e.front ++ events_from (at + total e.front) x) (events_from at e.front ++ events_from (at + total e.front) x))
      (sym c.2)
      (closed (events_from at e.front) _ _ _ (opened_events at e.opened) (blank_events _ c.3)))
      e.behind)

nothing : (l : List ℕ) → length l ≡ 0 → l ≡ []
nothing [] h = refl
nothing (b ∷ l) h = absurd (omega arith)

inner_texted : (options column at : ℕ) (l : List ℕ) → is_heading l options column ≡ true → Texted (events_from at (split l)) (inner at l)
unfolding inner choose
inner_texted options column at l h = go (eqb (length (content l)) 0) refl
  where
    go : (b : Bool) → eqb (length (content l)) 0 ≡ b →
        Texted (events_from at (split l)) (choose b (events_from at (split l)) (front at l ++ ((enter 13 (from at l) ∷ enter 0 (from at l) ∷ exit 0 (to at l) ∷ exit 13 (to at l) ∷ []) ++ back at l)))
    go true e = empty_texted at l ((parted_by_content options column l h).empty (nothing (content l) (eqb-true _ _ e)))
    go false e = filled_texted at l ((parted_by_content options column l h).filled (λ z. eqb-false _ _ e (ap length z)))

pub text_round_content : TextRoundContent
text_round_content options column at l h = sym (said_so (events_from at (split l)) (inner at l) (inner_texted options column at l h))

pub reads_the_standard : ReadsTheStandard
unfolding heading heading_events
reads_the_standard options column l h =
    result_as_said.alone (heading_events l) (heading l)
    (a-heading 0 (length l) (events_from 0 (split l)) (inner 0 l) [] [] (inner_texted options column 0 l h) done)

pub content_there : ContentThere
content_there options column l h = go (eqb (length (content l)) 0) refl
  where
    go : (b : Bool) → eqb (length (content l)) 0 ≡ b → take (length (content l)) (drop (content_from l) l) ≡ content l
    go true e =
        let z = eqb-true _ _ e in
        ap (λ (k : ℕ). take k (drop (content_from l) l)) z ∙ sym (nothing (content l) z)
    go false e = ((parted_by_content options column l h).filled (λ z. eqb-false _ _ e (ap length z))).there

-- two results of one resolution
same_result : (m : Resolution) (es rs : List Event) → m ≡ gives es → m ≡ gives rs → es ≡ rs
same_result m es rs p q = cc

-- the record of a line that the heading reader finds to be a heading, and of the events that it writes, in a form
module _ (s : List ℕ) (options column : ℕ) (out : List ℕ) (r : LarkHeaded) (out' : List ℕ) (p : HeadedAs s options column out r out') (z : r.found ≡ 1)
    (few : r.events ≤ 2048) (h : Handed) (options₂ : ℕ) (o : With h options₂) (ho : options₂ ≤ 63) where
  abbrev whole : List ℕ
  whole = record_in (form_of h) options₂ (line_of s) (section_at out' 0)

  abbrev made : List Event
  made = heading (line_of s)

  again : ReadAgain h options₂ (line_of s) (section_at out' 0)
  again = (heading_reads_back s options column out r out' p z).again few h options₂ o ho

  resolves : headings (all_events h whole) ≡ gives made
  resolves =
      ap headings (again.its_events ∙ (heading_reads_back s options column out r out' p z).events)
      ∙ reads_the_standard options column (line_of s) (heading_found s options column out r out' p z)

  -- the check finds nothing to refuse
  checked : (works n place : ℕ) → 65536 ≤ works → Row h whole works n place → ⊥
  checked works n place hw x =
      ((exactly h whole works).good (length (line_of s)) (length (section_at out' 0))
      (admitted_again (line_of s) (section_at out' 0) (heading_holds s options column out r out' p z few) h options₂ o ho works hw)).2 n place x

  short : length made ≤ 8000
  short =
      let es : List Event = all_events h whole in
      let n : length es ≤ 2048 =
      omega (arith, ap length again.its_events, length_events 8 (u32_at out' 0) out' 4, (heading_reads_back s options column out r out' p z).count, few)
      in
      omega (arith, ap length (gives_is es made resolves).0, resolved_small 0 es (omega arith))

  no_row : (works outs : ℕ) → 65536 ≤ works → 4 + (form_of h).width * length made ≤ outs → (n place : ℕ) →
      WrittenRow h whole works (Broken (all_events h whole)) (headings (all_events h whole)) outs n place → ⊥
  no_row works outs hw fits n place (by_check x) = checked works n place hw x
  no_row works outs hw fits n place (row_6 k b c d) =
      gives_unbroken (all_events h whole) made 64 (document_count_in (form_of h) whole) (no_row_sound h whole works (λ m q x. checked works m q hw x)).1 resolves k b
  no_row works outs hw fits n place (row_7 es m l c d) =
      let e = ap length (same_result (headings (all_events h whole)) es made m resolves) in
      omega (arith, short)
  no_row works outs hw fits n place (row_8 es m l c d) =
      let e : 4 + (form_of h).width * length es ≡ 4 + (form_of h).width * length made =
      ap (λ (x : List Event). 4 + (form_of h).width * length x) (same_result (headings (all_events h whole)) es made m resolves)
      in
      omega arith

pub calls_read_the_standard : CallsReadTheStandard
calls_read_the_standard s options column out r out' p z few h options₂ out₂ work r₂ out₂' work' o ho hw fits q =
    let rec : List ℕ = whole s options column out r out' p z few h options₂ o ho in
    let events : List Event = made s options column out r out' p z few h options₂ o ho in
    let resolves-so = resolves s options column out r out' p z few h options₂ o ho in
    let number : r₂.number ≡ 0 =
    ((headings_claim h rec).exactly out₂ work r₂ out₂' work' q).accepted (no_row s options column out r out' p z few h options₂ o ho (length work) (length out₂) hw fits)
    in
    let a = (headings_claim h rec).accepts out₂ work r₂ out₂' work' q number in
    let same : a.events ≡ events = same_result (headings (all_events h rec)) a.events events a.made_so resolves-so in
    let b = headings_read_back h rec out₂ work r₂ out₂' work' q number in (
      a.answer ∙ ap (λ (x : List Event). resolved (length x) 0 0) same,
      same_result (headings (all_events h rec)) (section_at_in (form_of h) out₂' 0) events b.events resolves-so,
    )
