-- The claims of the calls on a line hold, each by the call's promise alone.
-- Assumes nothing.
use Prim.Native.Nat.{ℕ, suc, ◌+◌, ◌*◌, ◌<◌, ◌≤◌}
use native.Mathlib.Omega.{arith}
use mathlib.Core.Path.{◌≡◌, refl, sym, ap, ◌∙◌}
use mathlib.Core.Bool.{Bool, true, false, not}
use mathlib.Core.List.{List, []}
use lib.ListN.{length}
use lib.Dec.{leb, ltb}
use borrow.Author.Tests.{ltb-false, ne_eqb}
use Rattle.std.specs.Prelude.{Option, Result, Ok, Err, None, Some}
use Rattle.record.proofs.Output.{onto_none}
use Rattle.record.proofs.Sections.{length_section}
use Rattle.record.specs.Event.{section_bytes}
use Rattle.record.specs.declared.event.Event.{Event}
use Rattle.record.specs.Choice.{choose, and}
use Rattle.record.specs.Form.{old}
use Rattle.record.specs.Outcome.{Outcome, accepted, refused, refusing, sized, onto}
use Rattle.record.specs.declared.check.Refusal.{Refusal}
use Rattle.scan.specs.Line.{line_of, checked_line, reading, Checked}
use Rattle.scan.specs.Rows.{Row, row_2, row_2_column, row_3, row_4, Exactly}
use Rattle.atx.specs.Rows.{WritingRow, reading as reading-row, row_7, row_8, heading_found}
use Rattle.lines.specs.Spaces.{spaces_in, spaces_of, Spaces}
use Rattle.lines.specs.Item.{start_in, start_of, Start}
use Rattle.scan.specs.Run.{blank}
use Rattle.scan.specs.Columns.{columns, reach}
use Rattle.scan.specs.declared.columns.Reach.{Reach}
use Rattle.lines.specs.Going.{cleared, blank_going, filled_going, going_in, going_of}
use Rattle.atx.specs.Heading.{Reply, nothing, headed, is_heading, heading_events, headed_in, headed_of, Headed}
use Rattle.lines.specs.declared.spaces.Taken.{Taken}
use Rattle.lines.specs.declared.item.Item.{Item}
use Rattle.lines.specs.declared.going.Going.{Going}
use Rattle.lines.specs.declared.going.Going.TheVariants.{Goes, Stops}
use Rattle.lines.proofs.ExactlyRead.{spaces_exactly, start_exactly, going_exactly}
use Rattle.atx.proofs.ExactlyHeaded.{heading_exactly}
use Rattle.ledgerlark.specs.Answers.{flagged, container_of, lark_spaces, lark_item, lark_going, lark_headed}
use Rattle.ledgerlark.specs.declared.line.LarkSpaces.{LarkSpaces}
use Rattle.ledgerlark.specs.declared.line.LarkItem.{LarkItem}
use Rattle.ledgerlark.specs.declared.line.LarkGoing.{LarkGoing}
use Rattle.ledgerlark.specs.declared.line.LarkHeaded.{LarkHeaded}
use Rattle.claims.specs.Told.{Told}
use Rattle.claims.proofs.Records.{ReadsAs, read_back, read_zero, read_whole, seam}
use Rattle.claims.specs.Lines.{LineClaim, spaces_refusal, spaces_found, SpacesClaim, item_refusal, item_found, ItemClaim, going_refusal, going_found, GoingClaim, FlagsSet, MarkDoesNotShow, headed_refusal, headed_found, HeadingClaim}

-- from the reader's own "exactly when": `numbers` reads an answer; a row's number is not 0
module _ {A B : Type 0} (number place : B → ℕ) (no : ℕ → ℕ → B) (numbers : Result A Refusal → B) (N : ReadsAs number place no numbers) (R : ℕ → ℕ → Type 0)
    (found answer : Result A Refusal) (x : Exactly R Err found answer) (above : (n p : ℕ) → R n p → 0 < n) where
  told : (r : B) → r ≡ numbers answer → Told number place no R r
  told r a =
      record {
        given = λ n p l. a ∙ ap numbers (x.given n p l) ∙ N.of_refused n p;
        only = λ n p h q. x.refused n p (read_back number place no numbers N answer n p h (sym a ∙ q));
        accepted = λ none. ap number a ∙ read_zero number place no numbers N answer (λ n p e. none n p (x.refused n p e).holds);
        none_holds = λ z. x.none
            (λ n p e.
            let k = above n p (x.refused n p e).holds in
            let q : number r ≡ n = ap number (a ∙ ap numbers e ∙ N.of_refused n p) ∙ N.its_number n p in
            omega arith);
        nothing_more = λ h. rw a (read_whole number place no numbers N answer (rw a at h));
      }

  claimed : (says : B) → numbers found ≡ says → LineClaim number place no (λ (r : B). r ≡ numbers answer) R says
  claimed says e = record { unique = λ r₁ r₂ p q. p ∙ sym q; exactly = told; finds = λ r a none. a ∙ ap numbers (x.finds none) ∙ e }

row_number : {s : List ℕ} {options column n p : ℕ} → Row s options column n p → 0 < n
row_number (row_2 h e f) = omega arith
row_number (row_2_column h e f) = omega arith
row_number (row_3 h e f) = omega arith
row_number (row_4 h g e) = omega arith

-- lark_space_or_tab

spaces_said : (a : Spaces) → lark_spaces a ≡ spaces_found a
spaces_said (Ok (Some t)) = refl
spaces_said (Ok None) = refl
spaces_said (Err x) = refl

spaces_zero : (a : Option Taken) → (lark_spaces (Ok a)).number ≡ 0
spaces_zero (Some t) = refl
spaces_zero None = refl

spaces_read : ReadsAs (λ (x : LarkSpaces). x.number) (λ (x : LarkSpaces). x.place) spaces_refusal lark_spaces
spaces_read = record { of_refused = λ n p. refl; of_found = spaces_zero; its_number = λ n p. refl; its_place = λ n p. refl }

pub spaces_claim : SpacesClaim
spaces_claim s options column min max =
    let a = spaces_of s options column min max in
    claimed _ _ spaces_refusal lark_spaces spaces_read (Row s options column)
    (Ok (spaces_in (line_of s) column min max)) a (spaces_exactly s options column min max) (λ n p. row_number) _ (spaces_said (Ok (spaces_in (line_of s) column min max)))

-- lark_list_item

item_said : (a : Start) → lark_item a ≡ item_found a
item_said (Ok (Some i)) = refl
item_said (Ok None) = refl
item_said (Err x) = refl

item_zero : (a : Option Item) → (lark_item (Ok a)).number ≡ 0
item_zero (Some i) = refl
item_zero None = refl

item_read : ReadsAs (λ (x : LarkItem). x.number) (λ (x : LarkItem). x.place) item_refusal lark_item
item_read = record { of_refused = λ n p. refl; of_found = item_zero; its_number = λ n p. refl; its_place = λ n p. refl }

pub item_claim : ItemClaim
item_claim s options column interrupting =
    let a = start_of s options column (flagged interrupting) in
    claimed _ _ item_refusal lark_item item_read (Row s options column)
    (Ok (start_in (line_of s) options column (flagged interrupting))) a (start_exactly s options column (flagged interrupting)) (λ n p. row_number) _
    (item_said (Ok (start_in (line_of s) options column (flagged interrupting))))

-- lark_continuation

going_said : (a : Result Going Refusal) → lark_going a ≡ going_found a
going_said (Ok (Goes taken left held)) = refl
going_said (Ok (Stops held)) = refl
going_said (Err x) = refl

going_zero : (a : Going) → (lark_going (Ok a)).number ≡ 0
going_zero (Goes taken left held) = refl
going_zero (Stops held) = refl

going_read : ReadsAs (λ (x : LarkGoing). x.number) (λ (x : LarkGoing). x.place) going_refusal lark_going
going_read = record { of_refused = λ n p. refl; of_found = going_zero; its_number = λ n p. refl; its_place = λ n p. refl }

pub going_claim : GoingClaim
going_claim s options column size blank mark =
    let a = going_of s options column (container_of size blank mark) in
    claimed _ _ going_refusal lark_going going_read (Row s options column)
    (Ok (going_in (line_of s) column (container_of size blank mark))) a (going_exactly s options column (container_of size blank mark)) (λ n p. row_number) _
    (going_said (Ok (going_in (line_of s) column (container_of size blank mark))))

pub flags_set : FlagsSet
flags_set = (refl, λ n. ap not (ne_eqb (suc n) 0 (λ e. omega arith)))

same_going : (c : Checked) (line_blank flag_set enough : Bool) (r : Reach) (size blank₁ m₁ m₂ : ℕ) →
    lark_going
    (reading c Err
    (Ok (choose line_blank (choose flag_set (Stops (container_of size blank₁ m₁)) (Goes r.bytes r.left (container_of size blank₁ m₁)))
    (choose enough (Goes r.bytes r.left (cleared (container_of size blank₁ m₁))) (Stops (cleared (container_of size blank₁ m₁)))))))
    ≡ lark_going
    (reading c Err
    (Ok (choose line_blank (choose flag_set (Stops (container_of size blank₁ m₂)) (Goes r.bytes r.left (container_of size blank₁ m₂)))
    (choose enough (Goes r.bytes r.left (cleared (container_of size blank₁ m₂))) (Stops (cleared (container_of size blank₁ m₂)))))))
unfolding reading choose
same_going (Err x) z b e r size blank₁ m₁ m₂ = refl
same_going (Ok k) true true e r size blank₁ m₁ m₂ = refl
same_going (Ok k) true false e r size blank₁ m₁ m₂ = refl
same_going (Ok k) false b true r size blank₁ m₁ m₂ = refl
same_going (Ok k) false b false r size blank₁ m₁ m₂ = refl

pub mark_does_not_show : MarkDoesNotShow
unfolding going_of going_in blank_going filled_going
mark_does_not_show s options column size blank₁ m₁ m₂ r a =
    a ∙ same_going (checked_line s options column) (blank (line_of s)) (flagged blank₁)
    (and (leb 1 (columns column (line_of s))) (leb size (columns column (line_of s)))) (reach size column (line_of s)) size blank₁ m₁ m₂

-- lark_heading

headed_said : (a : Headed) → lark_headed a ≡ headed_found a
headed_said (Ok (Some events)) = refl
headed_said (Ok None) = refl
headed_said (Err x) = refl

headed_zero : (a : Option ℕ) → (lark_headed (Ok a)).number ≡ 0
headed_zero (Some events) = refl
headed_zero None = refl

headed_read : ReadsAs (λ (x : LarkHeaded). x.number) (λ (x : LarkHeaded). x.place) headed_refusal lark_headed
headed_read = record { of_refused = λ n p. refl; of_found = headed_zero; its_number = λ n p. refl; its_place = λ n p. refl }

writing_number : {s : List ℕ} {options column outs n p : ℕ} → WritingRow s options column outs n p → 0 < n
writing_number (reading-row r) = row_number r
writing_number (row_7 h g e f) = omega arith
writing_number (row_8 h g e f) = omega arith

heading_told : (s : List ℕ) (options column outs : ℕ) (r : LarkHeaded) → r ≡ lark_headed (headed_of s options column outs).answer →
    Told (λ (x : LarkHeaded). x.number) (λ (x : LarkHeaded). x.place) headed_refusal (WritingRow s options column outs) r
heading_told s options column outs =
    let a = (headed_of s options column outs).answer in
    told _ _ headed_refusal lark_headed headed_read (WritingRow s options column outs) (heading_found (line_of s) options column) a
    (heading_exactly s options column outs) (λ n p. writing_number)

-- only where a heading is found are there bytes to write
abbrev Silent : Reply → Type 0
Silent x = (lark_headed x.answer).found ≡ 0 → x.bytes ≡ []

silent_outcome : (o : Outcome) → Silent (headed o)
silent_outcome (accepted es) q = absurd (omega arith)
silent_outcome (refused x) q = refl

silent_choice : (z : Bool) (o : Outcome) → Silent (choose z (headed o) (nothing (Ok None)))
unfolding choose
silent_choice true o q = silent_outcome o q
silent_choice false o q = refl

silent_reading : (c : Checked) (x : Reply) → Silent x → Silent (reading c (λ r. nothing (Err r)) x)
unfolding reading
silent_reading (Ok n) x f q = f q
silent_reading (Err r) x f q = refl

silent : (s : List ℕ) (options column outs : ℕ) → Silent (headed_of s options column outs)
unfolding headed_of headed_in
silent s options column outs =
    silent_reading (checked_line s options column)
    (choose (is_heading (line_of s) options column) (headed (sized old (heading_events (line_of s)) outs)) (nothing (Ok None)))
    (silent_choice (is_heading (line_of s) options column) (sized old (heading_events (line_of s)) outs))

-- what is answered where a heading is found, or none is, comes with what is written then
abbrev GoesWith : List Event → Bool → Reply → Type 0
GoesWith es z x = x.answer ≡ choose z (Ok (Some (length es))) (Ok None) → x.bytes ≡ choose z (section_bytes es) []

with_sized : (es : List Event) (long short : Bool) → GoesWith es true (headed (choose long (refusing 7 0) (choose short (refusing 8 0) (accepted es))))
unfolding choose
with_sized es true short q = let z : ◌≡◌ {A = ℕ} 0 1 = cc in absurd (omega arith)
with_sized es false true q = let z : ◌≡◌ {A = ℕ} 0 1 = cc in absurd (omega arith)
with_sized es false false q = refl

with_choice : (es : List Event) (outs : ℕ) (z : Bool) → GoesWith es z (choose z (headed (sized old es outs)) (nothing (Ok None)))
unfolding choose sized
with_choice es outs true q = with_sized es (ltb 8000 (length es)) (ltb outs (4 + 8 * length es)) q
with_choice es outs false q = refl

with_reading : (c : Checked) (es : List Event) (z : Bool) (x : Reply) → GoesWith es z x → GoesWith es z (reading c (λ r. nothing (Err r)) x)
unfolding reading choose
with_reading (Ok n) es z x f q = f q
with_reading (Err r) es true x f q = let z : ◌≡◌ {A = ℕ} 0 1 = cc in absurd (omega arith)
with_reading (Err r) es false x f q = let z : ◌≡◌ {A = ℕ} 0 1 = cc in absurd (omega arith)

goes_with : (s : List ℕ) (options column outs : ℕ) → GoesWith (heading_events (line_of s)) (is_heading (line_of s) options column) (headed_of s options column outs)
unfolding headed_of headed_in
goes_with s options column outs =
    with_reading (checked_line s options column) (heading_events (line_of s)) (is_heading (line_of s) options column)
    (choose (is_heading (line_of s) options column) (headed (sized old (heading_events (line_of s)) outs)) (nothing (Ok None)))
    (with_choice (heading_events (line_of s)) outs (is_heading (line_of s) options column))

-- what is written fits
within_choice : (z : Bool) (a b : Outcome) (outs : ℕ) → (z ≡ false → length (headed b).bytes ≤ outs) → length (headed a).bytes ≤ outs →
    length (headed (choose z a b)).bytes ≤ outs
unfolding choose
within_choice true a b outs f g = g
within_choice false a b outs f g = f refl

within_sized : (es : List Event) (outs : ℕ) → length (headed (sized old es outs)).bytes ≤ outs
unfolding sized
within_sized es outs =
    within_choice (ltb 8000 (length es)) _ _ outs
    (λ q. within_choice (ltb outs (4 + 8 * length es)) _ _ outs (λ k. let h = ltb-false _ _ k in rw length_section h) (omega arith))
    (omega arith)

within_line : (z : Bool) (o : Outcome) (outs : ℕ) → length (headed o).bytes ≤ outs → length (choose z (headed o) (nothing (Ok None))).bytes ≤ outs
unfolding choose
within_line true o outs h = h
within_line false o outs h = omega arith

within_reading : (c : Checked) (x : Reply) (outs : ℕ) → length x.bytes ≤ outs → length (reading c (λ r. nothing (Err r)) x).bytes ≤ outs
unfolding reading
within_reading (Ok n) x outs h = h
within_reading (Err r) x outs h = omega arith

within : (s : List ℕ) (options column outs : ℕ) → length (headed_of s options column outs).bytes ≤ outs
unfolding headed_of headed_in
within s options column outs =
    within_reading (checked_line s options column)
    (choose (is_heading (line_of s) options column) (headed (sized old (heading_events (line_of s)) outs)) (nothing (Ok None))) outs
    (within_line (is_heading (line_of s) options column) (sized old (heading_events (line_of s)) outs) outs (within_sized (heading_events (line_of s)) outs))

pub heading_claim : HeadingClaim
heading_claim s options column =
    record {
      unique = λ out r₁ r₂ o₁ o₂ p q. (p.answer ∙ sym q.answer, p.output ∙ sym q.output);
      isolated = λ out₁ out₂ r₁ r₂ o₁ o₂ e p q.
          let both : headed_of s options column (length out₁) ≡ headed_of s options column (length out₂) = ap (λ (n : ℕ). headed_of s options column n) e in
          let same : o₂ ≡ onto (headed_of s options column (length out₁)).bytes out₂ =
          q.output ∙ sym (ap (λ (x : Reply). onto x.bytes out₂) both) in (
            p.answer ∙ ap (λ (x : Reply). lark_headed x.answer) both ∙ sym q.answer,
            (seam (headed_of s options column (length out₁)).bytes out₁ o₁ p.output).0
                ∙ sym (seam (headed_of s options column (length out₁)).bytes out₂ o₂ same).0,
          );
      rest_kept = λ out r out' a. (seam (headed_of s options column (length out)).bytes out out' a.output).1;
      exactly = λ out r out' a. heading_told s options column (length out) r a.answer;
      finds = λ out r out' a none.
          let so = (heading_exactly s options column (length out)).finds none in (
            a.answer ∙ ap lark_headed so ∙ headed_said (heading_found (line_of s) options column),
            a.output ∙ ap (λ (bs : List ℕ). onto bs out) (goes_with s options column (length out) so),
          );
      fits = λ out. within s options column (length out);
      only_a_heading_writes = λ out r out' a z.
          let none = silent s options column (length out) (sym (ap (λ (x : LarkHeaded). x.found) a.answer) ∙ z) in
          a.output ∙ ap (λ (bs : List ℕ). onto bs out) none ∙ onto_none out;
    }
