-- The claims of the calls on a line, as C sees them: `lark_space_or_tab`, `lark_list_item`, `lark_continuation`, `lark_heading`.
-- For each: any two answers that its promise allows are equal; each number is given exactly when the table says; where no row holds, what is
-- found is what the definition says, each of its numbers in the field that C has for it. The first three write nothing and take no memory, so there is nothing a buffer held that could show. The
-- heading reader has isolation too, and no refusal and no finding of it writes. These are the statements; proofs/Lines.antt proves each for every
-- line and all arguments.
-- Assumes nothing.
use Rattle.std.specs.Prelude.{ℕ, suc, ◌≤◌, ◌≡◌, true, false, List, [], length, take, drop, Result, Ok, Err, None, Some}
use Rattle.record.specs.Event.{section_bytes}
use Rattle.record.specs.Choice.{choose}
use Rattle.record.specs.Outcome.{onto}
use Rattle.record.specs.declared.check.Refusal.{Refusal}
use Rattle.scan.specs.Line.{line_of, flag}
use Rattle.scan.specs.Rows.{Row}
use Rattle.atx.specs.Rows.{WritingRow, heading_found}
use Rattle.lines.specs.Spaces.{spaces_in, Spaces}
use Rattle.lines.specs.Item.{mark_of, start_in, Start}
use Rattle.lines.specs.Going.{going_in}
use Rattle.atx.specs.Heading.{is_heading, heading_events, headed_of, Headed}
use Rattle.lines.specs.declared.going.Going.{Going}
use Rattle.lines.specs.declared.going.Going.TheVariants.{Goes, Stops}
use Rattle.ledgerlark.specs.Answers.{flagged, container_of, SpacesAs, ItemAs, GoingAs, HeadedAs}
use Rattle.ledgerlark.specs.declared.line.LarkSpaces.{LarkSpaces}
use Rattle.ledgerlark.specs.declared.line.LarkItem.{LarkItem}
use Rattle.ledgerlark.specs.declared.line.LarkGoing.{LarkGoing}
use Rattle.ledgerlark.specs.declared.line.LarkHeaded.{LarkHeaded}
use Rattle.claims.specs.Told.{Told}

-- the claim of a call that answers only: `As` is its promise, `R` the rows of the table that it can give, and `found` what it answers where none of
-- them holds
pub record LineClaim {A : Type 0} (number place : A → ℕ) (refusal : ℕ → ℕ → A) (As : A → Type 0) (R : ℕ → ℕ → Type 0) (found : A) : Type 0 where
  pub unique : (r₁ r₂ : A) → As r₁ → As r₂ → r₁ ≡ r₂
  pub exactly : (r : A) → As r → Told number place refusal R r
  pub finds : (r : A) → As r → ((n p : ℕ) → R n p → ⊥) → r ≡ found

-- lark_space_or_tab

abbrev pub spaces_refusal : ℕ → ℕ → LarkSpaces
spaces_refusal n p = record { number = n; place = p; found = 0; taken = 0; left = 0 }

-- what comes with number 0: "too few" has 0 in all fields
abbrev pub spaces_found : Spaces → LarkSpaces
spaces_found (Ok (Some t)) = record { number = 0; place = 0; found = 1; taken = t.bytes; left = t.left }
spaces_found (Ok None) = spaces_refusal 0 0
spaces_found (Err r) = spaces_refusal r.number r.place

abbrev pub SpacesClaim : Type 0
SpacesClaim =
    (s : List ℕ) (options column min max : ℕ) →
    LineClaim (λ (x : LarkSpaces). x.number) (λ (x : LarkSpaces). x.place) spaces_refusal (SpacesAs s options column min max) (Row s options column)
    (spaces_found (Ok (spaces_in (line_of s) column min max)))

-- lark_list_item

abbrev pub item_refusal : ℕ → ℕ → LarkItem
item_refusal n p = record { number = n; place = p; found = 0; taken = 0; left = 0; size = 0; blank = 0; mark = 0 }

-- an item: the bytes taken, the columns left of a cut tab, its size, whether its start is blank, and its mark
abbrev pub item_found : Start → LarkItem
item_found (Ok (Some i)) =
    record { number = 0; place = 0; found = 1; taken = i.taken; left = i.left; size = i.container.size; blank = flag i.container.blank; mark = mark_of i.container.kind }
item_found (Ok None) = item_refusal 0 0
item_found (Err r) = item_refusal r.number r.place

abbrev pub ItemClaim : Type 0
ItemClaim =
    (s : List ℕ) (options column interrupting : ℕ) →
    LineClaim (λ (x : LarkItem). x.number) (λ (x : LarkItem). x.place) item_refusal (ItemAs s options column interrupting) (Row s options column)
    (item_found (Ok (start_in (line_of s) options column (flagged interrupting))))

-- lark_continuation

abbrev pub going_refusal : ℕ → ℕ → LarkGoing
going_refusal n p = record { number = n; place = p; found = 0; taken = 0; left = 0; blank = 0 }

-- the container's flag as it then stands, also where the line does not go on
abbrev pub going_found : Result Going Refusal → LarkGoing
going_found (Ok (Goes n left held)) = record { number = 0; place = 0; found = 1; taken = n; left = left; blank = flag held.blank }
going_found (Ok (Stops held)) = record { number = 0; place = 0; found = 0; taken = 0; left = 0; blank = flag held.blank }
going_found (Err r) = going_refusal r.number r.place

abbrev pub GoingClaim : Type 0
GoingClaim =
    (s : List ℕ) (options column size blank mark : ℕ) →
    LineClaim (λ (x : LarkGoing). x.number) (λ (x : LarkGoing). x.place) going_refusal (GoingAs s options column size blank mark) (Row s options column)
    (going_found (Ok (going_in (line_of s) column (container_of size blank mark))))

-- what goes in: a flag is set by any number but 0
abbrev pub FlagsSet : Type 0
FlagsSet = (flagged 0 ≡ false) × ((n : ℕ) → flagged (suc n) ≡ true)

-- the mark that goes in does not show in the answer
abbrev pub MarkDoesNotShow : Type 0
MarkDoesNotShow =
    (s : List ℕ) (options column size blank m₁ m₂ : ℕ) (r : LarkGoing) → GoingAs s options column size blank m₁ r → GoingAs s options column size blank m₂ r

-- lark_heading

abbrev pub headed_refusal : ℕ → ℕ → LarkHeaded
headed_refusal n p = record { number = n; place = p; found = 0; events = 0 }

abbrev pub headed_found : Headed → LarkHeaded
headed_found (Ok (Some n)) = record { number = 0; place = 0; found = 1; events = n }
headed_found (Ok None) = headed_refusal 0 0
headed_found (Err r) = headed_refusal r.number r.place

-- the one reader that writes, with an output of the length `outs`: `found` is what it answers, and `section` what it writes, where no row holds
pub record WritingClaim (As : List ℕ → LarkHeaded → List ℕ → Type 0) (bytes : ℕ → List ℕ) (R : ℕ → ℕ → ℕ → Type 0) (found : LarkHeaded) (section : List ℕ) : Type 0 where
  pub unique : (out : List ℕ) (r₁ r₂ : LarkHeaded) (o₁ o₂ : List ℕ) → As out r₁ o₁ → As out r₂ o₂ → (r₁ ≡ r₂) × (o₁ ≡ o₂)
  pub isolated : (out₁ out₂ : List ℕ) (r₁ r₂ : LarkHeaded) (o₁ o₂ : List ℕ) → length out₁ ≡ length out₂ → As out₁ r₁ o₁ → As out₂ r₂ o₂ →
      (r₁ ≡ r₂) × (take (length (bytes (length out₁))) o₁ ≡ take (length (bytes (length out₁))) o₂)
  pub rest_kept : (out : List ℕ) (r : LarkHeaded) (out' : List ℕ) → As out r out' →
      drop (length (bytes (length out))) out' ≡ drop (length (bytes (length out))) out
  pub exactly : (out : List ℕ) (r : LarkHeaded) (out' : List ℕ) → As out r out' →
      Told (λ (x : LarkHeaded). x.number) (λ (x : LarkHeaded). x.place) headed_refusal (R (length out)) r
  pub finds : (out : List ℕ) (r : LarkHeaded) (out' : List ℕ) → As out r out' → ((n p : ℕ) → R (length out) n p → ⊥) → (r ≡ found) × (out' ≡ onto section out)
  pub fits : (out : List ℕ) → length (bytes (length out)) ≤ length out
  pub only_a_heading_writes : (out : List ℕ) (r : LarkHeaded) (out' : List ℕ) → As out r out' → r.found ≡ 0 → out' ≡ out

abbrev pub HeadingClaim : Type 0
HeadingClaim =
    (s : List ℕ) (options column : ℕ) →
    WritingClaim (HeadedAs s options column) (λ outs. (headed_of s options column outs).bytes) (WritingRow s options column)
    (headed_found (heading_found (line_of s) options column)) (choose (is_heading (line_of s) options column) (section_bytes (heading_events (line_of s))) [])
