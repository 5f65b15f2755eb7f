-- What stands beside a run, and what the run can do by it, said a second time: the class of a neighbour by the rules' own sentences, with no decoder between; and
-- what a run of a record can do by document 01's paragraph. proofs/Neighbours.antt proves the two statements.
-- Assumes nothing.
use Rattle.std.specs.Prelude.{ℕ, suc, ◌<◌, ◌≤◌, ◌≡◌, List, length, get_or}
use Rattle.record.specs.Options.{option_on}
use Rattle.record.specs.declared.event.Event.{Event}
use Rattle.characters.specs.Beside.{neighbour_before, neighbour_after}
use Rattle.characters.specs.Laws.{Begins, Ends}
use Rattle.classes.specs.Laws.{asked}
use Rattle.classes.specs.declared.Class.TheVariants.{Other, Whitespace}
use Rattle.runs.specs.Runs.{run_of, first_place}
use Rattle.runs.specs.Flanking.{class_beside}
use Rattle.runs.specs.Rule.{crate}
use Rattle.runs.specs.Pieces.{standing}
use Rattle.runs.specs.Paragraph.{opens, closes}

-- the classes beside the places of a document. "Beginning and end are whitespace"; of a character that ends at a place, or begins there, its own class; "A malformed
-- or cut UTF-8 sequence next to a run is other": where no character ends, or none begins.
pub record ClassesBeside (doc : List ℕ) : Type 0 where
  pub beginning : class_beside (neighbour_before doc 0) ≡ Whitespace
  pub end : (at : ℕ) → length doc ≤ at → class_beside (neighbour_after doc at) ≡ Whitespace
  pub before : (at c : ℕ) → at < length doc → Ends doc (suc at) c → class_beside (neighbour_before doc (suc at)) ≡ asked c
  pub after : (at c : ℕ) → at < length doc → Begins doc at c → class_beside (neighbour_after doc at) ≡ asked c
  pub cut_before : (at : ℕ) → at < length doc → ((c : ℕ) → Ends doc (suc at) c → ⊥) → class_beside (neighbour_before doc (suc at)) ≡ Other
  pub cut_after : (at : ℕ) → at < length doc → ((c : ℕ) → Begins doc at c → ⊥) → class_beside (neighbour_after doc at) ≡ Other

abbrev pub BesideAsAsked : Type 0
BesideAsAsked = (doc : List ℕ) → ClassesBeside doc

-- a run of a record, before the first match, can open and close as the paragraph says of its marker and of what stands before it and after it
abbrev pub StandsAsWritten : Type 0
StandsAsWritten =
    (options : ℕ) (doc : List ℕ) (e : Event) (es : List Event) (i : ℕ) (held : List ℕ) →
    let run = standing crate options (run_of doc e es i held) in
    let marker = get_or doc e.place 0 in
    let before = neighbour_before doc e.place in
    let after = neighbour_after doc (first_place es) in
    (run.opens ≡ opens (option_on options 2) marker before after) × (run.closes ≡ closes (option_on options 2) marker before after)
