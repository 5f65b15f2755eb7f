-- Document 01's own sentences on opening, closing and skipping, and that they say what the standard's rules with the amendments say: opening
-- and closing for every marker, every neighbour before and after, with option 2 on and off; skipping for all sizes; and that the clause on
-- neighbouring markers reads bytes. proofs/AsWritten.antt and proofs/MarkerBytes.antt prove the statements.
-- Assumes nothing.
use Rattle.std.specs.Prelude.{ℕ, suc, ◌+◌, ◌%◌, ◌≡◌, Bool, true, false, not, ◌&&◌, ◌||◌, List, eqb, ltb}
use Rattle.std.proofs.Math.Option.{Option, none, some}
use Rattle.record.specs.Choice.{choose}
use Rattle.record.specs.Options.{option_on}
use Rattle.classes.specs.declared.Class.{Class}
use Rattle.classes.specs.declared.Class.TheVariants.{Other, Whitespace, Punctuation}
use Rattle.characters.specs.Beside.{Neighbour, neighbour_before, neighbour_after}
use Rattle.runs.specs.Runs.{byte_at}
use Rattle.runs.specs.Flanking.{is_punctuation, class_beside, beside_marker, can_open, can_close}
use Rattle.runs.specs.Rule.{Side, crate_rule}

abbrev pub is_other : Class → Bool
is_other Other = true
is_other Whitespace = false
is_other Punctuation = false

-- "Open: after is other; or after is punctuation and before isn't other; or the marker isn't `~` and the next byte is `*`, `_`, or
-- (option 2) `~`."
unfoldable pub first_open : Bool → ℕ → Neighbour → Neighbour → Bool
first_open strike marker before after =
    is_other (class_beside after)
    || ((is_punctuation (class_beside after) && not (is_other (class_beside before))) || beside_marker strike marker after)

-- the same over the classes and what stands after, and what `_` asks beyond it
unfoldable pub first_by : Bool → ℕ → Class → Class → Neighbour → Bool
first_by strike marker before after beside = is_other after || ((is_punctuation after && not (is_other before)) || beside_marker strike marker beside)

unfoldable pub opens_by : Bool → ℕ → Class → Neighbour → Class → Neighbour → Bool
opens_by strike marker before left after right =
    let first = first_by strike marker before after right in
    choose (eqb marker 95) (first && (not (is_other before) || not (first_by strike marker after before left))) first

-- "Close: the same with before and after exchanged."
abbrev pub first_close : Bool → ℕ → Neighbour → Neighbour → Bool
first_close strike marker before after = first_open strike marker after before

-- "For `_`, afterwards: open only if before isn't other or close was false; close only if after isn't other or open was false, both from the
-- first results."
unfoldable pub opens : Bool → ℕ → Neighbour → Neighbour → Bool
opens strike marker before after =
    let first = first_open strike marker before after in
    choose (eqb marker 95) (first && (not (is_other (class_beside before)) || not (first_close strike marker before after))) first

unfoldable pub closes : Bool → ℕ → Neighbour → Neighbour → Bool
closes strike marker before after =
    let first = first_close strike marker before after in
    choose (eqb marker 95) (first && (not (is_other (class_beside after)) || not (first_open strike marker before after))) first

-- a run can open by CommonMark's rules with amendment D4 exactly when document 01's paragraph says so
abbrev pub OpenAsWritten : Type 0
OpenAsWritten =
    (strike : Bool) (marker : ℕ) (before after : Neighbour) → can_open true strike marker before after ≡ opens strike marker before after

-- and the same of closing
abbrev pub CloseAsWritten : Type 0
CloseAsWritten =
    (strike : Bool) (marker : ℕ) (before after : Neighbour) → can_close true strike marker before after ≡ closes strike marker before after

-- "skips it if (either can do both jobs, closer's remaining size mod 3 ≠ 0, and the remaining sizes sum to a multiple of 3) or (`~`, and the
-- sizes differ, exceed 2, or are 1 without option 4)"
unfoldable pub skips : Bool → ℕ → Side → Side → Bool
skips single marker opener closer =
    ((opener.both || closer.both) && (not (eqb (closer.left % 3) 0) && eqb ((opener.left + closer.left) % 3) 0))
    || (eqb marker 126 && (not (eqb opener.left closer.left) || (ltb 2 closer.left || (eqb closer.left 1 && not single))))

-- the crate's rule takes exactly the openers that the paper does not skip
abbrev pub TakenAsWritten : Type 0
TakenAsWritten =
    (options marker : ℕ) (opener closer : Side) → crate_rule options marker opener closer ≡ not (skips (option_on options 4) marker opener closer)

-- the clause on neighbouring markers over a byte: "the marker isn't `~` and the next byte is `*`, `_`, or (option 2) `~`"
unfoldable pub marker_byte : Bool → ℕ → Option ℕ → Bool
marker_byte strike marker none = false
marker_byte strike marker (some b) = not (eqb marker 126) && (eqb b 42 || (eqb b 95 || (eqb b 126 && strike)))

-- over characters it says the same of every document
abbrev pub MarkerAfter : Type 0
MarkerAfter = (strike : Bool) (marker : ℕ) (doc : List ℕ) (at : ℕ) → beside_marker strike marker (neighbour_after doc at) ≡ marker_byte strike marker (byte_at doc at)

abbrev pub MarkerBefore : Type 0
MarkerBefore = (strike : Bool) (marker : ℕ) (doc : List ℕ) (at : ℕ) → beside_marker strike marker (neighbour_before doc (suc at)) ≡ marker_byte strike marker (byte_at doc at)
