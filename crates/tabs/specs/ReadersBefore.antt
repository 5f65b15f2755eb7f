-- The three readers as they were before tabs went to stops, in bytes and from column 0 (specs/BytesBefore.antt); where they found something, no columns
-- were left. No call goes by these. They stand here for what is said of each reader: a line with no tab is read at column 0 as it was then, and one with tabs as
-- if they were replaced by spaces (specs/ReadersAsIf.antt).
-- Assumes nothing.
use Rattle.std.specs.Prelude.{ℕ, ◌+◌, ◌≡◌, Bool, true, false, List, drop, leb, eqb, Err, None, Option, Some, Result, Ok}
use Rattle.record.specs.declared.check.Refusal.{Refusal}
use Rattle.lines.specs.declared.item.Item.{Item}
use Rattle.lines.specs.declared.spaces.Taken.{Taken}
use Rattle.record.specs.Choice.{choose, and}
use Rattle.record.specs.Options.{option_on}
use Rattle.scan.specs.Run.{every, blank, blanks}
use Rattle.scan.specs.Line.{line_of, reading}
use Rattle.tabs.specs.BytesBefore.{checked_before, blanks_up_to, indentation_before, no_tab}
use Rattle.lines.specs.Spaces.{spaces_of, takes, Spaces}
use Rattle.lines.specs.Item.{marker_of, padding, container, start_of, marked, starts, Start}
use Rattle.lines.specs.Going.{cleared, going_of}
use Rattle.lines.specs.declared.container.Kind.{Kind}
use Rattle.lines.specs.declared.container.Container.{Container}
use Rattle.lines.specs.declared.item.Marker.{Marker}
use Rattle.lines.specs.declared.going.Going.{Going}
use Rattle.lines.specs.declared.going.Going.TheVariants.{Goes, Stops}

unfoldable pub spaces_in_before : List ℕ → ℕ → ℕ → Option Taken
spaces_in_before l min max = choose (leb min (blanks_up_to max l)) (takes (blanks_up_to max l) 0) None

unfoldable pub spaces_before : List ℕ → ℕ → ℕ → ℕ → Spaces
spaces_before s options min max = reading (checked_before s options) Err (Ok (spaces_in_before (line_of s) min max))

unfoldable pub filled_before : Kind → ℕ → ℕ → Option Item
filled_before kind before n = choose (eqb n 0) None (starts (before + padding n) 0 (container kind (before + padding n) false))

unfoldable pub after_before : Bool → Kind → ℕ → List ℕ → Option Item
after_before interrupting kind before rest =
    choose (blank rest)
    (choose interrupting None (starts before 0 (container kind (before + 1) true)))
    (filled_before kind before (blanks rest))

unfoldable pub from_before : Bool → ℕ → Option Marker → List ℕ → Option Item
from_before interrupting indent None l = None
from_before interrupting indent (Some m) l = after_before interrupting m.kind (indent + m.width) (drop m.width l)

unfoldable pub start_in_before : List ℕ → ℕ → Bool → Option Item
start_in_before l options interrupting =
    let indent = indentation_before options l in
    let rest = drop indent l in
    choose (option_on options 16) (from_before interrupting indent (marker_of interrupting rest) rest) None

unfoldable pub start_before : List ℕ → ℕ → Bool → Start
start_before s options interrupting = reading (checked_before s options) Err (Ok (start_in_before (line_of s) options interrupting))

unfoldable pub going_in_before : List ℕ → Container → Going
going_in_before l held =
    choose (blank l)
    (choose held.blank (Stops held) (Goes (blanks_up_to held.size l) 0 held))
    (choose (and (leb 1 (blanks l)) (leb held.size (blanks l))) (Goes held.size 0 (cleared held)) (Stops (cleared held)))

unfoldable pub going_before : List ℕ → ℕ → Container → Result Going Refusal
going_before s options held = reading (checked_before s options) Err (Ok (going_in_before (line_of s) held))

-- Document 01: "Lines with no tab and starting column 0 answer as they did when a tab was one byte." Proved: proofs/ReadersBefore.antt; of the heading reader beside it
pub record AsBefore (s : List ℕ) (options : ℕ) : Type 0 where
  pub spaces : (min max : ℕ) → spaces_of s options 0 min max ≡ spaces_before s options min max
  pub start : (interrupting : Bool) → start_of s options 0 interrupting ≡ start_before s options interrupting
  pub going : (held : Container) → going_of s options 0 held ≡ going_before s options held

abbrev pub WithoutTabs : Type 0
WithoutTabs = (s : List ℕ) (options : ℕ) → every no_tab (line_of s) ≡ true → AsBefore s options
