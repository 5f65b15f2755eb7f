-- Continuation. Document 01: "Continuation with stored size and blank flag: a blank line is no continuation if the flag is set, else takes
-- up to size; a filled line clears the flag, whatever follows, and must begin with a space or tab and have size of them."
-- "A minimum, maximum or stored size means columns." (CommonMark 0.31 §5.2: "A list item can begin with at most one blank line", and rules 1 to 3 for the
-- indentation of further lines.)
-- Assumes nothing.
use Rattle.std.specs.Prelude.{ℕ, false, List, leb, Result, Ok, Err}
use Rattle.record.specs.Choice.{choose, and}
use Rattle.record.specs.declared.check.Refusal.{Refusal}
use Rattle.scan.specs.Run.{blank}
use Rattle.scan.specs.Columns.{columns, reach}
use Rattle.scan.specs.Line.{line_of, checked_line, reading, flag}
use Rattle.lines.specs.declared.container.Container.{Container}
use Rattle.lines.specs.declared.going.Going.{Going}
use Rattle.lines.specs.declared.going.Going.TheVariants.{Goes, Stops}

abbrev pub cleared : Container → Container
cleared held = record { kind = held.kind; size = held.size; blank = false }

-- the line goes on, up to the container's size; a tab may be cut there
abbrev pub goes_to : List ℕ → ℕ → Container → Going
goes_to l column held = let r = reach held.size column l in Goes r.bytes r.left held

unfoldable pub blank_going : List ℕ → ℕ → Container → Going
blank_going l column held = choose held.blank (Stops held) (goes_to l column held)

-- the container's flag is cleared already
unfoldable pub filled_going : List ℕ → ℕ → Container → Going
filled_going l column held = choose (and (leb 1 (columns column l)) (leb held.size (columns column l))) (goes_to l column held) (Stops held)

-- on a line
unfoldable pub going_in : List ℕ → ℕ → Container → Going
going_in l column held = choose (blank l) (blank_going l column held) (filled_going l column (cleared held))

unfoldable pub going_of : List ℕ → ℕ → ℕ → Container → Result Going Refusal
going_of s options column held = reading (checked_line s options column) Err (Ok (going_in (line_of s) column held))

-- "their other numbers are zero, but for the continuation's flag as it then stands"
pub record Numbers : Type 0 where
  pub number : ℕ
  pub place : ℕ
  pub found : ℕ
  pub taken : ℕ
  pub left : ℕ
  pub blank : ℕ

abbrev pub numbers_of : Result Going Refusal → Numbers
numbers_of (Ok (Goes taken left held)) = record { number = 0; place = 0; found = 1; taken = taken; left = left; blank = flag held.blank }
numbers_of (Ok (Stops held)) = record { number = 0; place = 0; found = 0; taken = 0; left = 0; blank = flag held.blank }
numbers_of (Err r) = record { number = r.number; place = r.place; found = 0; taken = 0; left = 0; blank = 0 }
