-- Space-or-tab. Document 01: "Space-or-tab takes the spaces and tabs that stand there, counted in columns rather than bytes, up to a maximum; fewer than the
-- minimum is the finding "too few", also where minimum exceeds maximum. .. Answered: the bytes taken without a cut tab, and that tab's columns left over."
-- Assumes nothing.
use Rattle.std.specs.Prelude.{ℕ, List, leb, Option, Some, None, Result, Ok, Err}
use Rattle.record.specs.Choice.{choose}
use Rattle.record.specs.declared.check.Refusal.{Refusal}
use Rattle.scan.specs.Columns.{reach}
use Rattle.scan.specs.Line.{line_of, checked_line, reading}
use Rattle.lines.specs.declared.spaces.Taken.{Taken}

-- what is taken: the bytes, and the columns left of a cut tab
abbrev pub takes : ℕ → ℕ → Option Taken
takes bytes left = Some (record { bytes = bytes; left = left })

-- what is answered: what is taken, the finding "too few", or a refusal
abbrev pub Spaces : Type 0
Spaces = Result (Option Taken) Refusal

-- on a line. "A tab is cut only if some of it is taken; the minimum counts that part."
unfoldable pub spaces_in : List ℕ → ℕ → ℕ → ℕ → Option Taken
spaces_in l column min max =
    let r = reach max column l in
    choose (leb min r.columns) (takes r.bytes r.left) None

unfoldable pub spaces_of : List ℕ → ℕ → ℕ → ℕ → ℕ → Spaces
spaces_of s options column min max = reading (checked_line s options column) Err (Ok (spaces_in (line_of s) column min max))

-- "a definition gives this paper's number and values for each case of the enum": number and place are 0 but for a refusal, which has all
-- else 0; `found` is 0 for a finding
pub record Numbers : Type 0 where
  pub number : ℕ
  pub place : ℕ
  pub found : ℕ
  pub taken : ℕ
  pub left : ℕ

abbrev pub numbers_of : Spaces → Numbers
numbers_of (Ok (Some t)) = record { number = 0; place = 0; found = 1; taken = t.bytes; left = t.left }
numbers_of (Ok None) = record { number = 0; place = 0; found = 0; taken = 0; left = 0 }
numbers_of (Err r) = record { number = r.number; place = r.place; found = 0; taken = 0; left = 0 }
