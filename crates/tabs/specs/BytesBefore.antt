-- The line's check and its indentation as they were before tabs went to stops: spaces and tabs counted in bytes, from column 0 alone. No call goes by
-- these. They stand here for what is said of each reader beside it: that a line with no tab is read at column 0 as it was then, and with that, that a line
-- with tabs is read as if they were replaced by spaces (specs/Replaced.antt).
-- Assumes nothing.
use Rattle.std.specs.Prelude.{ℕ, ◌≡◌, Bool, true, not, List, length, take, ltb, eqb, Ok, Err}
use Rattle.record.specs.Choice.{choose}
use Rattle.record.specs.Options.{option_on}
use Rattle.record.specs.Check.{first_return}
use Rattle.scan.specs.Run.{space_or_tab, leading, every, blanks}
use Rattle.scan.specs.Line.{end_of, refusal, checked_line, Checked}
use Rattle.scan.specs.Columns.{columns, reach, indentation}
use Rattle.scan.specs.declared.columns.Reach.{Reach}

unfoldable pub checked_before : List ℕ → ℕ → Checked
checked_before s options =
    choose (ltb 63 options) (Err (refusal 2 0))
    (choose (ltb 16384 (length s)) (Err (refusal 3 16384))
    (choose (ltb (first_return (length s) s 0) (length s)) (Err (refusal 4 (first_return (length s) s 0)))
    (Ok (end_of s))))

-- up to a maximum, a tab as one byte
unfoldable pub blanks_up_to : ℕ → List ℕ → ℕ
blanks_up_to max l = leading space_or_tab (take max l)

unfoldable pub indentation_before : ℕ → List ℕ → ℕ
indentation_before options l = choose (option_on options 32) (blanks_up_to 3 l) (blanks l)

unfoldable pub no_tab : ℕ → Bool
no_tab b = not (eqb b 9)

-- n bytes of as many columns, and no tab cut
abbrev pub whole : ℕ → Reach
whole n = record { bytes = n; columns = n; left = 0 }

-- Without a tab, columns are bytes, at whatever column the line starts. Proved: proofs/BytesBefore.antt
pub record BytesAreColumns (c : ℕ) (l : List ℕ) : Type 0 where
  pub all : columns c l ≡ blanks l
  pub up_to : (max : ℕ) → reach max c l ≡ whole (blanks_up_to max l)
  pub indented : (options : ℕ) → indentation options c l ≡ whole (indentation_before options l)

abbrev pub WithoutTabs : Type 0
WithoutTabs = (c : ℕ) (l : List ℕ) → every no_tab l ≡ true → BytesAreColumns c l

-- and the check at column 0 is the one of before
abbrev pub CheckedAsBefore : Type 0
CheckedAsBefore = (s : List ℕ) (options : ℕ) → checked_line s options 0 ≡ checked_before s options
