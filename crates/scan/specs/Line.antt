-- Where a line ends, and numbers 2, 3 and 4, which all line readers give alike. specs/Rows.antt says the same as the table has it.
-- Assumes nothing.
use Rattle.std.specs.Prelude.{ℕ, ◌≤◌, ◌<◌, ◌≡◌, Bool, true, false, not, List, length, get_or, take, ltb, eqb, Result, Ok, Err}
use Rattle.record.specs.Choice.{choose}
use Rattle.record.specs.Check.{first_return}
use Rattle.record.specs.declared.check.Refusal.{Refusal}
use Rattle.scan.specs.Run.{leading}

-- §2.1: "A line is a sequence of zero or more characters other than line feed (U+000A) .."
unfoldable pub no_feed : ℕ → Bool
no_feed b = not (eqb b 10)

-- Document 01: "A line ends before its first line feed"
unfoldable pub end_of : List ℕ → ℕ
end_of s = leading no_feed s

-- the line: what lies before its end
unfoldable pub line_of : List ℕ → List ℕ
line_of s = take (end_of s) s

-- Said a second time, by places: no byte before the end is a line feed, and the byte there is one, unless nothing is left; the line is the bytes before it.
-- Proved: proofs/Checks.antt
pub record EndsBeforeFeed (s : List ℕ) (n : ℕ) : Type 0 where
  pub within : n ≤ length s
  pub before : (p : ℕ) → p < n → get_or s p 0 ≡ 10 → ⊥
  pub there : n < length s → get_or s n 0 ≡ 10

abbrev pub LineEnds : Type 0
LineEnds = (s : List ℕ) → EndsBeforeFeed s (length (line_of s)) × (line_of s ≡ take (length (line_of s)) s) × (end_of s ≡ length (line_of s))

abbrev pub refusal : ℕ → ℕ → Refusal
refusal number place = record { number = number; place = place }

-- what the check finds: the length of the line, or the refusal
abbrev pub Checked : Type 0
Checked = Result ℕ Refusal

-- "options over 63; a starting column over 16,384" (amendment D18: the standard sets no limit), "a line over 16,384 bytes" (D18), "a carriage return in the
-- .. line"; "3 and 4 look past" the line feed
unfoldable pub checked_line : List ℕ → ℕ → ℕ → Checked
checked_line s options column =
    choose (ltb 63 options) (Err (refusal 2 0))
    (choose (ltb 16384 column) (Err (refusal 2 0))
    (choose (ltb 16384 (length s)) (Err (refusal 3 16384))
    (choose (ltb (first_return (length s) s 0) (length s)) (Err (refusal 4 (first_return (length s) s 0)))
    (Ok (end_of s)))))

-- Numbers given back: a flag is 0 or 1
abbrev pub flag : Bool → ℕ
flag true = 1
flag false = 0

-- the refusal as an answer, or else what is found on the line
unfoldable pub reading : {A : Type 0} → Checked → (Refusal → A) → A → A
reading (Ok n) bad found = found
reading (Err r) bad found = bad r
