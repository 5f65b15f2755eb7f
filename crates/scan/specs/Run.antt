-- Kinds of bytes, runs of them, and blank lines: the words in which the line readers are defined. CommonMark 0.31 §2.1 and §2.2.
-- Assumes nothing.
use Rattle.std.specs.Prelude.{ℕ, suc, ◌≤◌, ◌<◌, ◌≡◌, Bool, true, false, not, List, [], ◌∷◌, length, get_or, leb, eqb}
use Rattle.record.specs.Choice.{choose, and}

unfoldable pub or : Bool → Bool → Bool
or true b = true
or false b = b

-- "space (U+0020)", "tab (U+0009)"
unfoldable pub space_or_tab : ℕ → Bool
space_or_tab b = or (eqb b 32) (eqb b 9)

-- all that is neither space nor tab
unfoldable pub filled : ℕ → Bool
filled b = not (space_or_tab b)

-- "arabic digits (0-9)"
unfoldable pub digit : ℕ → Bool
digit b = and (leb 48 b) (leb b 57)

unfoldable pub hash : ℕ → Bool
hash b = eqb b 35

-- one byte and no other
unfoldable pub same : ℕ → ℕ → Bool
same what b = eqb b what

-- the length of the run at the front whose bytes are all of a kind
unfoldable pub leading : (ℕ → Bool) → List ℕ → ℕ
leading kind [] = 0
leading kind (b ∷ l) = choose (kind b) (suc (leading kind l)) 0

-- whether all bytes are of a kind
unfoldable pub every : (ℕ → Bool) → List ℕ → Bool
every kind [] = true
every kind (b ∷ l) = and (kind b) (every kind l)

-- how many bytes are of a kind
unfoldable pub count : (ℕ → Bool) → List ℕ → ℕ
count kind [] = 0
count kind (b ∷ l) = choose (kind b) (suc (count kind l)) (count kind l)

-- the first byte; 0, which stands for nothing here, where there is none
abbrev pub first : List ℕ → ℕ
first l = get_or l 0 0

-- §2.1: "A line containing no characters, or a line containing only spaces (U+0020) or tabs (U+0009), is called a blank line."
unfoldable pub blank : List ℕ → Bool
blank l = every space_or_tab l

-- how many spaces and tabs stand in front. How wide they are is specs/Columns.antt's
unfoldable pub blanks : List ℕ → ℕ
blanks l = leading space_or_tab l

-- Said a second time, by places: no more than there are bytes; each byte before is a space or a tab; and the next one is not, unless nothing is left.
-- Proved: proofs/Blanks.antt
pub record BlanksTo (l : List ℕ) (n : ℕ) : Type 0 where
  pub within : n ≤ length l
  pub before : (p : ℕ) → p < n → space_or_tab (get_or l p 0) ≡ true
  pub stops : n < length l → space_or_tab (get_or l n 0) ≡ false

abbrev pub BlanksCounted : Type 0
BlanksCounted = (l : List ℕ) → BlanksTo l (blanks l)
