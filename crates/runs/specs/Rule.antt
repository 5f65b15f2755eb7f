-- What makes an opener eligible for a closer, as a parameter. All that follows is said of any rule; the crate's and the standard's are
-- two of them.
-- Assumes nothing.
use Rattle.std.specs.Prelude.{ℕ, ◌+◌, ◌%◌, Bool, true, false, not, ◌&&◌, ◌||◌, eqb, ltb}
use Rattle.record.specs.Options.{option_on}

-- one side of a match: the size of the whole run, the markers that it has left, and whether it can both open and close
pub record Side : Type 0 where
  pub whole : ℕ
  pub left : ℕ
  pub both : Bool

-- whether a closer takes an opener of its own marker and container: the marker, the opener, the closer
abbrev pub Rule : Type 0
Rule = ℕ → Side → Side → Bool

-- CommonMark's rules 9 and 10: "If one of the delimiters can both open and close emphasis, then the sum of the lengths of the delimiter runs
-- containing the opening and closing delimiters must not be a multiple of 3 unless both lengths are multiples of 3." Whether it is broken.
unfoldable pub threes : Bool → ℕ → ℕ → Bool
threes both opener closer = both && (eqb ((opener + closer) % 3) 0 && not (eqb (opener % 3) 0 && eqb (closer % 3) 0))

-- GFM: "Strikethrough text is any text wrapped in a matching pair of one or two tildes", "three or more tildes do not create a strikethrough".
-- Amendment D7: document 01 skips "`~`, and the sizes differ, exceed 2, or are 1 without option 4". `single` says whether option 4 is on; where
-- it is, this is GFM's rule.
unfoldable pub tildes : Bool → ℕ → ℕ → ℕ → Bool
tildes single marker opener closer =
    eqb marker 126 && (not (eqb opener closer) || (ltb 2 closer || (eqb closer 1 && not single)))

-- both conditions, the first over the sizes that `size_of` gives
unfoldable pub rule_over : (Side → ℕ) → Bool → Rule
rule_over size_of single marker opener closer =
    not (threes (opener.both || closer.both) (size_of opener) (size_of closer)) && not (tildes single marker opener.left closer.left)

-- the standard's: the lengths are those of the whole runs. It keeps option 4, so that D7 goes with that option set
abbrev pub standard_rule : ℕ → Rule
standard_rule options = rule_over (λ s. s.whole) (option_on options 4)

-- Amendment D5: the crate's lengths are those of what is left of the runs. By whether option 4 is on, and by the options
abbrev pub rule_for : Bool → Rule
rule_for single = rule_over (λ s. s.left) single

abbrev pub crate_rule : ℕ → Rule
crate_rule options = rule_for (option_on options 4)

-- a profile: whether the clause on neighbouring markers holds, and the rule that the options give
pub record Profile : Type 0 where
  pub amended : Bool
  pub rule : ℕ → Rule

abbrev pub crate : Profile
crate = record { amended = true; rule = crate_rule }

abbrev pub standard : Profile
standard = record { amended = false; rule = standard_rule }
