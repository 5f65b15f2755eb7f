-- What a user reads the promises through: statements about the answers, each proved in proofs/Lawful.antt for every line and all arguments.
-- Assumes nothing.
use Rattle.std.specs.Prelude.{ℕ, ◌+◌, ◌≤◌, ◌<◌, ◌≡◌, Bool, true, false, List, length, get_or, drop, None}
use Rattle.record.specs.Options.{option_on}
use Rattle.scan.specs.Columns.{columns, indentation}
use Rattle.lines.specs.Spaces.{spaces_in}
use Rattle.lines.specs.Item.{thematic_break, start_in}
use Rattle.lines.specs.Going.{going_in}
use Rattle.lines.specs.declared.container.Container.{Container}

-- n bytes of a line were taken, and `left` columns of a tab are left over: no more bytes than it has, and where columns are left, the next byte is a tab, of
-- which at most 3 are left. How many is said in `tabs`
pub record LeftLaws (l : List ℕ) (n left : ℕ) : Type 0 where
  pub within : n ≤ length l
  pub left_of_a_tab : 0 < left → get_or l n 0 ≡ 9
  pub at_most_three : left ≤ 3

-- space-or-tab took n bytes of a line that starts at a column: the columns taken are as many as were asked for
pub record TakenLaws (l : List ℕ) (column min max n left : ℕ) : Type 0 where
  pub leaves : LeftLaws l n left
  pub columns_taken : ℕ
  pub at_least : min ≤ columns_taken
  pub at_most : columns_taken ≤ max
  -- what is left of the line has the other columns, from where the reader stopped
  pub rest : columns column l ≡ columns_taken + columns (column + columns_taken) (drop n l)

-- a list item starts on a line
pub record ItemLaws (l : List ℕ) (options column taken left : ℕ) (held : Container) : Type 0 where
  pub leaves : LeftLaws l taken left
  pub two : 2 ≤ held.size
  -- "size is indentation + marker + 1", or indentation, marker and the spaces taken
  pub width : ℕ
  pub padding : ℕ
  pub size : held.size ≡ (indentation options column l).columns + width + padding
  pub marker : (1 ≤ width) × (width ≤ 10)
  pub padded : (1 ≤ padding) × (padding ≤ 4)
  -- "bytes taken (to the marker's end on a blank start)"
  pub blank_start : held.blank ≡ true → (padding ≡ 1) × (left ≡ 0) × (taken ≡ (indentation options column l).bytes + width)
  -- no byte is wider than what it takes: the item's size is that of its bytes, or more by its tabs
  pub filled_start_lem : held.blank ≡ false → taken ≤ held.size
  -- §5.2: a thematic break is no list item
  pub no_break : thematic_break (drop (indentation options column l).bytes l) ≡ false

-- with option 32, what is indented by more than three columns starts no item
abbrev pub TooDeep : Type 0
TooDeep = (l : List ℕ) (options column : ℕ) (interrupting : Bool) → option_on options 32 ≡ true → 3 < columns column l → start_in l options column interrupting ≡ None

-- stops stand every four columns: a line that starts four columns further on is answered alike
pub record FourFurther (l : List ℕ) (column : ℕ) : Type 0 where
  pub spaces : (min max : ℕ) → spaces_in l (column + 4) min max ≡ spaces_in l column min max
  pub start : (options : ℕ) (interrupting : Bool) → start_in l options (column + 4) interrupting ≡ start_in l options column interrupting
  pub going : (held : Container) → going_in l (column + 4) held ≡ going_in l column held

abbrev pub EveryFour : Type 0
EveryFour = (l : List ℕ) (column : ℕ) → FourFurther l column

-- a line goes on with a container, `held`, which is `held'` afterwards
pub record GoesLaws (l : List ℕ) (held : Container) (taken left : ℕ) (held' : Container) : Type 0 where
  pub leaves : LeftLaws l taken left
  pub at_most : taken ≤ held.size
  pub same_size : held'.size ≡ held.size
  pub same_kind : held'.kind ≡ held.kind
  pub no_flag : held'.blank ≡ false
