-- The two tables that a look-up goes by, as they are lent to it. The one of ranges is large: it is lent where a character past ASCII stands beside a run, and
-- else an empty one in its place.
-- Assumes nothing.
use Rattle.std.specs.Prelude.{ℕ, ◌<◌, ◌≡◌, Bool, ◌&&◌, List, leb, eqb, length, get_or}
use Rattle.characters.specs.Index.{Indexed}
use Rattle.classes.specs.Class.{class_of}
use Rattle.classes.specs.declared.Class.{Class}
use Rattle.classes.specs.declared.Class.TheVariants.{Other}

-- "one constant table of 128 entries": for each ASCII character its class
pub record AsciiTable (ascii : List Class) : Type 0 where
  pub size : length ascii ≡ 128
  pub entries : (c : ℕ) → c < 128 → get_or ascii c Other ≡ class_of c

-- that table, and the one of the ranges of punctuation, or an empty one
pub record Lent (ascii : List Class) (marks : List ℕ) : Type 0 where
  pub characters : AsciiTable ascii
  pub ranges : 0 < length marks → Indexed marks

-- the ranges are not lent, and a character's class cannot be told without them
unfoldable pub lacks : List ℕ → ℕ → Bool
lacks marks c = eqb (length marks) 0 && leb 128 c
