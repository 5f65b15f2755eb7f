-- What the heading reader promises: its answer, and what its output then holds.
-- Assumes nothing.
use Rattle.std.specs.Prelude.{ℕ, ◌≡◌, List, length}
use Rattle.record.specs.Outcome.{onto}
use Rattle.atx.specs.Heading.{headed_in, headed_of, Headed}

-- on a line: r is answered, and out' is what the output then holds
pub record HeadedIn (l : List ℕ) (options column : ℕ) (out : List ℕ) (r : Headed) (out' : List ℕ) : Type 0 where
  pub answer : r ≡ (headed_in l options column (length out)).answer
  pub output : out' ≡ onto (headed_in l options column (length out)).bytes out

-- on a line as it is lent: of the line, the options, the column and the output's length alone
pub record HeadedBy (s : List ℕ) (options column : ℕ) (out : List ℕ) (r : Headed) (out' : List ℕ) : Type 0 where
  pub answer : r ≡ (headed_of s options column (length out)).answer
  pub output : out' ≡ onto (headed_of s options column (length out)).bytes out
