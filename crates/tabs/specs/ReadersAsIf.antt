-- §2.2, of each reader: "tabs behave as if they were replaced by spaces with a tab stop of 4 characters". Whatever a reader answers of a line that starts at a
-- column, it answered before tabs went to stops (specs/ReadersBefore.antt) of the line with its tabs replaced; the bytes taken and the columns left are where that
-- came to. With that each answer is said a second time, for every line and all arguments. Proved: proofs/ReadersAsIf.antt.
-- Assumes nothing.
use Rattle.std.specs.Prelude.{ℕ, ◌≡◌, Bool, List, None}
use Rattle.tabs.specs.Replaced.{replaced, CameTo}
use Rattle.lines.specs.Spaces.{spaces_in, takes}
use Rattle.lines.specs.Item.{start_in, starts}
use Rattle.lines.specs.Going.{going_in}
use Rattle.tabs.specs.ReadersBefore.{spaces_in_before, start_in_before, going_in_before}
use Rattle.lines.specs.declared.container.Container.{Container}
use Rattle.lines.specs.declared.going.Going.TheVariants.{Goes, Stops}

-- `n` and `left` on the line are k bytes of the line with its tabs replaced
pub record AsIfSpaces (c : ℕ) (l : List ℕ) : Type 0 where
  pub few : (min max : ℕ) → spaces_in l c min max ≡ None → spaces_in_before (replaced c l) min max ≡ None
  pub taken : (min max n left : ℕ) → spaces_in l c min max ≡ takes n left →
      (k : ℕ) × CameTo c l n left k × (spaces_in_before (replaced c l) min max ≡ takes k 0)
  pub no_item_lem : (options : ℕ) (interrupting : Bool) → start_in l options c interrupting ≡ None → start_in_before (replaced c l) options interrupting ≡ None
  pub item : (options : ℕ) (interrupting : Bool) (n left : ℕ) (held : Container) → start_in l options c interrupting ≡ starts n left held →
      (k : ℕ) × CameTo c l n left k × (start_in_before (replaced c l) options interrupting ≡ starts k 0 held)
  pub stops : (held held' : Container) → going_in l c held ≡ Stops held' → going_in_before (replaced c l) held ≡ Stops held'
  pub goes : (held held' : Container) (n left : ℕ) → going_in l c held ≡ Goes n left held' →
      (k : ℕ) × CameTo c l n left k × (going_in_before (replaced c l) held ≡ Goes k 0 held')

abbrev pub TabsAsSpaces : Type 0
TabsAsSpaces = (c : ℕ) (l : List ℕ) → AsIfSpaces c l
