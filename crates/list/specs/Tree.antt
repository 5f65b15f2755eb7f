-- The event tree. A sound list of events is a row of whole pairs, each of which holds such a row again; the rules on lists speak of
-- these rows: of what an item holds, and of the siblings that follow it.
-- Assumes nothing.
use Rattle.std.specs.Prelude.{ℕ, ◌≡◌, true, List, [], ◌∷◌, eqb}
use Rattle.record.specs.Choice.{choose}
use Rattle.record.specs.Event.{enter, exit}
use Rattle.record.specs.Sound.{sound}
use Rattle.record.specs.declared.event.Event.{Event}

-- a row of siblings: none, or a pair (its name, the places of its enter and its exit, the row that it holds) and the siblings after it
pub data Row : Type 0 where
  none : Row
  pair : ℕ → ℕ → ℕ → Row → Row → Row

-- the events of a row, and then others
unfoldable pub written : Row → List Event → List Event
written none es = es
written (pair name from to inside next) es = enter name from ∷ written inside (exit name to ∷ written next es)

-- what a list of events is from some event on: a row to the end, or a row up to the exit of the pair that holds it, and what comes after
-- that exit
pub data Rest : Type 0 where
  ends : Row → Rest
  leaves : Row → ℕ → ℕ → Rest → Rest

-- an enter event before a rest: with the row up to its exit it is a pair, which stands before the siblings after that exit
abbrev pub entering : Event → Rest → Rest
entering e (ends row) = ends row
entering e (leaves inside name to (ends next)) = ends (pair e.name e.place to inside next)
entering e (leaves inside name to (leaves next outer place rest)) = leaves (pair e.name e.place to inside next) outer place rest

unfoldable pub rest_of : List Event → Rest
rest_of [] = ends none
rest_of (e ∷ es) = choose (eqb e.kind 0) (entering e (rest_of es)) (leaves none e.name e.place (rest_of es))

abbrev pub row_of : Rest → Row
row_of (ends row) = row
row_of (leaves row name to rest) = row

-- the event tree of a list of events
unfoldable pub tree_of : List Event → Row
tree_of es = row_of (rest_of es)

-- of a sound list it is the one row whose events they are: proofs/Reading.antt
abbrev pub TreeWritten : Type 0
TreeWritten = (deep d : ℕ) (es : List Event) → sound deep d es ≡ true → written (tree_of es) [] ≡ es

abbrev pub TreeUnique : Type 0
TreeUnique = (row : Row) → tree_of (written row []) ≡ row
