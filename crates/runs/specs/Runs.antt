-- The runs of a record, and the shape that they must have. Document 01, section "Attention", its first paragraph and "Container".
-- A number that may be missing is an Option: the container of a run that stands in none, the offender of a record that has none.
-- Assumes nothing.
use Rattle.std.specs.Prelude.{ℕ, zero, suc, ◌+◌, ◌-◌, Bool, true, false, not, ◌||◌, List, [], ◌∷◌, length, get_or, eqb, ltb}
use Rattle.std.proofs.Math.Option.{Option, none, some}
use Rattle.record.specs.Choice.{choose, and}
use Rattle.record.specs.Options.{option_on}
use Rattle.record.specs.Stack.{after}
use Rattle.record.specs.declared.event.Event.{Event}
use Rattle.characters.specs.Beside.{neighbour_before, neighbour_after}
use Rattle.characters.specs.Beside.{Neighbour, Edge}

-- a run: the number of its enter event, the place of its first byte, how many bytes it has and which byte they are, what stands before it and after
-- it, and the number of the innermost enter that is open there
pub record Run : Type 0 where
  pub number : ℕ
  pub start : ℕ
  pub size : ℕ
  pub marker : ℕ
  pub before : Neighbour
  pub after : Neighbour
  pub container : Option ℕ

-- the byte of a document at a place, if it has one
unfoldable pub byte_at : List ℕ → ℕ → Option ℕ
byte_at doc at = choose (ltb at (length doc)) (some (get_or doc at 0)) none

-- the standard's neighbour before a place: on a line whose content begins at `from`, behind the marks of the block quotes and items that the line stands
-- in, nothing stands before that place. What follows does not use it. Amendment D19: the neighbours here are the document's.
unfoldable pub standard_before : ℕ → List ℕ → ℕ → Neighbour
standard_before from doc at = choose (eqb at from) Edge (neighbour_before doc at)

-- "Container: the innermost event open at the run, or none."
abbrev pub innermost_of : List ℕ → Option ℕ
innermost_of [] = none
innermost_of (top ∷ held) = some top

-- the place of the first of some events
abbrev pub first_place : List Event → ℕ
first_place [] = 0
first_place (e ∷ es) = e.place

-- an event that enters a run
unfoldable pub enters_run : Event → Bool
enters_run e = and (eqb e.kind 0) (eqb e.name 1)

-- the run that the event e, of number i, enters; es follow it, the first of them leaves it, and `held` are open there
abbrev pub run_of : List ℕ → Event → List Event → ℕ → List ℕ → Run
run_of doc e es i held =
    record {
      number = i;
      start = e.place;
      size = first_place es - e.place;
      marker = get_or doc e.place 0;
      before = neighbour_before doc e.place;
      after = neighbour_after doc (first_place es);
      container = innermost_of held;
    }

-- the runs of some events, the first of which has number i, where the enters of the numbers `held` are open before them, the innermost first
unfoldable pub runs_from : List ℕ → List Event → ℕ → List ℕ → List Run
runs_from doc [] i held = []
runs_from doc (e ∷ es) i held =
    let rest = runs_from doc es (i + 1) (after e i held) in
    choose (enters_run e) (run_of doc e es i held ∷ rest) rest

unfoldable pub runs_of : List ℕ → List Event → List Run
runs_of doc es = runs_from doc es 0 []

-- "one marker `*`, `_` or `~`"
unfoldable pub is_marker : ℕ → Bool
is_marker b = eqb b 42 || (eqb b 95 || eqb b 126)

-- "its option is on (1 for `*` and `_`, 2 for `~`)"
unfoldable pub allowed : ℕ → ℕ → Bool
allowed options marker = choose (eqb marker 126) (option_on options 2) (option_on options 1)

-- "name 1 is entered, then at once left"
unfoldable pub left_at_once : List Event → Bool
left_at_once [] = false
left_at_once (e ∷ es) = and (eqb e.kind 1) (eqb e.name 1)

-- whether the n bytes from a place on are all this one
unfoldable pub all_are : ℕ → ℕ → List ℕ → ℕ → Bool
all_are zero marker doc at = true
all_are (suc n) marker doc at = and (eqb (get_or doc at 0) marker) (all_are n marker doc (at + 1))

-- whether a byte is there and is this one
abbrev pub is_byte : ℕ → Option ℕ → Bool
is_byte marker none = false
is_byte marker (some b) = eqb b marker

-- "at a later place; all bytes between are one marker `*`, `_` or `~`; the byte after is not that marker (the byte before may be); its option
-- is on": for a run that is entered at one place and left at another
unfoldable pub run_between : List ℕ → ℕ → ℕ → ℕ → Bool
run_between doc options from to =
    let marker = get_or doc from 0 in
    and (ltb from to)
    (and (is_marker marker)
    (and (all_are (to - from) marker doc from)
    (and (not (is_byte marker (byte_at doc to)))
    (allowed options marker))))

-- "Shape: name 1 is entered, then at once left", and so between the places: for the run that e enters, where es follow
unfoldable pub shaped : List ℕ → ℕ → Event → List Event → Bool
shaped doc options e es = and (left_at_once es) (run_between doc options e.place (first_place es))

-- number 6, "the resolver's own shape rule is broken", at the "enter event of the earliest offending run": its number, if there is one
unfoldable pub offender_from : List ℕ → ℕ → List Event → ℕ → Option ℕ
offender_from doc options [] i = none
offender_from doc options (e ∷ es) i =
    choose (and (enters_run e) (not (shaped doc options e es))) (some i) (offender_from doc options es (i + 1))

unfoldable pub offender : List ℕ → ℕ → List Event → Option ℕ
offender doc options es = offender_from doc options es 0
