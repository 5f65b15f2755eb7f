-- Results that document 01's words over event numbers refuse, of one record: a copier's, and those of writers that join two chains, split one, write
-- an exit one event late, and exchange the two names.
-- Assumes nothing.
use Prim.Native.Nat.{ℕ}
use mathlib.Core.Path.{◌≡◌, refl, ap}
use mathlib.Core.Bool.{true}
use mathlib.Core.List.{List, [], ◌∷◌}
use native.Mathlib.Omega.{arith}
use lib.ListN.{length}
use Rattle.record.specs.Choice.{choose, and}
use Rattle.record.specs.Event.{enter, exit}
use Rattle.record.specs.Outcome.{gives}
use Rattle.record.specs.Stack.{fits_open, after, nth}
use Rattle.record.specs.Sound.{placed, sound_from, sound}
use Rattle.record.specs.declared.event.Event.{Event}
use Rattle.list.specs.Tree.{written, rest_of, tree_of}
use Rattle.list.specs.Item.{past_leaf, known, marker_of, prefix_of, mark_of}
use Rattle.list.specs.Lists.{offending, offenders, between, no_item, neighbour, joins, list_name, listed, lists}
use Rattle.list.specs.Gathered.{Gathered}
use Rattle.list.proofs.Once.{gathered_once}
use Rattle.list.proofs.Gathering.{result_gathered}

-- an item with one byte as its mark, and a line ending
abbrev item : ℕ → ℕ → List Event → List Event
item from to es = enter 15 from ∷ enter 16 from ∷ enter 17 from ∷ exit 17 to ∷ exit 16 to ∷ exit 15 to ∷ es

abbrev ending : ℕ → List Event → List Event
ending from es = enter 21 from ∷ exit 21 from ∷ es

-- `-`, `-` and `.`, each on its line
abbrev document : List ℕ
document = 45 ∷ 10 ∷ 45 ∷ 10 ∷ 46 ∷ []

abbrev events : List Event
events = item 0 1 (ending 1 (item 2 3 (ending 3 (item 4 5 []))))

abbrev right : List Event
right = enter 20 0 ∷ item 0 1 (ending 1 (item 2 3 (exit 20 3 ∷ ending 3 (enter 19 4 ∷ item 4 5 (exit 19 5 ∷ [])))))

right_result : lists document events ≡ gives right
unfolding choose and written rest_of tree_of past_leaf known marker_of prefix_of mark_of offending offenders between no_item neighbour joins list_name listed lists
right_result = refl

sound_events : sound 64 5 events ≡ true
unfolding choose and placed fits_open after sound_from
sound_events = refl

pub right_gathered : Gathered document events 0 right
right_gathered = result_gathered 64 5 document events right sound_events right_result

only_right : {out : List Event} → Gathered document events 0 out → right ≡ out
only_right {out} g = gathered_once document events right out right_gathered g

-- the events as they came
pub copied : Gathered document events 0 events → ⊥
copied g = let z = ap length (only_right g) in omega arith

-- one list round all three
pub two_joined : Gathered document events 0 (enter 20 0 ∷ item 0 1 (ending 1 (item 2 3 (ending 3 (item 4 5 (exit 20 5 ∷ [])))))) → ⊥
two_joined g = let z = ap length (only_right g) in omega arith

-- a list round each
pub one_split : Gathered document events 0
    (enter 20 0 ∷ item 0 1 (exit 20 1 ∷ ending 1 (enter 20 2 ∷ item 2 3 (exit 20 3 ∷ ending 3 (enter 19 4 ∷ item 4 5 (exit 19 5 ∷ []))))))
    → ⊥
one_split g = let z = ap length (only_right g) in omega arith

-- the first list's exit inside the line ending
pub exit_late : Gathered document events 0
    (enter 20 0 ∷ item 0 1 (ending 1 (item 2 3 (enter 21 3 ∷ exit 20 3 ∷ exit 21 3 ∷ enter 19 4 ∷ item 4 5 (exit 19 5 ∷ [])))))
    → ⊥
exit_late g = let z = ap (λ (es : List Event). (nth es 15).name) (only_right g) in omega arith

-- 19 for 20 and 20 for 19
pub names_exchanged : Gathered document events 0
    (enter 19 0 ∷ item 0 1 (ending 1 (item 2 3 (exit 19 3 ∷ ending 3 (enter 20 4 ∷ item 4 5 (exit 20 5 ∷ []))))))
    → ⊥
names_exchanged g = let z = ap (λ (es : List Event). (nth es 0).name) (only_right g) in omega arith
