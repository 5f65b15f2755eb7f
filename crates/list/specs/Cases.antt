-- The definitions, run.
-- Assumes nothing.
use Rattle.std.specs.Prelude.{ℕ, ◌≡◌, refl, List, [], ◌∷◌}
use Rattle.record.specs.Choice.{choose, and}
use Rattle.record.specs.Event.{enter, exit}
use Rattle.record.specs.Outcome.{offends, gives}
use Rattle.record.specs.declared.event.Event.{Event}
use Rattle.list.specs.Tree.{written, rest_of, tree_of}
use Rattle.list.specs.Item.{past_leaf, known, marker_of, prefix_of, mark_of}
use Rattle.list.specs.Lists.{offending, offenders, between, no_item, neighbour, joins, list_name, listed, lists}

-- an item with one byte as its mark
abbrev item : ℕ → ℕ → List Event → List Event
item from to es = enter 15 from ∷ enter 16 from ∷ enter 17 from ∷ exit 17 to ∷ exit 16 to ∷ exit 15 to ∷ es

abbrev ending : ℕ → List Event → List Event
ending from es = enter 21 from ∷ exit 21 from ∷ es

-- `-`, line feed, `-`: one list round both
two_items : lists (45 ∷ 10 ∷ 45 ∷ []) (item 0 1 (ending 1 (item 2 3 []))) ≡
    gives (enter 20 0 ∷ item 0 1 (ending 1 (item 2 3 (exit 20 3 ∷ []))))
unfolding choose and written rest_of tree_of past_leaf known marker_of prefix_of mark_of offending offenders between no_item neighbour joins list_name listed lists
two_items = refl

-- `-`, line feed, `.`: two lists, of which the second is ordered
two_marks : lists (45 ∷ 10 ∷ 46 ∷ []) (item 0 1 (ending 1 (item 2 3 []))) ≡
    gives (enter 20 0 ∷ item 0 1 (exit 20 1 ∷ ending 1 (enter 19 2 ∷ item 2 3 (exit 19 3 ∷ []))))
unfolding choose and written rest_of tree_of past_leaf known marker_of prefix_of mark_of offending offenders between no_item neighbour joins list_name listed lists
two_marks = refl

-- a container between, and none between: the later offends
apart : lists (45 ∷ 45 ∷ []) (item 0 1 (enter 24 1 ∷ exit 24 1 ∷ item 1 2 [])) ≡
    gives (enter 20 0 ∷ item 0 1 (exit 20 1 ∷ enter 24 1 ∷ exit 24 1 ∷ enter 20 1 ∷ item 1 2 (exit 20 2 ∷ [])))
unfolding choose and written rest_of tree_of past_leaf known marker_of prefix_of mark_of offending offenders between no_item neighbour joins list_name listed lists
apart = refl

close : lists (45 ∷ 45 ∷ []) (item 0 1 (item 1 2 [])) ≡ offends 6
unfolding choose and written rest_of tree_of past_leaf known marker_of prefix_of mark_of offending offenders between no_item neighbour joins list_name listed lists
close = refl
