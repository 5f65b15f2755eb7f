-- The events that stand outside: all but the inner events of headings. The resolver keeps them, in their order and with their places.
-- Assumes nothing.
use Rattle.std.specs.Prelude.{ℕ, zero, suc, List, [], ◌∷◌}
use Rattle.record.specs.Choice.{choose}
use Rattle.record.specs.declared.event.Event.{Event}
use Rattle.heading.specs.Headings.{is_of, before_first}

-- the first k of these events are inner ones
unfoldable pub outside_from : ℕ → List Event → List Event
outside_from k [] = []
outside_from zero (e ∷ es) = e ∷ outside_from (choose (is_of 0 11 e) (before_first (is_of 1 11) es) 0) es
outside_from (suc k) (e ∷ es) = outside_from k es

abbrev pub outside : List Event → List Event
outside es = outside_from 0 es
