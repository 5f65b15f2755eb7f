-- The events of a record that are no run's, and what it is that they stay. Document 01, section "Attention": "Other events stay."
-- Assumes nothing.
use Rattle.std.specs.Prelude.{List, [], ◌∷◌, eqb}
use Rattle.record.specs.Choice.{choose}
use Rattle.record.specs.declared.event.Event.{Event}

unfoldable pub others : List Event → List Event
others [] = []
others (e ∷ es) = choose (eqb e.name 1) (others es) (e ∷ others es)

-- some events stand among others: the same events, in the same order
pub data Among : List Event → List Event → Type 0 where
  none : {fs : List Event} → Among [] fs
  same : {e : Event} {es fs : List Event} → Among es fs → Among (e ∷ es) (e ∷ fs)
  more : {f : Event} {es fs : List Event} → Among es fs → Among es (f ∷ fs)
