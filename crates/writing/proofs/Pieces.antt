-- The events of a piece by the name of its group, and those of pieces one after the other.
-- Assumes nothing.
use Prim.Native.Nat.{ℕ, ◌+◌}
use mathlib.Core.Path.{◌≡◌, refl, ap}
use mathlib.Core.List.{List, [], ◌∷◌, ◌++◌}
use Rattle.record.specs.Event.{enter, exit}
use Rattle.record.specs.declared.event.Event.{Event}
use Rattle.runs.specs.Pieces.{Piece, piece, group_name}
use Rattle.runs.specs.Output.{closing_events, opening_events}

pub closing_append : (ps qs : List Piece) → closing_events (ps ++ qs) ≡ closing_events ps ++ closing_events qs
unfolding closing_events
closing_append [] qs = refl
closing_append (p ∷ ps) qs =
    ap (λ (l : List Event). exit (p.name + 2) p.from ∷ enter (p.name + 1) p.from ∷ exit (p.name + 1) p.to ∷ exit p.name p.to ∷ l)
    (closing_append ps qs)

pub opening_append : (ps qs : List Piece) → opening_events (ps ++ qs) ≡ opening_events ps ++ opening_events qs
unfolding opening_events
opening_append [] qs = refl
opening_append (p ∷ ps) qs =
    ap (λ (l : List Event). enter p.name p.from ∷ enter (p.name + 1) p.from ∷ exit (p.name + 1) p.to ∷ enter (p.name + 2) p.to ∷ l)
    (opening_append ps qs)

module _ (m t from to name : ℕ) (e : name ≡ group_name m t) where
  pub closing_named : closing_events (piece m t from to ∷ []) ≡ exit (name + 2) from ∷ enter (name + 1) from ∷ exit (name + 1) to ∷ exit name to ∷ []
  unfolding closing_events
  closing_named = rw e

  pub opening_named : opening_events (piece m t from to ∷ []) ≡ enter name from ∷ enter (name + 1) from ∷ exit (name + 1) to ∷ enter (name + 2) to ∷ []
  unfolding opening_events
  opening_named = rw e
