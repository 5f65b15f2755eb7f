-- The records that attention resolves: their events are sound, and no run breaks the shape rule.
-- Assumes nothing.
use Rattle.std.specs.Prelude.{ℕ, ◌≡◌, true, List, length}
use Rattle.std.proofs.Math.Option.{none}
use Rattle.record.specs.Sound.{sound}
use Rattle.record.specs.declared.event.Event.{Event}
use Rattle.runs.specs.Runs.{offender}

-- neither number 5 nor number 6: `deep` is how many events may be open at once
pub record Accepted (deep options : ℕ) (doc : List ℕ) (es : List Event) : Type 0 where
  pub events : sound deep (length doc) es ≡ true
  pub shapes : offender doc options es ≡ none
