-- What the functions below the call promise of what they find.
-- Assumes nothing.
use Rattle.std.specs.Prelude.{ℕ, ◌≤◌, ◌≡◌, List, length, Result, Ok, Err}
use Rattle.record.specs.Outcome.{Resolution, offends, gives}
use Rattle.record.specs.declared.event.Event.{Event}
use Rattle.heading.specs.Headings.{before_text, through_text}
use Rattle.record.specs.declared.listed.Offender.{Offender}

-- a heading's text: how many of its n inner events stand before it, and how many up to its end; as many, where there is none
pub record Ends (inner : List Event) (n before through : ℕ) : Type 0 where
  pub first : before ≡ before_text inner
  pub last : through ≡ through_text inner
  pub front : before ≤ through
  pub whole : through ≤ n

-- what the first pass finds of a resolution: how many events there will be, or the enter event that offends
abbrev pub judged_of : Resolution → Result ℕ Offender
judged_of (offends k) = Err (record { event = k })
judged_of (gives es) = Ok (length es)
