-- Where the runs of a record stand among its events: at their enter, in the container that is open there, with the bytes up to the next event.
-- Assumes nothing.
use Rattle.std.specs.Prelude.{ℕ, ◌+◌, ◌-◌, ◌<◌, ◌≡◌, true, List, length, get_or}
use Rattle.record.specs.Stack.{nth, open_at}
use Rattle.record.specs.declared.event.Event.{Event}
use Rattle.runs.specs.Runs.{Run, innermost_of, enters_run}
use Rattle.runs.specs.Output.{no_run}

-- the run of number q
abbrev pub run_at : List Run → ℕ → Run
run_at rs q = get_or rs q no_run

-- a run stands in these events
pub record Stands (es : List Event) (r : Run) : Type 0 where
  pub within : r.number < length es
  pub enters : enters_run (nth es r.number) ≡ true
  pub start : r.start ≡ (nth es r.number).place
  pub size : r.size ≡ (nth es (r.number + 1)).place - (nth es r.number).place
  pub container : r.container ≡ innermost_of (open_at es r.number)
