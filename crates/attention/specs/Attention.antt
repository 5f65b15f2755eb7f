-- What attention makes of a good record, in any profile: the earliest run that breaks the shape rule, or the events that come out. crates/runs
-- has the definitions.
-- Assumes nothing.
use Rattle.std.specs.Prelude.{ℕ, List}
use Rattle.std.proofs.Math.Option.{Option, none, some}
use Rattle.record.specs.Outcome.{Resolution, offends, gives}
use Rattle.record.specs.declared.event.Event.{Event}
use Rattle.runs.specs.Runs.{offender}
use Rattle.runs.specs.Rule.{Profile}
use Rattle.runs.specs.Output.{output}

-- number 6 comes before the result
abbrev pub unless_offended : Option ℕ → List Event → Resolution
unless_offended none es = gives es
unless_offended (some k) es = offends k

unfoldable pub attention : Profile → ℕ → List ℕ → List Event → Resolution
attention profile options doc es = unless_offended (offender doc options es) (output profile options doc es)
