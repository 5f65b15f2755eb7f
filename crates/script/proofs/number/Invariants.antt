-- `script::number` stays under its bound: a digit more makes a number of 11 digits at most one of 12.
use Rattle.std.proofs.Common.{◌<◌}
use Rattle.script.proofs.number.Given as goal

abbrev pub invariant-loop-b : goal.invariant-loop-b
invariant-loop-b l = l.value < 1000000000010
