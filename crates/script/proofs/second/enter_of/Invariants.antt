-- `script::second::enter_of` is safe and answers a place before the exit. What is still inside is no more than the events gone back over.
use Rattle.std.proofs.Common.{◌≤◌}
use Rattle.script.proofs.second.enter_of.Given as goal

abbrev pub invariant-loop-n : goal.invariant-loop-n
invariant-loop-n l = l.inside ≤ l.n
