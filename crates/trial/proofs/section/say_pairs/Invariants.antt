-- In `trial::section::say_pairs` no more exits were met than events gone over.
use Rattle.std.proofs.Common.{◌≤◌}
use Rattle.trial.proofs.section.say_pairs.Given as goal

abbrev pub invariant-loop-k : goal.invariant-loop-k
invariant-loop-k g l = l.exits ≤ l.k
