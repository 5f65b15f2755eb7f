-- `script::read_full` is safe, ends, and answers no more bytes than the buffer has. The measure is what is left of the buffer.
use Rattle.std.proofs.Common.{length, ◌-◌, ◌≤◌}
use Rattle.script.proofs.read_full.Given as goal

abbrev pub invariant-loop-got : goal.invariant-loop-got
invariant-loop-got g l = l.got ≤ length l.buffer

abbrev pub decreases-loop-got : goal.decreases-loop-got
decreases-loop-got g l = length l.buffer - l.got
