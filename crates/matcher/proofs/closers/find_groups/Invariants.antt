-- `closers::find_groups`: all matches are the plain rule's.
-- Invariant and measure: Resolving.antt.
use Prim.Native.Nat.{◌-◌}
use Rattle.runs.specs.Rule.{rule_for}
use Rattle.matcher.proofs.Resolving.{Resolves}
use Rattle.matcher.proofs.closers.find_groups.Given as goal

abbrev pub invariant-loop-so_far : goal.invariant-loop-so_far
invariant-loop-so_far l = Resolves (rule_for l.single) l.initial.w l.n l.w l.so_far.next l.so_far.height l.so_far.groups l.so_far.tried

abbrev pub decreases-loop-so_far : goal.decreases-loop-so_far
decreases-loop-so_far l = l.n - l.so_far.next
