-- `walk::next_match`: what is found, the memory and the height are those of `onward`.
-- Invariant of the loop over the runs: nothing is found yet, the whole answer is the answer from here on, links fall and numbers are in range.
-- Invariant of the loop down a chain: what the search finds is what it finds from p on. Measure: p, as links fall.
use Rattle.std.specs.Prelude.{◌≡◌, None}
use Rattle.runs.specs.Rule.{rule_for}
use Rattle.chains.proofs.Steps.{Outer, Inner}
use Rattle.chains.proofs.walk.next_match.Given as goal

abbrev pub invariant-loop-o : goal.invariant-loop-o
invariant-loop-o l = (l.found ≡ None) × Inner (rule_for l.single) l.w l.i l.initial.tried l.initial.p l.tried l.p

abbrev pub decreases-loop-o : goal.decreases-loop-o
decreases-loop-o l = l.p

abbrev pub invariant-closers : goal.invariant-closers
invariant-closers l = (l.found ≡ None) × Outer (rule_for l.single) l.initial.w l.height l.from l.n l.w l.i l.held l.tried
