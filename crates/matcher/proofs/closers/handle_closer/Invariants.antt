-- `closers::handle_closer`: one closer to its end, along the chains; so, where the memory has runs, as the plain rule finishes it.
-- Invariant and measure: Handling.antt.
use Prim.Native.Nat.{◌-◌}
use Rattle.runs.specs.Rule.{rule_for}
use Rattle.matcher.proofs.Handling.{Keeps}
use Rattle.matcher.proofs.closers.handle_closer.Given as goal

abbrev pub invariant-loop-more : goal.invariant-loop-more
invariant-loop-more l =
    let start = l.fn.so_far in
    Keeps (rule_for l.single) l.initial.w start.height l.n start.next start.groups start.tried l.w l.at l.until l.height l.groups l.tried

abbrev pub decreases-loop-more : goal.decreases-loop-more
decreases-loop-more l = 1000 - l.groups
