-- `start::clear_heads` meets its contract. The invariant: the heads below k are zero, and the slots stay.
use Rattle.attention.specs.Start.{Cleared}
use Rattle.attention.proofs.start.clear_heads.Given as goal

abbrev pub invariant-loop-k : goal.invariant-loop-k
invariant-loop-k l = Cleared l.initial.w l.k l.w
