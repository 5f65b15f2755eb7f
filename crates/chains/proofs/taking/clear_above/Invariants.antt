-- `taking::clear_above`: the open runs above a run, from the top down.
-- Invariant: the whole answer is the answer from here on, and numbers are in range.
use Rattle.chains.proofs.Pops.{Downward}
use Rattle.chains.proofs.taking.clear_above.Given as goal

abbrev pub invariant-loop-h : goal.invariant-loop-h
invariant-loop-h l = Downward l.initial.w l.height l.o l.w l.h
