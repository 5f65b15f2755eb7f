-- `scan::run::leading` meets its contract. The invariant: n bytes of the run are passed, and what is left of it makes up the whole.
use Rattle.scan.proofs.Leading.{Counting}
use Rattle.scan.proofs.run.leading.Given as goal

abbrev pub invariant-loop-n : goal.invariant-loop-n
invariant-loop-n g l = Counting g.kind l.rest l.n
