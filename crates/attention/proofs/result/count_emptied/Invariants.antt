-- `attention::result::count_emptied` meets its contract. The invariant: what is counted and what is left to count are the whole.
use Rattle.attention.proofs.Counting.{Counting}
use Rattle.attention.proofs.result.count_emptied.Given as goal

abbrev pub invariant-loop-q : goal.invariant-loop-q
invariant-loop-q l = Counting l.w l.n l.q l.count
