-- `scan::line::check_short` meets its contract. The invariant: of the bytes seen, which are those from n on, where the first line feed and the first carriage
-- return stand.
use Rattle.scan.proofs.Checks.{Looking}
use Rattle.scan.proofs.line.check_short.Given as goal

abbrev pub invariant-loop-n : goal.invariant-loop-n
invariant-loop-n l = Looking l.s l.n l.feed l.back
