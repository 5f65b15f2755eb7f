-- `scan::columns::reached` meets its contract. The invariant of the loop over the first bytes: those passed are spaces, of as many columns, and what is taken
-- behind them makes up the whole. Where there are more, or a tab is among them, the answer is that of the
-- stretches.
use Rattle.record.specs.Stretch.{AllAre}
use Rattle.scan.specs.Run.{same}
use Rattle.scan.proofs.columns.reached.Given as goal

abbrev pub invariant-loop-n : goal.invariant-loop-n
invariant-loop-n l = AllAre (same 32) l.rest 0 l.n
