-- `lines::item::marks_only` meets its contract. The invariant: the marks counted so far and those left, and what is left to look at, find
-- what the whole does.
use Rattle.lines.proofs.Marks.{Marking}
use Rattle.lines.proofs.item.marks_only.Given as goal

abbrev pub invariant-loop-byte : goal.invariant-loop-byte
invariant-loop-byte l = Marking l.mark l.rest l.marks l.byte-index
