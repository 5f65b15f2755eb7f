use Rattle.atx.proofs.Pieces.{split_start, split_step, split_turn, split_done}
use borrow.Author.Rules.{rules}
use Rattle.atx.proofs.count_pieces.Goals as goal

pub loop-at-init : goal.loop-at-init
loop-at-init c = split_start _

pub overflow_add-at : goal.overflow_add-at
overflow_add-at c = let s = split_step c.loop-at.invariant _ c.loop-at-test.true c.next_piece-at.ensures in search rules

pub loop-at-smaller : goal.loop-at-smaller
loop-at-smaller c = let s = split_step c.loop-at.invariant _ c.loop-at-test.true c.next_piece-at.ensures in search rules

pub loop-at-preserved : goal.loop-at-preserved
loop-at-preserved c = split_turn c.loop-at.invariant _ c.loop-at-test.true c.next_piece-at.ensures

pub returns : goal.returns
returns c = (split_done c.loop-at.invariant (search rules), search rules)
