use Rattle.atx.proofs.Pieces.{put_start, put_step, put_room, put_turn, put_done}
use borrow.Author.Rules.{rules}
use Rattle.atx.proofs.put_pieces.Goals as goal

pub loop-at-init : goal.loop-at-init
loop-at-init c = put_start _ _ _ (search rules)

pub overflow_add-end : goal.overflow_add-end
overflow_add-end c = let s = put_step c.loop-at.invariant _ c.loop-at-test.true c.next_piece-name.ensures in search rules

pub put_event-requires : goal.put_event-requires
put_event-requires c = let f = put_room c.loop-at.invariant _ c.loop-at-test.true c.next_piece-name.ensures in search rules

pub overflow_add-to : goal.overflow_add-to
overflow_add-to c = let f = put_room c.loop-at.invariant _ c.loop-at-test.true c.next_piece-name.ensures in search rules

pub put_event-requires-in-loop-at : goal.put_event-requires-in-loop-at
put_event-requires-in-loop-at c = let f = put_room c.loop-at.invariant _ c.loop-at-test.true c.next_piece-name.ensures in search rules

pub overflow_add-to-in-loop-at : goal.overflow_add-to-in-loop-at
overflow_add-to-in-loop-at c = let f = put_room c.loop-at.invariant _ c.loop-at-test.true c.next_piece-name.ensures in search rules

pub loop-at-smaller : goal.loop-at-smaller
loop-at-smaller c = let s = put_step c.loop-at.invariant _ c.loop-at-test.true c.next_piece-name.ensures in search rules

pub loop-at-preserved : goal.loop-at-preserved
loop-at-preserved c = put_turn c.loop-at.invariant _ c.loop-at-test.true c.next_piece-name.ensures _ _ c.put_event.ensures c.put_event-in-loop-at.ensures

pub returns : goal.returns
returns c = put_done c.loop-at.invariant (search rules)
