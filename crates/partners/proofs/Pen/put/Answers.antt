-- `Pen::put` meets its contract, in its three ways out: side by side, an enter, an exit.
use borrow.Author.Rules.{rules}
use Rattle.partners.proofs.Putting.{put_narrow, put_enter, put_exit, slot_room, held_room, enter_low}
use Rattle.partners.proofs.Pen.put.Goals as goal
use Rattle.partners.proofs.Pen.put.Goals.{then-kind-eq-ENTER, else-kind-eq-ENTER}

pub returns-then-self-lt12 : goal.returns-then-self-lt12
returns-then-self-lt12 c = put_narrow _ c.if-self-lt12.true c.put_event.ensures

pub overflow_sub-self : goal.overflow_sub-self
overflow_sub-self c = let h = slot_room c.requires c.if-self-lt12.false c.if-kind-eq-ENTER.true in search rules

pub u32_at-enter-requires : goal.u32_at-enter-requires
u32_at-enter-requires c = let h = held_room c.requires c.if-self-lt12.false c.if-kind-eq-ENTER.false c.put_event.ensures in search rules

pub put_u32-requires-else-kind-eq-ENTER : goal.put_u32-requires-else-kind-eq-ENTER
put_u32-requires-else-kind-eq-ENTER c =
    let h = enter_low c.requires c.if-self-lt12.false c.if-kind-eq-ENTER.false c.put_event.ensures c.u32_at-enter.ensures.0 in
    search rules

pub returns : goal.returns
returns c =
    elim c.if-kind-eq-ENTER.branch [
      | then-kind-eq-ENTER w ↦ rw (w.self-is, w.out-is) (put_enter _ c.if-self-lt12.false w.if-kind-eq-ENTER.true c.put_event.ensures w.put_u32.ensures)
      | else-kind-eq-ENTER w ↦
          rw (w.self-is, w.out-is)
          (put_exit _ c.if-self-lt12.false w.if-kind-eq-ENTER.false c.put_event.ensures w.u32_at-enter.ensures.0 w.put_u32-else-kind-eq-ENTER.ensures
          w.put_u32-else-kind-eq-ENTER-2.ensures)
    ]
