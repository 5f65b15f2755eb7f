use mathlib.Core.Path.{refl, ◌∙◌}
use native.Mathlib.Omega.{arith}
use borrow.Author.Rules.{rules}
use Rattle.writing.proofs.EventTurn.{start, whole_ahead, known, room, turn, ended, begins, ends}
use Rattle.writing.proofs.KeptGroups.write_events.Goals as goal

pub loop-k-init : goal.loop-k-init
loop-k-init c = (refl, start _ _ _ _ _ _ _ c.requires.2)

pub event_at-event-requires : goal.event_at-event-requires
event_at-event-requires c =
    let i = whole_ahead c.loop-k.invariant.1 c.loop-k-test.true c.requires.0 in
    let wide = c.requires.1 in
    omega arith

pub put_instead-q-requires : goal.put_instead-q-requires
put_instead-q-requires c =
    let v = c.loop-k.invariant.1 in
    let h = c.loop-k-test.true in
    let p = c.requires in
    let b = c.begin-section.ensures in
    let e = c.event_at-event.ensures in
    (rw e.0 (known v h p.0), e.1, rw e.0 (room v h p.0 (begins b.out b.pen p.3 p.4 p.5 p.1 p.6)))

pub loop-k-preserved : goal.loop-k-preserved
loop-k-preserved c =
    let e = c.event_at-event.ensures.0 in
    let n = rw e at c.put_instead-q.ensures in
    (n.0.same_reference ∙ c.loop-k.invariant.0, turn c.loop-k.invariant.1 c.loop-k-test.true c.requires.0 n.0 n.1)

-- the last line: what the section's output holds at the end is what the lent output then holds
pub returns : goal.returns
returns c =
    let p = c.requires in
    let b = c.begin-section.ensures in
    let f = ends b.out b.pen p.3 p.4 p.5 p.1 p.6 (ended c.loop-k.invariant.1 c.loop-k-test.false) in
    search rules
