-- `heading::resolve::settle` meets its contract: its four ways out are the four cases of `settled`.
use Rattle.std.proofs.Common.{sym, ◌∙◌, arith}
use Rattle.record.proofs.ListedEvents.{length_of}
use Rattle.record.proofs.Splice.{wrote_length}
use Rattle.heading.proofs.Judging.{offends_is, sized_is}
use Rattle.heading.proofs.Settling.{shape_broken, too_many, too_short, result_balanced, resolved}
use Rattle.heading.proofs.resolve.settle.Goals as goal

pub place_of-requires : goal.place_of-requires
place_of-requires c =
    let q = sym c.in-Err.is ∙ c.judge.ensures in
    (c.requires.known, c.requires.small, omega (arith, (offends_is _ _ q).1, length_of c.of_record-events.result, c.of_record-events.ensures.counted, c.requires.few))

pub returns-in-Err : goal.returns-in-Err
returns-in-Err c =
    rw (← c.of_record-events.ensures.listed, c.refused.ensures) (shape_broken _ _ _ _ _ _ c.place_of.ensures (sym c.in-Err.is ∙ c.judge.ensures))

pub returns-then-n-gt-MAX_RESULT : goal.returns-then-n-gt-MAX_RESULT
returns-then-n-gt-MAX_RESULT c =
    rw (← c.of_record-events.ensures.listed, c.refused-then-n-gt-MAX_RESULT.ensures) (too_many _ _ _ _ _ (sym c.in-Ok.is ∙ c.judge.ensures) c.if-n-gt-MAX_RESULT.true)

pub returns-then-out-form : goal.returns-then-out-form
returns-then-out-form c =
    rw (← c.of_record-events.ensures.listed, c.refused-then-out-form.ensures)
    (too_short _ _ _ _ _ (sym c.in-Ok.is ∙ c.judge.ensures) c.if-n-gt-MAX_RESULT.false c.if-out-form.true)

pub put_resolved-requires : goal.put_resolved-requires
put_resolved-requires c =
    let q = sym c.in-Ok.is ∙ c.judge.ensures in
    let f = sized_is _ _ q in
    let z = rw (← c.of_record-events.ensures.listed) at c.requires.sound_events in
    let l = wrote_length c.put_u32.ensures in
    (c.requires.known.wide, c.if-n-gt-MAX_RESULT.false, sym f.1, result_balanced _ _ _ q z, f.0, omega (arith, l))

pub returns : goal.returns
returns c =
    rw (← c.of_record-events.ensures.listed)
    (resolved _ _ _ _ _ (sym c.in-Ok.is ∙ c.judge.ensures) c.if-n-gt-MAX_RESULT.false c.requires.known.wide c.if-out-form.false c.put_u32.ensures c.put_resolved.ensures)
