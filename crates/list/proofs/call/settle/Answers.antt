-- `list::call::settle` meets its contract: each way out is a case of `settled`.
use Rattle.std.proofs.Common.{ap, ◌∙◌, ◌+◌, length, arith}
use Rattle.record.proofs.Parts.{length_document, small_product}
use Rattle.record.proofs.ListedEvents.{length_of}
use Rattle.list.proofs.Outcomes.{few_added, noted_long, result_balanced, shape_broken, output_short, resolved}
use Rattle.list.proofs.call.settle.Goals as goal

pub note_lists-requires : goal.note_lists-requires
note_lists-requires c =
    let k = c.document_of-document.ensures in
    let l = ap length k ∙ length_document _ _ _ (omega (arith, c.requires.0.whole)) in
    (rw (l, c.of_record-events.ensures.listed) c.requires.0.sound_events, omega (arith, c.of_record-events.ensures.counted, c.requires.0.few), c.requires.1)

pub place_of-requires : goal.place_of-requires
place_of-requires c =
    let l = c.note_lists.ensures.early _ c.in-Err.is in
    (c.requires.0.known, c.requires.0.small, omega (arith, l, length_of c.of_record-events.result, c.of_record-events.ensures.counted, c.requires.0.few))

pub returns-in-Err : goal.returns-in-Err
returns-in-Err c =
    let z = rw (← c.of_record-events.ensures.listed) at c.requires.0.sound_events in
    rw (← c.document_of-document.ensures, ← c.of_record-events.ensures.listed)
    (shape_broken _ _ _ _ z c.note_lists.ensures _ _ _ c.in-Err.is c.place_of.ensures _ c.refused.ensures)

pub overflow_add-count : goal.overflow_add-count
overflow_add-count c =
    let l = few_added _ _ _ (length_of c.of_record-events.result ∙ c.of_record-events.ensures.counted) c.requires.0.few c.note_lists.ensures _ c.in-Ok.is in
    omega (arith, l)

pub overflow_mul-form : goal.overflow_mul-form
overflow_mul-form c =
    let l = small_product _ _ _ c.requires.0.known.slim (few_added _ _ _ (length_of c.of_record-events.result ∙ c.of_record-events.ensures.counted) c.requires.0.few c.note_lists.ensures _ c.in-Ok.is) in
    omega (arith, l)

pub overflow_add-form : goal.overflow_add-form
overflow_add-form c =
    let l = small_product _ _ _ c.requires.0.known.slim (few_added _ _ _ (length_of c.of_record-events.result ∙ c.of_record-events.ensures.counted) c.requires.0.few c.note_lists.ensures _ c.in-Ok.is) in
    omega (arith, l)

pub returns-then-out-form : goal.returns-then-out-form
returns-then-out-form c =
    let z = rw (← c.of_record-events.ensures.listed) at c.requires.0.sound_events in
    rw (← c.document_of-document.ensures, ← c.of_record-events.ensures.listed)
    (output_short _ _ _ _ z c.note_lists.ensures _ _ c.in-Ok.is _ (length_of c.of_record-events.result ∙ c.of_record-events.ensures.counted) c.requires.0.few
    c.if-out-form.true _ c.refused-then-out-form.ensures)

pub write_lists-requires : goal.write_lists-requires
write_lists-requires c =
    let z = rw (← c.of_record-events.ensures.listed) at c.requires.0.sound_events in
    let le = length_of c.of_record-events.result ∙ c.of_record-events.ensures.counted in (
      c.requires.0.known.wide,
      omega (arith, c.of_record-events.ensures.counted, c.requires.0.few, c.requires.1),
      noted_long _ _ _ z c.note_lists.ensures _ c.in-Ok.is ∙ ap (λ k. k + c.in-Ok.added) le,
      few_added _ _ _ le c.requires.0.few c.note_lists.ensures _ c.in-Ok.is,
      c.if-out-form.false,
      result_balanced _ _ _ z c.note_lists.ensures _ c.in-Ok.is,
    )

pub returns : goal.returns
returns c =
    let z = rw (← c.of_record-events.ensures.listed) at c.requires.0.sound_events in
    rw (← c.document_of-document.ensures, ← c.of_record-events.ensures.listed)
    (resolved _ _ _ _ z c.note_lists.ensures _ _ c.in-Ok.is _ (length_of c.of_record-events.result ∙ c.of_record-events.ensures.counted) c.requires.0.few
    c.if-out-form.false c.write_lists.ensures)
