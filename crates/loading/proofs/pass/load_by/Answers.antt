use mathlib.Core.Path.{refl, sym, ◌∙◌}
use native.Mathlib.Omega.{arith}
use Rattle.std.proofs.lemmas.List.{length-take-le}
use Rattle.loading.proofs.Walk.{start, innermost, inner, left_one, shallow, entered, document_whole, whole_next, next_place, broken, settling, run_passed, answers_broken, answers_runs, pass_done}
use borrow.Author.Rules.{rules}
use Rattle.loading.proofs.pass.load_by.Goals as goal

pub loop-i-init : goal.loop-i-init
loop-i-init c = start _ _ _ _ _ _ _ _ _ (search rules) refl (search rules)

pub overflow_sub-depth : goal.overflow_sub-depth
overflow_sub-depth c = omega (arith, inner c.loop-i.invariant c.loop-i-test.true _ c.place_of-at.ensures c.if-s-at-ne-ENTER.true)

pub loop-i-preserved-then-s-at-ne-ENTER : goal.loop-i-preserved-then-s-at-ne-ENTER
loop-i-preserved-then-s-at-ne-ENTER c = left_one c.loop-i.invariant c.loop-i-test.true _ c.place_of-at.ensures c.if-s-at-ne-ENTER.true

pub offset_bounds-numbers-depth : goal.offset_bounds-numbers-depth
offset_bounds-numbers-depth c = omega (arith, shallow c.loop-i.invariant c.loop-i-test.true _ c.place_of-at.ensures c.if-s-at-ne-ENTER.false)

pub bounds-numbers-depth : goal.bounds-numbers-depth
bounds-numbers-depth c =
    let h = shallow c.loop-i.invariant c.loop-i-test.true _ c.place_of-at.ensures c.if-s-at-ne-ENTER.false in
    search rules

pub overflow_add-depth : goal.overflow_add-depth
overflow_add-depth c = omega (arith, shallow c.loop-i.invariant c.loop-i-test.true _ c.place_of-at.ensures c.if-s-at-ne-ENTER.false)

pub loop-i-preserved-then-s-at-ne-ATTENTION_SEQUENCE : goal.loop-i-preserved-then-s-at-ne-ATTENTION_SEQUENCE
loop-i-preserved-then-s-at-ne-ATTENTION_SEQUENCE c = entered c.loop-i.invariant c.loop-i-test.true _ c.place_of-at.ensures c.if-s-at-ne-ENTER.false c.if-s-at-ne-ATTENTION_SEQUENCE.true

pub shaped_at-requires : goal.shaped_at-requires
shaped_at-requires c = (
  whole_next c.loop-i.invariant c.loop-i-test.true _ c.place_of-at.ensures c.if-s-at-ne-ENTER.false,
  next_place c.loop-i.invariant c.loop-i-test.true _ c.place_of-at.ensures c.if-s-at-ne-ENTER.false,
  document_whole c.loop-i.invariant,
)

pub returns-then-not-shaped_at : goal.returns-then-not-shaped_at
returns-then-not-shaped_at c = pass_done (answers_broken c.loop-i.invariant (broken c.loop-i.invariant c.loop-i-test.true _ c.place_of-at.ensures c.if-s-at-ne-ENTER.false c.if-s-at-ne-ATTENTION_SEQUENCE.false (sym c.shaped_at.ensures ∙ c.if-not-shaped_at.true)))

pub slice_bounds-numbers-end : goal.slice_bounds-numbers-end
slice_bounds-numbers-end c =
    let h = shallow c.loop-i.invariant c.loop-i-test.true _ c.place_of-at.ensures c.if-s-at-ne-ENTER.false in
    omega arith

pub slice_bounds-last-end : goal.slice_bounds-last-end
slice_bounds-last-end c =
    let h = shallow c.loop-i.invariant c.loop-i-test.true _ c.place_of-at.ensures c.if-s-at-ne-ENTER.false in
    sym (length-take-le _ _ (omega (arith, c.if-not-shaped_at.array_long)))

pub settle-requires : goal.settle-requires
settle-requires c = (
  search rules,
  settling c.loop-i.invariant c.loop-i-test.true _ c.place_of-at.ensures c.if-s-at-ne-ENTER.false c.if-s-at-ne-ATTENTION_SEQUENCE.false
      (sym c.shaped_at.ensures ∙ c.if-not-shaped_at.false)
      (innermost c.loop-i.invariant (shallow c.loop-i.invariant c.loop-i-test.true _ c.place_of-at.ensures c.if-s-at-ne-ENTER.false)
      (c.copied-container.ensures ∙ c.last.ensures.value))
      (search rules),
)

pub loop-i-preserved : goal.loop-i-preserved
loop-i-preserved c =
    run_passed c.loop-i.invariant c.loop-i-test.true _ c.place_of-at.ensures c.if-s-at-ne-ENTER.false c.if-s-at-ne-ATTENTION_SEQUENCE.false
    (sym c.shaped_at.ensures ∙ c.if-not-shaped_at.false)
    (innermost c.loop-i.invariant (shallow c.loop-i.invariant c.loop-i-test.true _ c.place_of-at.ensures c.if-s-at-ne-ENTER.false)
    (c.copied-container.ensures ∙ c.last.ensures.value))
    (c.settle.ensures.done c.in_ok-settle.was)
    (search rules)

pub returns : goal.returns
returns c = pass_done (answers_runs c.loop-i.invariant c.loop-i-test.false)
