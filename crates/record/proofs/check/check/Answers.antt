-- `record::check::check` meets its contract: each return is a case of the definition.
use mathlib.Core.Path.{sym, ◌∙◌}
use native.Mathlib.Omega.{arith}
use Rattle.record.proofs.Counts.{fitted}
use Rattle.record.proofs.Whole.{document_misfit, document_fits, events_misfit, events_fit, bytes_follow, ends, returned, inside}
use borrow.Author.Rules.{rules}
use Rattle.record.proofs.check.check.Goals as goal

pub returns-in_default : goal.returns-in_default
returns-in_default c = c.refused.ensures ∙ document_misfit _ _ (sym c.in_default.is ∙ c.count_at.ensures)

pub overflow_add-front : goal.overflow_add-front
overflow_add-front c =
    let f = fitted _ _ 16384 1 _ (sym c.count_at.ensures ∙ c.in-Some.is) in
    omega arith

pub overflow_add-front-2 : goal.overflow_add-front-2
overflow_add-front-2 c =
    let f = fitted _ _ 16384 1 _ (sym c.count_at.ensures ∙ c.in-Some.is) in
    omega arith

pub count_at-requires-2 : goal.count_at-requires-2
count_at-requires-2 c =
    let f = fitted _ _ 16384 1 _ (sym c.count_at.ensures ∙ c.in-Some.is) in
    search rules

pub overflow_add-front-in_default-count_at : goal.overflow_add-front-in_default-count_at
overflow_add-front-in_default-count_at c =
    let f = fitted _ _ 16384 1 _ (sym c.count_at.ensures ∙ c.in-Some.is) in
    omega arith

pub overflow_add-front-in_default-count_at-2 : goal.overflow_add-front-in_default-count_at-2
overflow_add-front-in_default-count_at-2 c =
    let f = fitted _ _ 16384 1 _ (sym c.count_at.ensures ∙ c.in-Some.is) in
    omega arith

pub returns-in_default-count_at : goal.returns-in_default-count_at
returns-in_default-count_at c = c.refused-in_default-count_at.ensures ∙ events_misfit _ _ _ (sym c.in_default-count_at.is ∙ c.count_at-2.ensures) ∙ document_fits _ _ _ (sym c.in-Some.is ∙ c.count_at.ensures)

pub overflow_add-end : goal.overflow_add-end
overflow_add-end c =
    let f = fitted _ _ 16384 1 _ (sym c.count_at.ensures ∙ c.in-Some.is) in
    let g = fitted _ _ 2048 _ _ (sym c.count_at-2.ensures ∙ c.in-Some-count_at.is) in
    omega arith

pub overflow_add-end-2 : goal.overflow_add-end-2
overflow_add-end-2 c =
    let f = fitted _ _ 16384 1 _ (sym c.count_at.ensures ∙ c.in-Some.is) in
    let g = fitted _ _ 2048 _ _ (sym c.count_at-2.ensures ∙ c.in-Some-count_at.is) in
    omega arith

pub overflow_mul-end : goal.overflow_mul-end
overflow_mul-end c =
    let f = fitted _ _ 16384 1 _ (sym c.count_at.ensures ∙ c.in-Some.is) in
    let g = fitted _ _ 2048 _ _ (sym c.count_at-2.ensures ∙ c.in-Some-count_at.is) in
    omega arith

pub overflow_add-end-3 : goal.overflow_add-end-3
overflow_add-end-3 c =
    let f = fitted _ _ 16384 1 _ (sym c.count_at.ensures ∙ c.in-Some.is) in
    let g = fitted _ _ 2048 _ _ (sym c.count_at-2.ensures ∙ c.in-Some-count_at.is) in
    omega arith

pub returns-then-s-end : goal.returns-then-s-end
returns-then-s-end c = c.refused-then-s-end.ensures ∙ bytes_follow _ _ _ _ c.if-s-end.true ∙ events_fit _ _ _ _ (sym c.in-Some-count_at.is ∙ c.count_at-2.ensures) ∙ document_fits _ _ _ (sym c.in-Some.is ∙ c.count_at.ensures)

pub returns-then-returned-front : goal.returns-then-returned-front
returns-then-returned-front c = c.refused-then-returned-front.ensures ∙ returned _ _ _ _ _ c.first_return-returned.ensures c.if-returned-front.true ∙ ends _ _ _ _ c.if-s-end.false ∙ events_fit _ _ _ _ (sym c.in-Some-count_at.is ∙ c.count_at-2.ensures) ∙ document_fits _ _ _ (sym c.in-Some.is ∙ c.count_at.ensures)

pub check_events-requires : goal.check_events-requires
check_events-requires c =
    let f = fitted _ _ 16384 1 _ (sym c.count_at.ensures ∙ c.in-Some.is) in
    let g = fitted _ _ 2048 _ _ (sym c.count_at-2.ensures ∙ c.in-Some-count_at.is) in
    search rules

pub returns : goal.returns
returns c = c.check_events.ensures ∙ inside _ _ _ _ _ c.first_return-returned.ensures c.if-returned-front.false ∙ ends _ _ _ _ c.if-s-end.false ∙ events_fit _ _ _ _ (sym c.in-Some-count_at.is ∙ c.count_at-2.ensures) ∙ document_fits _ _ _ (sym c.in-Some.is ∙ c.count_at.ensures)
