-- `list::call::answer_lists` meets its contract: a refusal of the check is passed on, a good record is settled.
use Rattle.std.proofs.Common.{sym, ◌∙◌}
use Rattle.std.proofs.lemmas.Result.{err_from_is_err_and}
use Rattle.record.proofs.Good.{admission, admitted_good}
use Rattle.list.proofs.Outcomes.{refused_by_check, good_record}
use borrow.Author.Rules.{rules}
use Rattle.list.proofs.call.answer_lists.Goals as goal

pub returns-in_err-document : goal.returns-in_err-document
returns-in_err-document c =
    let p = err_from_is_err_and c.from_residual.result c.from_residual.ensures.1 in
    rw (p.1, p.2) (refused_by_check _ _ _ _ _ (sym c.in_err-document.was ∙ c.admit.ensures))

pub settle-requires : goal.settle-requires
settle-requires c =
    let q = sym c.admit.ensures ∙ c.in_ok-document.was in
    let a = admission _ _ _ _ _ q in
    (admitted_good _ _ _ _ _ _ c.form_of.ensures q, search rules)

pub returns : goal.returns
returns c = good_record _ _ _ _ _ _ _ (sym c.in_ok-document.was ∙ c.admit.ensures) c.form_of.ensures c.settle.ensures
