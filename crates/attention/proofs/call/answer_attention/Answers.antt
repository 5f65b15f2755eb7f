-- `attention::call::answer_attention` meets its contract: a refusal of the check, or what comes of a good record.
use mathlib.Core.Path.{sym, ◌∙◌}
use Rattle.std.proofs.lemmas.Result.{err_from_is_err_and}
use Rattle.record.proofs.Good.{admission, admitted_good}
use Rattle.attention.proofs.Calls.{refused_call, good_call}
use borrow.Author.Rules.{rules}
use Rattle.attention.proofs.call.answer_attention.Goals as goal

pub returns-in_err-document : goal.returns-in_err-document
returns-in_err-document c =
    let p = err_from_is_err_and c.from_residual.result c.from_residual.ensures.1 in
    rw (p.1, p.2) (refused_call _ _ _ _ _ _ (sym c.admit.ensures ∙ c.in_err-document.was))

pub resolve_good-requires : goal.resolve_good-requires
resolve_good-requires c =
    let q = sym c.admit.ensures ∙ c.in_ok-document.was in
    let a = admission _ _ _ _ _ q in
    (admitted_good _ _ _ _ _ _ c.form_of-form.ensures q, search rules)

pub returns : goal.returns
returns c =
    good_call _ _ _ _ _ _ _ _ _ _ _ (sym c.admit.ensures ∙ c.in_ok-document.was) c.form_of-form.ensures c.options_of-options.ensures c.resolve_good.ensures
