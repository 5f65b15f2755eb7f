-- `heading::resolve::answer_for` meets its contract: a refusal of the check is passed on, a good record is settled.
use Rattle.std.proofs.Common.{sym, ◌∙◌}
use Rattle.std.proofs.lemmas.Result.{err_from_is_err_and}
use Rattle.record.proofs.Good.{admitted_good}
use Rattle.heading.proofs.Settling.{not_admitted, good_record}
use Rattle.heading.proofs.resolve.answer_for.Goals as goal

pub returns-in_err-document : goal.returns-in_err-document
returns-in_err-document c =
    let p = err_from_is_err_and c.from_residual.result c.from_residual.ensures.1 in
    rw (p.1, p.2) (not_admitted _ _ _ _ _ (sym c.in_err-document.was ∙ c.admit.ensures))

pub settle-requires : goal.settle-requires
settle-requires c = admitted_good _ _ _ _ _ _ c.form_of.ensures (sym c.admit.ensures ∙ c.in_ok-document.was)

pub returns : goal.returns
returns c = good_record _ _ _ _ _ _ _ (sym c.in_ok-document.was ∙ c.admit.ensures) c.form_of.ensures c.settle.ensures
