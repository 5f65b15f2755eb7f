-- `lines::going::continuation` meets its contract: after the check, what is found on the part of the slice before its end.
use Rattle.std.specs.Prelude.{◌≡◌, Err}
use mathlib.Core.Path.{sym, ◌∙◌}
use Rattle.scan.proofs.Checks.{refused_by, lined, lined_fits}
use Rattle.lines.proofs.Goings.{going_found}
use Rattle.lines.specs.Going.{going_of}
use borrow.Author.Rules.{rules}
use Rattle.lines.proofs.going.continuation.Goals as goal

pub returns-in_err-end : goal.returns-in_err-end
unfolding going_of
returns-in_err-end c =
    let answered : c.from_residual.result ≡ Err c.in_err-end.field-0.0 = search rules in
    answered ∙ refused_by _ _ _ _ _ _ (sym (c.in_err-end.was) ∙ c.check_line.ensures)

pub slice_bounds-going_in-end : goal.slice_bounds-going_in-end
slice_bounds-going_in-end c = let t = lined _ _ _ _ (sym c.in_ok-end.was ∙ c.check_line.ensures) in search rules

pub going_in-requires : goal.going_in-requires
going_in-requires c = lined_fits _ _ _ (lined _ _ _ _ (sym c.in_ok-end.was ∙ c.check_line.ensures))

pub returns : goal.returns
returns c =
    going_found _ _ _ _ _ _
    (sym c.in_ok-end.was ∙ c.check_line.ensures)
    c.going_in.ensures
