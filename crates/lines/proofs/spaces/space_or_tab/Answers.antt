-- `lines::spaces::space_or_tab` meets its contract: after the check, what is found on the part of the slice before its end.
use Rattle.std.specs.Prelude.{◌≡◌, Err}
use mathlib.Core.Path.{sym, ◌∙◌}
use Rattle.scan.proofs.Checks.{refused_by, lined, lined_fits}
use Rattle.lines.proofs.Taking.{spaces_found}
use Rattle.lines.specs.Spaces.{spaces_of}
use borrow.Author.Rules.{rules}
use Rattle.lines.proofs.spaces.space_or_tab.Goals as goal

pub returns-in_err-end : goal.returns-in_err-end
unfolding spaces_of
returns-in_err-end c =
    let answered : c.from_residual.result ≡ Err c.in_err-end.field-0.0 = search rules in
    answered ∙ refused_by _ _ _ _ _ _ (sym (c.in_err-end.was) ∙ c.check_line.ensures)

pub slice_bounds-spaces_in-end : goal.slice_bounds-spaces_in-end
slice_bounds-spaces_in-end c = let t = lined _ _ _ _ (sym c.in_ok-end.was ∙ c.check_line.ensures) in search rules

pub spaces_in-requires : goal.spaces_in-requires
spaces_in-requires c = lined_fits _ _ _ (lined _ _ _ _ (sym c.in_ok-end.was ∙ c.check_line.ensures))

pub returns : goal.returns
returns c =
    spaces_found _ _ _ _ _ _ _
    (sym c.in_ok-end.was ∙ c.check_line.ensures)
    c.spaces_in.ensures
