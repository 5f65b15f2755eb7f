-- `atx::heading` meets its contract: after the check, what is found on the part of the slice before its end.
use Rattle.std.specs.Prelude.{◌≡◌, Err}
use mathlib.Core.Path.{sym, ◌∙◌}
use Rattle.scan.proofs.Checks.{lined}
use Rattle.atx.proofs.Headings.{heading_refused, heading_found}
use borrow.Author.Rules.{rules}
use Rattle.atx.proofs.heading.Goals as goal

pub returns-in_err-end : goal.returns-in_err-end
returns-in_err-end c =
    let answered : c.from_residual.result ≡ Err c.in_err-end.field-0.0 = search rules in
    rw answered (heading_refused _ _ _ _ _ (sym c.in_err-end.was ∙ c.check_line.ensures))

pub slice_bounds-headed_in-end : goal.slice_bounds-headed_in-end
slice_bounds-headed_in-end c = let t = lined _ _ _ _ (sym c.in_ok-end.was ∙ c.check_line.ensures) in search rules

pub headed_in-requires : goal.headed_in-requires
headed_in-requires c = let t = lined _ _ _ _ (sym c.in_ok-end.was ∙ c.check_line.ensures) in
    let n = t.near in
    let s = t.short in
    search rules

pub returns : goal.returns
returns c = heading_found _ _ _ _ _ (sym c.in_ok-end.was ∙ c.check_line.ensures) _ _ c.headed_in.ensures
