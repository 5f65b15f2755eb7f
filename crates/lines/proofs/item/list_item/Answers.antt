-- `lines::item::list_item` meets its contract: after the check, what is found on the part of the slice before its end.
use Rattle.std.specs.Prelude.{◌≡◌, Err}
use mathlib.Core.Path.{sym, ◌∙◌}
use Rattle.scan.proofs.Checks.{refused_by, lined}
use Rattle.lines.proofs.Starts.{start_found}
use Rattle.lines.specs.Item.{start_of}
use borrow.Author.Rules.{rules}
use Rattle.lines.proofs.item.list_item.Goals as goal

pub returns-in_err-end : goal.returns-in_err-end
unfolding start_of
returns-in_err-end c =
    let answered : c.from_residual.result ≡ Err c.in_err-end.field-0.0 = search rules in
    answered ∙ refused_by _ _ _ _ _ _ (sym (c.in_err-end.was) ∙ c.check_line.ensures)

pub slice_bounds-start_in-end : goal.slice_bounds-start_in-end
slice_bounds-start_in-end c = let t = lined _ _ _ _ (sym c.in_ok-end.was ∙ c.check_line.ensures) in search rules

pub start_in-requires : goal.start_in-requires
start_in-requires c = let t = lined _ _ _ _ (sym c.in_ok-end.was ∙ c.check_line.ensures) in search rules

pub returns : goal.returns
returns c =
    start_found _ _ _ _ _ _
    (sym c.in_ok-end.was ∙ c.check_line.ensures)
    c.start_in.ensures
