-- `lines::item::start_in` meets its contract: each return is a case of the definition; that the parts of the slice are there, and that there is
-- room for the columns, follows from what indentation and marker tell.
use mathlib.Core.Path.{sym, ◌∙◌}
use Rattle.scan.proofs.Taken.{indent_fits}
use Rattle.lines.proofs.Starts.{items_off, placed, no_marker, marker_there}
use borrow.Author.Rules.{rules}
use Rattle.lines.proofs.item.start_in.Goals as goal

pub returns-then-options-ne1 : goal.returns-then-options-ne1
returns-then-options-ne1 c = items_off _ _ _ _ (search rules)

pub slice_bounds-rest-count : goal.slice_bounds-rest-count
slice_bounds-rest-count c = let i = indent_fits _ _ _ _ c.indented-indent.ensures in search rules

pub slice_bounds-rest-start : goal.slice_bounds-rest-start
slice_bounds-rest-start c = let i = indent_fits _ _ _ _ c.indented-indent.ensures in search rules

pub returns-in_err-kind : goal.returns-in_err-kind
returns-in_err-kind c =
    c.from_residual.ensures ∙ no_marker _ _ _ _ _ c.indented-indent.ensures (search rules) (sym (c.in_err-kind.was) ∙ c.marker_in.ensures)

pub overflow_add-before : goal.overflow_add-before
overflow_add-before c =
    let m =
    placed _ _ _ _ _ c.indented-indent.ensures _ _
    (sym c.in_ok-kind.was ∙ c.marker_in.ensures)
    in
    search rules

pub overflow_add-before-2 : goal.overflow_add-before-2
overflow_add-before-2 c =
    let m =
    placed _ _ _ _ _ c.indented-indent.ensures _ _
    (sym c.in_ok-kind.was ∙ c.marker_in.ensures)
    in
    search rules

pub slice_bounds-start_after-count : goal.slice_bounds-start_after-count
slice_bounds-start_after-count c =
    let m =
    placed _ _ _ _ _ c.indented-indent.ensures _ _
    (sym c.in_ok-kind.was ∙ c.marker_in.ensures)
    in
    search rules

pub slice_bounds-start_after-start : goal.slice_bounds-start_after-start
slice_bounds-start_after-start c =
    let m =
    placed _ _ _ _ _ c.indented-indent.ensures _ _
    (sym c.in_ok-kind.was ∙ c.marker_in.ensures)
    in
    search rules

pub overflow_add-column : goal.overflow_add-column
overflow_add-column c =
    let m =
    placed _ _ _ _ _ c.indented-indent.ensures _ _
    (sym c.in_ok-kind.was ∙ c.marker_in.ensures)
    in
    search rules

pub start_after-requires : goal.start_after-requires
start_after-requires c =
    let m =
    placed _ _ _ _ _ c.indented-indent.ensures _ _
    (sym c.in_ok-kind.was ∙ c.marker_in.ensures)
    in
    search rules

pub returns : goal.returns
returns c =
    marker_there _ _ _ _ _
    c.indented-indent.ensures (search rules) _ _
    (sym c.in_ok-kind.was ∙ c.marker_in.ensures) _
    c.start_after.ensures
