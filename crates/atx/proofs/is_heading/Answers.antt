-- `atx::is_heading` meets its contract: each return is a case of the definition.
use Rattle.scan.proofs.Taken.{indent_fits}
use Rattle.atx.proofs.Headings.{headings_off, headings_on}
use borrow.Author.Rules.{rules}
use Rattle.atx.proofs.is_heading.Goals as goal

pub returns-then-options-ne1 : goal.returns-then-options-ne1
returns-then-options-ne1 c = headings_off _ _ _ (search rules)

pub slice_bounds-opens-count : goal.slice_bounds-opens-count
slice_bounds-opens-count c = let i = indent_fits _ _ _ _ c.indented-indent.ensures in search rules

pub slice_bounds-opens-start : goal.slice_bounds-opens-start
slice_bounds-opens-start c = let i = indent_fits _ _ _ _ c.indented-indent.ensures in search rules

pub returns : goal.returns
returns c = headings_on _ _ _ (search rules) _ c.indented-indent.ensures _ c.opens.ensures
