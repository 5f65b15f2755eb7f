-- `lines::item::start_after` meets its contract: each return is a case of the definition.
use mathlib.Core.Path.{sym, ◌∙◌}
use Rattle.lines.proofs.Starts.{reach_fits, blank_interrupts, blank_starts, no_padding, wide_padding, all_padding}
use borrow.Author.Rules.{rules}
use Rattle.lines.proofs.item.start_after.Goals as goal

pub returns-then-interrupting : goal.returns-then-interrupting
returns-then-interrupting c = blank_interrupts _ _ _ _ _ (sym c.is_blank_line.ensures ∙ c.if-is_blank_line.true) c.if-interrupting.true

pub returns-then-is_blank_line : goal.returns-then-is_blank_line
returns-then-is_blank_line c = blank_starts _ _ _ _ _ (sym c.is_blank_line.ensures ∙ c.if-is_blank_line.true) c.if-interrupting.false

pub returns-then-five-eq0 : goal.returns-then-five-eq0
returns-then-five-eq0 c = no_padding _ _ _ _ _ (sym c.is_blank_line.ensures ∙ c.if-is_blank_line.false) _ c.reached-five.ensures (search rules)

pub filled_item-requires : goal.filled_item-requires
filled_item-requires c = let t = reach_fits _ _ _ _ c.reached.ensures in search rules

pub returns-then-five-eq5 : goal.returns-then-five-eq5
returns-then-five-eq5 c = wide_padding _ _ _ _ _ (sym c.is_blank_line.ensures ∙ c.if-is_blank_line.false) _ c.reached-five.ensures (search rules) _ c.reached.ensures _ c.filled_item.ensures

pub filled_item-requires-2 : goal.filled_item-requires-2
filled_item-requires-2 c = let t = reach_fits _ _ _ _ c.reached-five.ensures in search rules

pub returns : goal.returns
returns c = all_padding _ _ _ _ _ (sym c.is_blank_line.ensures ∙ c.if-is_blank_line.false) _ c.reached-five.ensures (search rules) (search rules) _ c.filled_item-2.ensures
