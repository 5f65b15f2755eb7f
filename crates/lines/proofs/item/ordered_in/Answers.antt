-- `lines::item::ordered_in` meets its contract: each return is a case of the definition.
use mathlib.Core.Path.{sym, ◌∙◌}
use Rattle.lines.proofs.Marks.{no_digits, too_many_digits, no_ordered_mark, may_not_start, ordered_marker}
use borrow.Author.Rules.{rules}
use Rattle.lines.proofs.item.ordered_in.Goals as goal

pub returns-then-n-lt1 : goal.returns-then-n-lt1
returns-then-n-lt1 c = no_digits _ _ c.digits-n.ensures _ (search rules)

pub returns-then-n-gt9 : goal.returns-then-n-gt9
returns-then-n-gt9 c = too_many_digits _ _ c.digits-n.ensures _ (search rules) (search rules)

pub returns-then-not-is_ordered : goal.returns-then-not-is_ordered
returns-then-not-is_ordered c = no_ordered_mark _ _ c.digits-n.ensures _ (search rules) (search rules) _ c.byte_at-mark.ensures (sym c.is_ordered.ensures ∙ c.if-not-is_ordered.true)

pub returns-then-not-may_start : goal.returns-then-not-may_start
returns-then-not-may_start c = may_not_start _ _ c.digits-n.ensures _ (search rules) (search rules) _ c.byte_at-mark.ensures (sym c.is_ordered.ensures ∙ c.if-not-is_ordered.false) (sym c.may_start.ensures ∙ c.if-not-may_start.true)

pub returns : goal.returns
returns c = ordered_marker _ _ c.digits-n.ensures _ (search rules) (search rules) _ c.byte_at-mark.ensures (sym c.is_ordered.ensures ∙ c.if-not-is_ordered.false) (sym c.may_start.ensures ∙ c.if-not-may_start.false)
