-- `lines::item::is_thematic_break` meets its contract: each return is a case of the definition.
use mathlib.Core.Path.{sym, ◌∙◌}
use Rattle.lines.proofs.Marks.{no_break_mark, break_mark_lem}
use Rattle.lines.proofs.item.is_thematic_break.Goals as goal

pub returns-else-is_break : goal.returns-else-is_break
returns-else-is_break c = c.if-is_break.false ∙ no_break_mark _ _ c.byte_at-mark.ensures (sym c.is_break.ensures ∙ c.if-is_break.false)

pub returns-then-is_break : goal.returns-then-is_break
returns-then-is_break c = break_mark_lem _ _ c.byte_at-mark.ensures _ (sym c.is_break.ensures ∙ c.if-is_break.true) c.marks_only.ensures
