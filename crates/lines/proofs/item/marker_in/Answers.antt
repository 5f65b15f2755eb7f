-- `lines::item::marker_in` meets its contract: each return is a case of the definition.
use mathlib.Core.Path.{sym, ◌∙◌}
use Rattle.lines.proofs.Marks.{no_bullet, a_break, bullet_marker}
use Rattle.lines.proofs.item.marker_in.Goals as goal

pub returns-then-not-is_bullet : goal.returns-then-not-is_bullet
returns-then-not-is_bullet c = no_bullet _ _ _ c.byte_at-byte.ensures (sym c.is_bullet.ensures ∙ c.if-not-is_bullet.true) _ c.ordered_in.ensures

pub returns-then-is_thematic_break : goal.returns-then-is_thematic_break
returns-then-is_thematic_break c = a_break _ _ _ c.byte_at-byte.ensures (sym c.is_bullet.ensures ∙ c.if-not-is_bullet.false) (sym c.is_thematic_break.ensures ∙ c.if-is_thematic_break.true)

pub returns : goal.returns
returns c = bullet_marker _ _ _ c.byte_at-byte.ensures (sym c.is_bullet.ensures ∙ c.if-not-is_bullet.false) (sym c.is_thematic_break.ensures ∙ c.if-is_thematic_break.false)
