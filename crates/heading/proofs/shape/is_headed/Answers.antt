-- `heading::shape::is_headed` meets its contract: each return is a case of the definition.
use Rattle.std.proofs.Common.{sym, ◌∙◌}
use Rattle.heading.proofs.Shapes.{headed_first, headed_second}
use Rattle.heading.proofs.shape.is_headed.Goals as goal

pub returns-then-starts_with : goal.returns-then-starts_with
returns-then-starts_with c = c.starts_with-then-starts_with.ensures ∙ headed_second _ _ (sym c.starts_with.ensures ∙ c.if-starts_with.true) c.skip.ensures.listed

pub returns : goal.returns
returns c = c.starts_with-2.ensures ∙ headed_first _ (sym c.starts_with.ensures ∙ c.if-starts_with.false)
