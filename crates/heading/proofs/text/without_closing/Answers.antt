-- `heading::text::without_closing` meets its contract: each return is a case of the definition.
use Rattle.std.proofs.Common.{sym, ◌∙◌, arith}
use Rattle.record.proofs.ListedEvents.{length_of}
use Rattle.heading.proofs.Texts.{closing_here, closing_other}
use Rattle.heading.proofs.text.without_closing.Goals as goal

pub returns-then-ends_with : goal.returns-then-ends_with
returns-then-ends_with c =
    closing_here _ _ (omega (arith, c.saturating_sub.ensures, length_of c.args.events)) _ c.take.ensures.listed (sym c.ends_with.ensures ∙ c.if-ends_with.true)

pub returns : goal.returns
returns c = closing_other _ (sym c.ends_with.ensures ∙ c.if-ends_with.false)
