-- `heading::text::text_events` meets its contract: what has no closing run ends with its last Data or `#` run already.
use Rattle.std.proofs.Common.{ap, ◌∙◌, arith}
use Rattle.record.proofs.ListedEvents.{length_of}
use Rattle.heading.specs.Headings.{to_last, without_closing}
use Rattle.heading.proofs.Texts.{last_known}
use Rattle.heading.proofs.text.text_events.Goals as goal

pub returns-then-unclosed-marked : goal.returns-then-unclosed-marked
returns-then-unclosed-marked c =
    last_known _ _ _ c.to_last-marked.ensures c.without_closing-unclosed.ensures
    (omega (arith, length_of c.to_last-marked.result, length_of c.without_closing-unclosed.result, c.if-unclosed-marked.true))

pub returns : goal.returns
returns c = c.to_last.ensures ∙ ap (λ es. to_last es) (c.without_closing-unclosed.ensures ∙ ap (λ es. without_closing es) c.to_last-marked.ensures)
