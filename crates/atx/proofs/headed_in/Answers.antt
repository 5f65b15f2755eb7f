-- `atx::headed_in` meets its contract: each return is a case of the definition; the four writes together are the section.
use mathlib.Core.Path.{sym, ◌∙◌}
use Rattle.atx.proofs.Headings.{answers_no, answers_seven, answers_eight, answers_heading}
use borrow.Author.Rules.{rules}
use Rattle.atx.proofs.headed_in.Goals as goal

pub returns-then-not-is_heading : goal.returns-then-not-is_heading
returns-then-not-is_heading c = answers_no _ _ _ _ (sym c.is_heading.ensures ∙ c.if-not-is_heading.true)

pub returns-then-events-gt-MAX_RESULT : goal.returns-then-events-gt-MAX_RESULT
returns-then-events-gt-MAX_RESULT c = rw c.refused.ensures (answers_seven _ _ _ _ (sym c.is_heading.ensures ∙ c.if-not-is_heading.false) _ c.count_pieces-pieces.ensures.0 (search rules))

pub returns-then-out-events : goal.returns-then-out-events
returns-then-out-events c = rw c.refused-then-out-events.ensures (answers_eight _ _ _ _ (sym c.is_heading.ensures ∙ c.if-not-is_heading.false) _ c.count_pieces-pieces.ensures.0 (search rules) (search rules))

pub returns : goal.returns
returns c = answers_heading _ _ _ _ (sym c.is_heading.ensures ∙ c.if-not-is_heading.false) _ c.count_pieces-pieces.ensures.0 (search rules) (search rules) _ _ _ _ c.put_u32.ensures c.put_event.ensures c.put_pieces.ensures c.put_event-2.ensures
