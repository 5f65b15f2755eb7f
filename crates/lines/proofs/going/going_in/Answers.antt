-- `lines::going::going_in` meets its contract: each return is a case of the definition.
use mathlib.Core.Path.{sym, ◌∙◌}
use Rattle.lines.proofs.Goings.{first_kind, blank_stops, blank_goes, none_stops, few_stops, enough_goes}
use borrow.Author.Rules.{rules}
use Rattle.lines.proofs.going.going_in.Goals as goal

pub returns-then-held : goal.returns-then-held
returns-then-held c = blank_stops _ _ _ _ c.reached-reach.ensures (sym c.is_blank_line.ensures ∙ c.if-is_blank_line.true) c.if-held.true

pub returns-then-is_blank_line : goal.returns-then-is_blank_line
returns-then-is_blank_line c = blank_goes _ _ _ _ c.reached-reach.ensures (sym c.is_blank_line.ensures ∙ c.if-is_blank_line.true) c.if-held.false

pub returns-then-not-is_blank : goal.returns-then-not-is_blank
returns-then-not-is_blank c = none_stops _ _ _ _ c.reached-reach.ensures (sym c.is_blank_line.ensures ∙ c.if-is_blank_line.false) _ c.cleared-clear.ensures (first_kind c.byte_at.ensures c.is_blank.ensures (c.if-not-is_blank.true))

pub returns-then-reach-size : goal.returns-then-reach-size
returns-then-reach-size c = few_stops _ _ _ _ c.reached-reach.ensures (sym c.is_blank_line.ensures ∙ c.if-is_blank_line.false) _ c.cleared-clear.ensures (first_kind c.byte_at.ensures c.is_blank.ensures (c.if-not-is_blank.false)) (search rules)

pub returns : goal.returns
returns c = enough_goes _ _ _ _ c.reached-reach.ensures (sym c.is_blank_line.ensures ∙ c.if-is_blank_line.false) _ c.cleared-clear.ensures (first_kind c.byte_at.ensures c.is_blank.ensures (c.if-not-is_blank.false)) (search rules)
