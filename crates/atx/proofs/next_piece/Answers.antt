-- `atx::next_piece` meets its contract: each return is a case of the definition.
use mathlib.Core.Path.{sym, ◌∙◌}
use Rattle.atx.proofs.Pieces.{blank_piece, hash_piece, data_piece}
use borrow.Author.Rules.{rules}
use Rattle.atx.proofs.next_piece.Goals as goal

pub returns-then-is_blank : goal.returns-then-is_blank
returns-then-is_blank c = blank_piece _ _ (sym c.is_blank.ensures ∙ c.if-is_blank.true) c.gap.ensures

pub returns-then-rest-eq35 : goal.returns-then-rest-eq35
returns-then-rest-eq35 c = hash_piece _ _ (sym c.is_blank.ensures ∙ c.if-is_blank.false) (search rules) c.hashes.ensures

pub returns : goal.returns
returns c = data_piece _ _ (sym c.is_blank.ensures ∙ c.if-is_blank.false) (search rules) c.word.ensures
