-- `record::check::pair_true` meets its contract: each return is a case of the definition.
use borrow.Author.Rules.{rules}
use Rattle.record.proofs.Formed.{none_carried, back_wrong, forth_wrong, both_right}
use Rattle.record.proofs.check.pair_true.Goals as goal

pub returns-then-width-lt12 : goal.returns-then-width-lt12
returns-then-width-lt12 c = none_carried _ _ _ _ _ (search rules)

pub returns-then-back-mate : goal.returns-then-back-mate
returns-then-back-mate c = back_wrong _ _ _ _ _ _ (search rules) c.u32_at-back.ensures.0 c.if-back-mate.true

pub returns-then-forth-number : goal.returns-then-forth-number
returns-then-forth-number c = forth_wrong _ _ _ _ _ _ _ (search rules) c.u32_at-back.ensures.0 c.if-back-mate.false c.u32_at-forth.ensures.0 c.if-forth-number.true

pub returns : goal.returns
returns c = both_right _ _ _ _ _ _ _ (search rules) c.u32_at-back.ensures.0 c.if-back-mate.false c.u32_at-forth.ensures.0 c.if-forth-number.false
