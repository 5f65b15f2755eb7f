-- `lines::item::may_start` meets its contract: each return is a case of the definition.
use Rattle.std.proofs.Common.{◌∙◌, not, ap}
use borrow.Author.Tests.{ne_eqb}
use Rattle.lines.proofs.Marks.{not_interrupting, other_count, one_digit}
use Rattle.lines.proofs.item.may_start.Goals as goal

pub returns-then-not-interrupting : goal.returns-then-not-interrupting
returns-then-not-interrupting c = ap not c.if-not-interrupting.true ∙ not_interrupting _ _ c.if-not-interrupting.true

pub returns-then-digits-eq1 : goal.returns-then-digits-eq1
returns-then-digits-eq1 c = one_digit _ _ c.digits.ensures _ _ c.if-not-interrupting.false c.if-digits-eq1.true c.byte_at.ensures

pub returns-else-digits-eq1 : goal.returns-else-digits-eq1
returns-else-digits-eq1 c =
    ne_eqb _ _ c.if-digits-eq1.false ∙ other_count _ _ c.digits.ensures _ c.if-not-interrupting.false c.if-digits-eq1.false
