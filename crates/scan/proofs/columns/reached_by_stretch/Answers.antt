use mathlib.Core.Path.{sym, ◌∙◌}
use native.Mathlib.Omega.{arith}
use Rattle.scan.proofs.InColumns.{spaces_passed, stopped, ended, cuts, turn, width_small, spanned_fits}
use borrow.Author.Rules.{rules}
use Rattle.scan.proofs.columns.reached_by_stretch.Goals as goal

pub loop-at-init : goal.loop-at-init
loop-at-init c = spaces_passed _ (search rules) (search rules) c.requires.3

pub returns-then-not-is_blank : goal.returns-then-not-is_blank
returns-then-not-is_blank c = stopped c.loop-at.invariant (sym c.is_blank.ensures ∙ c.if-not-is_blank.true)

pub overflow_add-next : goal.overflow_add-next
overflow_add-next c = omega (arith, width_small _ _ _ c.width_at.ensures)

pub returns-then-next-max : goal.returns-then-next-max
returns-then-next-max c =
    c.cut_at.ensures ∙
    cuts
    c.loop-at.invariant
    _
    c.width_at.ensures
    (search rules)
    (sym c.is_blank.ensures ∙ c.if-not-is_blank.false)
    (search rules)

pub overflow_add-columns : goal.overflow_add-columns
overflow_add-columns c = omega (arith, spanned_fits _ _ _ _ _ (search rules) c.spanned.ensures c.fitting-fit.ensures)

pub loop-at-preserved : goal.loop-at-preserved
loop-at-preserved c =
    turn
    c.loop-at.invariant
    (search rules)
    (sym c.is_blank.ensures ∙ c.if-not-is_blank.false)
    _
    _
    _
    c.width_at.ensures
    c.past-to.ensures.before
    (search rules)
    (search rules)
    c.spanned.ensures
    (omega (arith, spanned_fits _ _ _ _ _ (search rules) c.spanned.ensures c.fitting-fit.ensures))

pub returns : goal.returns
returns c = ended c.loop-at.invariant (search rules)
