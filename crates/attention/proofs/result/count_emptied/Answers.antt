use mathlib.Core.Path.{sym, ◌∙◌}
use Rattle.attention.proofs.Counting.{counted, passed, counted_all}
use borrow.Author.Rules.{rules}
use Rattle.attention.proofs.result.count_emptied.Goals as goal
use Rattle.attention.proofs.result.count_emptied.Goals.{then-get-eq0, else-get-eq0}

pub loop-q-preserved : goal.loop-q-preserved
loop-q-preserved c =
    let i = c.loop-q.invariant in
    let more = c.loop-q-test.true in
    let e = c.get.ensures.0 in
    elim c.if-get-eq0.branch [
      | then-get-eq0 u ↦ rw u.count-is (counted i more (sym e ∙ u.if-get-eq0.true))
      | else-get-eq0 u ↦ rw u.count-is (passed i more (λ z. u.if-get-eq0.false (e ∙ z)))
    ]

pub returns : goal.returns
returns c = counted_all c.loop-q.invariant (search rules)
