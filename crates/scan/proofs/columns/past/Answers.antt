use Rattle.record.proofs.Stretch.{all_none}
use Rattle.scan.proofs.InColumns.{is_same, not_same, all_more, passed_stop, passed_end, passed_before}
use Rattle.std.proofs.Common.{◌≡◌, ◌+◌, arith, rules}
use Rattle.scan.proofs.columns.past.Goals as goal

pub loop-at-init : goal.loop-at-init
loop-at-init c = all_none (search rules)

pub returns-then-s-at : goal.returns-then-s-at
returns-then-s-at c = passed_stop (search rules) (search rules) c.loop-at.invariant (not_same _ _ (search rules))

pub loop-at-preserved : goal.loop-at-preserved
loop-at-preserved c = all_more c.loop-at.invariant (is_same _ _ (search rules))

pub returns-then-near-end : goal.returns-then-near-end
returns-then-near-end c =
    let through : c.loop-at.at ≡ c.args.from + c.min.result = omega arith in
    passed_end (search rules) (search rules) (rw through at c.loop-at.invariant)

pub returns : goal.returns
returns c =
    let through : c.loop-at.at ≡ c.args.from + c.min.result = omega arith in
    passed_before (search rules) (rw through at c.loop-at.invariant) c.past_by_block.ensures
