use borrow.Author.Rules.{rules}
use native.Mathlib.Omega.{arith}
use Rattle.record.proofs.Stretch.{all_none, all_join}
use Rattle.record.proofs.blocks.pass_blocks.Goals as goal

pub loop-at-init : goal.loop-at-init
loop-at-init c = (search rules, search rules, all_none (omega arith))

pub returns-then-not-block_is : goal.returns-then-not-block_is
returns-then-not-block_is c =
    let i = c.loop-at.invariant in
    record { low = i.0; high = i.1; before = i.2; stops = λ h f. c.block_is.ensures.no (c.if-not-block_is.true) f }

pub loop-at-preserved : goal.loop-at-preserved
loop-at-preserved c =
    let i = c.loop-at.invariant in
    (omega arith, omega arith, all_join i.2 (c.block_is.ensures.yes (c.if-not-block_is.false)))

pub returns : goal.returns
returns c =
    let i = c.loop-at.invariant in
    record { low = i.0; high = i.1; before = i.2; stops = λ h f. omega arith }
