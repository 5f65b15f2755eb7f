-- `record::check::count_at` meets its contract: each return is a case of the definition.
use mathlib.Core.Path.{sym}
use native.Mathlib.Omega.{arith}
use Rattle.record.proofs.Counts.{product, no_room, over, past, fits}
use Rattle.record.proofs.check.count_at.Goals as goal

pub returns-then-left-lt4 : goal.returns-then-left-lt4
returns-then-left-lt4 c = sym (no_room _ _ _ _ (omega arith))

pub returns-then-count-limit : goal.returns-then-count-limit
returns-then-count-limit c = sym (over _ _ _ _ _ c.u32_at-count.ensures.0 (omega arith) c.if-count-limit.true)

pub overflow_mul-width : goal.overflow_mul-width
overflow_mul-width c = omega (arith, product _ _ _ c.requires.2 c.if-count-limit.false c.requires.1)

pub returns-then-left-width : goal.returns-then-left-width
returns-then-left-width c = sym (past _ _ _ _ _ c.u32_at-count.ensures.0 (omega arith) c.if-count-limit.false (omega arith))

pub returns : goal.returns
returns c = sym (fits _ _ _ _ _ c.u32_at-count.ensures.0 (omega arith) c.if-count-limit.false (omega arith))
