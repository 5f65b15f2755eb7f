use mathlib.Core.Path.{refl}
use Rattle.attention.proofs.Heads.{cleared_more}
use Rattle.attention.proofs.start.clear_heads.Goals as goal

pub loop-k-preserved : goal.loop-k-preserved
loop-k-preserved c = cleared_more c.requires c.loop-k.invariant c.loop-k-test.true c.put.ensures refl
