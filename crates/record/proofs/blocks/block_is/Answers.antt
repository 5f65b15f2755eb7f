use mathlib.Core.Path.{◌≡◌}
use Prim.Native.Nat.{◌+◌}
use native.Mathlib.Omega.{arith}
use Rattle.record.specs.Stretch.{of_kind}
use Rattle.record.proofs.Stretch.{tells_none, tells_more, is_kind}
use Rattle.record.proofs.blocks.block_is.Goals as goal

pub loop-k-init : goal.loop-k-init
loop-k-init c = tells_none

pub loop-k-preserved : goal.loop-k-preserved
unfolding of_kind
loop-k-preserved c = tells_more _ (omega arith) (omega arith) (is_kind _ _) c.loop-k.invariant

pub returns : goal.returns
returns c =
    let z : c.args.at + c.loop-k.k ≡ c.args.at + c.args.width = omega arith in
    rw z at c.loop-k.invariant
