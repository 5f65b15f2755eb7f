-- `record::blocks::block_is` meets its contract. The invariant: what is gathered tells whether the first k bytes of the block are all of the kind.
use Rattle.std.proofs.Common.{◌+◌}
use Rattle.record.specs.Stretch.{of_kind, Tells}
use Rattle.record.proofs.blocks.block_is.Given as goal

abbrev pub invariant-loop-k : goal.invariant-loop-k
invariant-loop-k l = Tells (of_kind l.kind) l.s l.at (l.at + l.k) l.all
