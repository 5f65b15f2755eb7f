-- `record::blocks::pass_blocks` meets its contract. The invariant: what is passed is all of the kind; the measure is what is left.
use Prim.Native.Nat.{◌-◌, ◌≤◌}
use Rattle.record.specs.Stretch.{of_kind, AllAre}
use Rattle.record.proofs.blocks.pass_blocks.Given as goal

abbrev pub invariant-loop-at : goal.invariant-loop-at
invariant-loop-at l = (l.from ≤ l.at) × (l.at ≤ l.end) × AllAre (of_kind l.kind) l.s l.from l.at

abbrev pub decreases-loop-at : goal.decreases-loop-at
decreases-loop-at l = l.end - l.at
