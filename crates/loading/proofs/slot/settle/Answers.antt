-- `loading::slot::settle` meets its contract: what it reads and works out is the run, and the slot holds it; or the ranges are lacking.
use mathlib.Core.Path.{sym, ◌∙◌}
use Rattle.loading.proofs.Settles.{byte_in, before_in, after_in, settled, not_settled, now_settled}
use Rattle.loading.proofs.slot.settle.Goals as goal
use Rattle.loading.proofs.slot.settle.Goals.{then-lacks-via-then-lacks, then-lacks-via-else-lacks+then-lacks-2}

pub returns-then-lacks : goal.returns-then-lacks
returns-then-lacks c = elim c.then-lacks.branch [
  | then-lacks-via-then-lacks w ↦ not_settled _ _ _ (sym c.lacks.ensures ∙ w.if-lacks.true)
  | then-lacks-via-else-lacks+then-lacks-2 w ↦ not_settled _ _ _ (sym w.lacks-else-lacks.ensures ∙ w.if-lacks-2.true)
]

pub returns : goal.returns
returns c =
    now_settled _ _
    (settled
    (record {
      place = c.u32_at-from.ensures.0;
      end = c.u32_at-to.ensures.0;
      byte = byte_in _ _ _ _;
      stands_before = c.neighbour_before-left.ensures ∙ before_in _ _ _ _;
      stands_after = c.neighbour_after-right.ensures ∙ after_in _ _ _ _;
      can_open = rw (← c.option_on-strike.ensures) c.flanking-can.ensures.0;
      can_close = rw (← c.option_on-strike.ensures) c.flanking-can.ensures.1;
      number = c.chain_number-chain.ensures.0;
      known = c.chain_number-chain.ensures.1;
    })
    c.fill.ensures)
