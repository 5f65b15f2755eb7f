-- `loading::slot::fill` meets its contract: the writes, one after the other, are those of `filled`.
use Rattle.loading.proofs.Slotting.{written}
use borrow.Author.Rules.{rules}
use Rattle.loading.proofs.slot.fill.Goals as goal

pub returns : goal.returns
returns c =
    written (search rules) (search rules) (search rules) c.put.ensures c.put-2.ensures c.put_marker.ensures c.put_flag.ensures c.put_flag-2.ensures c.put_fresh.ensures
