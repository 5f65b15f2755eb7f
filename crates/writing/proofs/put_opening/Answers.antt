-- `writing::put_opening` meets its contract: four events, one after the other.
use Rattle.partners.proofs.Sections.{puts_one, ready_one, ready_rest}
use Rattle.writing.proofs.Pieces.{opening_named}
use Rattle.writing.proofs.put_opening.Goals as goal

pub put-requires : goal.put-requires
put-requires c = ready_one (rw (opening_named _ _ _ _ _ c.name_of-name.ensures.0) at c.requires)

pub put-requires-2 : goal.put-requires-2
put-requires-2 c = ready_one (ready_rest c.put.ensures (rw (opening_named _ _ _ _ _ c.name_of-name.ensures.0) at c.requires))

pub put-requires-3 : goal.put-requires-3
put-requires-3 c = ready_one (ready_rest c.put-2.ensures (ready_rest c.put.ensures (rw (opening_named _ _ _ _ _ c.name_of-name.ensures.0) at c.requires)))

pub put-requires-4 : goal.put-requires-4
put-requires-4 c = ready_rest c.put-3.ensures (ready_rest c.put-2.ensures (ready_rest c.put.ensures (rw (opening_named _ _ _ _ _ c.name_of-name.ensures.0) at c.requires)))

pub returns : goal.returns
returns c =
    rw (opening_named _ _ _ _ _ c.name_of-name.ensures.0)
    (puts_one c.put.ensures (puts_one c.put-2.ensures (puts_one c.put-3.ensures c.put-4.ensures)))
