-- `heading::text::put_round` meets its contract: four events, one after the other.
use Rattle.partners.proofs.Sections.{puts_one, ready_one, ready_rest}
use Rattle.heading.proofs.text.put_round.Goals as goal

pub put-requires-2 : goal.put-requires-2
put-requires-2 c = ready_one (ready_rest c.put.ensures c.requires)

pub put-requires-3 : goal.put-requires-3
put-requires-3 c = ready_one (ready_rest c.put-2.ensures (ready_rest c.put.ensures c.requires))

pub put-requires-4 : goal.put-requires-4
put-requires-4 c = ready_rest c.put-3.ensures (ready_rest c.put-2.ensures (ready_rest c.put.ensures c.requires))

pub returns : goal.returns
returns c = puts_one c.put.ensures (puts_one c.put-2.ensures (puts_one c.put-3.ensures c.put-4.ensures))
