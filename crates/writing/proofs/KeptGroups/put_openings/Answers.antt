use Rattle.writing.proofs.OpeningTurn.{start, room, falls, turn, ended}
use borrow.Author.Rules.{rules}
use Rattle.writing.proofs.KeptGroups.put_openings.Goals as goal

pub loop-g-init : goal.loop-g-init
loop-g-init c = search (rules, start)

pub put_opening-requires : goal.put_opening-requires
put_opening-requires c = search (rules, room)

pub loop-g-smaller : goal.loop-g-smaller
loop-g-smaller c = search (rules, falls)

pub loop-g-preserved : goal.loop-g-preserved
loop-g-preserved c = search (rules, turn)

pub returns : goal.returns
returns c = search (rules, ended)
