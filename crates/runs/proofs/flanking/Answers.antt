-- `runs::flanking` meets its contract: by the classes of the two characters, each looked up once. Assumes nothing.
use Rattle.runs.proofs.Firsts.{flanked}
use Rattle.runs.proofs.flanking.Goals as goal

pub returns : goal.returns
returns c = flanked _ _ _ _ _ _ _ _ c.class_of-left.ensures c.class_of-right.ensures c.opens_by.ensures c.opens_by-2.ensures
