-- `classes::class_of` meets its contract: past ASCII by the ranges, else by the table's entry.
use Rattle.classes.proofs.Wide.{there}
use Rattle.classes.proofs.class_of.Goals as goal

pub class_past_ascii-requires : goal.class_past_ascii-requires
class_past_ascii-requires c = (there c.requires.0 _ c.requires.1 c.if-c-lt128.false, c.if-c-lt128.false)
