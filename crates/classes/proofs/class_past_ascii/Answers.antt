-- `classes::class_past_ascii` meets its contract: by the two look-ups, in the definition's order.
use borrow.Author.Rules.{rules}
use Rattle.classes.specs.Class.{wide_class}
use Rattle.classes.proofs.Wide.{by_ranges}
use Rattle.classes.proofs.class_past_ascii.Goals as goal

pub returns-then-is_space : goal.returns-then-is_space
unfolding wide_class
returns-then-is_space c = rw (by_ranges c.args.c c.requires.1) (search rules)

pub returns-then-is_punctuation : goal.returns-then-is_punctuation
unfolding wide_class
returns-then-is_punctuation c = rw (by_ranges c.args.c c.requires.1) (search rules)

pub returns-else-is_punctuation : goal.returns-else-is_punctuation
unfolding wide_class
returns-else-is_punctuation c = rw (by_ranges c.args.c c.requires.1) (search rules)
