-- `heading::text::ends_with` meets its contract: the last event is the first from the end.
use Rattle.heading.proofs.Texts.{starts_last, starts_none}
use Rattle.heading.proofs.text.ends_with.Goals as goal

pub returns-in-Some : goal.returns-in-Some
returns-in-Some c = starts_last _ _ _ c.in-Some.ensures.listed _

pub returns-in-None : goal.returns-in-None
returns-in-None c = starts_none _ _ c.in-None.ensures.listed
