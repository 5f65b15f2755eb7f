use Rattle.std.proofs.Common.{◌∙◌}
use Rattle.record.proofs.ListedEvents.{event_of}
use Rattle.record.proofs.listed.Events.event.Goals as goal

pub returns : goal.returns
returns c = c.event_at.ensures.0 ∙ event_of _ _ c.requires
