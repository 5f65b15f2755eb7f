-- Events put into the section that an output holds.
-- Assumes nothing.
use Rattle.std.specs.Prelude.{◌≡◌, List}
use Rattle.record.specs.declared.event.Event.{Event}
use Rattle.partners.specs.Pen.{Put, Fits}
use Rattle.partners.specs.declared.Section.{Section}

-- the section is ready for these events
pub record Ready (s : Section) (fs : List Event) : Type 0 where
  pub fits : Fits s.out.now s.pen fs

-- these events are put, into the same output
pub record Puts (s : Section) (fs : List Event) (s' : Section) : Type 0 where
  pub same_reference : s'.out.ghost_name ≡ s.out.ghost_name
  pub put : Put s.out.now s.pen fs s'.out.now s'.pen
