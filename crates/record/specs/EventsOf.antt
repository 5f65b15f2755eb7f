-- The list that some events of a record are, and which events are the last of others.
-- Assumes nothing.
use Rattle.std.specs.Prelude.{◌+◌, ◌*◌, ◌≤◌, ◌≡◌, List}
use Rattle.record.specs.Event.{events_by}
use Rattle.record.specs.declared.event.Event.{Event}
use Rattle.record.specs.declared.listed.Events.{Events}

unfoldable pub events_of : Events → List Event
events_of v = events_by v.width v.count v.bytes.now v.from

-- some events are the last of others: they stand in the same record, as wide, and end where those do
pub record LastOf (all last : Events) : Type 0 where
  pub record_kept : last.bytes ≡ all.bytes
  pub width_kept : last.width ≡ all.width
  pub end_kept : last.from + last.width * last.count ≡ all.from + all.width * all.count
  pub fewer : last.count ≤ all.count
