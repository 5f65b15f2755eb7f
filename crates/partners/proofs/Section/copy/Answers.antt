use Rattle.std.proofs.Common.{refl}
use Rattle.record.specs.EventsOf.{events_of}
use Rattle.partners.proofs.Section.copy.Goals as goal

pub copy-requires : goal.copy-requires
unfolding events_of
copy-requires c = (c.args.events.wide, c.args.events.whole, c.requires.fits)

pub returns : goal.returns
unfolding events_of
returns c = record { same_reference = refl; put = c.copy.ensures }
