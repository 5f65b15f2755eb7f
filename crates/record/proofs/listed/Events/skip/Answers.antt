use Rattle.record.specs.EventsOf.{events_of}
use Rattle.std.proofs.Common.{refl, arith}
use Rattle.record.proofs.ListedEvents.{left, ends_kept}
use Rattle.record.proofs.listed.Events.skip.Goals as goal

pub returns-clause-listed : goal.returns-clause-listed
unfolding events_of
returns-clause-listed c = left _ _ _ _ _ _ c.min-passed.ensures

pub returns-clause-last : goal.returns-clause-last
returns-clause-last c =
    record {
      record_kept = refl;
      width_kept = refl;
      end_kept = ends_kept _ _ _ _ _ c.min-passed.ensures;
      fewer = omega arith;
    }
