-- What stands beside a run and what the run can do by it are what the rules' sentences say: the statements of specs/Neighbours.antt.
-- Assumes nothing.
use mathlib.Core.Path.{ap, ◌∙◌}
use lib.ListN.{get_or}
use Rattle.record.specs.Options.{option_on}
use Rattle.characters.specs.Beside.{neighbour_before, neighbour_after}
use Rattle.characters.proofs.Neighbours.{edge_first, edge_after}
use Rattle.characters.proofs.Places.{character_before, character_after, malformed_before, malformed_after}
use Rattle.classes.proofs.Ascii.{as_asked}
use Rattle.runs.specs.Runs.{first_place}
use Rattle.runs.specs.Flanking.{class_beside}
use Rattle.runs.specs.Pieces.{standing}
use Rattle.runs.specs.Neighbours.{BesideAsAsked, StandsAsWritten}
use Rattle.runs.proofs.AsWritten.{open_as_written, close_as_written}

pub beside_as_asked : BesideAsAsked
unfolding class_beside
beside_as_asked doc =
    record {
      beginning = ap class_beside (edge_first doc);
      end = λ at h. ap class_beside (edge_after doc at h);
      before = λ at c h e. ap class_beside ((character_before doc at c h).1 e) ∙ as_asked c;
      after = λ at c h b. ap class_beside ((character_after doc at c h).1 b) ∙ as_asked c;
      cut_before = λ at h n. ap class_beside (malformed_before doc at h n);
      cut_after = λ at h n. ap class_beside (malformed_after doc at h n);
    }

pub stands_as_written : StandsAsWritten
unfolding standing
stands_as_written options doc e es i held = (
  open_as_written (option_on options 2) (get_or doc e.place 0) (neighbour_before doc e.place) (neighbour_after doc (first_place es)),
  close_as_written (option_on options 2) (get_or doc e.place 0) (neighbour_before doc e.place) (neighbour_after doc (first_place es)),
)
