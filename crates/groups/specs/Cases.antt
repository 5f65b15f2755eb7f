-- Spans and texts of groups, and a pair of events, computed. A text stands for the record that a tokenizer makes of it, as in runs' Cases, and
-- beside it stand the groups that the plain rule makes there.
-- Assumes nothing.
use Rattle.std.specs.Prelude.{ℕ, zero, suc, ◌≡◌, refl, List, [], ◌∷◌, length}
use Prim.Native.String.{String}
use Rattle.std.proofs.Common.{arith}
use Rattle.record.specs.Choice.{choose, and}
use Rattle.record.specs.Event.{enter, exit}
use Rattle.record.specs.Stack.{after, open_after}
use Rattle.runs.specs.Texts.{bytes}
use Rattle.runs.specs.Cases.{stretch_of, name_of, split_from, split}
use Rattle.runs.specs.Runs.{Run, byte_at, enters_run, runs_from, runs_of, is_marker}
use Rattle.runs.specs.Plain.{Group, group}
use Rattle.runs.specs.Pieces.{closed, opened}
use Rattle.groups.specs.Spans.{span_from, text_from, text_to, span_to}
use Rattle.groups.specs.Containers.{Pair}

-- n groups, the first of which has number i: where the span begins, the text begins and ends, and the span ends
unfoldable pub spans : ℕ → List Run → List Group → ℕ → List (List ℕ)
spans zero rs gs i = []
spans (suc n) rs gs i = (span_from rs gs i ∷ text_from rs gs i ∷ text_to rs gs i ∷ span_to rs gs i ∷ []) ∷ spans n rs gs (suc i)

unfoldable pub spans_of : String → List Group → List (List ℕ)
spans_of s gs = spans (length gs) (runs_of (bytes s) (split (bytes s))) gs 0

-- "`***a***` strong inside emphasis"
pub nested_spans : spans_of "***a***" (group 0 1 2 ∷ group 0 1 1 ∷ []) ≡ (1 ∷ 3 ∷ 4 ∷ 6 ∷ []) ∷ (0 ∷ 1 ∷ 6 ∷ 7 ∷ []) ∷ []
unfolding spans_of spans span_from text_from text_to span_to bytes split split_from stretch_of name_of choose and after byte_at enters_run runs_from runs_of is_marker closed opened
nested_spans = refl

-- one run that closes a group and opens the next
pub shared_run : spans_of "*a***b**" (group 0 1 1 ∷ group 1 2 2 ∷ []) ≡ (0 ∷ 1 ∷ 2 ∷ 3 ∷ []) ∷ (3 ∷ 5 ∷ 6 ∷ 8 ∷ []) ∷ []
unfolding spans_of spans span_from text_from text_to span_to bytes split split_from stretch_of name_of choose and after byte_at enters_run runs_from runs_of is_marker closed opened
shared_run = refl

-- the container of `*[a]*`, where [ and ] stand for the events 2 and 5
pub container_pair : Pair (enter 1 0 ∷ exit 1 1 ∷ enter 24 1 ∷ enter 0 1 ∷ exit 0 2 ∷ exit 24 2 ∷ enter 1 2 ∷ exit 1 3 ∷ []) 2 5
unfolding open_after after choose
container_pair = record { within = omega arith; exits = refl; innermost = refl }
