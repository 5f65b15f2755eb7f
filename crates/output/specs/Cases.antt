-- Pieces computed. A text stands for the record that a tokenizer makes of it, as in runs' Cases.
-- Assumes nothing.
use Rattle.std.specs.Prelude.{ℕ, ◌≡◌, refl, List, [], ◌∷◌}
use Prim.Native.String.{String}
use Rattle.record.specs.Choice.{choose, and}
use Rattle.record.specs.Options.{option_on}
use Rattle.record.specs.Stack.{fits_open, after}
use Rattle.record.specs.Sound.{placed, sound_from}
use Rattle.runs.specs.Texts.{bytes}
use Rattle.runs.specs.Cases.{stretch_of, name_of, split_from, split}
use Rattle.runs.specs.Runs.{byte_at, enters_run, runs_from, runs_of, is_marker, allowed, left_at_once, all_are, run_between, shaped, offender_from, offender}
use Rattle.runs.specs.Plain.{Group, group}
use Rattle.runs.specs.Pieces.{Piece, group_name, closings, openings, closed, opened, remains}
use Rattle.output.specs.Accepted.{Accepted}
use Rattle.output.specs.Tiling.{leftover_piece, pieces_of, all_pieces}

-- each piece as its name and its two places
unfoldable pub shown : List Piece → List (List ℕ)
shown [] = []
shown (p ∷ ps) = (p.name ∷ p.from ∷ p.to ∷ []) ∷ shown ps

unfoldable pub pieces_in : String → List Group → List (List ℕ)
pieces_in s gs = shown (all_pieces gs 0 (runs_of (bytes s) (split (bytes s))))

-- "`**a*` leftover at 0, emphasis 1"
pub left_at_first : pieces_in "**a*" (group 0 1 1 ∷ []) ≡ (0 ∷ 0 ∷ 1 ∷ []) ∷ (2 ∷ 1 ∷ 2 ∷ []) ∷ (2 ∷ 3 ∷ 4 ∷ []) ∷ []
unfolding pieces_in shown bytes split split_from stretch_of name_of choose and after byte_at enters_run runs_from runs_of is_marker group_name closings openings closed opened remains leftover_piece pieces_of all_pieces
left_at_first = refl

-- "`***a***` strong inside emphasis": the opener's last bytes and the closer's first went into the first group
pub inside : pieces_in "***a***" (group 0 1 2 ∷ group 0 1 1 ∷ []) ≡ (2 ∷ 0 ∷ 1 ∷ []) ∷ (5 ∷ 1 ∷ 3 ∷ []) ∷ (5 ∷ 4 ∷ 6 ∷ []) ∷ (2 ∷ 6 ∷ 7 ∷ []) ∷ []
unfolding pieces_in shown bytes split split_from stretch_of name_of choose and after byte_at enters_run runs_from runs_of is_marker group_name closings openings closed opened remains leftover_piece pieces_of all_pieces
inside = refl

-- a run that closes a group and opens the next has a leftover between
pub both_jobs : pieces_in "*a****b*" (group 0 1 1 ∷ group 1 2 1 ∷ []) ≡ (2 ∷ 0 ∷ 1 ∷ []) ∷ (2 ∷ 2 ∷ 3 ∷ []) ∷ (0 ∷ 3 ∷ 5 ∷ []) ∷ (2 ∷ 5 ∷ 6 ∷ []) ∷ (2 ∷ 7 ∷ 8 ∷ []) ∷ []
unfolding pieces_in shown bytes split split_from stretch_of name_of choose and after byte_at enters_run runs_from runs_of is_marker group_name closings openings closed opened remains leftover_piece pieces_of all_pieces
both_jobs = refl

-- there are accepted records
pub accepted : Accepted 64 59 (bytes "*a*") (split (bytes "*a*"))
unfolding bytes split split_from stretch_of name_of choose and after byte_at enters_run is_marker option_on allowed left_at_once all_are run_between shaped offender_from offender placed fits_open sound_from
accepted = record { events = refl; shapes = refl }
