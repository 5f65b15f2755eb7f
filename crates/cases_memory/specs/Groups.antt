-- The groups of a memory, computed from its bytes: three groups, of which the run 2 closes the first two and the run 0 opens the last two.
-- Assumes nothing.
use Rattle.std.specs.Prelude.{ℕ, ◌≡◌, refl, List, [], ◌∷◌, ◌++◌, replicate}
use Rattle.record.specs.Choice.{choose}
use Rattle.runs.specs.Plain.{group}
use Rattle.slots.specs.Words.{get16}
use Rattle.writing.specs.Kept.{groups_from, groups_in, first_closing, latest_opening}

-- each line is a group: opener, closer, taken, the opener's earlier group plus 1
abbrev memory : List ℕ
memory =
    replicate 30726 0
    ++ (1 ∷ 0 ∷ 2 ∷ 0 ∷ 1 ∷ 0 ∷ 0 ∷ 0
    ∷ 0 ∷ 0 ∷ 2 ∷ 0 ∷ 2 ∷ 0 ∷ 0 ∷ 0
    ∷ 0 ∷ 0 ∷ 3 ∷ 0 ∷ 1 ∷ 0 ∷ 2 ∷ 0
    ∷ [])

-- the groups in match order
three_groups : groups_in memory 3 ≡ group 1 2 1 ∷ group 0 2 2 ∷ group 0 3 1 ∷ []
unfolding groups_from get16
three_groups = refl

-- the first that the runs 2, 3 and 0 close
firsts : (first_closing 3 memory 0 2 ∷ first_closing 3 memory 0 3 ∷ first_closing 3 memory 0 0 ∷ []) ≡ 1 ∷ 3 ∷ 0 ∷ []
unfolding first_closing choose get16
firsts = refl

-- the latest that the run 0 opens, the one before it, and none before that
latests : (latest_opening 3 memory 0 ∷ latest_opening 2 memory 0 ∷ latest_opening 1 memory 0 ∷ []) ≡ 3 ∷ 2 ∷ 0 ∷ []
unfolding latest_opening choose get16
latests = refl
