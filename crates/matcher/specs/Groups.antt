-- What lent work memory says of the groups made so far, in match order: each group, and for each run where its groups are.
-- Assumes nothing.
use Rattle.std.specs.Prelude.{ℕ, ◌+◌, ◌<◌, ◌≤◌, ◌≡◌, List, [], ◌∷◌, eqb, length, take}
use Rattle.record.specs.Choice.{choose}
use Rattle.runs.specs.Plain.{Group, group_at}
use Rattle.slots.specs.Layout.{group_opener, group_closer, group_taken, group_earlier, first_group_of, latest_group_of}

-- the number plus 1 of the first of these groups that the run q closes, or 0; the first of them has number i
unfoldable pub first_closed : List Group → ℕ → ℕ → ℕ
first_closed [] q i = 0
first_closed (g ∷ gs) q i =
    let rest = first_closed gs q (i + 1) in
    choose (eqb g.closer q) (i + 1) rest

-- the number plus 1 of the latest of these groups that the run q opens, or `before` if there is none; the first of them has number i
unfoldable pub last_opened : List Group → ℕ → ℕ → ℕ → ℕ
last_opened [] q i before = before
last_opened (g ∷ gs) q i before = last_opened gs q (i + 1) (choose (eqb g.opener q) (i + 1) before)

-- the memory holds these groups, with each opener's groups linked from the latest back, for n runs
pub record Grouped (w : List ℕ) (gs : List Group) (n : ℕ) : Type 0 where
  pub opener : (g : ℕ) → g < length gs → group_opener w g ≡ (group_at gs g).opener
  pub closer : (g : ℕ) → g < length gs → group_closer w g ≡ (group_at gs g).closer
  pub taken : (g : ℕ) → g < length gs → group_taken w g ≡ (group_at gs g).taken
  pub earlier : (g : ℕ) → g < length gs → group_earlier w g ≡ last_opened (take g gs) (group_at gs g).opener 0 0
  pub first : (q : ℕ) → q < n → first_group_of w q ≡ first_closed gs q 0
  pub latest : (q : ℕ) → q < n → latest_group_of w q ≡ last_opened gs q 0 0
  pub fits : length gs ≤ 1000
