-- The groups of a memory in two parts, and groups among which a run has none: then it has no pieces there and gave nothing.
-- Assumes nothing.
use Prim.Native.Nat.{ℕ, zero, suc, ◌+◌, ◌-◌, ◌≤◌, ◌<◌}
use mathlib.Core.Path.{◌≡◌, refl, ap}
use mathlib.Core.List.{List, [], ◌∷◌, ◌++◌}
use native.Mathlib.Omega.{arith}
use borrow.Author.Tests.{ne_eqb}
use Rattle.record.specs.Choice.{choose}
use Rattle.runs.specs.Plain.{Group}
use Rattle.runs.specs.Pieces.{closings, openings, closed, opened}
use Rattle.slots.specs.Layout.{group_opener, group_closer}
use Rattle.writing.specs.Kept.{group_at, groups_from}

-- a groups, then b more
pub groups_parts : (n a b : ℕ) (w : List ℕ) (i k : ℕ) → n ≡ a + b → k ≡ i + a → groups_from n w i ≡ groups_from a w i ++ groups_from b w k
unfolding groups_from
groups_parts n zero b w i k e f =
    let x : n ≡ b = omega arith in
    let y : k ≡ i = omega arith in
    rw (x, y)
groups_parts zero (suc a) b w i k e f = absurd (omega arith)
groups_parts (suc n) (suc a) b w i k e f =
    ap (λ (l : List Group). group_at w i ∷ l) (groups_parts n a b w (i + 1) k (omega arith) (omega arith))

-- the first k, and the others
pub groups_split : (n k : ℕ) (w : List ℕ) → k ≤ n → groups_from n w 0 ≡ groups_from k w 0 ++ groups_from (n - k) w k
groups_split n k w h = groups_parts n k (n - k) w 0 k (omega arith) (omega arith)

-- the first of some, and the others
pub groups_first : (n m : ℕ) (w : List ℕ) (i k : ℕ) → n ≡ m + 1 → k ≡ i + 1 → groups_from n w i ≡ group_at w i ∷ groups_from m w k
unfolding groups_from
groups_first zero m w i k e f = absurd (omega arith)
groups_first (suc n) m w i k e f =
    let x : n ≡ m = omega arith in
    rw (x, f)

-- one group more
pub groups_more : (n i : ℕ) (w : List ℕ) → n ≡ i + 1 → groups_from n w 0 ≡ groups_from i w 0 ++ (group_at w i ∷ [])
unfolding groups_from
groups_more n i w e = groups_parts n i 1 w 0 i e (omega arith)

-- a run that closes none of some groups
pub none_closing : (k : ℕ) (w : List ℕ) (i q m at : ℕ) → ((j : ℕ) → i ≤ j → j < i + k → group_closer w j ≡ q → ⊥) →
    (closings (groups_from k w i) q m at ≡ []) × (closed (groups_from k w i) q ≡ 0)
unfolding groups_from closings closed choose
none_closing zero w i q m at h = (refl, refl)
none_closing (suc k) w i q m at h =
    let t = none_closing k w (i + 1) q m at (λ j a b. h j (omega arith) (omega arith)) in
    rw (ne_eqb _ _ (h i (omega arith) (omega arith))) t

-- a run that opens none of them
pub none_opening : (k : ℕ) (w : List ℕ) (i q m at : ℕ) → ((j : ℕ) → i ≤ j → j < i + k → group_opener w j ≡ q → ⊥) →
    (openings (groups_from k w i) q m at ≡ []) × (opened (groups_from k w i) q ≡ 0)
unfolding groups_from openings opened choose
none_opening zero w i q m at h = (refl, refl)
none_opening (suc k) w i q m at h =
    let t = none_opening k w (i + 1) q m at (λ j a b. h j (omega arith) (omega arith)) in
    rw (ne_eqb _ _ (h i (omega arith) (omega arith))) t
