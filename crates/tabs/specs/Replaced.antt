-- The standard's own sentence on tabs, §2.2: "tabs behave as if they were replaced by spaces with a tab stop of 4 characters". A line with its tabs replaced,
-- and where reading came to on the line as it is, and on that one. So each reader is said a second time: what it answers is what it answered, before tabs went
-- to stops, of the line with its tabs replaced. specs/ReadersAsIf.antt and specs/HeadingAsIf.antt say it of each.
-- Assumes nothing.
use Rattle.std.specs.Prelude.{ℕ, suc, ◌+◌, ◌≤◌, ◌<◌, ◌≡◌, refl, List, [], ◌∷◌, ◌++◌, length, get_or, take, replicate, eqb}
use Rattle.record.specs.Choice.{choose}
use Rattle.scan.specs.Columns.{to_stop}

-- a line whose first byte stands at column c, its tabs replaced; every other byte is one column wide
unfoldable pub replaced : ℕ → List ℕ → List ℕ
replaced c [] = []
replaced c (b ∷ l) = choose (eqb b 9) (replicate (to_stop c) 32 ++ replaced (c + to_stop c) l) (b ∷ replaced (c + 1) l)

-- how many columns the first n bytes are
unfoldable pub up_to : ℕ → List ℕ → ℕ → ℕ
up_to c l n = length (replaced c (take n l))

-- n whole bytes are taken and `left` columns of the next, a tab, are left: k columns in all
pub record CameTo (c : ℕ) (l : List ℕ) (n left k : ℕ) : Type 0 where
  pub within : n ≤ length l
  pub whole : left ≡ 0 → k ≡ up_to c l n
  pub a_tab : 0 < left → (n < length l) × (get_or l n 0 ≡ 9)
  pub parted : 0 < left → (up_to c l n < k) × (k + left ≡ up_to c l (suc n))

-- so the columns say which bytes, and what is left. Proved: proofs/Replaced.antt
abbrev pub CameOnly : Type 0
CameOnly = (c : ℕ) (l : List ℕ) (n left m left' k : ℕ) → CameTo c l n left k → CameTo c l m left' k → (n ≡ m) × (left ≡ left')

-- `\ta\tb` at column 1: three columns, the `a` at 4, three more, the `b` at 8
on_replaced : (replaced 1 (9 ∷ 97 ∷ 9 ∷ 98 ∷ []) ≡ 32 ∷ 32 ∷ 32 ∷ 97 ∷ 32 ∷ 32 ∷ 32 ∷ 98 ∷ [])
    × (up_to 1 (9 ∷ 97 ∷ 9 ∷ 98 ∷ []) 3 ≡ 7)
unfolding replaced up_to choose
on_replaced = (refl, refl)
