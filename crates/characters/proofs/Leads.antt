-- The byte that leads a character's form says how many bytes there are, and the others are followers.
-- Assumes nothing.
use Prim.Native.Nat.{ℕ, zero, suc, ◌≤◌, ◌<◌}
use mathlib.Core.Path.{◌≡◌}
use mathlib.Core.List.{List, [], ◌∷◌}
use native.Mathlib.Omega.{arith}
use lib.ListN.{length, get_or}
use Rattle.characters.specs.Utf8.{value_of}
use Rattle.characters.proofs.Forms.{Lead, Follower, Shape}

pub shape_lead : (bs : List ℕ) → Shape bs → Lead (length bs) (get_or bs 0 0)
shape_lead [] w = w
shape_lead (a ∷ []) w = w
shape_lead (a ∷ b ∷ []) w = w.lead
shape_lead (a ∷ b ∷ d ∷ []) w = w.lead
shape_lead (a ∷ b ∷ d ∷ e ∷ []) w = w.lead
shape_lead (a ∷ b ∷ d ∷ e ∷ f ∷ bs) w = w

pub shape_follower : (bs : List ℕ) → Shape bs → (i : ℕ) → 0 < i → i < length bs → Follower (get_or bs i 0)
shape_follower [] w i p q = absurd w
shape_follower (a ∷ []) w i p q = absurd (omega arith)
shape_follower (a ∷ b ∷ []) w zero p q = absurd (omega arith)
shape_follower (a ∷ b ∷ []) w (suc zero) p q = w.second
shape_follower (a ∷ b ∷ []) w (suc (suc i)) p q = absurd (omega arith)
shape_follower (a ∷ b ∷ d ∷ []) w zero p q = absurd (omega arith)
shape_follower (a ∷ b ∷ d ∷ []) w (suc zero) p q = w.second
shape_follower (a ∷ b ∷ d ∷ []) w (suc (suc zero)) p q = w.third
shape_follower (a ∷ b ∷ d ∷ []) w (suc (suc (suc i))) p q = absurd (omega arith)
shape_follower (a ∷ b ∷ d ∷ e ∷ []) w zero p q = absurd (omega arith)
shape_follower (a ∷ b ∷ d ∷ e ∷ []) w (suc zero) p q = w.second
shape_follower (a ∷ b ∷ d ∷ e ∷ []) w (suc (suc zero)) p q = w.third
shape_follower (a ∷ b ∷ d ∷ e ∷ []) w (suc (suc (suc zero))) p q = w.fourth
shape_follower (a ∷ b ∷ d ∷ e ∷ []) w (suc (suc (suc (suc i)))) p q = absurd (omega arith)
shape_follower (a ∷ b ∷ d ∷ e ∷ f ∷ bs) w i p q = absurd w

-- what the bits of two bytes and more make is past ASCII
pub shape_past : (bs : List ℕ) → Shape bs → 2 ≤ length bs → 128 ≤ value_of bs
unfolding value_of
shape_past [] w p = absurd w
shape_past (a ∷ []) w p = absurd (omega arith)
shape_past (a ∷ b ∷ []) w p = omega arith
shape_past (a ∷ b ∷ d ∷ []) w p = omega arith
shape_past (a ∷ b ∷ d ∷ e ∷ []) w p = omega arith
shape_past (a ∷ b ∷ d ∷ e ∷ f ∷ bs) w p = absurd w

-- what holds in each of the four cases holds
abbrev pub Cases : (ℕ → Type 0) → ℕ → Type 0
Cases P a = (Lead 1 a → P 1) × (Lead 2 a → P 2) × (Lead 3 a → P 3) × (Lead 4 a → P 4)

pub by_lead : (P : ℕ → Type 0) (n a : ℕ) → Lead n a → Cases P a → P n
by_lead P zero a w each = absurd w
by_lead P (suc zero) a w each = each.0 w
by_lead P (suc (suc zero)) a w each = each.1 w
by_lead P (suc (suc (suc zero))) a w each = each.2 w
by_lead P (suc (suc (suc (suc zero)))) a w each = each.3 w
by_lead P (suc (suc (suc (suc (suc n))))) a w each = absurd w

-- one to four bytes
pub lead_few : (n a : ℕ) → Lead n a → (1 ≤ n) × (n ≤ 4)
lead_few n a w = by_lead (λ (m : ℕ). (1 ≤ m) × (m ≤ 4)) n a w (omega arith)

-- a byte that leads is no follower
pub lead_high : (n a : ℕ) → Lead n a → 128 ≤ a → 192 ≤ a
lead_high n a w p = by_lead (λ (m : ℕ). 192 ≤ a) n a w (omega arith)

-- and leads one number of bytes
pub same_lead : (m n a : ℕ) → Lead m a → Lead n a → m ≡ n
same_lead m n a w v = by_lead (λ (k : ℕ). k ≡ n) m a w (by_lead (λ (k : ℕ). Cases (λ (j : ℕ). j ≡ k) a) n a v (omega arith))
