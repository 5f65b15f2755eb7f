-- What a true conjunction says of its sides.
-- Assumes nothing.
use mathlib.Core.Path.{◌≡◌, refl}
use mathlib.Core.Bool.{Bool, true, false}
use mathlib.Core.Logic.{◌⊎◌, inl, inr}
use Prim.Native.Nat.{ℕ}
use native.Mathlib.Omega.{arith}
use Rattle.record.specs.Choice.{and}

pub and_left : (a b : Bool) → and a b ≡ true → a ≡ true
unfolding and
and_left true b q = refl
and_left false b q = q

pub and_right : (a b : Bool) → and a b ≡ true → b ≡ true
unfolding and
and_right true b q = q
and_right false b q = let z : ◌≡◌ {A = ℕ} 0 1 = cc in absurd (omega arith)

pub and_both : (a b : Bool) → a ≡ true → b ≡ true → and a b ≡ true
unfolding and
and_both a b p q = rw (p, q)

-- a false conjunct makes it false
pub and_false : (a b : Bool) → b ≡ false → and a b ≡ false
unfolding and
and_false true b q = q
and_false false b q = refl

pub and_split : (a b : Bool) → and a b ≡ false → (a ≡ false) ⊎ (b ≡ false)
unfolding and
and_split true b q = inr q
and_split false b q = inl refl

-- no truth value is both
pub clash : {b : Bool} → b ≡ true → b ≡ false → ⊥
clash p q = let z : ◌≡◌ {A = ℕ} 0 1 = cc in omega arith
