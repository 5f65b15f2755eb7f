-- A fixed array beside a depth is a list of names: what a store at the depth, and a step back, do to that list.
-- Assumes nothing.
use mathlib.Core.Path.{◌≡◌, refl, ap}
use mathlib.Core.Bool.{false}
use mathlib.Core.List.{List, [], ◌∷◌}
use Prim.Native.Nat.{ℕ, zero, suc, ◌+◌, ◌-◌, ◌≤◌, ◌<◌}
use native.Mathlib.Numerals.{add-one}
use native.Mathlib.Omega.{arith}
use lib.ListN.{length, get_or, set}
use lib.Seq.{get_or-set_same, get_or-set_other}
use Rattle.record.specs.Stack.{up_to, none}

-- a store past the first n entries leaves them
pub up_to_set : (n k : ℕ) (a : List ℕ) (v : ℕ) → n ≤ k → up_to n (set a k v) ≡ up_to n a
up_to_set zero k a v h = refl
up_to_set (suc n) k a v h = rw (get_or-set_other a k n v 0 (λ e. omega arith), up_to_set n k a v (omega arith))

pub pushed : (n : ℕ) (a : List ℕ) (v : ℕ) → n < length a → up_to (n + 1) (set a n v) ≡ v ∷ up_to n a
pushed n a v h = rw (add-one, get_or-set_same a n v 0 h, up_to_set n n a v (omega arith))

pub popped : (n : ℕ) (a : List ℕ) → 0 < n → up_to n a ≡ get_or a (n - 1) 0 ∷ up_to (n - 1) a
popped zero a h = absurd (omega arith)
popped (suc n) a h =
    let e : suc n - 1 ≡ n = omega arith in
    rw e

pub up_to_length : (n : ℕ) (a : List ℕ) → length (up_to n a) ≡ n
up_to_length zero a = refl
up_to_length (suc n) a = ap suc (up_to_length n a)

pub empty : (n : ℕ) (a : List ℕ) → n ≡ 0 → up_to n a ≡ []
empty n a h = rw h

pub some : (n : ℕ) (a : List ℕ) → (n ≡ 0 → ⊥) → none (up_to n a) ≡ false
some zero a h = absurd (h refl)
some (suc n) a h = refl
