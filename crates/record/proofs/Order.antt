-- The order of the refusals: while the list of specs/Order.antt has the numbers from 1 to 8 one behind the other, whatever stands between, a lower
-- one comes first; and whatever the list is, the row that is given is one only.
-- Assumes nothing.
use Prim.Native.Nat.{ℕ, zero, suc, ◌+◌, ◌-◌, ◌≤◌, ◌<◌}
use mathlib.Core.Path.{◌≡◌, ap}
use mathlib.Core.Logic.{⊎_elim}
use native.Mathlib.Omega.{arith}
use Rattle.record.specs.Choice.{choose}
use Rattle.record.specs.Order.{before, rank, Least}

-- a number comes before the next
next_behind : (n : ℕ) → n ≤ 6 → rank (suc n) < rank (suc (suc n))
unfolding before choose
next_behind zero h = omega arith
next_behind (suc zero) h = omega arith
next_behind (suc (suc zero)) h = omega arith
next_behind (suc (suc (suc zero))) h = omega arith
next_behind (suc (suc (suc (suc zero)))) h = omega arith
next_behind (suc (suc (suc (suc (suc zero))))) h = omega arith
next_behind (suc (suc (suc (suc (suc (suc zero)))))) h = omega arith
next_behind (suc (suc (suc (suc (suc (suc (suc n))))))) h = absurd (omega arith)

further_behind : (n k : ℕ) → n + k ≤ 6 → rank (suc n) < rank (suc (suc (n + k)))
further_behind n zero h =
    let z : n + 0 ≡ n = omega arith in
    rw z (next_behind n (omega arith))
further_behind n (suc k) h =
    let z : n + suc k ≡ suc (n + k) = omega arith in
    let a = further_behind n k (omega arith) in
    let b = next_behind (suc (n + k)) (omega arith) in
    rw z (omega arith)

pub lower_first : (n m : ℕ) → 0 < n → n < m → m ≤ 8 → rank n < rank m
lower_first zero m p h l = absurd (omega arith)
lower_first (suc n) zero p h l = absurd (omega arith)
lower_first (suc n) (suc zero) p h l = absurd (omega arith)
lower_first (suc n) (suc (suc m)) p h l = go (m - n) (omega arith)
  where
    go : (k : ℕ) → m ≡ n + k → rank (suc n) < rank (suc (suc m))
    go k e = rw e (further_behind n k (omega arith))

-- the least row is one only
pub least_only : {R : ℕ → ℕ → Type 0} {n p m q : ℕ} → Least R n p → Least R m q → (n ≡ m) × (p ≡ q)
least_only {R} {n} {p} {m} {q} a b =
    ⊎_elim
    (λ x. ⊎_elim (λ y. absurd (omega arith)) (λ y. let e = ap rank y.0 in absurd (omega arith)) (b.least n p a.holds))
    (λ x. ⊎_elim (λ y. let e = ap rank x.0 in absurd (omega arith)) (λ y. (x.0, omega arith)) (b.least n p a.holds))
    (a.least m q b.holds)
