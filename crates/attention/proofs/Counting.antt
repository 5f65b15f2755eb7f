-- The loop that counts the emptied runs: what is counted and what is left to count are the whole.
-- Assumes nothing.
use mathlib.Core.Path.{◌≡◌}
use mathlib.Core.List.{List}
use Prim.Native.Nat.{ℕ, zero, suc, ◌+◌, ◌-◌, ◌≤◌, ◌<◌}
use native.Mathlib.Omega.{arith}
use borrow.Author.Tests.{eq-eqb, ne_eqb}
use Rattle.record.specs.Choice.{choose}
use Rattle.slots.specs.Layout.{left_of}
use Rattle.attention.specs.Result.{emptied_from}

step_empty : (k m : ℕ) (w : List ℕ) (q : ℕ) → k ≡ m + 1 → left_of w q ≡ 0 → emptied_from k w q ≡ emptied_from m w (q + 1) + 1
unfolding emptied_from choose
step_empty zero m w q h e = absurd (omega arith)
step_empty (suc k) m w q h e =
    let z : k ≡ m = omega arith in
    rw (eq-eqb _ _ e, z)

step_some : (k m : ℕ) (w : List ℕ) (q : ℕ) → k ≡ m + 1 → (left_of w q ≡ 0 → ⊥) → emptied_from k w q ≡ emptied_from m w (q + 1)
unfolding emptied_from choose
step_some zero m w q h e = absurd (omega arith)
step_some (suc k) m w q h e =
    let z : k ≡ m = omega arith in
    rw (ne_eqb _ _ e, z)

step_none : (k : ℕ) (w : List ℕ) (q : ℕ) → k ≡ 0 → emptied_from k w q ≡ 0
unfolding emptied_from
step_none k w q h = rw h

pub record Counting (w : List ℕ) (n q count : ℕ) : Type 0 where
  pub within : q ≤ n
  pub low : count ≤ q
  pub rest : count + emptied_from (n - q) w q ≡ emptied_from n w 0

module _ {w : List ℕ} {n q count : ℕ} (i : Counting w n q count) (more : q < n) where
  pub counted : left_of w q ≡ 0 → Counting w n (q + 1) (count + 1)
  counted e =
      let a = step_empty (n - q) (n - (q + 1)) w q (omega arith) e in
      let b = i.rest in
      let c = i.low in
      record { within = omega arith; low = omega arith; rest = omega arith }

  pub passed : (left_of w q ≡ 0 → ⊥) → Counting w n (q + 1) count
  passed e =
      let a = step_some (n - q) (n - (q + 1)) w q (omega arith) e in
      let b = i.rest in
      let c = i.low in
      record { within = omega arith; low = omega arith; rest = omega arith }

pub counted_all : {w : List ℕ} {n q count : ℕ} → Counting w n q count → n ≤ q → (count ≡ emptied_from n w 0) × (count ≤ n)
counted_all {w} {n} {q} i h =
    let a = step_none (n - q) w q (omega (arith, i.within)) in
    let b = i.rest in
    let c = i.low in
    let d = i.within in
    (omega arith, omega arith)
