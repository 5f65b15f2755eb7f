-- A section's count, case by case, and what it tells where it fits.
-- Assumes nothing.
use Rattle.std.specs.Prelude.{Some, None}
use mathlib.Core.Path.{◌≡◌, refl}
use mathlib.Core.Bool.{Bool, true, false}
use mathlib.Core.List.{List}
use Prim.Native.Nat.{ℕ, ◌+◌, ◌*◌, ◌≤◌, ◌<◌}
use native.Mathlib.Nat.{le_trans, mul-le-mul_left, mul-le-mul_right}
use native.Mathlib.Omega.{arith}
use lib.ListN.{length}
use borrow.Author.Tests.{le-leb, lt-leb, leb-true}
use Rattle.record.specs.Choice.{choose, and}
use Rattle.record.specs.Bytes.{u32_at}
use Rattle.record.specs.Check.{count_at}
use Rattle.record.proofs.Bools.{and_left, and_right}

-- a product of two bounded numbers is bounded
pub product : (w c limit : ℕ) → w ≤ 256 → c ≤ limit → limit ≤ 16384 → w * c ≤ 4194304
product w c limit hw hc hl = le_trans (mul-le-mul_left w (le_trans hc hl)) (mul-le-mul_right 16384 hw)

module _ (s : List ℕ) (at limit width : ℕ) where
  pub no_room : length s < at + 4 → count_at s at limit width ≡ None
  unfolding count_at choose and
  no_room h = rw (lt-leb _ _ h)

  module _ (n : ℕ) (e : n ≡ u32_at s at) (h : at + 4 ≤ length s) where
    pub over : limit < n → count_at s at limit width ≡ None
    unfolding count_at choose and
    over k = rw (← e, le-leb _ _ h, lt-leb _ _ k)

    pub past : n ≤ limit → length s < at + 4 + width * n → count_at s at limit width ≡ None
    unfolding count_at choose and
    past k l = rw (← e, le-leb _ _ h, le-leb _ _ k, lt-leb _ _ l)

    pub fits : n ≤ limit → at + 4 + width * n ≤ length s → count_at s at limit width ≡ Some n
    unfolding count_at choose and
    fits k l = rw (← e, le-leb _ _ h, le-leb _ _ k, le-leb _ _ l)

-- what a count that fits tells
pub record Fitted (s : List ℕ) (at limit width n : ℕ) : Type 0 where
  pub count : u32_at s at ≡ n
  pub room : at + 4 ≤ length s
  pub within : n ≤ limit
  pub whole : at + 4 + width * n ≤ length s

fits_test : (b : Bool) (m n : ℕ) → choose b (Some m) None ≡ Some n → b ≡ true
unfolding choose
fits_test true m n q = refl
fits_test false m n q = let z : ◌≡◌ {A = ℕ} 0 1 = cc in absurd (omega arith)

fits_count : (b : Bool) (m n : ℕ) → choose b (Some m) None ≡ Some n → m ≡ n
unfolding choose
fits_count true m n q = cc
fits_count false m n q = let z : ◌≡◌ {A = ℕ} 0 1 = cc in absurd (omega arith)

pub fitted : (s : List ℕ) (at limit width n : ℕ) → count_at s at limit width ≡ Some n → Fitted s at limit width n
unfolding count_at
fitted s at limit width n q =
    let t = fits_test _ _ _ q in
    let e : u32_at s at ≡ n = fits_count _ _ _ q in
    let w : u32_at s at ≤ limit = leb-true _ _ (and_left _ _ (and_right _ _ t)) in
    let p : at + 4 + width * u32_at s at ≤ length s = leb-true _ _ (and_right _ _ (and_right _ _ t)) in
    record { count = e; room = leb-true _ _ (and_left _ _ t); within = rw e at w; whole = rw e at p }
