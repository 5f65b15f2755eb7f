-- What a slot's size and flags say together.
-- Assumes nothing.
use Prim.Native.Nat.{ℕ, ◌+◌, ◌<◌}
use mathlib.Core.Path.{◌≡◌}
use mathlib.Core.Bool.{Bool, true, false}
use mathlib.Core.List.{List}
use native.Mathlib.Omega.{arith}
use borrow.Author.Tests.{lt-ltb}
use lib.Dec.{ltb}
use Rattle.record.specs.Choice.{choose, and}
use Rattle.slots.specs.Layout.{left_of, opens_of, closes_of, chain_of, with_link, with_head, with_open_at}
use Rattle.chains.specs.Walk.{closing, opening, first, passed, raised}

-- without markers left a run neither opens nor closes, with some its flag decides
module _ (w : List ℕ) (i : ℕ) where
  pub closing_none : left_of w i ≡ 0 → closing w i ≡ false
  unfolding closing and
  closing_none e = rw e

  -- what the code asks of a closer
  pub closing_by : {b : Bool} → b ≡ and (ltb 0 (left_of w i)) (closes_of w i) → b ≡ closing w i
  unfolding closing
  closing_by e = e

  pub opening_some : (left_of w i ≡ 0 → ⊥) → opening w i ≡ opens_of w i
  unfolding opening and
  opening_some ne = let h : 0 < left_of w i = omega arith in rw (lt-ltb 0 (left_of w i) h)

-- a passed run that opens, and one that does not
module _ (w : List ℕ) (height i : ℕ) where
  pub passed_on : opening w i ≡ true → passed w height i ≡ with_open_at (with_head (with_link w i (first w i)) (chain_of w i) (i + 1)) height i
  unfolding passed choose
  passed_on e = rw e

  pub passed_off : opening w i ≡ false → passed w height i ≡ w
  unfolding passed choose
  passed_off e = rw e

  pub raised_on : opening w i ≡ true → raised w height i ≡ height + 1
  unfolding raised choose
  raised_on e = rw e

  pub raised_off : opening w i ≡ false → raised w height i ≡ height
  unfolding raised choose
  raised_off e = rw e
