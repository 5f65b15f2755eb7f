-- The kinds of bytes, case by case.
-- Assumes nothing.
use mathlib.Core.Path.{◌≡◌, refl, ap}
use mathlib.Core.Bool.{Bool, true, false, not, ◌||◌}
use Prim.Native.Nat.{ℕ, ◌≤◌, ◌<◌}
use lib.Dec.{eqb}
use borrow.Author.Tests.{eq-eqb, ne_eqb, le-leb, lt-leb, eqb-true}
use Rattle.record.specs.Choice.{choose, and}
use Rattle.record.specs.Stretch.{of_kind, is_not}
use Rattle.record.proofs.Bools.{clash}
use Rattle.scan.specs.Run.{or, space_or_tab, filled, digit, hash}
use Rattle.scan.specs.Line.{no_feed}

module _ (b : ℕ) where
  pub below_digits : b < 48 → digit b ≡ false
  unfolding digit and
  below_digits h = rw (lt-leb _ _ h)

  pub above_digits : 48 ≤ b → 57 < b → digit b ≡ false
  unfolding digit and
  above_digits l h = rw (le-leb _ _ l, lt-leb _ _ h)

  pub a_digit : 48 ≤ b → b ≤ 57 → digit b ≡ true
  unfolding digit and
  a_digit l h = rw (le-leb _ _ l, le-leb _ _ h)

  pub a_hash : b ≡ 35 → hash b ≡ true
  unfolding hash
  a_hash e = eq-eqb _ _ e

  pub no_hash : (b ≡ 35 → ⊥) → hash b ≡ false
  unfolding hash
  no_hash n = ne_eqb _ _ n

  -- the kinds that are passed in blocks
  pub not_feed : is_not 10 b ≡ no_feed b
  unfolding is_not no_feed
  not_feed = refl

  pub either_blank : of_kind (record { one = 32; other = 9; within = true }) b ≡ space_or_tab b
  unfolding of_kind choose space_or_tab or
  either_blank = go (eqb b 32)
    where
      go : (z : Bool) → (z || eqb b 9) ≡ or z (eqb b 9)
      go true = refl
      go false = refl

  pub hash_filled : hash b ≡ true → space_or_tab b ≡ false
  unfolding hash space_or_tab or
  hash_filled e = let q : b ≡ 35 = eqb-true b 35 e in rw q

  pub blank_filled : space_or_tab b ≡ true → filled b ≡ false
  unfolding filled
  blank_filled e = ap not e

  pub filled_otherwise : space_or_tab b ≡ false → filled b ≡ true
  unfolding filled
  filled_otherwise e = ap not e

-- a byte that ends Data is no `#`
pub unfilled_no_hash : (b : ℕ) → filled b ≡ false → hash b ≡ false
unfilled_no_hash b e = go (hash b) refl
  where
    go : (z : Bool) → hash b ≡ z → hash b ≡ false
    go true q = absurd (clash (filled_otherwise b (hash_filled b q)) e)
    go false q = q
