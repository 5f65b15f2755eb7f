-- One event's own bytes, case by case.
-- Assumes nothing.
use mathlib.Core.Path.{◌≡◌, refl}
use mathlib.Core.Bool.{Bool, true, false}
use Prim.Native.Nat.{ℕ, ◌≤◌, ◌<◌}
use lib.Dec.{eqb, leb}
use borrow.Author.Tests.{le-leb, lt-leb, leb-true, leb-false, lt-ltb, le-ltb, eq-eqb, ne_eqb, eqb-true, eqb-false}
use Rattle.record.specs.Choice.{choose, and}
use Rattle.record.specs.Event.{Stored}
use Rattle.record.specs.Sound.{placed}
use Rattle.record.specs.Check.{formed, paired}

module _ (v : Stored) (d last : ℕ) where
  bad_zeros : (v.zeros ≡ 0 → ⊥) → formed v d last ≡ false
  unfolding formed and
  bad_zeros h = rw (ne_eqb _ _ h)

  pub bad_kind : 1 < v.what.kind → formed v d last ≡ false
  unfolding formed placed and
  bad_kind h = go (eqb v.zeros 0) refl
    where
      go : (b : Bool) → eqb v.zeros 0 ≡ b → formed v d last ≡ false
      go true e = rw (e, lt-leb _ _ h)
      go false e = rw e

  module _ (z : v.zeros ≡ 0) where
    module _ (k : v.what.kind ≤ 1) where
      bad_name : 24 < v.what.name → formed v d last ≡ false
      unfolding formed placed and
      bad_name h = rw (eq-eqb _ _ z, le-leb _ _ k, lt-leb _ _ h)

      module _ (n : v.what.name ≤ 24) where
        pub past_document : d < v.what.place → formed v d last ≡ false
        unfolding formed placed and
        past_document h = rw (eq-eqb _ _ z, le-leb _ _ k, le-leb _ _ n, lt-leb _ _ h)

        module _ (w : v.what.place ≤ d) where
          pub below_last : v.what.place < last → formed v d last ≡ false
          unfolding formed placed and
          below_last h = rw (eq-eqb _ _ z, le-leb _ _ k, le-leb _ _ n, le-leb _ _ w, lt-leb _ _ h)

          pub good_form : last ≤ v.what.place → formed v d last ≡ true
          unfolding formed placed and
          good_form h = rw (eq-eqb _ _ z, le-leb _ _ k, le-leb _ _ n, le-leb _ _ w, le-leb _ _ h)

over : (a b : ℕ) → (a ≤ b → ⊥) → b < a
over a b f = go (leb a b) refl
  where
    go : (x : Bool) → leb a b ≡ x → b < a
    go true e = absurd (f (leb-true _ _ e))
    go false e = leb-false _ _ e

-- the name is past the last, or one of the two bytes is not zero
pub bad_rest : (v : Stored) (d last : ℕ) → v.what.kind ≤ 1 → (v.zeros ≡ 0 → v.what.name ≤ 24 → ⊥) → formed v d last ≡ false
bad_rest v d last k h = go (eqb v.zeros 0) refl
  where
    go : (b : Bool) → eqb v.zeros 0 ≡ b → formed v d last ≡ false
    go true e = let z = eqb-true _ _ e in bad_name v d last z k (over v.what.name 24 (h z))
    go false e = bad_zeros v d last (eqb-false _ _ e)

-- a pair's numbers, case by case
module _ (w a b i k : ℕ) where
  pub none_carried : w < 12 → true ≡ paired w a b i k
  unfolding paired choose
  none_carried h = rw (lt-ltb _ _ h)

  pub back_wrong : (x : ℕ) → 12 ≤ w → x ≡ a → (x ≡ i → ⊥) → false ≡ paired w a b i k
  unfolding paired choose and
  back_wrong x h e n = rw (le-ltb _ _ h, ← e, ne_eqb _ _ n)

  pub forth_wrong : (x y : ℕ) → 12 ≤ w → x ≡ a → x ≡ i → y ≡ b → (y ≡ k → ⊥) → false ≡ paired w a b i k
  unfolding paired choose and
  forth_wrong x y h e m f n = rw (le-ltb _ _ h, ← e, ← f, eq-eqb _ _ m, ne_eqb _ _ n)

  pub both_right : (x y : ℕ) → 12 ≤ w → x ≡ a → x ≡ i → y ≡ b → y ≡ k → true ≡ paired w a b i k
  unfolding paired choose and
  both_right x y h e m f n = rw (le-ltb _ _ h, ← e, ← f, eq-eqb _ _ m, eq-eqb _ _ n)
