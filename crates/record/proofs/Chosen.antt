-- A choice: which side is taken, and read backwards which was, and why.
-- Assumes nothing.
use mathlib.Core.Path.{◌≡◌, refl}
use mathlib.Core.Bool.{Bool, true, false}
use mathlib.Core.Logic.{◌⊎◌, inl, inr}
use Rattle.record.specs.Choice.{choose}

pub chosen : {A : Type 0} (b : Bool) (x y r : A) → r ≡ choose b x y → ((b ≡ true) × (r ≡ x)) ⊎ ((b ≡ false) × (r ≡ y))
unfolding choose
chosen true x y r q = inl (refl, q)
chosen false x y r q = inr (refl, q)

pub first_side : {A : Type 0} (b : Bool) (x y z : A) → b ≡ true → x ≡ z → choose b x y ≡ z
unfolding choose
first_side b x y z q h = rw q h

pub second_side : {A : Type 0} (b : Bool) (x y z : A) → b ≡ false → y ≡ z → choose b x y ≡ z
unfolding choose
second_side b x y z q h = rw q h
