-- A marker is one of three.
-- Assumes nothing.
use Prim.Native.Nat.{ℕ}
use mathlib.Core.Path.{◌≡◌, refl}
use mathlib.Core.Bool.{Bool, true, false}
use lib.Dec.{eqb}
use borrow.Author.Tests.{eqb-true}
use Rattle.runs.specs.Runs.{is_marker}

pub data Mark : ℕ → Type 0 where
  star : Mark 42
  line : Mark 95
  tilde : Mark 126

pub mark : (m : ℕ) → is_marker m ≡ true → Mark m
unfolding is_marker
mark m e = go (eqb m 42) (eqb m 95) refl refl
  where
    go : (a b : Bool) → eqb m 42 ≡ a → eqb m 95 ≡ b → Mark m
    go true b p q = rw (eqb-true m 42 p) star
    go false true p q = rw (eqb-true m 95 q) line
    go false false p q = rw (eqb-true m 126 (rw (p, q) at e)) tilde
