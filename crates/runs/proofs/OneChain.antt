-- Two runs are on one chain just where they have one marker and one container.
-- Assumes nothing.
use Prim.Native.Nat.{ℕ, ◌+◌, ◌<◌}
use mathlib.Core.Path.{◌≡◌, refl, sym, ap}
use mathlib.Core.Bool.{Bool, true, false}
use mathlib.Core.Option.{Option, none, some}
use native.Mathlib.Omega.{arith}
use lib.Dec.{eqb}
use borrow.Author.Tests.{eq-eqb, ne_eqb, eqb-true, eqb-false}
use Rattle.record.specs.Choice.{choose, and}
use Rattle.record.proofs.Bools.{clash}
use Rattle.runs.specs.Runs.{is_marker}
use Rattle.runs.specs.Plain.{Standing, same_container}
use Rattle.runs.specs.Chains.{container_number, marker_number, chain_number, SameChain}
use Rattle.runs.proofs.Marks.{Mark, star, line, tilde, mark}

apart : {a b : ℕ} → Mark a → Mark b → marker_number a ≡ marker_number b → a ≡ b
unfolding marker_number choose
apart star star e = refl
apart star line e = absurd (omega arith)
apart star tilde e = absurd (omega arith)
apart line star e = absurd (omega arith)
apart line line e = refl
apart line tilde e = absurd (omega arith)
apart tilde star e = absurd (omega arith)
apart tilde line e = absurd (omega arith)
apart tilde tilde e = refl

below : {a : ℕ} → Mark a → marker_number a < 3
unfolding marker_number choose
below star = omega arith
below line = omega arith
below tilde = omega arith

-- the containers are the same just where their numbers are
same_number : (a b : Option ℕ) → container_number a ≡ container_number b → same_container a b ≡ true
unfolding same_container
same_number none none e = refl
same_number none (some b) e = absurd (omega arith)
same_number (some a) none e = absurd (omega arith)
same_number (some a) (some b) e = eq-eqb a b (omega arith)

number_same : (a b : Option ℕ) → same_container a b ≡ true → container_number a ≡ container_number b
unfolding same_container
number_same none none e = refl
number_same none (some b) e = absurd (clash refl (sym e))
number_same (some a) none e = absurd (clash refl (sym e))
number_same (some a) (some b) e = ap (λ (n : ℕ). n + 1) (eqb-true a b e)

-- Two runs are on one chain just where they have one marker and one container.
module _ (a b : Standing) (ma : is_marker a.marker ≡ true) (mb : is_marker b.marker ≡ true) where
  one_chain : a.marker ≡ b.marker → same_container a.container b.container ≡ true → chain_number a ≡ chain_number b
  unfolding chain_number
  one_chain m c =
      let k : container_number a.container ≡ container_number b.container = number_same a.container b.container c in
      cc

  one_marker : chain_number a ≡ chain_number b → a.marker ≡ b.marker
  unfolding chain_number
  one_marker e =
      let la : marker_number a.marker < 3 = below (mark a.marker ma) in
      let lb : marker_number b.marker < 3 = below (mark b.marker mb) in
      apart (mark a.marker ma) (mark b.marker mb) (omega arith)

  one_container : chain_number a ≡ chain_number b → same_container a.container b.container ≡ true
  unfolding chain_number
  one_container e =
      let la : marker_number a.marker < 3 = below (mark a.marker ma) in
      let lb : marker_number b.marker < 3 = below (mark b.marker mb) in
      same_number a.container b.container (omega arith)

  -- the same as one equation of tests
  as_tests : eqb (chain_number a) (chain_number b) ≡ and (eqb a.marker b.marker) (same_container a.container b.container)
  unfolding and
  as_tests = go (eqb a.marker b.marker) (same_container a.container b.container) refl refl
    where
      go : (x y : Bool) → eqb a.marker b.marker ≡ x → same_container a.container b.container ≡ y →
          eqb (chain_number a) (chain_number b) ≡ and (eqb a.marker b.marker) (same_container a.container b.container)
      go true true p q = rw (p, q) (eq-eqb _ _ (one_chain (eqb-true _ _ p) q))
      go true false p q = rw (p, q) (ne_eqb _ _ (λ e. clash (one_container e) q))
      go false y p q = rw p (ne_eqb _ _ (λ e. eqb-false _ _ p (one_marker e)))

pub same_chain : SameChain
same_chain a b ma mb = as_tests a b ma mb
