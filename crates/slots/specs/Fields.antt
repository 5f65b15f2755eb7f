-- A number of two bytes that stands once in each of several pieces of one size: what reading it and writing it come to at each piece, by the place where the first
-- one stands and by the size; and that the numbers of the map of work memory stand so. The same
-- of the two flags of a run.
-- Assumes nothing.
use Rattle.std.specs.Prelude.{ℕ, ◌+◌, ◌*◌, ◌<◌, ◌≡◌, refl, Bool, List, not, eqb, get_or, set}
use Rattle.std.proofs.Common.{ap, arith}
use Rattle.slots.specs.Words.{get16, put16}

-- such numbers, `count` of them, all inside the memory; `of` reads the one of a piece, and `with_new` writes it
pub record Stands (from step count : ℕ) (of : List ℕ → ℕ → ℕ) (with_new : List ℕ → ℕ → ℕ → List ℕ) : Type 0 where
  pub read : (w : List ℕ) (i : ℕ) → of w i ≡ get16 w (i * step + from)
  pub written : (w : List ℕ) (i v : ℕ) → with_new w i v ≡ put16 w (i * step + from) v
  pub inside : (i : ℕ) → i < count → i * step + from + 1 < 38726

stands : (from step count : ℕ) (place : ℕ → ℕ) → ((i : ℕ) → place i ≡ i * step + from) → ((i : ℕ) → i < count → i * step + from + 1 < 38726) →
    Stands from step count (λ w i. get16 w (place i)) (λ w i v. put16 w (place i) v)
stands from step count place p b = record { read = λ w i. ap (get16 w) (p i); written = λ w i v. ap (λ k. put16 w k v) (p i); inside = b }

-- in a run's slot
pub in_slot : (from : ℕ) → from < 15 → Stands from 16 1024 (λ w i. get16 w (i * 16 + from)) (λ w i v. put16 w (i * 16 + from) v)
in_slot from h = stands from 16 1024 (λ i. i * 16 + from) (λ i. omega arith) (λ i l. omega arith)

pub first_in_slot : Stands 0 16 1024 (λ w i. get16 w (i * 16)) (λ w i v. put16 w (i * 16) v)
first_in_slot = stands 0 16 1024 (λ i. i * 16) (λ i. omega arith) (λ i l. omega arith)

-- the heads of chains, and the open runs
pub in_heads : Stands 16384 2 6147 (λ w k. get16 w (16384 + k * 2)) (λ w k v. put16 w (16384 + k * 2) v)
in_heads = stands 16384 2 6147 (λ k. 16384 + k * 2) (λ k. omega arith) (λ k l. omega arith)

pub in_open : Stands 28678 2 1024 (λ w h. get16 w (28678 + h * 2)) (λ w h v. put16 w (28678 + h * 2) v)
in_open = stands 28678 2 1024 (λ h. 28678 + h * 2) (λ h. omega arith) (λ h l. omega arith)

-- in a group
pub in_group : (from : ℕ) → from < 7 → Stands (30726 + from) 8 1000 (λ w g. get16 w (30726 + g * 8 + from)) (λ w g v. put16 w (30726 + g * 8 + from) v)
in_group from h = stands (30726 + from) 8 1000 (λ g. 30726 + g * 8 + from) (λ g. omega arith) (λ g l. omega arith)

pub first_in_group : Stands 30726 8 1000 (λ w g. get16 w (30726 + g * 8)) (λ w g v. put16 w (30726 + g * 8) v)
first_in_group = stands 30726 8 1000 (λ g. 30726 + g * 8) (λ g. omega arith) (λ g l. omega arith)

-- a flag in a run's slot, at this byte of it
pub record StandsFlag (from : ℕ) (of : List ℕ → ℕ → Bool) (with_new : List ℕ → ℕ → ℕ → List ℕ) : Type 0 where
  pub read : (w : List ℕ) (i : ℕ) → of w i ≡ not (eqb (get_or w (i * 16 + from) 0) 0)
  pub written : (w : List ℕ) (i v : ℕ) → with_new w i v ≡ set w (i * 16 + from) v
  pub inside : from < 16

pub flag_in_slot : (from : ℕ) → from < 16 → StandsFlag from (λ w i. not (eqb (get_or w (i * 16 + from) 0) 0)) (λ w i v. set w (i * 16 + from) v)
flag_in_slot from h = record { read = λ w i. refl; written = λ w i v. refl; inside = h }
