-- What the claims are made of: "given exactly when", in the numbers that a C caller sees.
-- Assumes nothing.
use Rattle.std.specs.Prelude.{ℕ, ◌<◌, ◌≡◌}
use Rattle.record.specs.Order.{Least}

-- r is the answer of a call, R the rows of document 01's table that it can give, and `refusal n p` the answer "number n, place p, all else zero".
-- A refusal is given where it is the least row that holds, and only there; the number is 0 where no row holds, and only there; and what has a
-- number is a refusal and nothing more
pub record Told {A : Type 0} (number place : A → ℕ) (refusal : ℕ → ℕ → A) (R : ℕ → ℕ → Type 0) (r : A) : Type 0 where
  pub given : (n p : ℕ) → Least R n p → r ≡ refusal n p
  pub only : (n p : ℕ) → 0 < n → r ≡ refusal n p → Least R n p
  pub accepted : ((n p : ℕ) → R n p → ⊥) → number r ≡ 0
  pub none_holds : number r ≡ 0 → (n p : ℕ) → R n p → ⊥
  pub nothing_more : 0 < number r → r ≡ refusal (number r) (place r)
