-- Document 01's table of the numbers given back, as every line reader uses it, said a second time: each row in the table's words, with its
-- place, and not as a cascade. "These .. use 2, 3 and 4; only the heading reader writes .. and so uses 7 and 8."
-- Assumes nothing.
use Rattle.std.specs.Prelude.{ℕ, ◌<◌, ◌≡◌, List, length, get_or}
use Rattle.record.specs.Order.{Least}
use Rattle.record.specs.declared.check.Refusal.{Refusal}
use Rattle.scan.specs.Line.{refusal}

-- the rows of every line reader: "options over 63; a starting column over 16,384"; "a line over 16,384 bytes", at
-- 16,384; "a carriage return in the .. line", at its offset. Amendment D18: the standard sets no limit to a line or a column
pub data Row (s : List ℕ) (options column n p : ℕ) : Type 0 where
  row_2 : 63 < options → n ≡ 2 → p ≡ 0 → Row s options column n p
  row_2_column : 16384 < column → n ≡ 2 → p ≡ 0 → Row s options column n p
  row_3 : 16384 < length s → n ≡ 3 → p ≡ 16384 → Row s options column n p
  row_4 : p < length s → get_or s p 0 ≡ 13 → n ≡ 4 → Row s options column n p

-- "Given exactly when": an answer is the refusal n at p just where (n, p) is the least row that holds, and where none does it is what is
-- found; where it is no refusal none does. Proved of each reader in its crate, for every line and all arguments
pub record Exactly {A : Type 0} (R : ℕ → ℕ → Type 0) (refuse : Refusal → A) (found answer : A) : Type 0 where
  pub refused : (n p : ℕ) → answer ≡ refuse (refusal n p) → Least R n p
  pub given : (n p : ℕ) → Least R n p → answer ≡ refuse (refusal n p)
  pub finds : ((n p : ℕ) → R n p → ⊥) → answer ≡ found
  pub none : ((n p : ℕ) → answer ≡ refuse (refusal n p) → ⊥) → (n p : ℕ) → R n p → ⊥
