-- What stands before a record's document, said by its bytes, apart from the check and its table. Document 01: "options over 63". Document 02: "2 also for a
-- count other than 1 or a byte over 63 in the first section". proofs/Front.antt proves it.
-- Assumes nothing.
use Rattle.std.specs.Prelude.{ℕ, ◌≤◌, ◌<◌, ◌≡◌, List, [], ◌∷◌, length}
use Rattle.record.specs.Check.{refuse, admitted}
use Rattle.record.specs.declared.form.Handed.TheVariants.{Old, Second}

-- form 2, with work memory enough: no count; a count that is not 1, whatever follows; the count 1 and nothing behind it; an option byte over 63, whatever follows
pub record FirstSection (works : ℕ) : Type 0 where
  pub no_count : (s : List ℕ) → length s < 4 → admitted Second s works ≡ refuse 3 0
  pub other_count : (a b c d : ℕ) (rest : List ℕ) → (a ∷ b ∷ c ∷ d ∷ [] ≡ 1 ∷ 0 ∷ 0 ∷ 0 ∷ [] → ⊥) →
      admitted Second (a ∷ b ∷ c ∷ d ∷ rest) works ≡ refuse 2 0
  pub no_options : admitted Second (1 ∷ 0 ∷ 0 ∷ 0 ∷ []) works ≡ refuse 3 0
  pub over_options : (options : ℕ) (rest : List ℕ) → 63 < options → admitted Second (1 ∷ 0 ∷ 0 ∷ 0 ∷ options ∷ rest) works ≡ refuse 2 0

abbrev pub FirstSectionByBytes : Type 0
FirstSectionByBytes = (works : ℕ) → 65536 ≤ works → FirstSection works

-- the old form, with options beside it
abbrev pub OptionsOver : Type 0
OptionsOver = (options : ℕ) (s : List ℕ) (works : ℕ) → 65536 ≤ works → 63 < options → admitted (Old options) s works ≡ refuse 2 0
