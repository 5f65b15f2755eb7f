-- What stands before a record's document, by its bytes.
-- Assumes nothing.
use Prim.Native.Nat.{ℕ, ◌+◌, ◌*◌}
use native.Mathlib.Omega.{arith}
use mathlib.Core.Path.{◌≡◌, refl, sym, ◌∙◌}
use mathlib.Core.List.{List, [], ◌∷◌}
use Rattle.record.specs.Bytes.{u32_at}
use Rattle.record.specs.Check.{checked_in}
use Rattle.record.specs.Front.{FirstSectionByBytes, OptionsOver}
use Rattle.record.specs.Handed.{form_of}
use Rattle.record.specs.declared.form.Handed.TheVariants.{Old, Second}
use Rattle.record.proofs.Whole.{options_over, short_count, wrong_count, no_options, wrong_options, enough_work}

-- of four bytes that make 1, the lowest is 1
bytes_of_one : (a b c d : ℕ) (rest : List ℕ) → u32_at (a ∷ b ∷ c ∷ d ∷ rest) 0 ≡ 1 → a ∷ b ∷ c ∷ d ∷ [] ≡ 1 ∷ 0 ∷ 0 ∷ 0 ∷ []
bytes_of_one a b c d rest h =
    let q : a + 256 * b + 65536 * c + 16777216 * d ≡ 1 = h in
    let ea : a ≡ 1 = omega arith in
    let eb : b ≡ 0 = omega arith in
    let ec : c ≡ 0 = omega arith in
    let ed : d ≡ 0 = omega arith in
    rw (ea, eb, ec, ed)

pub first_section_by_bytes : FirstSectionByBytes
first_section_by_bytes works enough =
    record {
      no_count = λ s h. sym (short_count s (checked_in (form_of Second) s) h ∙ enough_work Second s works enough);
      other_count = λ a b c d rest h.
          sym (wrong_count (a ∷ b ∷ c ∷ d ∷ rest) _ (omega arith) _ refl (λ q. h (bytes_of_one a b c d rest q)) ∙ enough_work Second _ works enough);
      no_options = sym (no_options (1 ∷ 0 ∷ 0 ∷ 0 ∷ []) _ (omega arith) 1 refl refl (omega arith) ∙ enough_work Second _ works enough);
      over_options = λ options rest h.
          sym (wrong_options (1 ∷ 0 ∷ 0 ∷ 0 ∷ options ∷ rest) _ (omega arith) 1 refl refl (omega arith) h ∙ enough_work Second _ works enough);
    }

pub beside_over : OptionsOver
beside_over options s works enough h = sym (options_over s _ options h ∙ enough_work (Old options) s works enough)
