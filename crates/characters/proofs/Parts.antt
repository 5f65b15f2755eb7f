-- The first of four parts of a document that is a character's form. Forward and backward alike: where at most one part has the shape of a form, that part is
-- the one found, whatever the order.
-- Assumes nothing.
use Prim.Native.Nat.{ℕ, zero, suc, ◌≤◌}
use mathlib.Core.Path.{◌≡◌, refl, sym, ap, ◌∙◌}
use mathlib.Core.Logic.{◌⊎◌, inl, inr}
use mathlib.Core.List.{List}
use Rattle.std.specs.Prelude.{Option, None, Some}
use native.Mathlib.Omega.{arith}
use Rattle.characters.specs.Utf8.{character_of}
use Rattle.characters.specs.Beside.{or_else}
use Rattle.characters.proofs.Forms.{Shape, never, no_form, form_shape}

abbrev pub first_found : (ℕ → List ℕ) → Option ℕ
first_found part = or_else (character_of (part 1)) (or_else (character_of (part 2)) (or_else (character_of (part 3)) (character_of (part 4))))

one_some : (o p q r : Option ℕ) (c : ℕ) → or_else o (or_else p (or_else q r)) ≡ Some c → (o ≡ Some c) ⊎ (p ≡ Some c) ⊎ (q ≡ Some c) ⊎ (r ≡ Some c)
one_some (Some d) p q r c e = inl e
one_some None (Some d) q r c e = inr (inl e)
one_some None None (Some d) r c e = inr (inr (inl e))
one_some None None None r c e = inr (inr (inr e))

all_none : (o p q r : Option ℕ) → or_else o (or_else p (or_else q r)) ≡ None → (o ≡ None) × (p ≡ None) × (q ≡ None) × (r ≡ None)
all_none (Some c) p q r e = absurd (never c e)
all_none None (Some c) q r e = absurd (never c e)
all_none None None (Some c) r e = absurd (never c e)
all_none None None None r e = (refl, refl, refl, e)

module _ (part : ℕ → List ℕ) where
  -- what is found is found in one of the parts
  pub found_part : (c : ℕ) → first_found part ≡ Some c → (m : ℕ) × (character_of (part m) ≡ Some c)
  found_part c e = go (one_some (character_of (part 1)) (character_of (part 2)) (character_of (part 3)) (character_of (part 4)) c e)
    where
      go : (character_of (part 1) ≡ Some c) ⊎ (character_of (part 2) ≡ Some c) ⊎ (character_of (part 3) ≡ Some c) ⊎ (character_of (part 4) ≡ Some c) →
          (m : ℕ) × (character_of (part m) ≡ Some c)
      go (inl h) = (1, h)
      go (inr (inl h)) = (2, h)
      go (inr (inr (inl h))) = (3, h)
      go (inr (inr (inr h))) = (4, h)

  parts_none : first_found part ≡ None →
      (character_of (part 1) ≡ None) × (character_of (part 2) ≡ None) × (character_of (part 3) ≡ None) × (character_of (part 4) ≡ None)
  parts_none = all_none (character_of (part 1)) (character_of (part 2)) (character_of (part 3)) (character_of (part 4))

  found_none : (n : ℕ) → 1 ≤ n → n ≤ 4 → first_found part ≡ None → character_of (part n) ≡ None
  found_none zero p q e = absurd (omega arith)
  found_none (suc zero) p q e = (parts_none e).0
  found_none (suc (suc zero)) p q e = (parts_none e).1
  found_none (suc (suc (suc zero))) p q e = (parts_none e).2
  found_none (suc (suc (suc (suc zero)))) p q e = (parts_none e).3
  found_none (suc (suc (suc (suc (suc n))))) p q e = absurd (omega arith)

  -- where no other part has the shape of a form
  pub settled : (n : ℕ) → 1 ≤ n → n ≤ 4 → ((m : ℕ) → Shape (part m) → part m ≡ part n) → first_found part ≡ character_of (part n)
  settled n p q same = go (first_found part) refl
    where
      go : (o : Option ℕ) → first_found part ≡ o → first_found part ≡ character_of (part n)
      go None e = e ∙ sym (found_none n p q e)
      go (Some c) e =
          let m : (k : ℕ) × (character_of (part k) ≡ Some c) = found_part c e in
          e ∙ sym m.1 ∙ ap character_of (same m.0 (form_shape (part m.0) c m.1))

  -- where none has
  pub unsettled : ((m : ℕ) → Shape (part m) → ⊥) → first_found part ≡ None
  unsettled none_has = settled 1 (omega arith) (omega arith) (λ m w. absurd (none_has m w)) ∙ no_form (part 1) (none_has 1)
