-- Heads cleared one by one: the invariant of the loop, and that runs in their slots stay.
-- Assumes nothing.
use mathlib.Core.Path.{◌≡◌, refl, ap, ◌∙◌}
use mathlib.Core.Bool.{Bool, true, false}
use mathlib.Core.List.{List}
use Prim.Native.Nat.{ℕ, ◌+◌, ◌*◌, ◌≤◌, ◌<◌}
use native.Mathlib.Omega.{arith}
use lib.Dec.{leb, eqb}
use lib.ListN.{length, get_or}
use borrow.Author.Tests.{leb-true, leb-false, eqb-true, eqb-false}
use Rattle.slots.specs.Layout.{Room, head_of, with_head}
use Rattle.slots.proofs.Laws.{length_put, get_put_same, get_put_other, byte_put_other}
use Rattle.attention.specs.Start.{Cleared}

-- below a bound that is not reached
strictly : (a b : ℕ) → a ≤ b → (a ≡ b → ⊥) → a < b
strictly a b h ne = go (leb (a + 1) b) refl
  where
    go : (z : Bool) → leb (a + 1) b ≡ z → a < b
    go true e =
        let f : a + 1 ≤ b = leb-true _ _ e in
        omega arith
    go false e =
        let f : b < a + 1 = leb-false _ _ e in
        absurd (ne (omega arith))

pub cleared_more : {w w₁ w₂ : List ℕ} {k j : ℕ} → Room w → Cleared w k w₁ → k < 6147 → w₂ ≡ with_head w₁ k 0 → j ≡ k + 1 → Cleared w j w₂
cleared_more {w} {w₁} {w₂} {k} {j} room c h e ej =
    record {
      same_length = ap length e ∙ length_put w₁ (16384 + k * 2) 0 ∙ c.same_length;
      heads = λ q l. ap (λ (x : List ℕ). head_of x q) e ∙ head q l (eqb q k) refl;
      slots = λ b l. ap (λ (x : List ℕ). get_or x b 0) e ∙ byte_put_other w₁ (16384 + k * 2) 0 b (λ z. omega arith) (λ z. omega arith) ∙ c.slots b l;
    }
  where
    long : length w₁ ≡ length w
    long = c.same_length

    head : (q : ℕ) → q < j → (z : Bool) → eqb q k ≡ z → head_of (with_head w₁ k 0) q ≡ 0
    head q l true t =
        ap (λ (x : ℕ). head_of (with_head w₁ k 0) x) (eqb-true q k t) ∙ get_put_same w₁ (16384 + k * 2) 0 (omega (arith, long, room))
    head q l false t =
        let ne : q ≡ k → ⊥ = eqb-false q k t in
        get_put_other w₁ (16384 + k * 2) 0 (16384 + q * 2) (λ x. ne (omega arith)) (λ x. omega arith) (λ x. omega arith)
        ∙ c.heads q (strictly q k (omega (arith, ej)) ne)
