-- The statement of specs/Standard.antt: what amendment D9 makes of the standard's rule is what the definition has.
-- Assumes nothing.
use mathlib.Core.Path.{◌≡◌, refl, sym, ap, ◌∙◌}
use mathlib.Core.Bool.{Bool, true, false}
use mathlib.Core.List.{List, [], ◌∷◌}
use Prim.Native.Nat.{ℕ, suc, ◌+◌, ◌-◌, ◌*◌, ◌≤◌}
use native.Mathlib.Omega.{arith}
use lib.Dec.{eqb}
use borrow.Author.Tests.{eq-eqb, ne_eqb, eqb-true, eqb-false, leb-true}
use Rattle.record.specs.Choice.{choose, and}
use Rattle.record.proofs.Bools.{and_left}
use Rattle.scan.specs.Run.{digit, leading}
use Rattle.lines.specs.Item.{starts_with_one}
use Rattle.lines.specs.Standard.{number_from, standard_starts_with_one, OneDigit}

-- where no digit stands in front, nothing more is said
none_more : (z : Bool) (m n k : ℕ) → choose z (suc k) 0 ≡ 0 → choose z m n ≡ n
unfolding choose
none_more true m n k e = absurd (omega arith)
none_more false m n k e = refl

said_all : (n : ℕ) (l : List ℕ) → leading digit l ≡ 0 → number_from n l ≡ n
unfolding number_from leading
said_all n [] e = refl
said_all n (b ∷ l) e = none_more (digit b) (number_from (10 * n + (b - 48)) l) n (leading digit l) e

-- a single digit
single : (z : Bool) (k : ℕ) → choose z (suc k) 0 ≡ 1 → (z ≡ true) × (k ≡ 0)
unfolding choose
single true k e = (refl, omega arith)
single false k e = absurd (omega arith)

same_one : (b : ℕ) → 48 ≤ b → eqb b 49 ≡ eqb (10 * 0 + (b - 48)) 1
same_one b h = go (eqb b 49) refl
  where
    go : (z : Bool) → eqb b 49 ≡ z → eqb b 49 ≡ eqb (10 * 0 + (b - 48)) 1
    go true q = let e = eqb-true b 49 q in q ∙ sym (eq-eqb (10 * 0 + (b - 48)) 1 (omega arith))
    go false q = q ∙ sym (ne_eqb (10 * 0 + (b - 48)) 1 (λ (e : 10 * 0 + (b - 48) ≡ 1). eqb-false b 49 q (omega arith)))

single_one : (b : ℕ) (l : List ℕ) → leading digit (b ∷ l) ≡ 1 → eqb b 49 ≡ eqb (number_from 0 (b ∷ l)) 1
unfolding leading number_from digit choose
single_one b l e =
    let one = single (digit b) (leading digit l) e in
    let low : 48 ≤ b = leb-true _ _ (and_left _ _ one.0) in
    let says : number_from 0 (b ∷ l) ≡ 10 * 0 + (b - 48) =
    ap (λ (z : Bool). choose z (number_from (10 * 0 + (b - 48)) l) 0) one.0 ∙ said_all (10 * 0 + (b - 48)) l one.1
    in
    same_one b low ∙ ap (λ (n : ℕ). eqb n 1) (sym says)

and_where : (x a b : Bool) → (x ≡ true → a ≡ b) → and x a ≡ and x b
unfolding and
and_where true a b f = f refl
and_where false a b f = refl

pub one_digit : OneDigit
unfolding starts_with_one standard_starts_with_one and leading
one_digit [] = refl
one_digit (b ∷ l) = and_where (eqb (leading digit (b ∷ l)) 1) (eqb b 49) (eqb (number_from 0 (b ∷ l)) 1) (λ e. single_one b l (eqb-true _ _ e))
