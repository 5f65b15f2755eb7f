-- The table's "given exactly when" for a line's check: it refuses with n at p just where (n, p) is the least row that holds. Proved by going
-- through the tests of the check, each of which says that a row holds or that it holds nowhere. A reader over the check takes it from here.
-- Assumes nothing.
use mathlib.Core.Path.{◌≡◌, refl, sym, ap, ◌∙◌}
use mathlib.Core.Bool.{Bool, true, false}
use mathlib.Core.Logic.{◌⊎◌, inl, inr, ⊎_elim}
use mathlib.Core.List.{List}
use Prim.Native.Nat.{ℕ, ◌≤◌, ◌<◌}
use native.Mathlib.Omega.{arith}
use lib.ListN.{length, get_or}
use lib.Dec.{ltb}
use borrow.Author.Tests.{ltb-true, ltb-false}
use Rattle.std.specs.Prelude.{Ok, Err}
use Rattle.record.specs.Choice.{choose}
use Rattle.record.specs.Check.{first_return}
use Rattle.record.specs.Order.{rank, Least}
use Rattle.record.specs.declared.check.Refusal.{Refusal}
use Rattle.record.proofs.Order.{lower_first, least_only}
use Rattle.record.proofs.Exactly.{first_there, first_least}
use Rattle.scan.specs.Line.{end_of, refusal, checked_line, reading, Checked}
use Rattle.scan.specs.Rows.{Row, row_2, row_2_column, row_3, row_4, Exactly}

-- what an answer comes to, of the rows R
pub data Came {A : Type 0} (R : ℕ → ℕ → Type 0) (refuse : Refusal → A) (found answer : A) : Type 0 where
  least_row : (n p : ℕ) → answer ≡ refuse (refusal n p) → Least R n p → Came R refuse found answer
  no_row : answer ≡ found → ((n p : ℕ) → R n p → ⊥) → Came R refuse found answer

-- an answer that tells refusals apart, from each other and from what is found, is given exactly when the table says
pub exactly : {A : Type 0} {R : ℕ → ℕ → Type 0} {refuse : Refusal → A} {found answer : A} →
    ((a b : Refusal) → refuse a ≡ refuse b → a ≡ b) → ((a : Refusal) → found ≡ refuse a → ⊥) → Came R refuse found answer → Exactly R refuse found answer
exactly {A} {R} {refuse} {found} {answer} same apart (least_row n p e l) =
    record {
      refused = λ m q k.
          let r = same (refusal n p) (refusal m q) (sym e ∙ k) in
          let a : n ≡ m = ap (λ (x : Refusal). x.number) r in
          let b : p ≡ q = ap (λ (x : Refusal). x.place) r in
          rw (a, b) at l;
      given = λ m q k. let x = least_only l k in e ∙ ap (λ (y : ℕ). refuse (refusal y p)) x.0 ∙ ap (λ (y : ℕ). refuse (refusal m y)) x.1;
      finds = λ f. absurd (f n p l.holds);
      none = λ h. absurd (h n p e);
    }
exactly {A} {R} {refuse} {found} {answer} same apart (no_row e f) =
    record {
      refused = λ m q k. absurd (apart (refusal m q) (sym e ∙ k));
      given = λ m q k. absurd (f m q k.holds);
      finds = λ g. e;
      none = λ h. f;
    }

module _ (s : List ℕ) (options column : ℕ) where
  at_2 : Row s options column 2 0 → Least (Row s options column) 2 0
  at_2 h = record { holds = h; least = go }
    where
      go : (m q : ℕ) → Row s options column m q → (rank 2 < rank m) ⊎ ((2 ≡ m) × (0 ≤ q))
      go m q (row_2 w a b) = inr (sym a, omega arith)
      go m q (row_2_column w a b) = inr (sym a, omega arith)
      go m q (row_3 w a b) = inl (lower_first _ _ (omega arith) (omega arith) (omega arith))
      go m q (row_4 w v a) = inl (lower_first _ _ (omega arith) (omega arith) (omega arith))

  module _ (known : options ≤ 63) (near : column ≤ 16384) where
    at_3 : 16384 < length s → Least (Row s options column) 3 16384
    at_3 h = record { holds = row_3 h refl refl; least = go }
      where
        go : (m q : ℕ) → Row s options column m q → (rank 3 < rank m) ⊎ ((3 ≡ m) × (16384 ≤ q))
        go m q (row_2 w a b) = absurd (omega arith)
        go m q (row_2_column w a b) = absurd (omega arith)
        go m q (row_3 w a b) = inr (sym a, omega arith)
        go m q (row_4 w v a) = inl (lower_first _ _ (omega arith) (omega arith) (omega arith))

    module _ (short : length s ≤ 16384) where
      first_before : (q : ℕ) → q < length s → get_or s q 0 ≡ 13 → first_return (length s) s 0 ≤ q
      first_before q h e = ⊎_elim (λ x. x) (λ x. absurd (omega arith)) (first_least (length s) s 0 q (omega arith) e)

      at_4 : first_return (length s) s 0 < length s → Least (Row s options column) 4 (first_return (length s) s 0)
      at_4 h = record { holds = row_4 h (first_there (length s) s 0 (omega arith)) refl; least = go }
        where
          go : (m q : ℕ) → Row s options column m q → (rank 4 < rank m) ⊎ ((4 ≡ m) × (first_return (length s) s 0 ≤ q))
          go m q (row_2 w a b) = absurd (omega arith)
          go m q (row_2_column w a b) = absurd (omega arith)
          go m q (row_3 w a b) = absurd (omega arith)
          go m q (row_4 w v a) = inr (sym a, first_before q w v)

      none : length s ≤ first_return (length s) s 0 → (n p : ℕ) → Row s options column n p → ⊥
      none h n p (row_2 w a b) = omega arith
      none h n p (row_2_column w a b) = omega arith
      none h n p (row_3 w a b) = omega arith
      none h n p (row_4 w v a) = let l = first_before p w v in omega arith

      came_4 : Came (Row s options column) Err (Ok (end_of s))
          (choose (ltb (first_return (length s) s 0) (length s)) (Err (refusal 4 (first_return (length s) s 0))) (Ok (end_of s)))
      unfolding choose
      came_4 = go (ltb (first_return (length s) s 0) (length s)) refl
        where
          go : (z : Bool) → ltb (first_return (length s) s 0) (length s) ≡ z →
              Came (Row s options column) Err (Ok (end_of s)) (choose z (Err (refusal 4 (first_return (length s) s 0))) (Ok (end_of s)))
          go true e = least_row 4 (first_return (length s) s 0) refl (at_4 (ltb-true _ _ e))
          go false e = no_row refl (none (ltb-false _ _ e))

  pub came : Came (Row s options column) Err (Ok (end_of s)) (checked_line s options column)
  unfolding checked_line choose
  came = go (ltb 63 options) refl (ltb 16384 column) refl (ltb 16384 (length s)) refl
    where
      go : (x : Bool) → ltb 63 options ≡ x → (y : Bool) → ltb 16384 column ≡ y → (z : Bool) → ltb 16384 (length s) ≡ z →
          Came (Row s options column) Err (Ok (end_of s))
          (choose x (Err (refusal 2 0)) (choose y (Err (refusal 2 0)) (choose z (Err (refusal 3 16384))
          (choose (ltb (first_return (length s) s 0) (length s)) (Err (refusal 4 (first_return (length s) s 0))) (Ok (end_of s))))))
      go true e y f z g = least_row 2 0 refl (at_2 (row_2 (ltb-true _ _ e) refl refl))
      go false e true f z g = least_row 2 0 refl (at_2 (row_2_column (ltb-true _ _ f) refl refl))
      go false e false f true g = least_row 3 16384 refl (at_3 (ltb-false _ _ e) (ltb-false _ _ f) (ltb-true _ _ g))
      go false e false f false g = came_4 (ltb-false _ _ e) (ltb-false _ _ f) (ltb-false _ _ g)

-- a reader that refuses with the check and else finds something
pub read_came : {A : Type 0} {R : ℕ → ℕ → Type 0} {c : Checked} {n : ℕ} (refuse : Refusal → A) (found : A) → Came R Err (Ok n) c → Came R refuse found (reading c refuse found)
unfolding reading
read_came refuse found (least_row n p e l) = least_row n p (ap (λ (x : Checked). reading x refuse found) e) l
read_came refuse found (no_row e f) = no_row (ap (λ (x : Checked). reading x refuse found) e) f

-- what is found is never a refusal
pub neither : {A : Type 0} (b : Bool) (x y r : A) → (x ≡ r → ⊥) → (y ≡ r → ⊥) → choose b x y ≡ r → ⊥
unfolding choose
neither true x y r f g q = f q
neither false x y r f g q = g q
