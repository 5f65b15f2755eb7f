-- The characters past ASCII, which have no entry in the table: their classes by the ranges, and whether the ranges are lent.
-- Assumes nothing.
use mathlib.Core.Path.{◌≡◌, refl, sym, ◌∙◌}
use mathlib.Core.Bool.{Bool, true, false, true≢false}
use mathlib.Core.List.{List}
use Prim.Native.Nat.{ℕ, zero, suc, ◌≤◌}
use native.Mathlib.Omega.{arith}
use lib.Dec.{eqb}
use lib.ListN.{length}
use borrow.Author.Tests.{eqb-true, eq-eqb, ne_eqb, le-leb}
use Rattle.classes.specs.Class.{class_of, standard_class, wide_class, amended}
use Rattle.characters.specs.Index.{Indexed}
use Rattle.classes.specs.Lent.{Lent, lacks}
use Rattle.classes.specs.declared.Class.{Class}

-- past ASCII no amendment holds
module _ (c : ℕ) (h : 128 ≤ c) where
  pub by_ranges : class_of c ≡ wide_class c
  unfolding class_of amended standard_class
  by_ranges = simp (ne_eqb c 13 (λ e. omega arith), ne_eqb c 0 (λ e. omega arith), le-leb 128 c h)

-- past ASCII the ranges are lent where nothing is lacking
module _ {ascii : List Class} {marks : List ℕ} (l : Lent ascii marks) (c : ℕ) (f : lacks marks c ≡ false) (h : 128 ≤ c) where
  pub there : Indexed marks
  unfolding lacks
  there = go (length marks) refl
    where
      go : (n : ℕ) → length marks ≡ n → Indexed marks
      go zero e =
          let t : eqb (length marks) 0 ≡ true = eq-eqb (length marks) 0 e in
          let z : true ≡ false = sym (rw (t, le-leb 128 c h)) ∙ f in
          absurd (true≢false z)
      go (suc n) e = l.ranges (omega arith)

-- what is lacking is not lent
module _ (marks : List ℕ) (c : ℕ) where
  pub lacked : lacks marks c ≡ true → length marks ≡ 0
  unfolding lacks
  lacked e = go (eqb (length marks) 0) refl
    where
      go : (z : Bool) → eqb (length marks) 0 ≡ z → length marks ≡ 0
      go true q = eqb-true (length marks) 0 q
      go false q = absurd (true≢false (sym e ∙ rw q))
