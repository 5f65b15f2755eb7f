-- A table that has each range in one number, beside the table of its bounds; and looking for a number in it by where the ranges begin.
-- Assumes nothing.
use Prim.Native.Nat.{ℕ, zero, suc, ◌+◌, ◌-◌, ◌*◌, ◌/◌, ◌%◌, ◌<◌, ◌≤◌}
use mathlib.Core.Path.{◌≡◌, refl, subst, ◌∙◌}
use mathlib.Core.Bool.{Bool, true, false}
use mathlib.Core.Logic.{⊎_elim}
use mathlib.Core.List.{List, [], ◌∷◌}
use native.Mathlib.Omega.{arith}
use native.Mathlib.Nat.{eq-or-lt_of_le}
use lib.Dec.{leb}
use lib.ListN.{length, get_or}
use borrow.Author.Tests.{leb-true, leb-false}
use denote.Param.Members.{Mut}
use denote.Bor.{Bor}
use Rattle.std.specs.Fn.{Called, ComputesKey}
use Rattle.std.specs.List.Sorted.{IsNonDecreasingBy, IsPartitionedBy, IsPartitionPoint}
use Rattle.std.proofs.lemmas.List.Sorted.{IsNonDecreasingBy-from_default, IsPartitionedBy-leb, IsPartitionPoint-from_clause}
use Rattle.characters.specs.Ranges.{member, rising, unpacked, low, high}
use Rattle.characters.proofs.Order.{low_suc, high_suc, filled, apart}
use Rattle.characters.proofs.Between.{Between, right_of, found, missed}

pub unpacked_length : (t : List ℕ) → length (unpacked t) ≡ 2 * length t
unfolding unpacked
unpacked_length [] = refl
unpacked_length (x ∷ t) =
    let e = unpacked_length t in
    omega arith

pub unpacked_low : (t : List ℕ) (k : ℕ) → k < length t → low (unpacked t) k ≡ get_or t k 0 / 2048
unfolding unpacked
unpacked_low [] k h = absurd (omega arith)
unpacked_low (x ∷ t) zero h = refl
unpacked_low (x ∷ t) (suc k) h = low_suc (x / 2048) (x / 2048 + x % 2048) (unpacked t) k ∙ unpacked_low t k (omega arith)

pub unpacked_high : (t : List ℕ) (k : ℕ) → k < length t → high (unpacked t) k ≡ get_or t k 0 / 2048 + get_or t k 0 % 2048
unfolding unpacked
unpacked_high [] k h = absurd (omega arith)
unpacked_high (x ∷ t) zero h = refl
unpacked_high (x ∷ t) (suc k) h = high_suc (x / 2048) (x / 2048 + x % 2048) (unpacked t) k ∙ unpacked_high t k (omega arith)

-- so the ranges' beginnings rise
pub beginnings_rise : (t : List ℕ) → rising 0 (unpacked t) ≡ true → IsNonDecreasingBy (λ range. range / 2048) t
beginnings_rise t e = IsNonDecreasingBy-from_default (λ range. range / 2048) t 0 rise
  where
    rise : (j k : ℕ) → j ≤ k → k < length t → get_or t j 0 / 2048 ≤ get_or t k 0 / 2048
    rise j k h l =
        let u = unpacked_length t in
        ⊎_elim (λ q. subst (λ (m : ℕ). get_or t j 0 / 2048 ≤ get_or t m 0 / 2048) q (omega arith))
        (λ s.
        let a = apart 0 (unpacked t) e j k s (omega arith) in
        let f = filled 0 (unpacked t) e j (omega arith) in
        omega (arith, unpacked_low t j (omega arith), unpacked_low t k l))
        (eq-or-lt_of_le h)

-- so many of the ranges begin at c or before
pub record Begun (t : List ℕ) (c i : ℕ) : Type 0 where
  pub ordered : rising 0 (unpacked t) ≡ true
  pub bound : i ≤ length t
  pub begun : (k : ℕ) → k < i → get_or t k 0 / 2048 ≤ c
  pub later : (k : ℕ) → i ≤ k → k < length t → c < get_or t k 0 / 2048

-- as `partition_point` says, by a closure that asks whether a range begins at c or before
pub begun_by : {F : Type 0} {g : Mut F (Bor ℕ × Unit {0}) Bool} {f : F} (t : List ℕ) (c i : ℕ)
    → rising 0 (unpacked t) ≡ true
    → i ≤ length t
    → ((q : ℕ → Bool) → ComputesKey g q f → IsPartitionedBy q t → IsPartitionPoint (λ range. q range ≡ true) (λ range. q range ≡ false) t i)
    → ((a : Bor ℕ × Unit {0}) (r : Bool) (f' : F) → Called g f a r f' → (r ≡ leb (a.0.now / 2048) c) × (f' ≡ f))
    → Begun t c i
begun_by t c i e h clause called =
    let p : IsPartitionPoint (λ range. leb (range / 2048) c ≡ true) (λ range. leb (range / 2048) c ≡ false) t i =
    IsPartitionPoint-from_clause (λ range. leb (range / 2048) c) t i clause (IsPartitionedBy-leb (λ range. range / 2048) t c (beginnings_rise t e)) called in
    record {
      ordered = e;
      bound = h;
      begun = λ k l. leb-true (get_or t k 0 / 2048) c (p.0 k 0 (omega arith) l);
      later = λ k l m. leb-false (get_or t k 0 / 2048) c (p.1 k 0 l m);
    }

module _ {t : List ℕ} {c i : ℕ} (b : Begun t c i) where
  before_later : Between (unpacked t) c 0 i
  before_later =
      let h = b.bound in
      let u = unpacked_length t in
      record {
        ordered = b.ordered;
        bound = omega arith;
        below = λ k l. absurd (omega arith);
        above = λ k l m. rw (unpacked_low t k (omega arith)) (b.later k l (omega arith));
      }

  -- c lies in the last of those that begin at c or before, or in none
  pub none_begun : i ≡ 0 → false ≡ member (unpacked t) c
  none_begun e = missed before_later (omega arith)

  pub last_begun : (i ≡ 0 → ⊥) → leb c (get_or t (i - 1) 0 / 2048 + get_or t (i - 1) 0 % 2048) ≡ member (unpacked t) c
  last_begun e = go (leb c (get_or t (i - 1) 0 / 2048 + get_or t (i - 1) 0 % 2048)) refl
    where
      some : i - 1 < i
      some = omega arith

      there : i - 1 < length t
      there = let h = b.bound in omega arith

      go : (z : Bool) → leb c (get_or t (i - 1) 0 / 2048 + get_or t (i - 1) 0 % 2048) ≡ z → z ≡ member (unpacked t) c
      go true q =
          found before_later (i - 1) some (rw (unpacked_low t (i - 1) there) (b.begun (i - 1) some)) (rw (unpacked_high t (i - 1) there) (leb-true c _ q))
      go false q = missed (right_of before_later (i - 1) some (rw (unpacked_high t (i - 1) there) (leb-false c _ q))) (omega arith)
