-- The index in front of the table: the ranges that it names for a block of code points are enough for each of them.
-- Assumes nothing.
use Prim.Native.Nat.{ℕ, zero, suc, ◌+◌, ◌-◌, ◌*◌, ◌/◌, ◌%◌, ◌<◌, ◌≤◌}
use mathlib.Core.Path.{◌≡◌, refl, sym, ap, subst, ◌∙◌}
use mathlib.Core.Bool.{Bool, true, false, ◌&&◌, ◌||◌, true≢false}
use mathlib.Core.List.{List, [], ◌∷◌}
use mathlib.Core.Logic.{⊎_elim}
use native.Mathlib.Omega.{arith}
use native.Mathlib.Nat.{eq-or-lt_of_le, lt_of_not-le}
use lib.Dec.{T, leb, ltb, eqb}
use lib.ListN.{length, get_or, take, drop, length-take, length-drop}
use lib.Seq.{get_or-take, get_or-drop}
use borrow.Author.Tests.{le-leb, leb-true, ltb-true, eqb-true}
use Rattle.characters.specs.Ranges.{within, member, rising, unpacked, low, high, In}
use Rattle.characters.specs.Tables.{punctuation_ranges, space_ranges}
use Rattle.characters.specs.Ordered.{punctuation_ordered, spaces_ordered}
use Rattle.characters.specs.Index.{enough, Indexed}
use Rattle.characters.proofs.Table.{below, all_below}
use Rattle.characters.proofs.Order.{and_left, and_right, head, filled, apart, is_member, no_member, member_of}
use Rattle.characters.proofs.Between.{Between, missed}
use Rattle.characters.proofs.Packed.{unpacked_length, unpacked_low, unpacked_high}

-- no range up to one ends behind it, and none from one on begins before it
up_to : (t : List ℕ) → rising 0 t ≡ true → (j k : ℕ) → j ≤ k → 2 * k + 1 < length t → high t j ≤ high t k
up_to t e j k h l =
    ⊎_elim (λ q. subst (λ (m : ℕ). high t m ≤ high t k) (sym q) (omega arith))
    (λ s.
    let a = apart 0 t e j k s l in
    let f = filled 0 t e k l in
    omega arith)
    (eq-or-lt_of_le h)

either : (a b : Bool) {P : Type 0} → a || b ≡ true → (a ≡ true → P) → (b ≡ true → P) → P
either true b e f g = f refl
either false b e f g = g e

module _ (t : List ℕ) (block from to c : ℕ) (e : rising 0 t ≡ true) (h : enough t block from to ≡ true) (least : block ≤ c) (most : c < block + 1024) where
  first_test : leb from to ≡ true
  unfolding enough
  first_test = and_left (leb from to) _ h

  rest : (leb (2 * to + 2) (length t) && ((eqb from 0 || ltb (high t (from - 1)) block) && (eqb (2 * to + 2) (length t) || leb (block + 1024) (high t to)))) ≡ true
  unfolding enough
  rest = and_right (leb from to) _ h

  inside : 2 * to + 2 ≤ length t
  inside = leb-true (2 * to + 2) (length t) (and_left (leb (2 * to + 2) (length t)) _ rest)

  ends : ((eqb from 0 || ltb (high t (from - 1)) block) && (eqb (2 * to + 2) (length t) || leb (block + 1024) (high t to))) ≡ true
  ends = and_right (leb (2 * to + 2) (length t)) _ rest

  under : (k : ℕ) → k < from → high t k < c
  under k g =
      either (eqb from 0) (ltb (high t (from - 1)) block) (and_left (eqb from 0 || ltb (high t (from - 1)) block) _ ends)
      (λ z. let q = eqb-true from 0 z in absurd (omega arith))
      (λ z.
      let q = ltb-true (high t (from - 1)) block z in
      let f = leb-true from to first_test in
      let i = inside in
      let u = up_to t e k (from - 1) (omega arith) (omega arith) in
      omega arith)

  over : (k : ℕ) → to + 1 ≤ k → 2 * k + 1 < length t → c < low t k
  over k g l =
      either (eqb (2 * to + 2) (length t)) (leb (block + 1024) (high t to)) (and_right (eqb from 0 || ltb (high t (from - 1)) block) _ ends)
      (λ z. let q = eqb-true (2 * to + 2) (length t) z in absurd (omega arith))
      (λ z.
      let q = leb-true (block + 1024) (high t to) z in
      let a = apart 0 t e to k (omega arith) l in
      omega arith)

  in_order : from ≤ to
  in_order = leb-true from to first_test

  window : Between t c from (to + 1)
  window =
      let i = inside in
      record { ordered = e; bound = omega arith; below = under; above = over }

-- some of the ranges of a table that has each in one number: from one to before another
abbrev pub part : List ℕ → ℕ → ℕ → List ℕ
part t from to = take (to - from) (drop from t)

-- they are in rising order and apart as well
rising_later : (f : ℕ) (t : List ℕ) → rising f t ≡ true → rising 0 t ≡ true
unfolding rising
rising_later f [] e = e
rising_later f (lo ∷ []) e = e
rising_later f (lo ∷ hi ∷ t) e = rw (le-leb 0 lo (omega arith)) (and_right (leb f lo) (leb lo hi && rising (hi + 2) t) e)

rising_drop : (m : ℕ) (t : List ℕ) → rising 0 (unpacked t) ≡ true → rising 0 (unpacked (drop m t)) ≡ true
unfolding unpacked
rising_drop zero t e = e
rising_drop (suc m) [] e = e
rising_drop (suc m) (x ∷ t) e =
    let d = head 0 (x / 2048) (x / 2048 + x % 2048) (unpacked t) e in
    rising_drop m t (rising_later (x / 2048 + x % 2048 + 2) (unpacked t) d.rest)

rising_take : (n f : ℕ) (t : List ℕ) → rising f (unpacked t) ≡ true → rising f (unpacked (take n t)) ≡ true
unfolding rising unpacked
rising_take zero f t e = refl
rising_take (suc n) f [] e = refl
rising_take (suc n) f (x ∷ t) e =
    let d = head f (x / 2048) (x / 2048 + x % 2048) (unpacked t) e in
    rw (le-leb f (x / 2048) d.starts, le-leb (x / 2048) (x / 2048 + x % 2048) d.filled) (rising_take n (x / 2048 + x % 2048 + 2) t d.rest)

pub rising_part : (t : List ℕ) (from to : ℕ) → rising 0 (unpacked t) ≡ true → rising 0 (unpacked (part t from to)) ≡ true
rising_part t from to e = rising_take (to - from) 0 (drop from t) (rising_drop from t e)

-- and where they are enough for a number, it lies in one of them just where it lies in one of all
module _ (t : List ℕ) (c from to : ℕ) (b : Between (unpacked t) c from to) where
  size : length (part t from to) ≡ to - from
  size =
      let h = b.bound in
      omega (arith, unpacked_length t, length-take (to - from) (drop from t), length-drop from t)

  entry : (k : ℕ) → k < to - from → get_or (part t from to) k 0 ≡ get_or t (from + k) 0
  entry k h = get_or-take (to - from) (drop from t) k 0 h ∙ get_or-drop from t k 0

  there : (k : ℕ) → k < to - from → from + k < length t
  there k h =
      let q = b.bound in
      omega (arith, unpacked_length t)

  same_low : (k : ℕ) → k < to - from → low (unpacked (part t from to)) k ≡ low (unpacked t) (from + k)
  same_low k h =
      unpacked_low (part t from to) k (omega (arith, size)) ∙ ap (λ (x : ℕ). x / 2048) (entry k h) ∙ sym (unpacked_low t (from + k) (there k h))

  same_high : (k : ℕ) → k < to - from → high (unpacked (part t from to)) k ≡ high (unpacked t) (from + k)
  same_high k h =
      unpacked_high (part t from to) k (omega (arith, size)) ∙ ap (λ (x : ℕ). x / 2048 + x % 2048) (entry k h)
      ∙ sym (unpacked_high t (from + k) (there k h))

  inner : (k : ℕ) → In (unpacked (part t from to)) k c → In (unpacked t) (from + k) c
  inner k i =
      let g = i.there in
      let l = i.least in
      let m = i.most in
      let h : k < to - from = omega (arith, size, unpacked_length (part t from to)) in
      record {
        there = omega (arith, there k h, unpacked_length t);
        least = omega (arith, same_low k h);
        most = omega (arith, same_high k h);
      }

  outer : (k : ℕ) → In (unpacked t) k c → In (unpacked (part t from to)) (k - from) c
  outer k i =
      let g = i.there in
      let l = i.least in
      let m = i.most in
      let first : from < k + 1 = lt_of_not-le (λ s. omega (arith, b.below k (omega arith))) in
      let last : k < to = lt_of_not-le (λ s. omega (arith, b.above k s g)) in
      let back : from + (k - from) ≡ k = omega arith in
      let h : k - from < to - from = omega arith in
      record {
        there = omega (arith, size, unpacked_length (part t from to));
        least = rw (same_low (k - from) h, back) l;
        most = rw (same_high (k - from) h, back) m;
      }

  pub member_part : member (unpacked (part t from to)) c ≡ member (unpacked t) c
  member_part = go (member (unpacked (part t from to)) c) refl
    where
      go : (z : Bool) → member (unpacked (part t from to)) c ≡ z → z ≡ member (unpacked t) c
      go true e =
          let i = member_of (unpacked (part t from to)) c e in
          sym (is_member (unpacked t) (from + i.0) c (inner i.0 i.1))
      go false e =
          sym (no_member (unpacked t) c (λ k i. true≢false (sym (is_member (unpacked (part t from to)) (k - from) c (outer k i)) ∙ e)))

-- of a table with its index, at a character's block: its two parts are lent on
module _ {table index ranges : List ℕ} (i : Indexed table) (f : index ≡ take 129 table) (r : ranges ≡ drop 129 table) (c : ℕ) (h : c < 131072) where
  at_block : enough punctuation_ranges (1024 * (c / 1024)) (get_or index (c / 1024) 0) (get_or index (c / 1024 + 1) 0) ≡ true
  at_block = rw (f, get_or-take 129 table (c / 1024) 0 (omega arith), get_or-take 129 table (c / 1024 + 1) 0 (omega arith)) (i.blocks (c / 1024) (omega arith))

  all : unpacked ranges ≡ punctuation_ranges
  all = ap unpacked r ∙ i.ranges

  -- the index names the first of some ranges and the last of them
  pub in_order_there : (get_or index (c / 1024) 0 ≤ get_or index (c / 1024 + 1) 0) × (get_or index (c / 1024 + 1) 0 < length ranges)
  in_order_there =
      let a = in_order punctuation_ranges (1024 * (c / 1024)) (get_or index (c / 1024) 0) (get_or index (c / 1024 + 1) 0) c punctuation_ordered at_block (omega arith) (omega arith) in
      let b = inside punctuation_ranges (1024 * (c / 1024)) (get_or index (c / 1024) 0) (get_or index (c / 1024 + 1) 0) c punctuation_ordered at_block (omega arith) (omega arith) in
      omega (arith, unpacked_length ranges, ap length all)

  -- which are enough
  named : Between (unpacked ranges) c (get_or index (c / 1024) 0) (get_or index (c / 1024 + 1) 0 + 1)
  named = rw all (window punctuation_ranges (1024 * (c / 1024)) (get_or index (c / 1024) 0) (get_or index (c / 1024 + 1) 0) c punctuation_ordered at_block (omega arith) (omega arith))

  pub in_order_named : rising 0 (unpacked (part ranges (get_or index (c / 1024) 0) (get_or index (c / 1024 + 1) 0 + 1))) ≡ true
  in_order_named = rising_part ranges _ _ (rw all punctuation_ordered)

  pub member_named : member (unpacked (part ranges (get_or index (c / 1024) 0) (get_or index (c / 1024 + 1) 0 + 1))) c ≡ member punctuation_ranges c
  member_named = member_part ranges c _ _ named ∙ ap (λ (t : List ℕ). member t c) all

-- nothing past the end of the last range is in one
past_last : (t : List ℕ) (n c : ℕ) → rising 0 t ≡ true → length t ≡ 2 * suc n → high t n < c → false ≡ member t c
past_last t n c e l h = missed beyond (omega arith)
  where
    beyond : Between t c (suc n) (suc n)
    beyond =
        record {
          ordered = e;
          bound = omega arith;
          below = λ k g. let u = up_to t e k n (omega arith) (omega arith) in omega arith;
          above = λ k g m. absurd (omega arith);
        }

pub past_all : (c : ℕ) → 131072 ≤ c → false ≡ member punctuation_ranges c
unfolding punctuation_ranges
past_all c h = past_last punctuation_ranges 348 c punctuation_ordered refl (omega arith)

pub past_spaces : (c : ℕ) → 12288 < c → false ≡ member space_ranges c
unfolding space_ranges
past_spaces c h = past_last space_ranges 6 c spaces_ordered refl (omega arith)

-- two of the spaces stand below U+1680
pub few_spaces : (c : ℕ) → c < 5760 → member (take 4 space_ranges) c ≡ member space_ranges c
unfolding space_ranges member rising
few_spaces c h = ap (λ (b : Bool). within 32 32 c || (within 160 160 c || b)) (missed before (omega arith))
  where
    later : List ℕ
    later = drop 4 space_ranges

    ordered : rising 0 later ≡ true
    ordered = refl

    before : Between later c 0 0
    before =
        record {
          ordered = ordered;
          bound = omega arith;
          below = λ k g. absurd (omega arith);
          above =
              λ k g m.
              ⊎_elim (λ e. subst (λ (n : ℕ). c < low later n) e (omega arith))
              (λ s.
              let a = apart 0 later ordered 0 k s m in
              omega arith)
              (eq-or-lt_of_le g);
        }

true_of : (b : Bool) → T b → b ≡ true
true_of true t = refl
true_of false t = absurd t

-- a table is indexed where each block passes the test
abbrev pub passes : List ℕ → ℕ → Bool
passes table b = enough punctuation_ranges (1024 * b) (get_or table b 0) (get_or table (b + 1) 0)

pub indexed : (table : List ℕ) → length table ≡ 478 → unpacked (drop 129 table) ≡ punctuation_ranges → T (below (passes table) 128) → Indexed table
indexed table n e t =
    record { size = n; ranges = e; blocks = λ b h. true_of (passes table b) (all_below (passes table) 128 t b h) }
