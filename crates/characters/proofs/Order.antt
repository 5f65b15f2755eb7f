-- What the one test over a whole table tells of its ranges, and what membership is by the ranges' numbers: the statements of specs/Ranges.antt.
-- Assumes nothing.
use Prim.Native.Nat.{ℕ, zero, suc, ◌+◌, ◌*◌, ◌<◌, ◌≤◌}
use mathlib.Core.Path.{◌≡◌, refl}
use mathlib.Core.Bool.{Bool, true, false, ◌&&◌, ◌||◌}
use mathlib.Core.List.{List, [], ◌∷◌}
use native.Mathlib.Omega.{arith}
use lib.Dec.{leb}
use lib.ListN.{length}
use borrow.Author.Tests.{le-leb, leb-true}
use Rattle.characters.specs.Ranges.{within, member, rising, low, high, In, MemberIn, RangesApart}

pub and_left : (a b : Bool) → a && b ≡ true → a ≡ true
and_left true b e = refl
and_left false b e = e

pub and_right : (a b : Bool) → a && b ≡ true → b ≡ true
and_right true b e = e
and_right false b e = let z : ◌≡◌ {A = ℕ} 0 1 = cc in absurd (omega arith)

-- the ranges past the first
pub low_suc : (lo hi : ℕ) (t : List ℕ) (k : ℕ) → low (lo ∷ hi ∷ t) (suc k) ≡ low t k
low_suc lo hi t k = let e : 2 * suc k ≡ suc (suc (2 * k)) = omega arith in rw e

pub high_suc : (lo hi : ℕ) (t : List ℕ) (k : ℕ) → high (lo ∷ hi ∷ t) (suc k) ≡ high t k
high_suc lo hi t k = let e : 2 * suc k + 1 ≡ suc (suc (2 * k + 1)) = omega arith in rw e

-- what the test says of the first range, and of the rest
pub record Head (from lo hi : ℕ) (t : List ℕ) : Type 0 where
  pub starts : from ≤ lo
  pub filled : lo ≤ hi
  pub rest : rising (hi + 2) t ≡ true

pub head : (from lo hi : ℕ) (t : List ℕ) → rising from (lo ∷ hi ∷ t) ≡ true → Head from lo hi t
unfolding rising
head from lo hi t e =
    let r = and_right (leb from lo) (leb lo hi && rising (hi + 2) t) e in
    record {
      starts = leb-true from lo (and_left (leb from lo) (leb lo hi && rising (hi + 2) t) e);
      filled = leb-true lo hi (and_left (leb lo hi) (rising (hi + 2) t) r);
      rest = and_right (leb lo hi) (rising (hi + 2) t) r;
    }

-- no range begins below the bound
pub starts_at : (from : ℕ) (t : List ℕ) → rising from t ≡ true → (k : ℕ) → 2 * k + 1 < length t → from ≤ low t k
starts_at from [] e k h = absurd (omega arith)
starts_at from (lo ∷ []) e k h = absurd (omega arith)
starts_at from (lo ∷ hi ∷ t) e zero h = (head from lo hi t e).starts
starts_at from (lo ∷ hi ∷ t) e (suc k) h =
    let d = head from lo hi t e in
    let l = starts_at (hi + 2) t d.rest k (omega arith) in
    let q : low (lo ∷ hi ∷ t) (suc k) ≡ low t k = low_suc lo hi t k in
    omega arith

-- none is empty
pub filled : (from : ℕ) (t : List ℕ) → rising from t ≡ true → (k : ℕ) → 2 * k + 1 < length t → low t k ≤ high t k
filled from [] e k h = absurd (omega arith)
filled from (lo ∷ []) e k h = absurd (omega arith)
filled from (lo ∷ hi ∷ t) e zero h = (head from lo hi t e).filled
filled from (lo ∷ hi ∷ t) e (suc k) h =
    let d = head from lo hi t e in
    let l = filled (hi + 2) t d.rest k (omega arith) in
    let q : low (lo ∷ hi ∷ t) (suc k) ≡ low t k = low_suc lo hi t k in
    let p : high (lo ∷ hi ∷ t) (suc k) ≡ high t k = high_suc lo hi t k in
    omega arith

-- they are in rising order and apart
pub apart : (from : ℕ) (t : List ℕ) → rising from t ≡ true → (j k : ℕ) → j < k → 2 * k + 1 < length t → high t j + 2 ≤ low t k
apart from [] e j k l h = absurd (omega arith)
apart from (lo ∷ []) e j k l h = absurd (omega arith)
apart from (lo ∷ hi ∷ t) e j zero l h = absurd (omega arith)
apart from (lo ∷ hi ∷ t) e zero (suc k) l h =
    let d = head from lo hi t e in
    let s = starts_at (hi + 2) t d.rest k (omega arith) in
    let q : low (lo ∷ hi ∷ t) (suc k) ≡ low t k = low_suc lo hi t k in
    omega arith
apart from (lo ∷ hi ∷ t) e (suc j) (suc k) l h =
    let d = head from lo hi t e in
    let s = apart (hi + 2) t d.rest j k (omega arith) (omega arith) in
    let q : low (lo ∷ hi ∷ t) (suc k) ≡ low t k = low_suc lo hi t k in
    let p : high (lo ∷ hi ∷ t) (suc j) ≡ high t j = high_suc lo hi t j in
    omega arith

or_right : (a : Bool) {b : Bool} → b ≡ true → a || b ≡ true
or_right true e = refl
or_right false e = e

or_none : (a b : Bool) → a ≡ false → b ≡ false → a || b ≡ false
or_none a b d e = simp (d, e)

within_both : (lo hi c : ℕ) → within lo hi c ≡ true → (lo ≤ c) × (c ≤ hi)
within_both lo hi c e = (leb-true lo c (and_left (leb lo c) (leb c hi) e), leb-true c hi (and_right (leb lo c) (leb c hi) e))

-- the first range does not have a number that no range has
outside : (lo hi : ℕ) (t : List ℕ) (c : ℕ) → ((k : ℕ) → In (lo ∷ hi ∷ t) k c → ⊥) → within lo hi c ≡ false
outside lo hi t c f = go (within lo hi c) refl
  where
    go : (z : Bool) → within lo hi c ≡ z → within lo hi c ≡ false
    go false e = e
    go true e =
        let b = within_both lo hi c e in
        absurd (f 0 (record { there = omega arith; least = b.0; most = b.1 }))

-- a number in range k is a member
pub is_member : (t : List ℕ) (k c : ℕ) → In t k c → member t c ≡ true
unfolding member
is_member [] k c i = let h = i.there in absurd (omega arith)
is_member (lo ∷ []) k c i = let h = i.there in absurd (omega arith)
is_member (lo ∷ hi ∷ t) zero c i = simp (le-leb lo c i.least, le-leb c hi i.most)
is_member (lo ∷ hi ∷ t) (suc k) c i =
    let h = i.there in
    let l = i.least in
    let m = i.most in
    let q : low (lo ∷ hi ∷ t) (suc k) ≡ low t k = low_suc lo hi t k in
    let p : high (lo ∷ hi ∷ t) (suc k) ≡ high t k = high_suc lo hi t k in
    or_right (within lo hi c) (is_member t k c (record { there = omega arith; least = omega arith; most = omega arith }))

-- the range that has a number, one place further on
pub later : (lo hi : ℕ) (t : List ℕ) (k c : ℕ) → In t k c → In (lo ∷ hi ∷ t) (suc k) c
later lo hi t k c i =
    let h = i.there in
    let l = i.least in
    let m = i.most in
    let q : low (lo ∷ hi ∷ t) (suc k) ≡ low t k = low_suc lo hi t k in
    let p : high (lo ∷ hi ∷ t) (suc k) ≡ high t k = high_suc lo hi t k in
    record { there = omega arith; least = omega arith; most = omega arith }

-- a number in no range is no member
pub no_member : (t : List ℕ) (c : ℕ) → ((k : ℕ) → In t k c → ⊥) → member t c ≡ false
unfolding member
no_member [] c f = refl
no_member (lo ∷ []) c f = refl
no_member (lo ∷ hi ∷ t) c f =
    or_none (within lo hi c) (member t c) (outside lo hi t c f) (no_member t c (λ k i. f (suc k) (later lo hi t k c i)))

first_or_later : (lo hi : ℕ) (t : List ℕ) (c : ℕ) (z : Bool) → within lo hi c ≡ z → z || member t c ≡ true →
    (member t c ≡ true → (k : ℕ) × In t k c) → (k : ℕ) × In (lo ∷ hi ∷ t) k c
first_or_later lo hi t c true w e f =
    let b = within_both lo hi c w in
    (0, record { there = omega arith; least = b.0; most = b.1 })
first_or_later lo hi t c false w e f =
    let r = f e in
    (suc r.0, later lo hi t r.0 c r.1)

-- and a member lies in some range: `member` says what it should
pub member_of : (t : List ℕ) (c : ℕ) → member t c ≡ true → (k : ℕ) × In t k c
unfolding member
member_of [] c e = let z : ◌≡◌ {A = ℕ} 0 1 = cc in absurd (omega arith)
member_of (lo ∷ []) c e = let z : ◌≡◌ {A = ℕ} 0 1 = cc in absurd (omega arith)
member_of (lo ∷ hi ∷ t) c e = first_or_later lo hi t c (within lo hi c) refl e (member_of t c)

pub member_in : MemberIn
member_in t c = (member_of t c, λ k i. is_member t k c i)

pub ranges_apart : RangesApart
ranges_apart t e j k l h = (filled 0 t e j (omega arith), apart 0 t e j k l h)
