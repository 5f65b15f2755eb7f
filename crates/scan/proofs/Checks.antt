-- The check of a line, case by case, and what a line that passes it tells.
-- Assumes nothing.
use mathlib.Core.Path.{◌≡◌, refl, ap, ◌∙◌}
use mathlib.Core.Bool.{Bool, true, false, not, ◌||◌}
use mathlib.Core.List.{List}
use Prim.Native.Nat.{ℕ, suc, ◌+◌, ◌*◌, ◌-◌, ◌≤◌, ◌<◌}
use native.Mathlib.Numerals.{add-one}
use native.Mathlib.Omega.{arith}
use lib.ListN.{length, get_or, take, drop, length-take, drop_of_length-le}
use lib.Seq.{take-length}
use lib.Dec.{ltb, eqb}
use borrow.Author.Tests.{lt-ltb, le-ltb, ltb-false, eqb-true, eqb-false, not-true, not-false}
use Rattle.std.specs.Prelude.{Result, Ok, Err}
use Rattle.record.specs.Choice.{choose}
use Rattle.record.specs.Check.{first_return}
use Rattle.record.specs.Stretch.{is_not, Passed}
use Rattle.record.specs.declared.check.Refusal.{Refusal}
use Rattle.record.proofs.Stretch.{passed_as}
use Rattle.record.proofs.Bools.{clash as bools-clash}
use Rattle.scan.specs.Run.{leading}
use Rattle.scan.specs.Line.{end_of, EndsBeforeFeed, LineEnds, line_of, refusal, checked_line, reading, no_feed, Checked}
use Rattle.scan.proofs.Leading.{run_on, run_ends, leading_short, in_run, run_there, front_passed}
use Rattle.scan.proofs.ByteKinds.{not_feed}

-- where no byte before is a line feed and the next one, if there is one, is, the line ends
pub feed_passed : {s : List ℕ} {r : ℕ} → Passed (is_not 10) s 0 (length s) 1 r → (r ≡ end_of s) × (r ≤ length s)
unfolding end_of
feed_passed {s} p = (front_passed (omega arith) (passed_as not_feed p) ∙ ap (leading no_feed) (take-length s), p.high)

-- where a line ends, by places
not_ten : (b : ℕ) → no_feed b ≡ true → b ≡ 10 → ⊥
unfolding no_feed
not_ten b e q = eqb-false b 10 (not-true (eqb b 10) e) q

a_ten : (b : ℕ) → no_feed b ≡ false → b ≡ 10
unfolding no_feed
a_ten b e = eqb-true b 10 (not-false (eqb b 10) e)

ends_before : (s : List ℕ) → EndsBeforeFeed s (end_of s)
unfolding end_of
ends_before s =
    record {
      within = leading_short no_feed s;
      before = λ p h. not_ten (get_or s p 0) (in_run no_feed s p h);
      there = λ h. a_ten (get_or s (leading no_feed s) 0) (run_there no_feed s h);
    }

pub line_ends : LineEnds
unfolding line_of
line_ends s =
    let w = (ends_before s).within in
    let e : end_of s ≡ length (take (end_of s) s) = omega (arith, length-take (end_of s) s) in
    (rw (← e) (ends_before s), ap (λ (n : ℕ). take n s) e, e)

-- number 2: one of the two is over its limit; neither is
neither_true : (y z : Bool) → (y || z) ≡ false → (y ≡ false) × (z ≡ false)
neither_true true z e = absurd (bools-clash refl e)
neither_true false z e = (refl, e)

module _ (s : List ℕ) (options column : ℕ) where
  pub either_over : (ltb 63 options || ltb 16384 column) ≡ true → Err (refusal 2 0) ≡ checked_line s options column
  unfolding checked_line choose
  either_over h = go (ltb 63 options) refl (ltb 16384 column) refl h
    where
      go : (y : Bool) → ltb 63 options ≡ y → (z : Bool) → ltb 16384 column ≡ z → (y || z) ≡ true → Err (refusal 2 0) ≡ checked_line s options column
      go true p z q e = rw p
      go false p true q e = rw (p, q)
      go false p false q e = absurd (bools-clash e refl)

  module _ (e : (ltb 63 options || ltb 16384 column) ≡ false) where
    o : ltb 63 options ≡ false
    o = (neither_true (ltb 63 options) (ltb 16384 column) e).0

    c : ltb 16384 column ≡ false
    c = (neither_true (ltb 63 options) (ltb 16384 column) e).1

    pub too_long : 16384 < length s → Err (refusal 3 16384) ≡ checked_line s options column
    unfolding checked_line choose
    too_long h = rw (o, c, lt-ltb _ _ h)

    module _ (m : length s ≤ 16384) (r : ℕ) (k : r ≡ first_return (length s) s 0) where
      pub returned : r < length s → Err (refusal 4 r) ≡ checked_line s options column
      unfolding checked_line choose
      returned h = rw (o, c, le-ltb _ _ m, ← k, lt-ltb _ _ h)

      pub passed : length s ≤ r → (n : ℕ) → n ≡ end_of s → Ok n ≡ checked_line s options column
      unfolding checked_line choose
      passed h n q = rw (o, c, le-ltb _ _ m, ← k, le-ltb _ _ h, q)

    -- then options and column play no part
    pub neither_over : checked_line s 0 0 ≡ checked_line s options column
    unfolding checked_line choose
    neither_over = rw (o, c)

-- the invariant of the loop from the last byte to the first: of what lies from a place on, where its first line feed and its first carriage return stand
pub record Looking (s : List ℕ) (n feed back : ℕ) : Type 0 where
  pub low : n ≤ length s
  pub feeds : feed ≡ n + leading no_feed (drop n s)
  pub backs : back ≡ first_return (length s - n) s n

pub look_none : (s : List ℕ) → Looking s (length s) (length s) (length s)
unfolding leading first_return
look_none s =
    let z : length s - length s ≡ 0 = omega arith in
    record { low = omega arith; feeds = rw (drop_of_length-le s {i = length s} (omega arith)) (omega arith); backs = rw z }

module _ {s : List ℕ} {n feed back : ℕ} (i : Looking s n feed back) (m : ℕ) (h : n ≡ m + 1) where
  inside : m < length s
  inside = let l = i.low in omega arith

  feeds_more : choose (eqb (get_or s m 0) 10) m feed ≡ m + leading no_feed (drop m s)
  unfolding choose no_feed
  feeds_more = go (eqb (get_or s m 0) 10) refl
    where
      go : (z : Bool) → eqb (get_or s m 0) 10 ≡ z → choose z m feed ≡ m + leading no_feed (drop m s)
      go true e = omega (arith, run_ends no_feed s m inside (ap not e))
      go false e =
          let d : leading no_feed (drop n s) ≡ leading no_feed (drop (suc m) s) = ap (λ (k : ℕ). leading no_feed (drop k s)) (h ∙ add-one m) in
          omega (arith, d, i.feeds, run_on no_feed s m inside (ap not e))

  backs_more : choose (eqb (get_or s m 0) 13) m back ≡ first_return (length s - m) s m
  unfolding first_return
  backs_more =
      let l = inside in
      let z : length s - m ≡ suc (length s - n) = omega arith in
      rw z (ap (choose (eqb (get_or s m 0) 13) m) (i.backs ∙ ap (first_return (length s - n) s) h))

  pub look_more : {x y : ℕ} → x ≡ choose (eqb (get_or s m 0) 10) m feed → y ≡ choose (eqb (get_or s m 0) 13) m back → Looking s m x y
  look_more e r = let l = inside in record { low = omega arith; feeds = e ∙ feeds_more; backs = r ∙ backs_more }

module _ {s : List ℕ} {n feed back : ℕ} (i : Looking s n feed back) (all : n ≡ 0) (short : length s ≤ 16384) where
  first_back : back ≡ first_return (length s) s 0
  first_back = let z : length s - n ≡ length s = omega arith in rw (z, all) at i.backs

  first_feed : feed ≡ end_of s
  unfolding end_of
  first_feed = let q : feed ≡ 0 + leading no_feed s = rw all at i.feeds in omega arith

  pub return_seen : back < length s → Err (refusal 4 back) ≡ checked_line s 0 0
  return_seen l = returned s 0 0 refl short back first_back l

  pub none_seen : length s ≤ back → Ok feed ≡ checked_line s 0 0
  none_seen l = passed s 0 0 refl short back first_back l feed first_feed

-- a reader's answer after a refusal
pub refused_by : {A : Type 0} (s : List ℕ) (options column : ℕ) (bad : Refusal → A) (found : A) (r : Refusal) → Err r ≡ checked_line s options column →
    bad r ≡ reading (checked_line s options column) bad found
unfolding reading
refused_by s options column bad found r q = rw (← q)

-- what it tells
pub record Lined (s : List ℕ) (column n : ℕ) : Type 0 where
  pub end : n ≡ end_of s
  pub within : n ≤ length s
  pub short : length s ≤ 16384
  pub near : column ≤ 16384
  pub part : take n s ≡ line_of s

clash : (r : Refusal) (n : ℕ) → ◌≡◌ {A = Checked} (Ok n) (Err r) → ⊥
clash r n q = let z : ◌≡◌ {A = ℕ} 0 1 = cc in omega arith

-- a test that leads to a refusal was not met
past : (b : Bool) (r : Refusal) (x : Checked) (n : ℕ) → Ok n ≡ choose b (Err r) x → b ≡ false
unfolding choose
past true r x n q = absurd (clash r n q)
past false r x n q = refl

beyond : (b : Bool) (r : Refusal) (x : Checked) (n : ℕ) → Ok n ≡ choose b (Err r) x → Ok n ≡ x
unfolding choose
beyond true r x n q = absurd (clash r n q)
beyond false r x n q = q

same_end : (m n : ℕ) → ◌≡◌ {A = Checked} (Ok n) (Ok m) → n ≡ m
same_end m n q = cc

pub lined : (s : List ℕ) (options column n : ℕ) → Ok n ≡ checked_line s options column → Lined s column n
unfolding checked_line line_of end_of
lined s options column n q =
    let t = beyond _ _ _ _ q in
    let u = beyond _ _ _ _ t in
    let near : column ≤ 16384 = ltb-false _ _ (past _ _ _ _ t) in
    let short : length s ≤ 16384 = ltb-false _ _ (past _ _ _ _ u) in
    let e : n ≡ end_of s = same_end _ _ (beyond _ _ _ _ (beyond _ _ _ _ u)) in
    record { end = e; within = omega (arith, leading_short no_feed s); short = short; near = near; part = ap (λ (k : ℕ). take k s) e }

-- what is found on the line, as the part of the slice before its end
pub found_by : {A : Type 0} (s : List ℕ) (options column : ℕ) (bad : Refusal → A) (found : List ℕ → A) (n : ℕ) (r : A) →
    Ok n ≡ checked_line s options column → r ≡ found (take n s) → r ≡ reading (checked_line s options column) bad (found (line_of s))
unfolding reading
found_by s options column bad found n r q e = rw (← q) (e ∙ ap found (lined s options column n q).part)

-- what is found on it, as a reader answers it
pub found_as : {A : Type 0} (s : List ℕ) (options column : ℕ) (found : List ℕ → A) (n : ℕ) (r : A) →
    Ok n ≡ checked_line s options column → r ≡ found (take n s) → ◌≡◌ {A = Result A Refusal} (Ok r) (reading (checked_line s options column) Err (Ok (found (line_of s))))
found_as {A} s options column found n r q e =
    let same : ◌≡◌ {A = Result A Refusal} (Ok r) (Ok (found (take n s))) = rw e in
    found_by s options column Err (λ (l : List ℕ). Ok (found l)) n (Ok r) q same

-- the line fits into the columns that a reader counts
pub lined_fits : (s : List ℕ) (column n : ℕ) → Lined s column n → column + 4 * length (take n s) ≤ 81920
lined_fits s column n l =
    let a = l.near in
    let b = l.short in
    let c = l.within in
    omega (arith, length-take n s)
