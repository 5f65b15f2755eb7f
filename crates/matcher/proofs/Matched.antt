-- The list of runs after a match, run by run, and what can open in it.
--     at-matched                              a run of the list after a match
--     left-.., opens-.., opener-..            its fields
--     matched-total                           fewer markers are left
-- Assumes nothing.
use Prim.Native.Nat.{ℕ, zero, suc, ◌+◌, ◌-◌, ◌<◌, ◌≤◌}
use mathlib.Core.Path.{◌≡◌, refl, ◌∙◌, ap}
use mathlib.Core.List.{List, [], ◌∷◌}
use mathlib.Core.Bool.{Bool, true, false}
use native.Mathlib.Omega.{arith}
use lib.Dec.{eqb, ltb}
use lib.ListN.{length}
use borrow.Author.Tests.{eq-eqb, ne_eqb, eqb-true, eqb-false, lt-ltb, le-ltb}
use Rattle.record.specs.Choice.{choose, and}
use Rattle.record.proofs.Bools.{and_right, and_false}
use Rattle.runs.specs.Plain.{Standing, at, opener, taken_by, alter, change, matched}
use Rattle.runs.specs.Chains.{chain_number}
use Rattle.matcher.proofs.Lists.{Level, Shut}

-- a run of an altered list
at_alter : (f : ℕ → Standing → Standing) (j : ℕ) (rs : List Standing) (q : ℕ) → q < length rs → at (alter j f rs) q ≡ f (j + q) (at rs q)
unfolding alter
at_alter f j [] q h = absurd (omega arith)
at_alter f j (r ∷ rs) zero h = let e : j + 0 ≡ j = omega arith in rw e
at_alter f j (r ∷ rs) (suc q) h = let e : j + suc q ≡ j + 1 + q = omega arith in rw e (at_alter f (j + 1) rs q (omega arith))

length_alter : (f : ℕ → Standing → Standing) (j : ℕ) (rs : List Standing) → length (alter j f rs) ≡ length rs
unfolding alter
length_alter f j [] = refl
length_alter f j (r ∷ rs) = ap suc (length_alter f (j + 1) rs)

pub matched_length : (rs : List Standing) (o c : ℕ) → length (matched rs o c) ≡ length rs
unfolding matched
matched_length rs o c = length_alter (change o c (taken_by rs o c)) 0 rs

pub at_matched : (rs : List Standing) (o c q : ℕ) → q < length rs → at (matched rs o c) q ≡ change o c (taken_by rs o c) q (at rs q)
unfolding matched
at_matched rs o c q h = let e : 0 + q ≡ q = omega arith in rw e at (at_alter (change o c (taken_by rs o c)) 0 rs q h)

module _ (rs : List Standing) (o c : ℕ) (lo : o < c) (lc : c < length rs) where
  abbrev ts : List Standing
  ts = matched rs o c

  abbrev k : ℕ
  k = taken_by rs o c

  pub whole_same : (q : ℕ) → q < length rs → (at ts q).whole ≡ (at rs q).whole
  whole_same q h = ap (λ r. r.whole) (at_matched rs o c q h)

  pub marker_same : (q : ℕ) → q < length rs → (at ts q).marker ≡ (at rs q).marker
  marker_same q h = ap (λ r. r.marker) (at_matched rs o c q h)

  pub closes_same : (q : ℕ) → q < length rs → (at ts q).closes ≡ (at rs q).closes
  closes_same q h = ap (λ r. r.closes) (at_matched rs o c q h)

  pub chain_kept : (q : ℕ) → q < length rs → chain_number (at ts q) ≡ chain_number (at rs q)
  unfolding chain_number
  chain_kept q h = ap (λ r. chain_number r) (at_matched rs o c q h)

  pub left_own : (at ts o).left ≡ (at rs o).left - k
  unfolding choose
  left_own = ap (λ r. r.left) (at_matched rs o c o (omega arith)) ∙ rw (eq-eqb o o refl)

  pub left_closer : (at ts c).left ≡ (at rs c).left - k
  unfolding choose
  left_closer = ap (λ r. r.left) (at_matched rs o c c lc) ∙ rw (ne_eqb c o (λ e. omega arith), eq-eqb c c refl)

  pub left_other : (q : ℕ) → q < length rs → (q ≡ o → ⊥) → (q ≡ c → ⊥) → (at ts q).left ≡ (at rs q).left
  unfolding choose
  left_other q h n m = ap (λ r. r.left) (at_matched rs o c q h) ∙ rw (ne_eqb q o n, ne_eqb q c m)

  pub opens_between : (q : ℕ) → o < q → q < c → (at ts q).opens ≡ false
  unfolding choose and
  opens_between q a b = ap (λ r. r.opens) (at_matched rs o c q (omega arith)) ∙ rw (lt-ltb o q a, lt-ltb q c b)

  pub opens_before : (q : ℕ) → q ≤ o → (at ts q).opens ≡ (at rs q).opens
  unfolding choose and
  opens_before q a = ap (λ r. r.opens) (at_matched rs o c q (omega arith)) ∙ rw (le-ltb o q a)

  pub opens_after : (q : ℕ) → c ≤ q → q < length rs → (at ts q).opens ≡ (at rs q).opens
  unfolding choose and
  opens_after q a h = ap (λ r. r.opens) (at_matched rs o c q h) ∙ rw (lt-ltb o q (omega arith), le-ltb q c a)

  -- no run has more markers, and what is no opener or closer of the match has as many
  pub left_le : (q : ℕ) → q < length rs → (at ts q).left ≤ (at rs q).left
  left_le q h = go (eqb q o) refl (eqb q c) refl
    where
      go : (x : Bool) → eqb q o ≡ x → (y : Bool) → eqb q c ≡ y → (at ts q).left ≤ (at rs q).left
      go true e y f = let z : q ≡ o = eqb-true q o e in rw z (omega (arith, left_own))
      go false e true f = let z : q ≡ c = eqb-true q c f in rw z (omega (arith, left_closer))
      go false e false f = omega (arith, left_other q h (eqb-false q o e) (eqb-false q c f))

  -- what can open then
  pub opener_before : (q : ℕ) → q < o → opener (at ts q) ≡ opener (at rs q)
  unfolding opener
  opener_before q a = simp (left_other q (omega arith) (λ e. omega arith) (λ e. omega arith), opens_before q (omega arith))

  pub opener_between : (q : ℕ) → o < q → q < c → opener (at ts q) ≡ false
  unfolding opener
  opener_between q a b = and_false (ltb 0 (at ts q).left) (at ts q).opens (opens_between q a b)

  pub opener_gone : (at rs o).left ≡ k → opener (at ts o) ≡ false
  unfolding opener and
  opener_gone e = let z : (at ts o).left ≡ 0 = left_own ∙ let y : (at rs o).left - k ≡ 0 = omega arith in y in rw z

  pub opener_stays : opener (at rs o) ≡ true → k < (at rs o).left → opener (at ts o) ≡ opener (at rs o)
  unfolding opener and
  opener_stays e h =
      let z : 0 < (at ts o).left = omega (arith, left_own) in
      let y : (at rs o).opens ≡ true = and_right (ltb 0 (at rs o).left) (at rs o).opens e in
      rw (lt-ltb 0 (at ts o).left z, lt-ltb 0 (at rs o).left (omega arith), opens_before o (omega arith))

  pub level_low : Level rs ts o
  level_low = record { opens = opener_before; chain = λ j h. chain_kept j (omega arith) }

  pub level_own : opener (at rs o) ≡ true → k < (at rs o).left → Level rs ts (o + 1)
  level_own e h = record { opens = opens; chain = λ j l. chain_kept j (omega arith) }
    where
      opens : (j : ℕ) → j < o + 1 → opener (at ts j) ≡ opener (at rs j)
      opens j l = go (eqb j o) refl
        where
          go : (z : Bool) → eqb j o ≡ z → opener (at ts j) ≡ opener (at rs j)
          go true x = let y : j ≡ o = eqb-true j o x in rw y (opener_stays e h)
          go false x = let y : j ≡ o → ⊥ = eqb-false j o x in opener_before j (omega arith)

  pub shut_between : Shut ts (o + 1) c
  shut_between j a b = opener_between j (omega arith) b

  pub shut_own : (at rs o).left ≡ k → Shut ts o c
  shut_own e j a b = go (eqb j o) refl
    where
      go : (z : Bool) → eqb j o ≡ z → opener (at ts j) ≡ false
      go true x = let y : j ≡ o = eqb-true j o x in rw y (opener_gone e)
      go false x = let y : j ≡ o → ⊥ = eqb-false j o x in opener_between j (omega arith) b
