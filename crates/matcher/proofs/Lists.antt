-- Laws of what the chains list, said of a list of runs alone: the latest run on a chain below a number, and how many can open below it.
--     on-opener, on_chain, on-yes, on-not     when a run is on a chain
--     latest-more, latest-le, latest-same     the latest one further on, its bound, and that it goes by what is on the chain
--     openers-more, openers-same ..           the same of the count
--     latest-named, place                     which run is the latest, and which one has so many that can open before it
--     candidate-on                            the plain rule's candidates are the runs on the closer's chain
-- Assumes nothing.
use Prim.Native.Nat.{ℕ, zero, suc, ◌+◌, ◌-◌, ◌<◌, ◌≤◌}
use mathlib.Core.Path.{◌≡◌, refl, ◌∙◌}
use mathlib.Core.List.{List}
use mathlib.Core.Bool.{Bool, true, false}
use native.Mathlib.Omega.{arith}
use native.Mathlib.Numerals.{add-one}
use lib.Dec.{eqb, ltb}
use borrow.Author.Tests.{eq-eqb, eqb-true, ltb-true, ltb-false}
use Rattle.record.specs.Choice.{choose}
use Rattle.record.proofs.Bools.{and_left, and_right, and_both, clash}
use Rattle.runs.specs.Runs.{is_marker}
use Rattle.runs.specs.Plain.{Standing, at, opener, candidate}
use Rattle.runs.specs.Chains.{chain_number}
use Rattle.runs.proofs.OneChain.{same_chain}
use Rattle.matcher.specs.Chains.{on, latest, openers}

module _ (rs : List Standing) (k j : ℕ) where
  pub on_opener : on rs k j ≡ true → opener (at rs j) ≡ true
  unfolding on
  on_opener e = and_left (opener (at rs j)) (eqb (chain_number (at rs j)) k) e

  pub on_chain : on rs k j ≡ true → chain_number (at rs j) ≡ k
  unfolding on
  on_chain e = eqb-true (chain_number (at rs j)) k (and_right (opener (at rs j)) (eqb (chain_number (at rs j)) k) e)

  pub on_yes : opener (at rs j) ≡ true → chain_number (at rs j) ≡ k → on rs k j ≡ true
  unfolding on
  on_yes o e = and_both (opener (at rs j)) (eqb (chain_number (at rs j)) k) o (eq-eqb (chain_number (at rs j)) k e)

  pub on_not : (opener (at rs j) ≡ true → chain_number (at rs j) ≡ k → ⊥) → on rs k j ≡ false
  on_not h = go (on rs k j) refl
    where
      go : (z : Bool) → on rs k j ≡ z → on rs k j ≡ false
      go false e = e
      go true e = absurd (h (on_opener e) (on_chain e))

  pub on_shut : opener (at rs j) ≡ false → on rs k j ≡ false
  on_shut e = on_not (λ o x. clash o e)

-- one further on
pub latest_more : (rs : List Standing) (k i : ℕ) → latest rs k (i + 1) ≡ choose (on rs k i) (i + 1) (latest rs k i)
unfolding latest
latest_more rs k i = let e : i + 1 ≡ suc i = omega arith in rw e (rw (add-one i))

pub openers_more : (rs : List Standing) (i : ℕ) → openers rs (i + 1) ≡ choose (opener (at rs i)) (openers rs i + 1) (openers rs i)
unfolding openers
openers_more rs i = rw (add-one i)

module _ (rs : List Standing) (i : ℕ) where
  pub latest_on : (k : ℕ) → on rs k i ≡ true → latest rs k (i + 1) ≡ i + 1
  unfolding choose
  latest_on k e = rw (latest_more, e)

  pub latest_off : (k : ℕ) → on rs k i ≡ false → latest rs k (i + 1) ≡ latest rs k i
  unfolding choose
  latest_off k e = rw (latest_more, e)

  pub openers_on : opener (at rs i) ≡ true → openers rs (i + 1) ≡ openers rs i + 1
  unfolding choose
  openers_on e = rw (openers_more, e)

  pub openers_off : opener (at rs i) ≡ false → openers rs (i + 1) ≡ openers rs i
  unfolding choose
  openers_off e = rw (openers_more, e)

-- the latest run below q is below q
pub latest_le : (rs : List Standing) (k q : ℕ) → latest rs k q ≤ q
unfolding latest choose
latest_le rs k zero = omega arith
latest_le rs k (suc j) = go (on rs k j) (latest_le rs k j)
  where
    go : (z : Bool) → latest rs k j ≤ j → choose z (j + 1) (latest rs k j) ≤ suc j
    go true h = omega arith
    go false h = omega arith

pub openers_le : (rs : List Standing) (q : ℕ) → openers rs q ≤ q
unfolding openers choose
openers_le rs zero = omega arith
openers_le rs (suc j) = go (opener (at rs j)) (openers_le rs j)
  where
    go : (z : Bool) → openers rs j ≤ j → choose z (openers rs j + 1) (openers rs j) ≤ suc j
    go true h = omega arith
    go false h = omega arith

-- more runs, no fewer openers; past an opener, more
pub openers_up : (rs : List Standing) (q m : ℕ) → openers rs q ≤ openers rs (q + m)
openers_up rs q zero = let e : q + 0 ≡ q = omega arith in rw e (omega arith)
openers_up rs q (suc m) = let e : q + suc m ≡ q + m + 1 = omega arith in rw e (go (opener (at rs (q + m))) refl (openers_up rs q m))
  where
    go : (z : Bool) → opener (at rs (q + m)) ≡ z → openers rs q ≤ openers rs (q + m) → openers rs q ≤ openers rs (q + m + 1)
    go true o h = omega (arith, openers_on rs (q + m) o)
    go false o h = omega (arith, openers_off rs (q + m) o)

pub openers_past : (rs : List Standing) (j i : ℕ) → j < i → opener (at rs j) ≡ true → openers rs j < openers rs i
openers_past rs j i h o =
    let e : j + 1 + (i - (j + 1)) ≡ i = omega arith in
    let u : openers rs (j + 1) ≤ openers rs i = rw e at (openers_up rs (j + 1) (i - (j + 1))) in
    omega (arith, openers_on rs j o)

-- the latest run below q, if there is one
pub record Named (rs : List Standing) (k q p : ℕ) : Type 0 where
  pub run : ℕ
  pub below : run < q
  pub there : on rs k run ≡ true
  pub is : run + 1 ≡ p

pub latest_named : (rs : List Standing) (k q p : ℕ) → latest rs k q ≡ p → 0 < p → Named rs k q p
unfolding latest choose
latest_named rs k zero p e h = absurd (omega arith)
latest_named rs k (suc j) p e h = go (latest_named rs k j p) (on rs k j) refl
  where
    go : (latest rs k j ≡ p → 0 < p → Named rs k j p) → (z : Bool) → on rs k j ≡ z → Named rs k (suc j) p
    go ih true o = let f : j + 1 ≡ p = rw o at e in record { run = j; below = omega arith; there = o; is = f }
    go ih false o = let f : latest rs k j ≡ p = rw o at e in let a = ih f h in record { run = a.run; below = omega (arith, a.below); there = a.there; is = a.is }

-- which run stands at a height of the open runs
pub record Place (rs : List Standing) (i x : ℕ) : Type 0 where
  pub run : ℕ
  pub below : run < i
  pub opens : opener (at rs run) ≡ true
  pub count : openers rs run ≡ x

pub place : (rs : List Standing) (i x : ℕ) → x < openers rs i → Place rs i x
unfolding openers choose
place rs zero x h = absurd (omega arith)
place rs (suc i) x h = go (place rs i x) (opener (at rs i)) refl (ltb x (openers rs i)) refl
  where
    wider : Place rs i x → Place rs (suc i) x
    wider p = record { run = p.run; below = omega (arith, p.below); opens = p.opens; count = p.count }

    go : (x < openers rs i → Place rs i x) → (y : Bool) → opener (at rs i) ≡ y → (z : Bool) → ltb x (openers rs i) ≡ z → Place rs (suc i) x
    go ih y o true l = wider (ih (ltb-true x (openers rs i) l))
    go ih false o false l = let f : x < openers rs i = rw o at h in wider (ih f)
    go ih true o false l =
        let f : x < openers rs i + 1 = rw o at h in
        let g : openers rs i ≤ x = ltb-false x (openers rs i) l in
        record { run = i; below = omega arith; opens = o; count = omega arith }

-- both go by what can open, and where, below the number
module _ (rs ts : List Standing) where
  pub record Level (q : ℕ) : Type 0 where
    pub opens : (j : ℕ) → j < q → opener (at ts j) ≡ opener (at rs j)
    pub chain : (j : ℕ) → j < q → chain_number (at ts j) ≡ chain_number (at rs j)

pub level_less : (rs ts : List Standing) (q p : ℕ) → p ≤ q → Level rs ts q → Level rs ts p
level_less rs ts q p h l = record { opens = λ j b. l.opens j (omega arith); chain = λ j b. l.chain j (omega arith) }

pub latest_level : (rs ts : List Standing) (k q : ℕ) → Level rs ts q → latest ts k q ≡ latest rs k q
unfolding latest on
latest_level rs ts k zero l = refl
latest_level rs ts k (suc j) l =
    let ih : latest ts k j ≡ latest rs k j = latest_level rs ts k j (level_less rs ts (suc j) j (omega arith) l) in
    simp (l.opens j (omega arith), l.chain j (omega arith), ih)

pub openers_level : (rs ts : List Standing) (q : ℕ) → Level rs ts q → openers ts q ≡ openers rs q
unfolding openers
openers_level rs ts zero l = refl
openers_level rs ts (suc j) l =
    let ih : openers ts j ≡ openers rs j = openers_level rs ts j (level_less rs ts (suc j) j (omega arith) l) in
    simp (l.opens j (omega arith), ih)

-- runs that cannot open add nothing
abbrev pub Shut : List Standing → ℕ → ℕ → Type 0
Shut rs a b = (j : ℕ) → a ≤ j → j < b → opener (at rs j) ≡ false

pub latest_shut : (rs : List Standing) (k a m : ℕ) → Shut rs a (a + m) → latest rs k (a + m) ≡ latest rs k a
latest_shut rs k a zero h = let e : a + 0 ≡ a = omega arith in rw e
latest_shut rs k a (suc m) h =
    let e : a + suc m ≡ a + m + 1 = omega arith in
    rw e (latest_off rs (a + m) k (on_shut rs k (a + m) (h (a + m) (omega arith) (omega arith))) ∙ latest_shut rs k a m (λ j x y. h j x (omega arith)))

pub openers_shut : (rs : List Standing) (a m : ℕ) → Shut rs a (a + m) → openers rs (a + m) ≡ openers rs a
openers_shut rs a zero h = let e : a + 0 ≡ a = omega arith in rw e
openers_shut rs a (suc m) h =
    let e : a + suc m ≡ a + m + 1 = omega arith in
    rw e (openers_off rs (a + m) (h (a + m) (omega arith) (omega arith)) ∙ openers_shut rs a m (λ j x y. h j x (omega arith)))

-- the plain rule's candidates for a closer are the runs on its chain
pub candidate_on : (rs : List Standing) (j i : ℕ) → is_marker (at rs j).marker ≡ true → is_marker (at rs i).marker ≡ true
    → candidate (at rs j) (at rs i) ≡ on rs (chain_number (at rs i)) j
unfolding candidate on
candidate_on rs j i kj ki = rw (same_chain (at rs j) (at rs i) kj ki)
