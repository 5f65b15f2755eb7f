-- Laws of one match: each field of each run after it, and the sums over groups when one is added.
-- Assumes nothing.
use Prim.Native.Nat.{ℕ, zero, suc, ◌+◌, ◌-◌, ◌≤◌, ◌<◌}
use mathlib.Core.Path.{◌≡◌, refl, sym, ap, ◌∙◌}
use mathlib.Core.Bool.{Bool, true, false}
use mathlib.Core.List.{List, [], ◌∷◌, ◌++◌}
use mathlib.Core.Logic.{◌⊎◌, inl, inr}
use native.Mathlib.Omega.{arith}
use lib.Dec.{eqb, ltb, leb}
use lib.ListN.{length, take, drop, take-append-drop, get_or-eq_default}
use lib.Seq.{take-suc, take-take}
use borrow.Author.Tests.{ltb-true, ltb-false, leb-true, eq-eqb, ne_eqb, eqb-true, eqb-false, lt-ltb}
use Rattle.record.specs.Choice.{choose, and}
use Rattle.record.proofs.Bools.{and_left, and_right}
use Rattle.runs.specs.Plain.{Standing, Group, group, group_at, nowhere, at, amount, alter, change, matched, taken_by}
use Rattle.runs.specs.Pieces.{closed, opened}

-- whether a number is below another
pub below : (a b : ℕ) → (a < b) ⊎ (b ≤ a)
below a b = go (ltb a b) refl
  where
    go : (z : Bool) → ltb a b ≡ z → (a < b) ⊎ (b ≤ a)
    go true e = inl (ltb-true a b e)
    go false e = inr (ltb-false a b e)

-- whether two numbers are one
pub same : (a b : ℕ) → (a ≡ b) ⊎ (a ≡ b → ⊥)
same a b = go (eqb a b) refl
  where
    go : (z : Bool) → eqb a b ≡ z → (a ≡ b) ⊎ (a ≡ b → ⊥)
    go true e = inl (eqb-true a b e)
    go false e = inr (eqb-false a b e)

length_alter : (j : ℕ) (f : ℕ → Standing → Standing) (rs : List Standing) → length (alter j f rs) ≡ length rs
unfolding alter
length_alter j f [] = refl
length_alter j f (r ∷ rs) = ap suc (length_alter (j + 1) f rs)

at_alter : (j : ℕ) (f : ℕ → Standing → Standing) (rs : List Standing) (q : ℕ) → q < length rs → at (alter j f rs) q ≡ f (j + q) (at rs q)
unfolding alter
at_alter j f [] q h = absurd (omega arith)
at_alter j f (r ∷ rs) zero h = let e : j + 0 ≡ j = omega arith in rw e
at_alter j f (r ∷ rs) (suc q) h = let e : j + suc q ≡ j + 1 + q = omega arith in rw e (at_alter (j + 1) f rs q (omega arith))

pub length_matched : (rs : List Standing) (o c : ℕ) → length (matched rs o c) ≡ length rs
unfolding matched
length_matched rs o c = length_alter 0 (change o c (taken_by rs o c)) rs

pub at_matched : (rs : List Standing) (o c q : ℕ) → q < length rs → at (matched rs o c) q ≡ change o c (taken_by rs o c) q (at rs q)
unfolding matched
at_matched rs o c q h = let e : 0 + q ≡ q = omega arith in rw e at (at_alter 0 (change o c (taken_by rs o c)) rs q h)

pub beyond : (rs : List Standing) (q : ℕ) → length rs ≤ q → at rs q ≡ nowhere
beyond rs q h = get_or-eq_default rs nowhere h

-- a field that a match leaves as it is
pub kept : {A : Type 0} (field : Standing → A) (rs : List Standing) (o c q : ℕ) → ((r : Standing) → field (change o c (taken_by rs o c) q r) ≡ field r) →
    field (at (matched rs o c) q) ≡ field (at rs q)
kept {A} field rs o c q k = go (below q (length rs))
  where
    go : (q < length rs) ⊎ (length rs ≤ q) → field (at (matched rs o c) q) ≡ field (at rs q)
    go (inl h) = ap field (at_matched rs o c q h) ∙ k (at rs q)
    go (inr h) = ap field (beyond (matched rs o c) q (omega (arith, length_matched rs o c))) ∙ ap field (sym (beyond rs q h))

-- how much a match takes: not more than there is
pub amount_most : (a b : ℕ) → 0 < a → 0 < b → (0 < amount a b) × (amount a b ≤ 2) × (amount a b ≤ a) × (amount a b ≤ b)
unfolding amount choose
amount_most a b h k = go (and (leb 2 a) (leb 2 b)) refl
  where
    go : (z : Bool) → and (leb 2 a) (leb 2 b) ≡ z → (0 < amount a b) × (amount a b ≤ 2) × (amount a b ≤ a) × (amount a b ≤ b)
    go true e =
        let x = leb-true 2 a (and_left _ _ e) in
        let y = leb-true 2 b (and_right _ _ e) in
        rw e ((omega arith, omega arith, x, y))
    go false e = rw e ((omega arith, omega arith, omega arith, omega arith))

module _ (rs : List Standing) (o c : ℕ) (lo : o < length rs) (lc : c < length rs) where
  -- what a match leaves of its opener, its closer and any other run
  pub opener_left : (q : ℕ) → q ≡ o → (at (matched rs o c) q).left ≡ (at rs q).left - taken_by rs o c
  unfolding choose
  opener_left q e = rw (at_matched rs o c q (omega arith), eq-eqb q o e)

  pub closer_left : (q : ℕ) → q ≡ c → (at (matched rs o c) q).left ≡ (at rs q).left - taken_by rs o c
  unfolding choose
  closer_left q e = go (eqb q o) refl
    where
      go : (z : Bool) → eqb q o ≡ z → (at (matched rs o c) q).left ≡ (at rs q).left - taken_by rs o c
      go true d = rw (at_matched rs o c q (omega arith), d)
      go false d = rw (at_matched rs o c q (omega arith), d, eq-eqb q c e)

  pub other_left : (q : ℕ) → (q ≡ o → ⊥) → (q ≡ c → ⊥) → (at (matched rs o c) q).left ≡ (at rs q).left
  unfolding choose
  other_left q x y = kept (λ (r : Standing). r.left) rs o c q (λ r. rw (ne_eqb q o x, ne_eqb q c y))

-- runs between lose open
pub between_shut : (rs : List Standing) (o c q : ℕ) → o < q → q < c → q < length rs → (at (matched rs o c) q).opens ≡ false
unfolding choose and
between_shut rs o c q x y h = rw (at_matched rs o c q h, lt-ltb o q x, lt-ltb q c y)

-- no run gains open
pub open_was : (rs : List Standing) (o c q : ℕ) → (at (matched rs o c) q).opens ≡ true → (at rs q).opens ≡ true
unfolding choose
open_was rs o c q e = go (below q (length rs)) (and (ltb o q) (ltb q c)) refl
  where
    go : (q < length rs) ⊎ (length rs ≤ q) → (z : Bool) → and (ltb o q) (ltb q c) ≡ z → (at rs q).opens ≡ true
    go (inl h) true d = let x : false ≡ true = rw (at_matched rs o c q h, d) at e in let z : ◌≡◌ {A = ℕ} 0 1 = cc in absurd (omega arith)
    go (inl h) false d = rw (at_matched rs o c q h, d) at e
    go (inr h) z d = let x = beyond (matched rs o c) q (omega (arith, length_matched rs o c)) in let y = beyond rs q h in cc

-- one group more
pub closed_append : (gs hs : List Group) (q : ℕ) → closed (gs ++ hs) q ≡ closed gs q + closed hs q
unfolding closed choose
closed_append [] hs q = omega arith
closed_append (g ∷ gs) hs q = go (closed_append gs hs q) (eqb g.closer q) refl
  where
    go : closed (gs ++ hs) q ≡ closed gs q + closed hs q → (z : Bool) → eqb g.closer q ≡ z → closed ((g ∷ gs) ++ hs) q ≡ closed (g ∷ gs) q + closed hs q
    go ih true e = rw e (omega arith)
    go ih false e = rw e ih

pub opened_append : (gs hs : List Group) (q : ℕ) → opened (gs ++ hs) q ≡ opened gs q + opened hs q
unfolding opened choose
opened_append [] hs q = omega arith
opened_append (g ∷ gs) hs q = go (opened_append gs hs q) (eqb g.opener q) refl
  where
    go : opened (gs ++ hs) q ≡ opened gs q + opened hs q → (z : Bool) → eqb g.opener q ≡ z → opened ((g ∷ gs) ++ hs) q ≡ opened (g ∷ gs) q + opened hs q
    go ih true e = rw e (omega arith)
    go ih false e = rw e ih

-- what one group adds
pub closed_own : (g : Group) (q : ℕ) → g.closer ≡ q → closed (g ∷ []) q ≡ g.taken
unfolding closed choose
closed_own g q e = rw (eq-eqb _ _ e) (omega arith)

pub closed_other : (g : Group) (q : ℕ) → (g.closer ≡ q → ⊥) → closed (g ∷ []) q ≡ 0
unfolding closed choose
closed_other g q e = rw (ne_eqb _ _ e)

pub opened_own : (g : Group) (q : ℕ) → g.opener ≡ q → opened (g ∷ []) q ≡ g.taken
unfolding opened choose
opened_own g q e = rw (eq-eqb _ _ e) (omega arith)

pub opened_other : (g : Group) (q : ℕ) → (g.opener ≡ q → ⊥) → opened (g ∷ []) q ≡ 0
unfolding opened choose
opened_other g q e = rw (ne_eqb _ _ e)

-- the first groups took not more than all
pub opened_first : (gs : List Group) (a b q : ℕ) → a ≤ b → opened (take a gs) q ≤ opened (take b gs) q
opened_first gs a b q h =
    let e : take a (take b gs) ≡ take a gs = take-take a b gs h in
    let f = ap (λ (l : List Group). opened l q) (take-append-drop a (take b gs)) in
    let g = ap (λ (l : List Group). opened l q) e in
    omega (arith, opened_append (take a (take b gs)) (drop a (take b gs)) q)

pub closed_first : (gs : List Group) (a b q : ℕ) → a ≤ b → closed (take a gs) q ≤ closed (take b gs) q
closed_first gs a b q h =
    let e : take a (take b gs) ≡ take a gs = take-take a b gs h in
    let f = ap (λ (l : List Group). closed l q) (take-append-drop a (take b gs)) in
    let g = ap (λ (l : List Group). closed l q) e in
    omega (arith, closed_append (take a (take b gs)) (drop a (take b gs)) q)

pub opened_most : (gs : List Group) (a q : ℕ) → opened (take a gs) q ≤ opened gs q
opened_most gs a q =
    let f = ap (λ (l : List Group). opened l q) (take-append-drop a gs) in
    omega (arith, opened_append (take a gs) (drop a gs) q)

pub closed_most : (gs : List Group) (a q : ℕ) → closed (take a gs) q ≤ closed gs q
closed_most gs a q =
    let f = ap (λ (l : List Group). closed l q) (take-append-drop a gs) in
    omega (arith, closed_append (take a gs) (drop a gs) q)

-- a group more
pub opened_suc : (gs : List Group) (i : ℕ) → i < length gs → opened (take (suc i) gs) (group_at gs i).opener ≡ opened (take i gs) (group_at gs i).opener + (group_at gs i).taken
opened_suc gs i h = rw (take-suc gs i (group 0 0 0) h, opened_append, opened_own (group_at gs i) (group_at gs i).opener refl)

pub closed_suc : (gs : List Group) (i : ℕ) → i < length gs → closed (take (suc i) gs) (group_at gs i).closer ≡ closed (take i gs) (group_at gs i).closer + (group_at gs i).taken
closed_suc gs i h = rw (take-suc gs i (group 0 0 0) h, closed_append, closed_own (group_at gs i) (group_at gs i).closer refl)
