-- Two groups never cross. Of run numbers: after a match the runs between do not open any more, so a later opener stands at or before the first
-- group's opener, or at or behind its closer; and closers do not fall. Of bytes: runs stand one behind the other, and the pieces of one run
-- stand as its groups were matched, openings from its end, closings from its start, and together they are not larger than the run.
-- Assumes nothing.
use Prim.Native.Nat.{ℕ, suc, ◌+◌, ◌-◌, ◌≤◌, ◌<◌}
use mathlib.Core.Path.{◌≡◌}
use mathlib.Core.Bool.{true}
use mathlib.Core.List.{List}
use mathlib.Core.Logic.{◌⊎◌, inl, inr}
use native.Mathlib.Omega.{arith}
use lib.ListN.{length, take, length-map}
use Rattle.record.proofs.Bools.{clash}
use Rattle.record.specs.Sound.{sound}
use Rattle.record.specs.declared.event.Event.{Event}
use Rattle.runs.specs.Runs.{Run, runs_of}
use Rattle.runs.specs.Rule.{Rule, Profile}
use Rattle.runs.specs.Plain.{Standing, Group, group_at}
use Rattle.runs.specs.Pieces.{closed, opened, standing, outcome}
use Rattle.groups.specs.Matches.{Matches, begin}
use Rattle.groups.specs.Groups.{Joined}
use Rattle.groups.specs.Places.{run_at}
use Rattle.groups.specs.Spans.{span_from, text_from, text_to, span_to, Ordered, earlier, nested, Apart, before, behind, inside, around, NeverCross}
use Rattle.groups.proofs.Laws.{below, closed_first, opened_first, closed_most, opened_most}
use Rattle.groups.proofs.Groups.{made, shut, early, rising, joined}
use Rattle.groups.proofs.Accounts.{spent_within}
use Rattle.groups.proofs.Matches.{outcome_matched}
use Rattle.groups.proofs.Places.{ends_before}

-- of run numbers
pub ordered : {rule : Rule} {rs₀ : List Standing} {gs : List Group} {rs : List Standing} {c : ℕ} → Matches rule rs₀ gs rs c → (i j : ℕ) →
    i < j → j < length gs → Ordered gs i j
ordered {gs = gs} m i j h l = go (below (group_at gs i).opener (group_at gs j).opener) (below (group_at gs j).opener (group_at gs i).closer)
  where
    go : ((group_at gs i).opener < (group_at gs j).opener) ⊎ ((group_at gs j).opener ≤ (group_at gs i).opener) →
        ((group_at gs j).opener < (group_at gs i).closer) ⊎ ((group_at gs i).closer ≤ (group_at gs j).opener) → Ordered gs i j
    go (inl x) (inl y) =
        let w = made m j l in
        let e = early gs i j h l in
        absurd (clash w.found.opens (shut w.before i (group_at gs j).opener e.1 (rw e.0 x) (rw e.0 y)))
    go (inl x) (inr y) = earlier y
    go (inr x) (inl y) = nested x (rising m i j h l)
    go (inr x) (inr y) = nested x (rising m i j h l)

-- of bytes, for runs that stand one behind the other and are not overspent, and groups that are ordered by run numbers
module _ (rs : List Run) (gs : List Group)
    (fits : (q : ℕ) → closed gs q + opened gs q ≤ (run_at rs q).size)
    (rise : (p q : ℕ) → p < q → q < length rs → (run_at rs p).start + (run_at rs p).size ≤ (run_at rs q).start)
    (in_List : (i : ℕ) → i < length gs → ((group_at gs i).opener < (group_at gs i).closer) × ((group_at gs i).closer < length rs)) where
  -- the closing pieces of a run stand before the opening pieces of it or of a later run
  apart : (a b p q : ℕ) → p ≤ q → q < length rs →
      (run_at rs p).start + closed (take a gs) p ≤ (run_at rs q).start + (run_at rs q).size - opened (take b gs) q
  apart a b p q h l = go (below p q)
    where
      go : (p < q) ⊎ (q ≤ p) → (run_at rs p).start + closed (take a gs) p ≤ (run_at rs q).start + (run_at rs q).size - opened (take b gs) q
      go (inl x) = omega (arith, rise p q x l, closed_most gs a p, opened_most gs b q, fits p, fits q)
      go (inr x) =
          let e : p ≡ q = omega arith in
          rw e (omega (arith, closed_most gs a q, opened_most gs b q, fits q))

  -- what later groups open stands at or before what earlier groups opened, in one run or two
  outward_open : (a b p q : ℕ) → q ≤ p → p < length rs → a ≤ b →
      (run_at rs q).start + (run_at rs q).size - opened (take b gs) q ≤ (run_at rs p).start + (run_at rs p).size - opened (take a gs) p
  outward_open a b p q h l k = go (below q p)
    where
      go : (q < p) ⊎ (p ≤ q) → (run_at rs q).start + (run_at rs q).size - opened (take b gs) q ≤ (run_at rs p).start + (run_at rs p).size - opened (take a gs) p
      go (inl x) = omega (arith, rise q p x l, opened_most gs a p, fits p)
      go (inr x) =
          let e : p ≡ q = omega arith in
          rw e (omega (arith, opened_first gs a b q k))

  -- and what they close at or behind
  outward_close : (a b p q : ℕ) → p ≤ q → q < length rs → a ≤ b → (run_at rs p).start + closed (take a gs) p ≤ (run_at rs q).start + closed (take b gs) q
  outward_close a b p q h l k = go (below p q)
    where
      go : (p < q) ⊎ (q ≤ p) → (run_at rs p).start + closed (take a gs) p ≤ (run_at rs q).start + closed (take b gs) q
      go (inl x) = omega (arith, rise p q x l, closed_most gs a p, fits p)
      go (inr x) =
          let e : p ≡ q = omega arith in
          rw e (omega (arith, closed_first gs a b q k))

  lift : (i j : ℕ) → i < j → j < length gs → Ordered gs i j → Apart rs gs i j
  unfolding span_from text_from text_to span_to
  lift i j h l (earlier x) = before (apart (suc i) (suc j) _ _ x (omega (arith, in_List j l)))
  lift i j h l (nested x y) =
      inside (outward_open (suc i) j _ _ x (omega (arith, in_List i (omega arith))) (omega arith)) (outward_close (suc i) j _ _ y (omega (arith, in_List j l)) (omega arith))

  turned : {i j : ℕ} → Apart rs gs i j → Apart rs gs j i
  turned (before x) = behind x
  turned (behind x) = before x
  turned (inside x y) = around x y
  turned (around x y) = inside x y

  pub lifted : ((i j : ℕ) → i < j → j < length gs → Ordered gs i j) → NeverCross rs gs
  lifted o i j ne hi hj = go (below i j)
    where
      go : (i < j) ⊎ (j ≤ i) → Apart rs gs i j
      go (inl x) = lift i j x hj (o i j x hj)
      go (inr x) =
          let y : j < i = omega arith in
          turned (lift j i y hi (o j i y hi))

  -- the text of a group begins before it ends
  pub text_in_order : (i : ℕ) → i < length gs → text_from rs gs i ≤ text_to rs gs i
  unfolding text_from text_to
  text_in_order i h =
      let x = in_List i h in
      omega (arith, rise (group_at gs i).opener (group_at gs i).closer x.0 x.1)

-- what the groups of a record join
pub outcome_joined : (profile : Profile) (options : ℕ) (doc : List ℕ) (es : List Event) (i : ℕ) → i < length (outcome profile options doc es).groups →
    Joined (begin profile options doc es) (group_at (outcome profile options doc es).groups i)
outcome_joined profile options doc es i h = joined (made (outcome_matched profile options doc es).matches i h)

pub in_runs : (profile : Profile) (options : ℕ) (doc : List ℕ) (es : List Event) (i : ℕ) → i < length (outcome profile options doc es).groups →
    ((group_at (outcome profile options doc es).groups i).opener < (group_at (outcome profile options doc es).groups i).closer)
    × ((group_at (outcome profile options doc es).groups i).closer < length (runs_of doc es))
in_runs profile options doc es i h =
    let w = outcome_joined profile options doc es i h in
    let l : length (begin profile options doc es) ≡ length (runs_of doc es) = length-map (runs_of doc es) (standing profile options) in
    (w.earlier, omega (arith, w.within))

-- two groups of a record never cross, whatever the rule
pub never_cross : (profile : Profile) (options : ℕ) (doc : List ℕ) (es : List Event) (deep d : ℕ) → sound deep d es ≡ true →
    NeverCross (runs_of doc es) (outcome profile options doc es).groups
never_cross profile options doc es deep d s =
    lifted (runs_of doc es) (outcome profile options doc es).groups (spent_within profile options doc es) (ends_before deep d doc es s)
    (in_runs profile options doc es) (ordered (outcome_matched profile options doc es).matches)
