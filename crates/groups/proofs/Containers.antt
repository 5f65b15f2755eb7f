-- A group never crosses a container. Opener and closer have one container, so the same events are open at both; an enter that is open at one
-- of them is open at the other, and one that is open at neither was left before the opener, stands between them with its exit, or comes later.
-- Assumes nothing.
use Prim.Native.Nat.{ℕ, suc, ◌+◌, ◌≤◌, ◌<◌}
use mathlib.Core.Path.{◌≡◌, sym, ap, ◌∙◌}
use mathlib.Core.Bool.{true, false}
use mathlib.Core.List.{List, []}
use mathlib.Core.Logic.{◌⊎◌, inl, inr}
use native.Mathlib.Omega.{arith}
use lib.ListN.{length}
use borrow.Author.Tests.{eqb-true}
use Rattle.record.specs.Sound.{sound}
use Rattle.record.specs.Stack.{nth, open_at}
use Rattle.record.specs.declared.event.Event.{Event}
use Rattle.record.proofs.Bools.{and_left, clash}
use Rattle.runs.specs.Runs.{Run, enters_run, innermost_of, runs_of}
use Rattle.runs.specs.Rule.{Profile}
use Rattle.runs.specs.Plain.{Standing, Group, group_at}
use Rattle.runs.specs.Pieces.{standing, outcome, closed, opened}
use Rattle.groups.specs.Places.{run_at, Stands}
use Rattle.groups.specs.Spans.{opener_of, closer_of, span_from, text_from, text_to, span_to}
use Rattle.groups.specs.Containers.{Pair, Clear, inside, before, behind, around, NeverCrosses, OneContainer}
use Rattle.groups.proofs.Laws.{below, opened_most, closed_most}
use Rattle.groups.proofs.Matches.{at_begin}
use Rattle.groups.proofs.Accounts.{spent_within}
use Rattle.groups.proofs.Places.{run_stands, numbers_rise, places_rise}
use Rattle.groups.proofs.Crossing.{outcome_joined, in_runs}
use Rattle.groups.proofs.Opened.{Has, open_one, open_after_lem, open_until, open_at_exit, enter_before, closed_after}

-- opener and closer have one container
pub one_container : (profile : Profile) (options : ℕ) (doc : List ℕ) (es : List Event) → OneContainer (runs_of doc es) (outcome profile options doc es).groups
unfolding standing
one_container profile options doc es i h =
    let gs = (outcome profile options doc es).groups in
    let l = in_runs profile options doc es i h in
    let o = ap (λ (r : Standing). r.container) (at_begin profile options (runs_of doc es) (group_at gs i).opener (omega arith)) in
    let c = ap (λ (r : Standing). r.container) (at_begin profile options (runs_of doc es) (group_at gs i).closer l.1) in
    sym o ∙ ((outcome_joined profile options doc es i h).one_container ∙ c)

-- of event numbers: n and m are enters at which the same is open
data Sides (n m a b : ℕ) : Type 0 where
  within : n < a → b < m → Sides n m a b
  first : b < n → Sides n m a b
  last : m < a → Sides n m a b
  about : a < n → m < b → Sides n m a b

module _ (es : List Event) (n m a b : ℕ) (p : Pair es a b) (l : m ≤ length es) (lt : n < m) (same : open_at es n ≡ open_at es m)
    (an : a ≡ n → ⊥) (am : a ≡ m → ⊥) (bn : b ≡ n → ⊥) (bm : b ≡ m → ⊥) where
  early : a < n → n < b → m < b
  early x y = go (below b m)
    where
      go : (b < m) ⊎ (m ≤ b) → m < b
      go (inl z) =
          let at_n : Has a (open_at es n) = open_until es a n b x (omega arith) (omega (arith, p.within)) (open_at_exit es a b p) in
          absurd (closed_after es a b p m z l (rw same at at_n))
      go (inr z) = omega arith

  middle : n < a → a < m → b < m
  middle x y = go (below b m)
    where
      go : (b < m) ⊎ (m ≤ b) → b < m
      go (inl z) = z
      go (inr z) =
          let at_m : Has a (open_at es m) = open_until es a m b y z (omega (arith, p.within)) (open_at_exit es a b p) in
          let k : a < n = open_after_lem es n a (omega arith) (rw same at_m) in
          absurd (omega arith)

  sides : Sides n m a b
  sides = go (below a n) (below b n) (below a m)
    where
      go : (a < n) ⊎ (n ≤ a) → (b < n) ⊎ (n ≤ b) → (a < m) ⊎ (m ≤ a) → Sides n m a b
      go (inl x) (inl y) z = first y
      go (inl x) (inr y) z = about x (early x (omega arith))
      go (inr x) y (inl z) = within (omega arith) (middle (omega arith) z)
      go (inr x) y (inr z) = last (omega arith)

-- a run is entered by an enter
enters_kind : (e : Event) → enters_run e ≡ true → e.kind ≡ 0
unfolding enters_run
enters_kind e q = eqb-true _ _ (and_left _ _ q)

-- places before and behind a run, in sound events
module _ (deep d : ℕ) (es : List Event) (s : sound deep d es ≡ true) (r : Run) (w : Stands es r) where
  starts_behind : (k : ℕ) → k < r.number → (nth es k).place ≤ r.start
  starts_behind k h = omega (arith, w.start, places_rise deep d 0 [] es s k r.number (omega arith) w.within)

  ends_before : (k : ℕ) → r.number < k → k < length es → r.start + r.size ≤ (nth es k).place
  ends_before k h l =
      let x = places_rise deep d 0 [] es s r.number (r.number + 1) (omega arith) (omega arith) in
      let y = places_rise deep d 0 [] es s (r.number + 1) k (omega arith) l in
      omega (arith, w.start, w.size)

-- of event numbers and so of places
clear : (deep d : ℕ) (es : List Event) (rs : List Run) (gs : List Group) (i a b : ℕ) → sound deep d es ≡ true →
    ((q : ℕ) → closed gs q + opened gs q ≤ (run_at rs q).size) → Stands es (opener_of rs gs i) → Stands es (closer_of rs gs i) → Pair es a b →
    Sides (opener_of rs gs i).number (closer_of rs gs i).number a b → Clear es rs gs i a b
unfolding span_from text_from text_to span_to
clear deep d es rs gs i a b s fits wo wc p (within x y) =
    let e = enter_before es a b p in
    inside x y
    (omega (arith, ends_before deep d es s (opener_of rs gs i) wo a x (omega (arith, p.within))))
    (omega (arith, starts_behind deep d es s (closer_of rs gs i) wc b y))
clear deep d es rs gs i a b s fits wo wc p (first x) =
    before x
    (omega (arith, starts_behind deep d es s (opener_of rs gs i) wo b x, opened_most gs (suc i) (group_at gs i).opener, fits (group_at gs i).opener))
clear deep d es rs gs i a b s fits wo wc p (last x) =
    let e = enter_before es a b p in
    behind x
    (omega (
      arith,
      ends_before deep d es s (closer_of rs gs i) wc a x (omega (arith, p.within)),
      closed_most gs (suc i) (group_at gs i).closer,
      fits (group_at gs i).closer,
    ))
clear deep d es rs gs i a b s fits wo wc p (about x y) =
    around x y
    (omega (arith, starts_behind deep d es s (opener_of rs gs i) wo a x, opened_most gs (suc i) (group_at gs i).opener, fits (group_at gs i).opener))
    (omega (
      arith,
      ends_before deep d es s (closer_of rs gs i) wc b y p.within,
      closed_most gs (suc i) (group_at gs i).closer,
      fits (group_at gs i).closer,
    ))

-- what a run's enter is not: the exit of a pair, or the enter of a pair that is no run
module _ (es : List Event) (r : Run) (w : Stands es r) where
  not_exit : (b : ℕ) → (nth es b).kind ≡ 1 → b ≡ r.number → ⊥
  not_exit b k e =
      let z = enters_kind (nth es r.number) w.enters in
      let y : (nth es r.number).kind ≡ 1 = rw e at k in
      omega arith

  not_enter : (a : ℕ) → enters_run (nth es a) ≡ false → a ≡ r.number → ⊥
  not_enter a k e = clash w.enters (rw e at k)

-- a group never crosses a container
pub never_crosses : (profile : Profile) (options : ℕ) (doc : List ℕ) (es : List Event) (deep d : ℕ) → sound deep d es ≡ true →
    NeverCrosses es (runs_of doc es) (outcome profile options doc es).groups
never_crosses profile options doc es deep d s i a b h p r =
    let gs = (outcome profile options doc es).groups in
    let l = in_runs profile options doc es i h in
    let wo : Stands es (opener_of (runs_of doc es) gs i) = run_stands doc es (group_at gs i).opener (omega arith) in
    let wc : Stands es (closer_of (runs_of doc es) gs i) = run_stands doc es (group_at gs i).closer l.1 in
    let n = (opener_of (runs_of doc es) gs i).number in
    let m = (closer_of (runs_of doc es) gs i).number in
    let lm : m ≤ length es = omega (arith, wc.within) in
    let nm : n < m = numbers_rise doc es (group_at gs i).opener (group_at gs i).closer l.0 l.1 in
    let q : innermost_of (open_at es n) ≡ innermost_of (open_at es m) = sym wo.container ∙ (one_container profile options doc es i h ∙ wc.container) in
    clear deep d es (runs_of doc es) gs i a b s (spent_within profile options doc es) wo wc p
    (sides es n m a b p lm nm (open_one es n m (omega arith) lm q)
    (not_enter es (opener_of (runs_of doc es) gs i) wo a r) (not_enter es (closer_of (runs_of doc es) gs i) wc a r)
    (not_exit es (opener_of (runs_of doc es) gs i) wo b p.exits) (not_exit es (closer_of (runs_of doc es) gs i) wc b p.exits))
