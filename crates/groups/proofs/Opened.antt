-- What is open before an event, as a list of enter events: below each of them stands what was open before it. So two events with the same
-- innermost enter have the same events open; and an enter is open from the event after it up to its exit, and never again.
-- By induction on the events before.
-- Assumes nothing.
use Prim.Native.Nat.{ℕ, zero, suc, ◌+◌, ◌-◌, ◌≤◌, ◌<◌}
use mathlib.Core.Path.{◌≡◌, refl, ◌∙◌}
use mathlib.Core.Bool.{Bool, true, false}
use mathlib.Core.List.{List, [], ◌∷◌}
use mathlib.Core.Logic.{◌⊎◌, inl, inr}
use native.Mathlib.Omega.{arith}
use native.Mathlib.Numerals.{add-one}
use lib.Dec.{eqb}
use lib.ListN.{length}
use borrow.Author.Tests.{ne_eqb}
use Rattle.record.specs.Choice.{choose}
use Rattle.record.specs.Stack.{nth, outer, after, open_after, open_at}
use Rattle.record.specs.declared.event.Event.{Event}
use Rattle.runs.specs.Runs.{innermost_of}
use Rattle.groups.specs.Containers.{Pair}
use Rattle.groups.proofs.Places.{open_next}

-- below each enter stands what was open before it
data Nested (es : List Event) : List ℕ → Type 0 where
  bare : Nested es []
  over : {x : ℕ} {is : List ℕ} → is ≡ open_at es x → Nested es is → Nested es (x ∷ is)

-- an enter is open
abbrev pub Has : ℕ → List ℕ → Type 0
Has x [] = ⊥
Has x (y ∷ is) = (x ≡ y) ⊎ Has x is

has_outer : (x : ℕ) (is : List ℕ) → Has x (outer is) → Has x is
has_outer x [] h = h
has_outer x (y ∷ is) h = inr h

nested_outer : {es : List Event} {is : List ℕ} → Nested es is → Nested es (outer is)
nested_outer bare = bare
nested_outer (over e n) = n

-- one event
data Step (e : Event) (k : ℕ) (held : List ℕ) : List ℕ → Type 0 where
  adds : Step e k held (k ∷ held)
  drops : Step e k held (outer held)

step : (e : Event) (k : ℕ) (held : List ℕ) → Step e k held (after e k held)
unfolding after choose
step e k held = go (eqb e.kind 0) refl
  where
    go : (z : Bool) → eqb e.kind 0 ≡ z → Step e k held (after e k held)
    go true q = rw q adds
    go false q = rw q drops

open_step : (es : List Event) (k : ℕ) → k < length es → Step (nth es k) k (open_at es k) (open_at es (k + 1))
open_step es k h = rw (open_next es k h) (step (nth es k) k (open_at es k))

nested_step : {es : List Event} {e : Event} {k : ℕ} {held is : List ℕ} → held ≡ open_at es k → Nested es held → Step e k held is → Nested es is
nested_step q n adds = over q n
nested_step q n drops = nested_outer n

open_nested : (es : List Event) (k : ℕ) → k ≤ length es → Nested es (open_at es k)
unfolding open_after
open_nested es zero h = bare
open_nested es (suc k) h = rw add-one at (nested_step refl (open_nested es k (omega arith)) (open_step es k (omega arith)))

-- one innermost enter, one list
nested_one : {es : List Event} {is js : List ℕ} → innermost_of is ≡ innermost_of js → Nested es is → Nested es js → is ≡ js
nested_one q bare bare = refl
nested_one q bare (over f m) = let z : ◌≡◌ {A = ℕ} 0 1 = cc in absurd (omega arith)
nested_one q (over e n) bare = let z : ◌≡◌ {A = ℕ} 0 1 = cc in absurd (omega arith)
nested_one q (over e n) (over f m) = cc

pub open_one : (es : List Event) (n m : ℕ) → n ≤ length es → m ≤ length es → innermost_of (open_at es n) ≡ innermost_of (open_at es m) → open_at es n ≡ open_at es m
open_one es n m h k q = nested_one q (open_nested es n h) (open_nested es m k)

-- an enter is open only after it
has_step : {e : Event} {k x : ℕ} {held is : List ℕ} → Step e k held is → Has x is → (x ≡ k) ⊎ Has x held
has_step adds (inl q) = inl q
has_step adds (inr h) = inr h
has_step {x = x} {held = held} drops h = inr (has_outer x held h)

pub open_after_lem : (es : List Event) (k x : ℕ) → k ≤ length es → Has x (open_at es k) → x < k
unfolding open_after
open_after_lem es zero x h p = absurd p
open_after_lem es (suc k) x h p =
    let e : suc k ≡ k + 1 = omega arith in
    go (open_after_lem es k x (omega arith)) (has_step (open_step es k (omega arith)) (rw e at p))
  where
    go : (Has x (open_at es k) → x < k) → (x ≡ k) ⊎ Has x (open_at es k) → x < suc k
    go ih (inl q) = omega arith
    go ih (inr q) = omega (arith, ih q)

-- an enter that is open later was open before, back to the event after it
pub open_back : (es : List Event) (x m j : ℕ) → x < m → m + j ≤ length es → Has x (open_at es (m + j)) → Has x (open_at es m)
open_back es x m zero l h p = let e : m + 0 ≡ m = omega arith in rw e at p
open_back es x m (suc j) l h p =
    let e : m + suc j ≡ m + j + 1 = omega arith in
    go (open_back es x m j l (omega arith)) (has_step (open_step es (m + j) (omega arith)) (rw e at p))
  where
    go : (Has x (open_at es (m + j)) → Has x (open_at es m)) → (x ≡ m + j) ⊎ Has x (open_at es (m + j)) → Has x (open_at es m)
    go ih (inl q) = absurd (omega arith)
    go ih (inr q) = ih q

pub open_until : (es : List Event) (x m k : ℕ) → x < m → m ≤ k → k ≤ length es → Has x (open_at es k) → Has x (open_at es m)
open_until es x m k l h b p =
    let e : k ≡ m + (k - m) = omega arith in
    open_back es x m (k - m) l (omega arith) (rw e at p)

-- what stands below the innermost
nested_below : {es : List Event} {is : List ℕ} (x : ℕ) → is ≡ x ∷ outer is → Nested es is → outer is ≡ open_at es x
nested_below x q bare = let z : ◌≡◌ {A = ℕ} 0 1 = cc in absurd (omega arith)
nested_below x q (over e n) = cc

module _ (es : List Event) (a b : ℕ) (p : Pair es a b) where
  -- an enter is open at its exit
  pub open_at_exit : Has a (open_at es b)
  open_at_exit = rw p.innermost (inl refl)

  pub enter_before : a < b
  enter_before = open_after_lem es b a (omega (arith, p.within)) open_at_exit

  -- and not after it
  pub closed_after : (m : ℕ) → b < m → m ≤ length es → Has a (open_at es m) → ⊥
  unfolding after choose
  closed_after m h l q =
      let before = enter_before in
      let here : Has a (open_at es (b + 1)) = open_until es a (b + 1) m (omega arith) (omega arith) l q in
      let left : open_at es (b + 1) ≡ outer (open_at es b) = open_next es b p.within ∙ rw (ne_eqb (nth es b).kind 0 (λ z. omega (arith, p.exits))) in
      let below : outer (open_at es b) ≡ open_at es a = nested_below a p.innermost (open_nested es b (omega (arith, p.within))) in
      let self : a < a = open_after_lem es a a (omega (arith, p.within)) (rw (left, below) at here) in
      omega arith
