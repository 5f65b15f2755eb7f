-- The plain rule's groups, in match order, over any rule: their closers never go back, so that the groups of one closer stand side by side; and
-- every opener stands before its closer, which is a run.
--     plain-ordered             all of it
--     closings-never            a run that closes no group has no closing pieces
--     closings-from             a run's closing pieces are those from its first group on
--     closings-next             one of them, and the rest
--     closings-over             there are no more past the last of the groups that stand side by side
-- Assumes nothing.
use Prim.Native.Nat.{ℕ, zero, suc, ◌+◌, ◌-◌, ◌<◌, ◌≤◌}
use mathlib.Core.Path.{◌≡◌, refl, ◌∙◌, sym, ap}
use mathlib.Core.List.{List, [], ◌∷◌, ◌++◌}
use mathlib.Core.Bool.{Bool, true, false}
use native.Mathlib.Omega.{arith}
use native.Mathlib.Numerals.{add-one}
use lib.Dec.{eqb}
use lib.ListN.{length, drop, length-append, length-drop, get_or-append}
use lib.Seq.{get_or-append-add, get_or-drop, drop-cons}
use borrow.Author.Tests.{eqb-true, eqb-false, eq-eqb, ne_eqb}
use Rattle.record.specs.Choice.{choose}
use Rattle.runs.specs.declared.Next.{Next}
use Rattle.runs.specs.declared.Next.TheVariants.{Match, Done}
use Rattle.runs.specs.Rule.{Rule}
use Rattle.runs.specs.Plain.{Standing, Group, group, group_at, forth, taken_by, matched, ends, rounds, total, plain}
use Rattle.runs.specs.Pieces.{piece, closings}
use Rattle.matcher.specs.Groups.{first_closed}
use Rattle.matcher.proofs.Matched.{matched_length}
use Rattle.matcher.proofs.Rounds.{forth_found, and_group}

-- the groups made up to the closer c, of n runs
pub record Ordered (n : ℕ) (gs : List Group) (c : ℕ) : Type 0 where
  pub rising : (g : ℕ) → g + 1 < length gs → (group_at gs g).closer ≤ (group_at gs (g + 1)).closer
  pub upto : (g : ℕ) → g < length gs → (group_at gs g).closer ≤ c
  pub within : (g : ℕ) → g < length gs → (group_at gs g).closer < n
  pub before : (g : ℕ) → g < length gs → (group_at gs g).opener < (group_at gs g).closer

-- one more, at a closer that is no earlier
module _ (n : ℕ) (gs : List Group) (c o d k : ℕ) (a : Ordered n gs c) (up : c ≤ d) (od : o < d) (dn : d < n) where
  abbrev more : List Group
  more = gs ++ (group o d k ∷ [])

  long : length more ≡ length gs + 1
  long = length-append gs (group o d k ∷ [])

  old : (g : ℕ) → g < length gs → group_at more g ≡ group_at gs g
  old g h = get_or-append gs (group o d k ∷ []) (group 0 0 0) g h

  new : (g : ℕ) → g ≡ length gs → group_at more g ≡ group o d k
  new g e = let z : length gs + 0 ≡ g = omega arith in rw z at (get_or-append-add gs (group o d k ∷ []) 0 (group 0 0 0))

  -- each is one of the old, or the new
  each : (A : Group → Type 0) → ((g : ℕ) → g < length gs → A (group_at gs g)) → A (group o d k) → (g : ℕ) → g < length more → A (group_at more g)
  each A f x g h = go (eqb g (length gs)) refl
    where
      go : (z : Bool) → eqb g (length gs) ≡ z → A (group_at more g)
      go true e = rw (new g (eqb-true g (length gs) e)) x
      go false e = let y : g ≡ length gs → ⊥ = eqb-false g (length gs) e in rw (old g (omega (arith, long))) (f g (omega (arith, long)))

  ordered_more : Ordered n more d
  ordered_more =
      record {
        rising = rising;
        upto = each (λ x. x.closer ≤ d) (λ g h. omega (arith, a.upto g h)) (omega arith);
        within = each (λ x. x.closer < n) a.within dn;
        before = each (λ x. x.opener < x.closer) a.before od;
      }
    where
      rising : (g : ℕ) → g + 1 < length more → (group_at more g).closer ≤ (group_at more (g + 1)).closer
      rising g h = go (eqb (g + 1) (length gs)) refl
        where
          go : (z : Bool) → eqb (g + 1) (length gs) ≡ z → (group_at more g).closer ≤ (group_at more (g + 1)).closer
          go true e =
              let y : g + 1 ≡ length gs = eqb-true (g + 1) (length gs) e in
              rw (new (g + 1) y, old g (omega arith)) (omega (arith, a.upto g (omega arith)))
          go false e =
              let y : g + 1 ≡ length gs → ⊥ = eqb-false (g + 1) (length gs) e in
              rw (old (g + 1) (omega (arith, long)), old g (omega (arith, long))) (a.rising g (omega (arith, long)))

-- to the end
pub record Rising (n : ℕ) (gs : List Group) : Type 0 where
  pub last : ℕ
  pub ordered : Ordered n gs last

rounds_ordered : (k : ℕ) (rule : Rule) (rs : List Standing) (c : ℕ) (gs : List Group) (t n : ℕ) → length rs ≡ n → c ≤ n → Ordered n gs c → Rising n (rounds k rule rs c gs t).groups
unfolding rounds
rounds_ordered zero rule rs c gs t n e h a = record { last = c; ordered = a }
rounds_ordered (suc k) rule rs c gs t n e h a = go (λ ts d hs u. rounds_ordered k rule ts d hs u n) (forth rule (length rs - c) rs c 0) refl
  where
    go : ((ts : List Standing) (d : ℕ) (hs : List Group) (u : ℕ) → length ts ≡ n → d ≤ n → Ordered n hs d → Rising n (rounds k rule ts d hs u).groups)
        → (x : Next) → forth rule (length rs - c) rs c 0 ≡ x
        → Rising n (ends (forth rule (length rs - c) rs c 0) (λ o d u. rounds k rule (matched rs o d) d (and_group gs rs o d) (t + u)) (λ u. record { groups = gs; tried = t + u; runs = rs })).groups
    go ih (Done u) q = rw q (record { last = c; ordered = a })
    go ih (Match o d u) q =
        let f = forth_found rule (length rs - c) rs c 0 o d u q in
        let l : d < n = omega (arith, f.within) in
        rw q (ih (matched rs o d) d (and_group gs rs o d) (t + u) (matched_length rs o d ∙ e) (omega arith) (ordered_more n gs c o d (taken_by rs o d) a f.from f.before l))

pub plain_ordered : (rule : Rule) (rs : List Standing) → Rising (length rs) (plain rule rs).groups
unfolding plain
plain_ordered rule rs =
    rounds_ordered (total rs + 1) rule rs 0 [] 0 (length rs) refl (omega arith)
    (record { rising = λ g h. absurd (omega arith); upto = λ g h. absurd (omega arith); within = λ g h. absurd (omega arith); before = λ g h. absurd (omega arith) })

-- closers further on are no earlier
rising_far : (n : ℕ) (gs : List Group) (c : ℕ) → Ordered n gs c → (g j : ℕ) → g + j < length gs → (group_at gs g).closer ≤ (group_at gs (g + j)).closer
rising_far n gs c a g zero h = let e : g + 0 ≡ g = omega arith in rw e (omega arith)
rising_far n gs c a g (suc j) h =
    let e : g + suc j ≡ g + j + 1 = omega arith in
    let f = rising_far n gs c a g j (omega arith) in
    rw e (omega (arith, a.rising (g + j) (omega arith)))

closings_cons : (x : Group) (gs : List Group) (q marker at : ℕ)
    → closings (x ∷ gs) q marker at
    ≡ choose (eqb x.closer q) (piece marker x.taken at (at + x.taken) ∷ closings gs q marker (at + x.taken)) (closings gs q marker at)
unfolding closings
closings_cons x gs q marker at = refl

empty : (q marker at : ℕ) → closings [] q marker at ≡ []
unfolding closings
empty q marker at = refl

-- a run that closes no group has no closing pieces
pub closings_none : (gs : List Group) (q marker at : ℕ) → ((g : ℕ) → g < length gs → (group_at gs g).closer ≡ q → ⊥) → closings gs q marker at ≡ []
unfolding choose
closings_none [] q marker at h = empty q marker at
closings_none (x ∷ gs) q marker at h =
    rw (closings_cons, ne_eqb x.closer q (h 0 (omega arith))) (closings_none gs q marker at (λ g l. h (suc g) (omega arith)))

-- its closing pieces are those from its first group on
pub closings_from : (gs : List Group) (q marker at i g : ℕ) → first_closed gs q i ≡ i + g + 1 → closings gs q marker at ≡ closings (drop g gs) q marker at
unfolding first_closed choose
closings_from gs q marker at i zero e = refl
closings_from [] q marker at i (suc g) e = refl
closings_from (x ∷ gs) q marker at i (suc g) e = rw closings_cons (go (closings_from gs q marker at (i + 1) g) (eqb x.closer q) refl)
  where
    go : (first_closed gs q (i + 1) ≡ i + 1 + g + 1 → closings gs q marker at ≡ closings (drop g gs) q marker at) → (z : Bool) → eqb x.closer q ≡ z
        → choose (eqb x.closer q) (piece marker x.taken at (at + x.taken) ∷ closings gs q marker (at + x.taken)) (closings gs q marker at) ≡ closings (drop g gs) q marker at
    go ih true f = let y : i + 1 ≡ i + suc g + 1 = rw f at e in absurd (omega arith)
    go ih false f = let y : first_closed gs q (i + 1) ≡ i + suc g + 1 = rw f at e in rw f (ih (omega arith))

pub closings_never : (gs : List Group) (q marker at i : ℕ) → first_closed gs q i ≡ 0 → closings gs q marker at ≡ []
unfolding first_closed choose
closings_never [] q marker at i e = empty q marker at
closings_never (x ∷ gs) q marker at i e = rw closings_cons (go (closings_never gs q marker at (i + 1)) (eqb x.closer q) refl)
  where
    go : (first_closed gs q (i + 1) ≡ 0 → closings gs q marker at ≡ []) → (z : Bool) → eqb x.closer q ≡ z
        → choose (eqb x.closer q) (piece marker x.taken at (at + x.taken) ∷ closings gs q marker (at + x.taken)) (closings gs q marker at) ≡ []
    go ih true f = let y : i + 1 ≡ 0 = rw f at e in absurd (omega arith)
    go ih false f = let y : first_closed gs q (i + 1) ≡ 0 = rw f at e in rw f (ih y)

-- one of them, and the rest
pub closings_next : (gs : List Group) (q marker at g : ℕ) → g < length gs → (group_at gs g).closer ≡ q
    → closings (drop g gs) q marker at
    ≡ piece marker (group_at gs g).taken at (at + (group_at gs g).taken) ∷ closings (drop (g + 1) gs) q marker (at + (group_at gs g).taken)
unfolding choose
closings_next gs q marker at g h e = rw (drop-cons gs g (group 0 0 0), closings_cons, eq-eqb (group_at gs g).closer q e, add-one g)

-- and there are no more past the last of the groups that stand side by side
pub closings_over : (n : ℕ) (gs : List Group) (c : ℕ) → Ordered n gs c → (q marker at g : ℕ) → g < length gs → q < (group_at gs g).closer → closings (drop g gs) q marker at ≡ []
closings_over n gs c a q marker at g h l = closings_none (drop g gs) q marker at none
  where
    none : (j : ℕ) → j < length (drop g gs) → (group_at (drop g gs) j).closer ≡ q → ⊥
    none j x e =
        let y : g + j < length gs = omega (arith, length-drop g gs) in
        let f : (group_at gs (g + j)).closer ≡ q = ap (λ z. z.closer) (sym (get_or-drop g gs j (group 0 0 0))) ∙ e in
        omega (arith, rising_far n gs c a g j y)
