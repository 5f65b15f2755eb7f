-- Groups of tildes are as the tilde rule says, whichever sizes the rule of three goes by. By cases of the tests, what is left of both is equal
-- and the group takes all of it. So a run of tildes that gave to a group has none left, and is in no later group: what is left of it when it
-- is taken is the whole.
-- Assumes nothing.
use Prim.Native.Nat.{ℕ, suc, ◌+◌, ◌≤◌, ◌<◌}
use mathlib.Core.Path.{◌≡◌, refl, sym, ap, ◌∙◌}
use mathlib.Core.Bool.{Bool, true, false, not, ◌&&◌, ◌||◌}
use mathlib.Core.List.{List, [], ◌∷◌}
use mathlib.Core.Logic.{inl, inr}
use native.Mathlib.Omega.{arith}
use lib.Dec.{eqb, ltb}
use lib.ListN.{length, take}
use lib.Seq.{length-take-le}
use borrow.Author.Tests.{eq-eqb, ne_eqb, eqb-true, ltb-false}
use Rattle.record.specs.Choice.{choose}
use Rattle.runs.specs.Rule.{Side, threes, tildes, rule_over}
use Rattle.runs.specs.Plain.{Standing, Group, at, group_at, takes, side_of}
use Rattle.runs.specs.Pieces.{closed, opened}
use Rattle.groups.specs.Groups.{Made, Amount, both, single}
use Rattle.groups.specs.Tildes.{Strikes}
use Rattle.groups.proofs.Laws.{opened_first, closed_first, opened_suc, closed_suc}
use Rattle.groups.proofs.Accounts.{matches_account}
use Rattle.groups.proofs.Groups.{took, joined, early}

-- a test that lets a pair of tildes pass
passed : (one : Bool) (a b : ℕ) → tildes one 126 a b ≡ false → (a ≡ b) × (b ≤ 2) × (b ≡ 1 → one ≡ true)
unfolding tildes
passed one a b q = go (eqb a b) refl (ltb 2 b) refl one refl
  where
    go : (x : Bool) → eqb a b ≡ x → (y : Bool) → ltb 2 b ≡ y → (z : Bool) → one ≡ z → (a ≡ b) × (b ≤ 2) × (b ≡ 1 → one ≡ true)
    go false e y f z g = let r : true ≡ false = rw e at q in let c : ◌≡◌ {A = ℕ} 0 1 = cc in absurd (omega arith)
    go true e true f z g = let r : true ≡ false = rw (e, f) at q in let c : ◌≡◌ {A = ℕ} 0 1 = cc in absurd (omega arith)
    go true e false f true g = (eqb-true a b e, ltb-false 2 b f, λ h. g)
    go true e false f false g = (
      eqb-true a b e,
      ltb-false 2 b f,
      λ h.
          let r : true ≡ false = rw (e, f, g, eq-eqb b 1 h) at q in
          let c : ◌≡◌ {A = ℕ} 0 1 = cc in
          absurd (omega arith),
    )

split_and : (a b : Bool) → (a && b) ≡ true → b ≡ true
split_and true b q = q
split_and false b q = let c : ◌≡◌ {A = ℕ} 0 1 = cc in absurd (omega arith)

negated : (a : Bool) → not a ≡ true → a ≡ false
negated true q = let c : ◌≡◌ {A = ℕ} 0 1 = cc in absurd (omega arith)
negated false q = refl

-- what the rule lets through, of tildes
let_through : (size_of : Side → ℕ) (one : Bool) (o c : Standing) → c.marker ≡ 126 → takes (rule_over size_of one) o c ≡ true →
    tildes one 126 o.left c.left ≡ false
unfolding takes rule_over
let_through size_of one o c m q =
    let r = split_and (not (threes ((side_of o).both || (side_of c).both) (size_of (side_of o)) (size_of (side_of c)))) (not (tildes one c.marker o.left c.left)) q in
    rw m at (negated (tildes one c.marker o.left c.left) r)

-- a group of tildes takes all that both had left
emptied : {a b k : ℕ} → a ≡ b → b ≤ 2 → Amount a b k → k ≡ b
emptied e l (both x y) = omega arith
emptied e l (single x y (inl z)) = omega arith
emptied e l (single x y (inr z)) = omega arith

-- as it was made
record Alike (one : Bool) (rs : List Standing) (g : Group) : Type 0 where
  opener_all : (at rs g.opener).left ≡ g.taken
  closer_all : (at rs g.closer).left ≡ g.taken
  at_most_two : g.taken ≤ 2
  one_allowed : g.taken ≡ 1 → one ≡ true

alike : (size_of : Side → ℕ) (one : Bool) {rs₀ : List Standing} {gs : List Group} {i : ℕ} (w : Made (rule_over size_of one) rs₀ gs i) →
    (at rs₀ (group_at gs i).closer).marker ≡ 126 → Alike one w.runs (group_at gs i)
alike size_of one {rs₀} {gs} {i} w m =
    let a = matches_account w.before in
    let p = passed one _ _ (let_through size_of one _ _ (a.marker (group_at gs i).closer ∙ m) w.found.taken) in
    let k = emptied p.0 p.1 (took w) in
    record { closer_all = sym k; opener_all = p.0 ∙ sym k; at_most_two = omega arith; one_allowed = λ h. p.2 (sym k ∙ h) }

-- a run that no group has
closed_none : (gs : List Group) (q : ℕ) → ((k : ℕ) → k < length gs → (group_at gs k).closer ≡ q → ⊥) → closed gs q ≡ 0
unfolding closed choose
closed_none [] q n = refl
closed_none (g ∷ gs) q n = rw (ne_eqb g.closer q (n 0 (omega arith))) (closed_none gs q (λ k h. n (suc k) (omega arith)))

opened_none : (gs : List Group) (q : ℕ) → ((k : ℕ) → k < length gs → (group_at gs k).opener ≡ q → ⊥) → opened gs q ≡ 0
unfolding opened choose
opened_none [] q n = refl
opened_none (g ∷ gs) q n = rw (ne_eqb g.opener q (n 0 (omega arith))) (opened_none gs q (λ k h. n (suc k) (omega arith)))

module _ (size_of : Side → ℕ) (one : Bool) (rs₀ : List Standing) (gs : List Group) (all : (k : ℕ) → k < length gs → Made (rule_over size_of one) rs₀ gs k) where
  -- a run of tildes that a group has is used up
  closer_used : (k i q : ℕ) → k < i → (h : i < length gs) → (at rs₀ q).marker ≡ 126 → (group_at gs k).closer ≡ q → (at (all i h).runs q).left ≡ 0
  closer_used k i q l h m e =
      let wk = all k (omega arith) in
      let x : (at rs₀ (group_at gs k).closer).marker ≡ 126 = rw e m in
      let y = alike size_of one wk x in
      let z : (at wk.runs q).left ≡ (group_at gs k).taken = rw e at y.closer_all in
      let c : closed (take (suc k) gs) q ≡ closed (take k gs) q + (group_at gs k).taken = rw e at (closed_suc gs k (omega arith)) in
      omega (
        arith,
        (matches_account wk.before).spent q,
        (matches_account (all i h).before).spent q,
        closed_first gs (suc k) i q (omega arith),
        opened_first gs k i q (omega arith),
      )

  opener_used : (k i q : ℕ) → k < i → (h : i < length gs) → (at rs₀ q).marker ≡ 126 → (group_at gs k).opener ≡ q → (at (all i h).runs q).left ≡ 0
  opener_used k i q l h m e =
      let wk = all k (omega arith) in
      let x : (at rs₀ (group_at gs k).opener).marker ≡ 126 = rw e m in
      let y = alike size_of one wk (sym (joined wk).one_marker ∙ x) in
      let z : (at wk.runs q).left ≡ (group_at gs k).taken = rw e at y.opener_all in
      let c : opened (take (suc k) gs) q ≡ opened (take k gs) q + (group_at gs k).taken = rw e at (opened_suc gs k (omega arith)) in
      omega (
        arith,
        (matches_account wk.before).spent q,
        (matches_account (all i h).before).spent q,
        opened_first gs (suc k) i q (omega arith),
        closed_first gs k i q (omega arith),
      )

  -- so a run of tildes with markers left is whole
  whole : (i q : ℕ) (h : i < length gs) → (at rs₀ q).marker ≡ 126 → 0 < (at (all i h).runs q).left → (at rs₀ q).left ≡ (at (all i h).runs q).left
  whole i q h m p =
      let c = closed_none (take i gs) q (λ k l e.
      let n : k < i = omega (arith, length-take-le i gs (omega arith)) in
      let z = closer_used k i q n h m (sym (ap (λ (g : Group). g.closer) (early gs k i n h).0) ∙ e) in
      omega arith) in
      let o = opened_none (take i gs) q (λ k l e.
      let n : k < i = omega (arith, length-take-le i gs (omega arith)) in
      let z = opener_used k i q n h m (sym (ap (λ (g : Group). g.opener) (early gs k i n h).0) ∙ e) in
      omega arith) in
      omega (arith, (matches_account (all i h).before).spent q)

  -- every group of tildes is as the tilde rule says
  pub strikes : (i : ℕ) → i < length gs → (at rs₀ (group_at gs i).closer).marker ≡ 126 → Strikes one rs₀ (group_at gs i)
  strikes i h m =
      let w = all i h in
      let y = alike size_of one w m in
      let x : (at rs₀ (group_at gs i).opener).marker ≡ 126 = (joined w).one_marker ∙ m in
      record {
        opener_all = whole i (group_at gs i).opener h x w.found.opener_left ∙ y.opener_all;
        closer_all = whole i (group_at gs i).closer h m w.found.closer_left ∙ y.closer_all;
        at_most_two = y.at_most_two;
        one_allowed = y.one_allowed;
      }
