-- What is known of the first group that a run closes, and of the latest that it opens, from their definitions.
-- Assumes nothing.
use Prim.Native.Nat.{ℕ, zero, suc, ◌+◌, ◌-◌, ◌≤◌, ◌<◌}
use mathlib.Core.Path.{◌≡◌, refl, sym, ap, ◌∙◌}
use mathlib.Core.Bool.{Bool, true, false}
use mathlib.Core.List.{List}
use mathlib.Core.Logic.{⊎_elim}
use native.Mathlib.Omega.{arith}
use lib.Dec.{eqb}
use borrow.Author.Tests.{eqb-true, eqb-false}
use Rattle.record.specs.Choice.{choose}
use Rattle.slots.specs.Layout.{group_opener, group_closer}
use Rattle.groups.proofs.Laws.{below}
use Rattle.writing.specs.Kept.{first_closing, latest_opening}

-- of n groups from group i on, f names the first with the closer q
pub record First (n : ℕ) (w : List ℕ) (i q f : ℕ) : Type 0 where
  pub none : f ≡ 0 → (j : ℕ) → i ≤ j → j < i + n → group_closer w j ≡ q → ⊥
  pub low : 0 < f → i < f
  pub high : f ≤ i + n
  pub own : 0 < f → group_closer w (f - 1) ≡ q
  pub before : (j : ℕ) → i ≤ j → j + 1 < f → group_closer w j ≡ q → ⊥

pub first_found : (n : ℕ) (w : List ℕ) (i q : ℕ) → First n w i q (first_closing n w i q)
unfolding first_closing choose
first_found zero w i q =
    record {
      none = λ z j a b c. omega arith;
      low = λ h. absurd (omega arith);
      high = omega arith;
      own = λ h. absurd (omega arith);
      before = λ j a b c. omega arith;
    }
first_found (suc n) w i q = go (first_found n w (i + 1) q) (eqb (group_closer w i) q) refl
  where
    go : First n w (i + 1) q (first_closing n w (i + 1) q) → (z : Bool) → eqb (group_closer w i) q ≡ z → First (suc n) w i q (first_closing (suc n) w i q)
    go t true e =
        let s : i + 1 - 1 ≡ i = omega arith in
        let o : group_closer w (i + 1 - 1) ≡ q = rw s (eqb-true _ _ e) in
        rw e (record {
          none = λ z j a b c. omega arith;
          low = λ h. omega arith;
          high = omega arith;
          own = λ h. o;
          before = λ j a b c. omega arith;
        })
    go t false e =
        let here : (j : ℕ) → i ≤ j → j ≤ i → group_closer w j ≡ q → ⊥ =
        λ j a b c. let s : j ≡ i = omega arith in eqb-false _ _ e (ap (λ (k : ℕ). group_closer w k) (sym s) ∙ c) in
        let up : first_closing n w (i + 1) q ≤ i + 1 + n = t.high in
        rw e (record {
          none = λ z j a b c. ⊎_elim (λ h. t.none z j (omega arith) (omega arith) c) (λ h. here j a h c) (below i j);
          low = λ h. let l = t.low h in omega arith;
          high = omega arith;
          own = λ h. t.own h;
          before = λ j a b c. ⊎_elim (λ h. t.before j (omega arith) b c) (λ h. here j a h c) (below i j);
        })

-- of the first n groups, g names the latest with the opener q
pub record Latest (n : ℕ) (w : List ℕ) (q g : ℕ) : Type 0 where
  pub low : g ≤ n
  pub own : 0 < g → group_opener w (g - 1) ≡ q
  pub none : (j : ℕ) → g ≤ j → j < n → group_opener w j ≡ q → ⊥

pub latest_found : (n : ℕ) (w : List ℕ) (q : ℕ) → Latest n w q (latest_opening n w q)
unfolding latest_opening choose
latest_found zero w q =
    record { low = omega arith; own = λ h. absurd (omega arith); none = λ j a b c. omega arith }
latest_found (suc n) w q = go (latest_found n w q) (eqb (group_opener w n) q) refl
  where
    go : Latest n w q (latest_opening n w q) → (z : Bool) → eqb (group_opener w n) q ≡ z → Latest (suc n) w q (latest_opening (suc n) w q)
    go t true e =
        let s : n + 1 - 1 ≡ n = omega arith in
        let o : group_opener w (n + 1 - 1) ≡ q = rw s (eqb-true _ _ e) in
        rw e (record { low = omega arith; own = λ h. o; none = λ j a b c. omega arith })
    go t false e =
        let up : latest_opening n w q ≤ n = t.low in
        let here : (j : ℕ) → n ≤ j → j < suc n → group_opener w j ≡ q → ⊥ =
        λ j a b c. let s : j ≡ n = omega arith in eqb-false _ _ e (ap (λ (k : ℕ). group_opener w k) (sym s) ∙ c) in
        rw e (record {
          low = omega arith;
          own = λ h. t.own h;
          none = λ j a b c. ⊎_elim (λ h. t.none j a h c) (λ h. here j h b c) (below j n);
        })
