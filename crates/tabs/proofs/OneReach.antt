-- What specs/Columns.antt of scan says of a reach by places fixes it: it says where reading came to (specs/Replaced.antt), which is one place for its columns,
-- and these are the maximum or all that there are.
-- Assumes nothing.
use mathlib.Core.Path.{◌≡◌, refl, ◌∙◌}
use mathlib.Core.Bool.{true}
use mathlib.Core.Logic.{⊎_elim}
use mathlib.Core.List.{List, [], ◌∷◌}
use Prim.Native.Nat.{ℕ, zero, suc, ◌+◌, ◌≤◌, ◌<◌}
use native.Mathlib.Omega.{arith}
use lib.ListN.{length, get_or, take}
use Rattle.scan.specs.Run.{space_or_tab}
use Rattle.scan.specs.Columns.{width, columns, reach, ReachTo, ReachOnly}
use Rattle.tabs.specs.Replaced.{up_to, CameTo}
use Rattle.scan.specs.declared.columns.Reach.{Reach}
use Rattle.scan.proofs.InColumns.{width_tab, columns_on, columns_empty, reach_is, reach_counted}
use Rattle.tabs.proofs.Replaced.{up_to_none, up_to_on, up_to_wide, came_at, came_to, came_only}

-- where all are spaces and tabs, bytes have as many columns as they are replaced by
columns_up_to : (c : ℕ) (l : List ℕ) (n : ℕ) → n ≤ length l → ((p : ℕ) → p < n → space_or_tab (get_or l p 0) ≡ true) → columns c (take n l) ≡ up_to c l n
columns_up_to c l zero h f = omega (arith, columns_empty c, up_to_none c l)
columns_up_to c [] (suc n) h f = absurd (omega arith)
columns_up_to c (b ∷ l) (suc n) h f =
    omega (
      arith,
      columns_on c b (take n l) (f 0 (omega arith)),
      up_to_on c b l n,
      columns_up_to (c + width c b) l n (omega arith) (λ p k. f (suc p) (omega arith)),
    )

reach_came : (max c : ℕ) (l : List ℕ) (r : Reach) → ReachTo max c l r → CameTo c l r.bytes r.left r.columns
reach_came max c l r t =
    record {
      within = t.within;
      whole = λ z. t.whole z ∙ here;
      a_tab = λ z. ((t.tab_cut z).1, (t.tab_cut z).0);
      parted = λ z. (
        omega (arith, here, (t.parted z).0),
        omega (arith, here, (t.parted z).1, up_to_wide c l r.bytes (t.tab_cut z).1, width_tab (c + up_to c l r.bytes) (get_or l r.bytes 0) (t.tab_cut z).0),
      );
    }
  where
    here : columns c (take r.bytes l) ≡ up_to c l r.bytes
    here = columns_up_to c l r.bytes t.within t.before

-- both have the columns there are, or the maximum
same_columns : {max c : ℕ} {l : List ℕ} {r s : Reach} → ReachTo max c l r → ReachTo max c l s → s.columns ≡ r.columns
same_columns t u =
    let a = t.at_most in
    let b = u.at_most in
    let d = t.there in
    let e = u.there in
    ⊎_elim (λ x. ⊎_elim (λ y. omega arith) (λ y. omega arith) u.reached) (λ x. ⊎_elim (λ y. omega arith) (λ y. omega arith) u.reached) t.reached

pub reach_only : ReachOnly
reach_only max c l r t =
    let e : (reach max c l).columns ≡ r.columns = same_columns t (reach_counted max c l) in
    let one = came_only c l r.bytes r.left (reach max c l).bytes (reach max c l).left r.columns (reach_came max c l r t) (came_at c l refl refl e (came_to max c l)) in
    reach_is one.0 (omega arith) one.1
