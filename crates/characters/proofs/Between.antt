-- Looking for a number in a table whose ranges are in rising order: what is known of the ranges on either side of those that are left.
-- Assumes nothing.
use Prim.Native.Nat.{ℕ, ◌+◌, ◌*◌, ◌<◌, ◌≤◌}
use mathlib.Core.Path.{◌≡◌, refl, sym, subst}
use mathlib.Core.Bool.{Bool, true, false}
use mathlib.Core.List.{List}
use mathlib.Core.Logic.{⊎_elim}
use native.Mathlib.Omega.{arith}
use native.Mathlib.Nat.{eq-or-lt_of_le}
use lib.Dec.{ltb}
use lib.ListN.{length}
use borrow.Author.Tests.{ltb-true, ltb-false}
use Rattle.characters.specs.Ranges.{member, rising, low, high, In}
use Rattle.characters.proofs.Order.{filled, apart, is_member, no_member}

-- where to look for c in a table whose ranges are in order: the ranges before `from` end below it, and those from `to` on begin above it
pub record Between (t : List ℕ) (c from to : ℕ) : Type 0 where
  pub ordered : rising 0 t ≡ true
  pub bound : 2 * to ≤ length t
  pub below : (k : ℕ) → k < from → high t k < c
  pub above : (k : ℕ) → to ≤ k → 2 * k + 1 < length t → c < low t k

module _ {t : List ℕ} {c from to : ℕ} (i : Between t c from to) where
  -- c is above range mid
  pub right_of : (mid : ℕ) → mid < to → high t mid < c → Between t c (mid + 1) to
  right_of mid h l =
      let b = i.bound in
      record {
        ordered = i.ordered;
        bound = i.bound;
        below =
            λ k g.
            let g' : k ≤ mid = omega arith in
            ⊎_elim (λ e. subst (λ (n : ℕ). high t n < c) (sym e) l)
            (λ s.
            let f = filled 0 t i.ordered mid (omega arith) in
            let a = apart 0 t i.ordered k mid s (omega arith) in
            omega arith)
            (eq-or-lt_of_le g');
        above = i.above;
      }

  pub found : (mid : ℕ) → mid < to → low t mid ≤ c → c ≤ high t mid → true ≡ member t c
  found mid h l m =
      let b = i.bound in
      sym (is_member t mid c (record { there = omega arith; least = l; most = m }))

  pub missed : to ≤ from → false ≡ member t c
  missed h = sym (no_member t c none)
    where
      none : (k : ℕ) → In t k c → ⊥
      none k n = go (ltb k to) refl
        where
          go : (z : Bool) → ltb k to ≡ z → ⊥
          go true e =
              let s = ltb-true k to e in
              let b = i.below k (omega arith) in
              let m = n.most in
              omega arith
          go false e =
              let a = i.above k (ltb-false k to e) n.there in
              let l = n.least in
              omega arith
