-- What the readers know of a reach: how many columns it has, where it has all of them, and when there is none; how many bytes it has, and what it leaves of a
-- cut tab; the indentation, by its options and by places; and what is left of a line behind some bytes.
-- Assumes nothing.
use mathlib.Core.Path.{◌≡◌, refl, sym, ap, ◌∙◌}
use mathlib.Core.Bool.{Bool, true, false}
use mathlib.Core.Logic.{⊎_elim}
use mathlib.Core.List.{List, [], ◌∷◌}
use Prim.Native.Nat.{ℕ, zero, suc, ◌+◌, ◌-◌, ◌*◌, ◌≤◌, ◌<◌}
use native.Mathlib.Omega.{arith}
use lib.ListN.{length, get_or, take, drop, length-take}
use lib.Dec.{eqb}
use borrow.Author.Tests.{eqb-true, eqb-false}
use Rattle.record.specs.Choice.{choose}
use Rattle.record.specs.Options.{option_on}
use Rattle.record.proofs.Bools.{clash, and_right}
use Rattle.scan.specs.Run.{space_or_tab, every, first}
use Rattle.scan.specs.Columns.{width, columns, behind, reach, reach_all, indentation, ReachTo, IndentationCounted}
use Rattle.scan.specs.declared.columns.Reach.{Reach}
use Rattle.scan.proofs.InColumns.{every_four, no_byte, width_least, width_small, first_none, first_whole, columns_none, columns_on, reach_at, reach_counted}

-- the columns are those there are, or the maximum
pub columns_all : (max c : ℕ) (l : List ℕ) → columns c l ≤ max → (reach max c l).columns ≡ columns c l
columns_all max c l h =
    let r = reach_counted max c l in
    let t = r.there in
    ⊎_elim (λ e. omega arith) (λ e. e) r.reached

pub columns_full : (max c : ℕ) (l : List ℕ) → max ≤ columns c l → (reach max c l).columns ≡ max
columns_full max c l h =
    let r = reach_counted max c l in
    let t = r.at_most in
    ⊎_elim (λ e. e) (λ e. omega arith) r.reached

-- a byte has at most four columns
most_step : (z : Bool) (w m n : ℕ) → w ≤ 4 → m ≤ 4 * n → choose z (w + m) 0 ≤ 4 * suc n
unfolding choose
most_step true w m n h k = omega arith
most_step false w m n h k = omega arith

pub columns_most : (c : ℕ) (l : List ℕ) → columns c l ≤ 4 * length l
unfolding columns
columns_most c [] = omega arith
columns_most c (b ∷ l) = most_step (space_or_tab b) (width c b) _ (length l) (width_small c b _ refl) (columns_most (c + width c b) l)

-- a maximum of all columns or more makes no difference
pub reach_beyond : (max c : ℕ) (l : List ℕ) → columns c l ≤ max → reach max c l ≡ reach_all c l
unfolding reach_all
reach_beyond max c [] h = first_none max c [] no_byte ∙ sym (first_none (columns c []) c [] no_byte)
reach_beyond max c (b ∷ l) h = go (space_or_tab b) refl (reach_beyond (max - width c b) (c + width c b) l)
  where
    go : (z : Bool) → space_or_tab b ≡ z →
        (columns (c + width c b) l ≤ max - width c b → reach (max - width c b) (c + width c b) l ≡ reach (columns (c + width c b) l) (c + width c b) l) →
        reach max c (b ∷ l) ≡ reach (columns c (b ∷ l)) c (b ∷ l)
    go true e f =
        let k : columns c (b ∷ l) ≡ width c b + columns (c + width c b) l = columns_on c b l e in
        first_whole max c (b ∷ l) (omega arith) e (omega arith)
        ∙ ap (behind 1 (width c b)) (f (omega arith) ∙ reach_at (omega arith) refl refl)
        ∙ sym (first_whole (columns c (b ∷ l)) c (b ∷ l) (omega arith) e (omega arith))
    go false e f = first_none max c (b ∷ l) e ∙ sym (first_none (columns c (b ∷ l)) c (b ∷ l) e)

-- as many columns of indentation as a line may have
pub indent_most : (options c : ℕ) (l : List ℕ) (max : ℕ) → max ≡ choose (option_on options 32) 3 (4 * length l) → reach max c l ≡ indentation options c l
unfolding indentation choose
indent_most options c l max e = rw e (go (option_on options 32))
  where
    go : (z : Bool) → reach (choose z 3 (4 * length l)) c l ≡ choose z (reach 3 c l) (reach_all c l)
    go true = refl
    go false = reach_beyond (4 * length l) c l (columns_most c l)

pub indentation_counted : IndentationCounted
unfolding indentation choose reach_all
indentation_counted options c l = (λ e. rw e (reach_counted 3 c l), λ e. rw e (reach_counted (columns c l) c l))

-- what is said of any reach holds of the indentation, up to some maximum
pub indent_reach : (options c : ℕ) (l : List ℕ) → (max : ℕ) × ReachTo max c l (indentation options c l)
indent_reach options c l = go (option_on options 32) refl
  where
    go : (z : Bool) → option_on options 32 ≡ z → (max : ℕ) × ReachTo max c l (indentation options c l)
    go true e = (3, (indentation_counted options c l).0 e)
    go false e = (columns c l, (indentation_counted options c l).1 e)

pub indent_fits : (options c : ℕ) (l : List ℕ) (r : Reach) → r ≡ indentation options c l → r.bytes ≤ length l
indent_fits options c l r e = rw e (indent_reach options c l).1.within

-- a reach has at most four columns to each of its bytes, and three of a cut tab
pub reach_wide : (max c : ℕ) (l : List ℕ) (r : Reach) → ReachTo max c l r → r.columns ≤ 4 * r.bytes + 3
reach_wide max c l r t = go (eqb r.left 0) refl
  where
    front : columns c (take r.bytes l) ≤ 4 * r.bytes
    front = let w = t.within in omega (arith, columns_most c (take r.bytes l), length-take r.bytes l)

    go : (z : Bool) → eqb r.left 0 ≡ z → r.columns ≤ 4 * r.bytes + 3
    go true e = omega (arith, front, t.whole (eqb-true _ _ e))
    go false e =
        let n = eqb-false r.left 0 e in
        let h : 0 < r.left = omega arith in
        omega (arith, front, (t.parted h).1)

-- a maximum that is not reached is more than there is
pub columns_below : (max c : ℕ) (l : List ℕ) → ((reach max c l).columns ≡ max → ⊥) → (reach max c l).columns ≡ columns c l
columns_below max c l n = ⊎_elim (λ e. absurd (n e)) (λ e. e) (reach_counted max c l).reached

-- there are columns just where there are spaces and tabs
pub some_columns : (c : ℕ) (l : List ℕ) → space_or_tab (first l) ≡ true → 1 ≤ columns c l
some_columns c [] e = absurd (clash e no_byte)
some_columns c (b ∷ l) e = omega (arith, columns_on c b l e, width_least c b)

pub columns_first : (c : ℕ) (l : List ℕ) → 1 ≤ columns c l → space_or_tab (first l) ≡ true
columns_first c l h = go (space_or_tab (first l)) refl
  where
    go : (z : Bool) → space_or_tab (first l) ≡ z → space_or_tab (first l) ≡ true
    go true e = e
    go false e = absurd (omega (arith, columns_none c l e))

-- a reach has the columns of its bytes, and some of a cut tab
pub at_least : (max c : ℕ) (l : List ℕ) (r : Reach) → ReachTo max c l r → columns c (take r.bytes l) ≤ r.columns
at_least max c l r t = go (eqb r.left 0) refl
  where
    go : (z : Bool) → eqb r.left 0 ≡ z → columns c (take r.bytes l) ≤ r.columns
    go true e = omega (arith, t.whole (eqb-true _ _ e))
    go false e = let n = eqb-false r.left 0 e in let h : 0 < r.left = omega arith in omega (arith, (t.parted h).0)

-- each byte has at least one
spans : (n c : ℕ) (l : List ℕ) → n ≤ length l → ((p : ℕ) → p < n → space_or_tab (get_or l p 0) ≡ true) → n ≤ columns c (take n l)
spans zero c l h f = omega arith
spans (suc n) c [] h f = absurd (omega arith)
spans (suc n) c (b ∷ l) h f =
    omega
    (arith, columns_on c b (take n l) (f 0 (omega arith)), width_least c b, spans n (c + width c b) l (omega arith) (λ p k. f (suc p) (omega arith)))

module _ (max c : ℕ) (l : List ℕ) (r : Reach) (t : ReachTo max c l r) where
  pub reach_narrow : r.bytes ≤ r.columns
  reach_narrow = omega (arith, spans r.bytes c l t.within t.before, at_least max c l r t)

  -- of a cut tab at most three columns are left
  pub left_most : r.left ≤ 3
  left_most = go (eqb r.left 0) refl
    where
      go : (z : Bool) → eqb r.left 0 ≡ z → r.left ≤ 3
      go true e = let q = eqb-true r.left 0 e in omega arith
      go false e =
          let n = eqb-false r.left 0 e in
          let h : 0 < r.left = omega arith in
          omega (arith, (t.parted h).0, (t.parted h).1)

-- what holds of every byte of a line holds of every one that is left of it
pub every_drop : (kind : ℕ → Bool) (n : ℕ) (l : List ℕ) → every kind l ≡ true → every kind (drop n l) ≡ true
unfolding every
every_drop kind zero l h = h
every_drop kind (suc n) [] h = h
every_drop kind (suc n) (b ∷ l) h = every_drop kind n l (and_right _ _ h)

-- four columns further on, the indentation is the same
pub indent_four : (options c : ℕ) (l : List ℕ) → indentation options (c + 4) l ≡ indentation options c l
unfolding indentation reach_all
indent_four options c l = rw ((every_four 3 c l).0, (every_four (columns c l) c l).1, (every_four (columns c l) c l).0)
