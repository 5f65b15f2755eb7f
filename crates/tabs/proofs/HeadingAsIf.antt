-- A line is a heading where it was one with its tabs replaced by spaces: the statement of specs/HeadingAsIf.antt. Behind the indentation an opening sequence has no
-- tab in it, and a tab breaks it off as a space does; and behind a part of a tab there is none, on either line.
-- Assumes nothing.
use mathlib.Core.Path.{◌≡◌, refl, sym, ap, ◌∙◌}
use mathlib.Core.Bool.{Bool, true, false}
use mathlib.Core.List.{List, [], ◌∷◌, ◌++◌}
use Prim.Native.Nat.{ℕ, zero, suc, ◌+◌, ◌≤◌, ◌<◌}
use native.Mathlib.Omega.{arith}
use lib.ListN.{get_or, drop, replicate}
use lib.Seq.{get_or-drop}
use lib.Dec.{eqb}
use borrow.Author.Tests.{eq-eqb, ne_eqb, eqb-true, eqb-false}
use Rattle.record.specs.Choice.{choose, and}
use Rattle.record.specs.Options.{option_on}
use Rattle.scan.specs.Run.{or, space_or_tab, hash, leading, first}
use Rattle.scan.specs.Columns.{to_stop, indentation}
use Rattle.tabs.specs.Replaced.{replaced, up_to, CameTo}
use Rattle.tabs.proofs.Replaced.{drop_replaced, inside_tab, indent_replaced, indent_came}
use Rattle.atx.specs.Heading.{broken_off, opening, is_heading}
use Rattle.tabs.specs.HeadingBefore.{is_heading_before}
use Rattle.tabs.specs.HeadingAsIf.{TabsAsSpaces}

-- the first byte: a tab becomes at least one space, any other byte stays
some_spaces : (n : ℕ) (l : List ℕ) → 1 ≤ n → (m : List ℕ) × (replicate n 32 ++ l ≡ 32 ∷ m)
some_spaces zero l h = absurd (omega arith)
some_spaces (suc n) l h = (replicate n 32 ++ l, refl)

module _ (c b : ℕ) (l : List ℕ) where
  tab_first : b ≡ 9 → (m : List ℕ) × (replaced c (b ∷ l) ≡ 32 ∷ m)
  unfolding replaced choose
  tab_first e = rw (eq-eqb _ _ e) (some_spaces (to_stop c) (replaced (c + to_stop c) l) (omega arith))

  other_first : (b ≡ 9 → ⊥) → replaced c (b ∷ l) ≡ b ∷ replaced (c + 1) l
  unfolding replaced choose
  other_first n = rw (ne_eqb _ _ n)

-- the opening sequence
hash_replaced : (c : ℕ) (l : List ℕ) → leading hash (replaced c l) ≡ leading hash l
unfolding leading replaced choose hash
hash_replaced c [] = refl
hash_replaced c (b ∷ l) = go (eqb b 9) refl (hash_replaced (c + 1) l)
  where
    go : (z : Bool) → eqb b 9 ≡ z → leading hash (replaced (c + 1) l) ≡ leading hash l → leading hash (replaced c (b ∷ l)) ≡ leading hash (b ∷ l)
    go true e f = let q : b ≡ 9 = eqb-true _ _ e in let t = tab_first c b l q in ap (leading hash) t.1 ∙ rw q
    go false e f =
        ap (leading hash) (other_first c b l (eqb-false _ _ e)) ∙ ap (λ (n : ℕ). choose (hash b) (suc n) 0) f

-- and what breaks it off
broken_replaced : (c : ℕ) (l : List ℕ) → broken_off (drop (leading hash l) (replaced c l)) ≡ broken_off (drop (leading hash l) l)
unfolding leading replaced choose broken_off hash space_or_tab or
broken_replaced c [] = refl
broken_replaced c (b ∷ l) = go (eqb b 9) refl (broken_replaced (c + 1) l)
  where
    go : (z : Bool) → eqb b 9 ≡ z → broken_off (drop (leading hash l) (replaced (c + 1) l)) ≡ broken_off (drop (leading hash l) l) →
        broken_off (drop (leading hash (b ∷ l)) (replaced c (b ∷ l))) ≡ broken_off (drop (leading hash (b ∷ l)) (b ∷ l))
    go true e f = rw (tab_first c b l (eqb-true _ _ e)).1 (tab (eqb-true _ _ e) (tab_first c b l (eqb-true _ _ e)).0)
      where
        tab : b ≡ 9 → (m : List ℕ) → broken_off (drop (leading hash (b ∷ l)) (32 ∷ m)) ≡ broken_off (drop (leading hash (b ∷ l)) (b ∷ l))
        tab q m = rw q
    go false e f = rw (other_first c b l (eqb-false _ _ e)) (on (hash b))
      where
        on : (z : Bool) → broken_off (drop (choose z (suc (leading hash l)) 0) (b ∷ replaced (c + 1) l)) ≡ broken_off (drop (choose z (suc (leading hash l)) 0) (b ∷ l))
        on true = f
        on false = refl

opening_replaced : (c : ℕ) (l : List ℕ) → opening (replaced c l) ≡ opening l
unfolding opening
opening_replaced c l = rw (hash_replaced c l, broken_replaced c l)

-- what does not begin with a `#` opens nothing
run_none : (l : List ℕ) → hash (first l) ≡ false → leading hash l ≡ 0
unfolding leading choose
run_none [] e = refl
run_none (b ∷ l) e = rw e

opens_none : (l : List ℕ) → hash (first l) ≡ false → opening l ≡ false
unfolding opening and
opens_none l e = rw (run_none l e)

tab_no_hash : (b : ℕ) → b ≡ 9 → hash b ≡ false
unfolding hash
tab_no_hash b e = rw e

space_no_hash : (b : ℕ) → b ≡ 32 → hash b ≡ false
unfolding hash
space_no_hash b e = rw e

-- behind where reading came to
opening_came : (c : ℕ) (l : List ℕ) (n left k : ℕ) → CameTo c l n left k → opening (drop n l) ≡ opening (drop k (replaced c l))
opening_came c l n left k t = go (eqb left 0) refl
  where
    here : n + 0 ≡ n
    here = omega arith

    go : (z : Bool) → eqb left 0 ≡ z → opening (drop n l) ≡ opening (drop k (replaced c l))
    go true e =
        sym (opening_replaced (c + up_to c l n) (drop n l))
        ∙ ap opening (sym (drop_replaced c l n))
        ∙ ap (λ (i : ℕ). opening (drop i (replaced c l))) (sym (t.whole (eqb-true _ _ e)))
    go false e =
        let x = eqb-false left 0 e in
        let h : 0 < left = omega arith in
        opens_none (drop n l) (tab_no_hash _ (get_or-drop n l 0 0 ∙ ap (λ (i : ℕ). get_or l i 0) here ∙ (t.a_tab h).1))
        ∙ sym (opens_none (drop k (replaced c l)) (space_no_hash _ (inside_tab c l n left k t h)))

pub tabs_as_spaces : TabsAsSpaces
unfolding is_heading is_heading_before
tabs_as_spaces c l options =
    rw (← indent_replaced options c l)
    (ap (and (option_on options 8)) (opening_came c l _ (indentation options c l).left (indentation options c l).columns (indent_came options c l)))
