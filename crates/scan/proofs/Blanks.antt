-- How many bytes the spaces and tabs in front are, on a blank line all of it; the options; and the count by places.
-- Assumes nothing.
use mathlib.Core.Path.{◌≡◌, refl, sym, ap, ◌∙◌}
use mathlib.Core.Bool.{Bool, true, false}
use mathlib.Core.List.{List, [], ◌∷◌}
use Prim.Native.Nat.{ℕ, zero, suc, ◌<◌, ◌-◌, ◌≤◌, ◌/◌, ◌%◌}
use native.Mathlib.Omega.{arith}
use lib.ListN.{get_or, length, take, drop, length-drop}
use lib.Seq.{take-length, take_all}
use lib.Dec.{eqb}
use borrow.Author.Tests.{eq-eqb, ne_eqb, eqb-true, eqb-false}
use Rattle.record.specs.Choice.{choose, and}
use Rattle.record.specs.Options.{option_on}
use Rattle.record.specs.Stretch.{Passed}
use Rattle.record.proofs.Stretch.{passed_as}
use Rattle.scan.specs.Run.{space_or_tab, leading, every, blank, blanks, BlanksCounted}
use Rattle.scan.proofs.Leading.{leading_short, every_all, every_not, in_run, run_there, front_passed}

-- what is left of a slice from a place on
pub rest_of : (l : List ℕ) (n : ℕ) → take (length l - n) (drop n l) ≡ drop n l
rest_of l n = take_all (length l - n) (drop n l) (omega (arith, length-drop n l))

pub blanks_length : (l : List ℕ) → blanks l ≤ length l
unfolding blanks
blanks_length l = leading_short space_or_tab l

-- the spaces and tabs that are passed in blocks
pub all_passed : {kind : ℕ → Bool} {l : List ℕ} {r : ℕ} → ((b : ℕ) → kind b ≡ space_or_tab b) → Passed kind l 0 (length l) 1 r → r ≡ blanks l
unfolding blanks
all_passed {l = l} f p = front_passed (omega arith) (passed_as f p) ∙ ap (leading space_or_tab) (take-length l)

-- a line is blank where all of it is passed
pub blank_all : (l : List ℕ) (n : ℕ) → n ≡ blanks l → eqb n (length l) ≡ blank l
unfolding blank blanks
blank_all l n e = go (eqb n (length l)) refl
  where
    go : (z : Bool) → eqb n (length l) ≡ z → eqb n (length l) ≡ every space_or_tab l
    go true q = q ∙ sym (every_all space_or_tab l (sym e ∙ eqb-true _ _ q))
    go false q = q ∙ sym (every_not space_or_tab l (λ k. eqb-false n (length l) q (e ∙ k)))

-- and is not where some byte of it is neither
pub blank_not : (l : List ℕ) (n : ℕ) → n < length l → space_or_tab (get_or l n 0) ≡ false → false ≡ blank l
unfolding blank every and
blank_not [] n h q = absurd (omega arith)
blank_not (b ∷ l) zero h q = rw q
blank_not (b ∷ l) (suc n) h q = go (space_or_tab b) (blank_not l n (omega arith) q)
  where
    go : (z : Bool) → false ≡ every space_or_tab l → false ≡ and z (every space_or_tab l)
    go true f = f
    go false f = refl

-- the options
pub is_on : (options value : ℕ) → options / value % 2 ≡ 1 → option_on options value ≡ true
unfolding option_on
is_on options value e = eq-eqb _ _ e

pub is_off : (options value : ℕ) → (options / value % 2 ≡ 1 → ⊥) → option_on options value ≡ false
unfolding option_on
is_off options value n = ne_eqb _ _ n

-- one number with an option, another without it
module _ (options value m n : ℕ) where
  pub with_option : options / value % 2 ≡ 1 → m ≡ choose (option_on options value) m n
  unfolding choose
  with_option e = rw (is_on options value e)

  pub without_option : (options / value % 2 ≡ 1 → ⊥) → n ≡ choose (option_on options value) m n
  unfolding choose
  without_option e = rw (is_off options value e)

-- by places
pub blanks_counted : BlanksCounted
unfolding blanks
blanks_counted l = record { within = leading_short space_or_tab l; before = in_run space_or_tab l; stops = run_there space_or_tab l }
