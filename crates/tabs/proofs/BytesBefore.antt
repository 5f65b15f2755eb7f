-- Without a tab columns are bytes, and the check at column 0 is the one of before: the statements of specs/BytesBefore.antt.
-- Assumes nothing.
use mathlib.Core.Path.{◌≡◌, refl, ap, ◌∙◌}
use mathlib.Core.Bool.{Bool, true, false, not}
use mathlib.Core.List.{List, [], ◌∷◌}
use Prim.Native.Nat.{ℕ, zero, suc, ◌+◌, ◌-◌}
use native.Mathlib.Numerals.{one-add}
use native.Mathlib.Omega.{arith}
use lib.ListN.{take}
use lib.Dec.{eqb, leb}
use borrow.Author.Tests.{le-leb}
use Rattle.record.specs.Choice.{choose}
use Rattle.record.specs.Options.{option_on}
use Rattle.record.proofs.Bools.{clash, and_left, and_right}
use Rattle.scan.specs.Run.{space_or_tab, leading, every, blanks}
use Rattle.scan.specs.Line.{checked_line}
use Rattle.scan.specs.Columns.{to_stop, width, columns, nothing, behind, cut, reach, reach_all, indentation}
use Rattle.scan.specs.declared.columns.Reach.{Reach}
use Rattle.tabs.specs.BytesBefore.{checked_before, blanks_up_to, indentation_before, no_tab, whole, WithoutTabs, CheckedAsBefore}

-- a byte that is no tab has one column
one_wide : (c b : ℕ) → no_tab b ≡ true → width c b ≡ 1
unfolding width no_tab choose
one_wide c b e = go (eqb b 9) e
  where
    go : (z : Bool) → not z ≡ true → choose z (to_stop c) 1 ≡ 1
    go true q = absurd (clash q refl)
    go false q = refl

-- one more byte in front
columns_step : (z : Bool) (m n : ℕ) → m ≡ n → choose z (1 + m) 0 ≡ choose z (suc n) 0
unfolding choose
columns_step true m n e = omega arith
columns_step false m n e = refl

columns_bytes : (c : ℕ) (l : List ℕ) → every no_tab l ≡ true → columns c l ≡ blanks l
unfolding columns blanks leading every
columns_bytes c [] h = refl
columns_bytes c (b ∷ l) h =
    rw (one_wide c b (and_left _ _ h)) (columns_step (space_or_tab b) (columns (c + 1) l) (blanks l) (columns_bytes (c + 1) l (and_right _ _ h)))

reach_none : (l : List ℕ) (c : ℕ) → every no_tab l ≡ true → reach 0 c l ≡ whole 0
unfolding reach every cut choose
reach_none [] c h = refl
reach_none (b ∷ l) c h = rw (one_wide c b (and_left _ _ h)) (go (space_or_tab b))
  where
    go : (z : Bool) → choose z nothing nothing ≡ whole 0
    go true = refl
    go false = refl

reach_step : (z : Bool) (r : Reach) (n : ℕ) → r ≡ whole n → choose z (behind 1 1 r) nothing ≡ whole (choose z (suc n) 0)
unfolding choose
reach_step true r n e = rw e (ap whole (one-add n))
reach_step false r n e = refl

one_fits : (max : ℕ) (a b : Reach) → choose (leb 1 (suc max)) a b ≡ a
unfolding choose
one_fits max a b = rw (le-leb 1 (suc max) (omega arith))

one_off : (max : ℕ) → suc max - 1 ≡ max
one_off max = omega arith

reach_bytes : (max c : ℕ) (l : List ℕ) → every no_tab l ≡ true → reach max c l ≡ whole (blanks_up_to max l)
unfolding reach blanks_up_to leading every
reach_bytes zero c l h = reach_none l c h
reach_bytes (suc max) c [] h = refl
reach_bytes (suc max) c (b ∷ l) h =
    rw (one_wide c b (and_left _ _ h), one_fits max, one_off max) (reach_step (space_or_tab b) (reach max (c + 1) l) (blanks_up_to max l) (reach_bytes max (c + 1) l (and_right _ _ h)))

-- up to as many bytes as there are spaces and tabs is all of them
take_run : (kind : ℕ → Bool) (l : List ℕ) → leading kind (take (leading kind l) l) ≡ leading kind l
unfolding leading choose
take_run kind [] = refl
take_run kind (b ∷ l) = go (kind b) refl (take_run kind l)
  where
    go : (z : Bool) → kind b ≡ z → leading kind (take (leading kind l) l) ≡ leading kind l →
        leading kind (take (choose z (suc (leading kind l)) 0) (b ∷ l)) ≡ choose z (suc (leading kind l)) 0
    go true e f = rw e (ap suc f)
    go false e f = refl

all_bytes : (c : ℕ) (l : List ℕ) → every no_tab l ≡ true → reach_all c l ≡ whole (blanks l)
unfolding reach_all blanks blanks_up_to
all_bytes c l h = rw (columns_bytes c l h) (reach_bytes (blanks l) c l h ∙ ap whole (take_run space_or_tab l))

either : (z : Bool) (a b : Reach) (m n : ℕ) → a ≡ whole m → b ≡ whole n → choose z a b ≡ whole (choose z m n)
unfolding choose
either true a b m n e f = e
either false a b m n e f = f

pub without_tabs : WithoutTabs
unfolding indentation indentation_before
without_tabs c l h =
    record {
      all = columns_bytes c l h;
      up_to = λ max. reach_bytes max c l h;
      indented = λ options. either (option_on options 32) _ _ _ _ (reach_bytes 3 c l h) (all_bytes c l h);
    }

pub checked_as_before : CheckedAsBefore
unfolding checked_line checked_before choose
checked_as_before s options = refl
