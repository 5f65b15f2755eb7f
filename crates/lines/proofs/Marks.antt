-- Marks of thematic breaks and list items, case by case, and the loop that counts a mark.
-- Assumes nothing.
use mathlib.Core.Path.{ap, ◌≡◌, refl, sym, ◌∙◌}
use mathlib.Core.Bool.{Bool, true, false}
use mathlib.Core.Logic.{⊎_elim}
use mathlib.Core.List.{List, [], ◌∷◌}
use Prim.Native.Nat.{ℕ, zero, suc, ◌+◌, ◌≤◌, ◌<◌}
use native.Mathlib.Nat.{zero-add, add-zero}
use native.Mathlib.Numerals.{add-one}
use native.Mathlib.Omega.{arith}
use lib.ListN.{length, get_or, drop, drop_of_length-le}
use lib.Dec.{leb}
use lib.Seq.{drop-cons}
use borrow.Author.Tests.{eq-eqb, ne_eqb, le-leb, lt-leb, leb-true}
use Rattle.std.specs.Prelude.{eqb, None, Option}
use Rattle.record.specs.Choice.{choose, and}
use Rattle.record.proofs.Bools.{and_left, and_right, and_false}
use Rattle.record.proofs.Chosen.{chosen}
use Rattle.scan.specs.Run.{or, space_or_tab, digit, leading, every, count, first}
use Rattle.lines.specs.Item.{break_mark, is_mark, mark_or_blank, marks_only, thematic_break, bullet_mark, ordered_mark, starts_with_one, may_start, ordered_of, marker_of, marked}
use Rattle.lines.specs.declared.container.Kind.{Kind}
use Rattle.lines.specs.declared.container.Kind.TheVariants.{Bullet, Ordered}
use Rattle.lines.specs.declared.item.Marker.{Marker}
use Rattle.scan.proofs.Leading.{first_of}

and_true : (b : Bool) → and b true ≡ b
unfolding and
and_true true = refl
and_true false = refl

-- what is left to look at, after n bytes of which some are marks, finds what the whole does
unfoldable pub marked_rest : ℕ → List ℕ → ℕ → ℕ → Bool
marked_rest mark l marks n = and (leb 3 (marks + count (is_mark mark) (drop n l))) (every (mark_or_blank mark) (drop n l))

pub record Marking (mark : ℕ) (l : List ℕ) (marks n : ℕ) : Type 0 where
  pub low : n ≤ length l
  pub few : marks ≤ n
  pub rest : marked_rest mark l marks n ≡ marks_only mark l

pub mark_start : (mark : ℕ) (l : List ℕ) → Marking mark l 0 0
unfolding marked_rest marks_only
mark_start mark l = record { low = omega arith; few = omega arith; rest = rw (zero-add) }

neither : (mark b : ℕ) → (b ≡ mark → ⊥) → space_or_tab b ≡ false → mark_or_blank mark b ≡ false
unfolding mark_or_blank is_mark or
neither mark b d e = rw (ne_eqb _ _ d, e)

every_first : (kind : ℕ → Bool) (b : ℕ) (l : List ℕ) → kind b ≡ false → every kind (b ∷ l) ≡ false
unfolding every and
every_first kind b l e = rw e

module _ (mark : ℕ) (l : List ℕ) (marks n : ℕ) (h : n < length l) where
  step_mark : get_or l n 0 ≡ mark → marked_rest mark l marks n ≡ marked_rest mark l (marks + 1) (suc n)
  unfolding marked_rest count every mark_or_blank is_mark choose and or
  step_mark e =
      let k : (m : ℕ) → marks + suc m ≡ marks + 1 + m = λ m. omega arith in
      rw (drop-cons l n 0 h, eq-eqb _ _ e, k)

  step_blank : (get_or l n 0 ≡ mark → ⊥) → space_or_tab (get_or l n 0) ≡ true → marked_rest mark l marks n ≡ marked_rest mark l marks (suc n)
  unfolding marked_rest count every mark_or_blank is_mark choose and or
  step_blank d e = rw (drop-cons l n 0 h, ne_eqb _ _ d, e)

  step_other : (get_or l n 0 ≡ mark → ⊥) → space_or_tab (get_or l n 0) ≡ false → marked_rest mark l marks n ≡ false
  unfolding marked_rest
  step_other d e = and_false _ _ (every_breaks d e)
    where
      every_breaks : (get_or l n 0 ≡ mark → ⊥) → space_or_tab (get_or l n 0) ≡ false → every (mark_or_blank mark) (drop n l) ≡ false
      every_breaks d e = rw (drop-cons l n 0 h) (every_first _ _ _ (neither mark _ d e))

module _ {mark : ℕ} {l : List ℕ} {marks n : ℕ} (i : Marking mark l marks n) where
  pub mark_turn : n < length l → get_or l n 0 ≡ mark → Marking mark l (marks + 1) (n + 1)
  mark_turn h e =
      record {
        low = omega arith;
        few = omega arith;
        rest = rw (add-one n) (sym (step_mark mark l marks n h e) ∙ i.rest);
      }

  pub blank_turn : n < length l → (get_or l n 0 ≡ mark → ⊥) → space_or_tab (get_or l n 0) ≡ true → Marking mark l marks (n + 1)
  blank_turn h d e =
      record {
        low = omega arith;
        few = omega arith;
        rest = rw (add-one n) (sym (step_blank mark l marks n h d e) ∙ i.rest);
      }

  pub other_byte : n < length l → (get_or l n 0 ≡ mark → ⊥) → space_or_tab (get_or l n 0) ≡ false → false ≡ marks_only mark l
  other_byte h d e = sym (step_other mark l marks n h d e) ∙ i.rest

  all_looked : length l ≤ n → leb 3 marks ≡ marked_rest mark l marks n
  unfolding marked_rest count every
  all_looked h = rw (drop_of_length-le l {i = n} h, add-zero) (sym (and_true (leb 3 marks)))

  pub marks_counted : length l ≤ n → leb 3 marks ≡ marks_only mark l
  marks_counted h = all_looked h ∙ i.rest

module _ (l : List ℕ) where
  module _ (b : ℕ) (q : b ≡ first l) where
    pub no_break_mark : break_mark b ≡ false → false ≡ thematic_break l
    unfolding thematic_break and
    no_break_mark e = rw (← q, e)

    pub break_mark_lem : (r : Bool) → break_mark b ≡ true → r ≡ marks_only b l → r ≡ thematic_break l
    unfolding thematic_break and
    break_mark_lem r e o = rw (← q, e) o

  pub not_interrupting : (z : Bool) → z ≡ false → true ≡ may_start z l
  unfolding may_start or
  not_interrupting z e = rw e

  module _ (n : ℕ) (k : n ≡ leading digit l) where
    pub other_count : (z : Bool) → z ≡ true → (n ≡ 1 → ⊥) → false ≡ may_start z l
    unfolding may_start starts_with_one or and
    other_count z e h = rw (e, ← k, ne_eqb _ _ h)

    pub one_digit : (z : Bool) (b : ℕ) → z ≡ true → n ≡ 1 → b ≡ first l → eqb b 49 ≡ may_start z l
    unfolding may_start starts_with_one or and
    one_digit z b e h d = rw (e, ← k, eq-eqb _ _ h, ← d)

    module _ (z : Bool) where
      pub no_digits : n < 1 → None ≡ ordered_of z l
      unfolding ordered_of choose and
      no_digits h = rw (← k, lt-leb _ _ h)

      pub too_many_digits : 1 ≤ n → 9 < n → None ≡ ordered_of z l
      unfolding ordered_of choose and
      too_many_digits h m = rw (← k, le-leb _ _ h, lt-leb _ _ m)

      module _ (h : 1 ≤ n) (m : n ≤ 9) (b : ℕ) (q : b ≡ get_or l n 0) where
        pub no_ordered_mark : ordered_mark b ≡ false → None ≡ ordered_of z l
        unfolding ordered_of choose and
        no_ordered_mark e = rw (← k, le-leb _ _ h, le-leb _ _ m, ← q, e)

        pub may_not_start : ordered_mark b ≡ true → may_start z l ≡ false → None ≡ ordered_of z l
        unfolding ordered_of choose and
        may_not_start e f = rw (← k, le-leb _ _ h, le-leb _ _ m, ← q, e, f)

        pub ordered_marker : ordered_mark b ≡ true → may_start z l ≡ true → marked (Ordered b) (n + 1) ≡ ordered_of z l
        unfolding ordered_of choose and
        ordered_marker e f = rw (← k, le-leb _ _ h, le-leb _ _ m, ← q, e, f)

  module _ (z : Bool) (b : ℕ) (q : b ≡ first l) where
    pub no_bullet : bullet_mark b ≡ false → (r : Option Marker) → r ≡ ordered_of z l → r ≡ marker_of z l
    unfolding marker_of choose
    no_bullet e r o = rw (← q, e) o

    pub a_break : bullet_mark b ≡ true → thematic_break l ≡ true → None ≡ marker_of z l
    unfolding marker_of choose
    a_break e t = rw (← q, e, t)

    pub bullet_marker : bullet_mark b ≡ true → thematic_break l ≡ false → marked (Bullet b) 1 ≡ marker_of z l
    unfolding marker_of choose
    bullet_marker e t = rw (← q, e, t)

-- what a marker tells: it stands within what it is looked for in, and that is not a thematic break
pub record Told (z : Bool) (l : List ℕ) (width : ℕ) : Type 0 where
  pub some : 1 ≤ width
  pub narrow : width ≤ 10
  pub fits : width ≤ length l
  pub no_break : thematic_break l ≡ false

pub unmarked_not : (kind : Kind) (width : ℕ) → marked kind width ≡ None → ⊥
unmarked_not kind width q = let x : ◌≡◌ {A = ℕ} 0 1 = cc in omega arith

pub marked_width : (k₁ k₂ : Kind) (m n : ℕ) → marked k₁ m ≡ marked k₂ n → m ≡ n
marked_width k₁ k₂ m n q =
    let r : ◌≡◌ {A = Marker} (record { kind = k₁; width = m }) (record { kind = k₂; width = n }) = cc in
    ap (λ (x : Marker). x.width) r

-- a byte that is not the 0 that stands for nothing is there
there : (l : List ℕ) (n : ℕ) → (get_or l n 0 ≡ 0 → ⊥) → n < length l
there [] n h = absurd (h refl)
there (b ∷ l) zero h = omega arith
there (b ∷ l) (suc n) h = omega (arith, there l n h)

bullet_there : (b : ℕ) → bullet_mark b ≡ true → b ≡ 0 → ⊥
unfolding bullet_mark or
bullet_there b e q = let x : bullet_mark 0 ≡ true = rw q at e in let y : ◌≡◌ {A = ℕ} 0 1 = cc in omega arith

ordered_there : (b : ℕ) → ordered_mark b ≡ true → b ≡ 0 → ⊥
unfolding ordered_mark or
ordered_there b e q = let x : ordered_mark 0 ≡ true = rw q at e in let y : ◌≡◌ {A = ℕ} 0 1 = cc in omega arith

digit_no_break : (b : ℕ) → digit b ≡ true → break_mark b ≡ false
unfolding digit break_mark or
digit_no_break b e =
    let low : 48 ≤ b = leb-true _ _ (and_left _ _ e) in
    let high : b ≤ 57 = leb-true _ _ (and_right _ _ e) in
    rw (ne_eqb b 42 (λ q. omega arith), ne_eqb b 45 (λ q. omega arith), ne_eqb b 95 (λ q. omega arith))

break_needs : (l : List ℕ) → break_mark (first l) ≡ false → thematic_break l ≡ false
unfolding thematic_break and
break_needs l e = rw e

bullet_told : (z : Bool) (l : List ℕ) (kind : Kind) (width : ℕ) → bullet_mark (first l) ≡ true →
    marked kind width ≡ choose (thematic_break l) None (marked (Bullet (first l)) 1) → Told z l width
bullet_told z l kind width b q =
    ⊎_elim
    (λ w. absurd (unmarked_not kind width w.1))
    (λ w.
    let e : width ≡ 1 = marked_width _ _ _ _ w.1 in
    let h : 0 < length l = there l 0 (bullet_there (first l) b) in
    record { some = omega arith; narrow = omega arith; fits = omega arith; no_break = w.0 })
    (chosen _ _ _ _ q)

ordered_told : (z : Bool) (l : List ℕ) (kind : Kind) (width : ℕ) → marked kind width ≡ ordered_of z l → Told z l width
unfolding ordered_of
ordered_told z l kind width q =
    ⊎_elim
    (λ w.
    let e : width ≡ leading digit l + 1 = marked_width _ _ _ _ w.1 in
    let d : 1 ≤ leading digit l = leb-true _ _ (and_left _ _ w.0) in
    let nine : leading digit l ≤ 9 = leb-true _ _ (and_left _ _ (and_right _ _ w.0)) in
    let m = and_left _ _ (and_right _ _ (and_right _ _ w.0)) in
    let h : leading digit l < length l = there l (leading digit l) (ordered_there _ m) in
    record { some = omega arith; narrow = omega arith; fits = omega arith; no_break = break_needs l (digit_no_break _ (first_of digit l d)) })
    (λ w. absurd (unmarked_not kind width w.1))
    (chosen _ _ _ _ q)

pub told : (z : Bool) (l : List ℕ) (kind : Kind) (width : ℕ) → marked kind width ≡ marker_of z l → Told z l width
unfolding marker_of
told z l kind width q =
    ⊎_elim (λ w. bullet_told z l kind width w.0 w.1) (λ w. ordered_told z l kind width w.1) (chosen _ _ _ _ q)
