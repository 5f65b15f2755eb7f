-- Markers on a line with its tabs replaced (specs/Replaced.antt): the marker there is the one on the line itself, and none of its bytes is a tab, so it has
-- as many columns as bytes.
-- Assumes nothing.
use mathlib.Core.Path.{◌≡◌, refl, sym, ap, ◌∙◌}
use mathlib.Core.Bool.{Bool, true, false}
use mathlib.Core.Logic.{◌⊎◌, inl, inr, ⊎_elim}
use mathlib.Core.List.{List, [], ◌∷◌, ◌++◌}
use Prim.Native.Nat.{ℕ, zero, suc, ◌+◌, ◌≤◌, ◌<◌}
use native.Mathlib.Omega.{arith}
use lib.ListN.{length, get_or, take, replicate}
use lib.Dec.{eqb}
use borrow.Author.Tests.{ne_eqb, eqb-true, eqb-false}
use Rattle.std.specs.Prelude.{None}
use Rattle.record.specs.Choice.{choose, and}
use Rattle.record.proofs.Bools.{clash, and_left, and_right}
use Rattle.record.proofs.Chosen.{chosen}
use Rattle.scan.specs.Run.{or, space_or_tab, digit, leading, every, count, first}
use Rattle.scan.specs.Columns.{to_stop}
use Rattle.tabs.specs.Replaced.{replaced, up_to}
use Rattle.scan.proofs.Leading.{in_run}
use Rattle.lines.specs.Item.{break_mark, is_mark, mark_or_blank, marks_only, thematic_break, marked}
use Rattle.lines.specs.Item.{bullet_mark, ordered_mark, starts_with_one, may_start, ordered_of, marker_of}
use Rattle.lines.specs.declared.container.Kind.{Kind}
use Rattle.lines.specs.declared.container.Kind.TheVariants.{Bullet, Ordered}
use Rattle.lines.proofs.Marks.{told, marked_width, unmarked_not}
use Rattle.tabs.proofs.ReadersBefore.{choose_where}

-- the first byte, where it is a tab and where it is not
on_tab : (c b : ℕ) (l : List ℕ) → eqb b 9 ≡ true → replaced c (b ∷ l) ≡ replicate (to_stop c) 32 ++ replaced (c + to_stop c) l
unfolding replaced choose
on_tab c b l e = rw e

on_other : (c b : ℕ) (l : List ℕ) → eqb b 9 ≡ false → replaced c (b ∷ l) ≡ b ∷ replaced (c + 1) l
unfolding replaced choose
on_other c b l e = rw e

-- spaces in front
spaces_first : (n : ℕ) (l : List ℕ) → 1 ≤ n → first (replicate n 32 ++ l) ≡ 32
spaces_first zero l h = absurd (omega arith)
spaces_first (suc n) l h = refl

-- they add nothing to what is counted of a kind that a space is not, nor take from whether all are of a kind that it is
module _ (kind : ℕ → Bool) where
  spaces_leading : (n : ℕ) (l : List ℕ) → kind 32 ≡ false → 1 ≤ n → leading kind (replicate n 32 ++ l) ≡ 0
  unfolding leading choose
  spaces_leading zero l e h = absurd (omega arith)
  spaces_leading (suc n) l e h = rw e

  spaces_count : (n : ℕ) (l : List ℕ) → kind 32 ≡ false → count kind (replicate n 32 ++ l) ≡ count kind l
  unfolding count choose
  spaces_count zero l e = refl
  spaces_count (suc n) l e = rw e (spaces_count n l e)

  spaces_every : (n : ℕ) (l : List ℕ) → kind 32 ≡ true → every kind (replicate n 32 ++ l) ≡ every kind l
  unfolding every and
  spaces_every zero l e = refl
  spaces_every (suc n) l e = rw e (spaces_every n l e)

  -- a tab is of the kind where its spaces are
  leading_replaced : kind 9 ≡ false → kind 32 ≡ false → (c : ℕ) (l : List ℕ) → leading kind (replaced c l) ≡ leading kind l
  unfolding leading replaced choose
  leading_replaced t s c [] = refl
  leading_replaced t s c (b ∷ l) = go (eqb b 9) refl (leading_replaced t s (c + 1) l)
    where
      go : (z : Bool) → eqb b 9 ≡ z → leading kind (replaced (c + 1) l) ≡ leading kind l → leading kind (replaced c (b ∷ l)) ≡ leading kind (b ∷ l)
      go true e f =
          let q : b ≡ 9 = eqb-true _ _ e in
          rw (on_tab c b l e, q, t) (spaces_leading (to_stop c) _ s (omega arith))
      go false e f = rw (on_other c b l e, f)

  count_replaced : kind 9 ≡ false → kind 32 ≡ false → (c : ℕ) (l : List ℕ) → count kind (replaced c l) ≡ count kind l
  unfolding count replaced choose
  count_replaced t s c [] = refl
  count_replaced t s c (b ∷ l) = go (eqb b 9) refl (count_replaced t s (c + 1) l) (count_replaced t s (c + to_stop c) l)
    where
      go : (z : Bool) → eqb b 9 ≡ z → count kind (replaced (c + 1) l) ≡ count kind l → count kind (replaced (c + to_stop c) l) ≡ count kind l →
          count kind (replaced c (b ∷ l)) ≡ count kind (b ∷ l)
      go true e f g =
          let q : b ≡ 9 = eqb-true _ _ e in
          rw (on_tab c b l e, q, t) (spaces_count (to_stop c) _ s ∙ g)
      go false e f g = rw (on_other c b l e, f)

  every_replaced : kind 9 ≡ true → kind 32 ≡ true → (c : ℕ) (l : List ℕ) → every kind (replaced c l) ≡ every kind l
  unfolding every replaced choose and
  every_replaced t s c [] = refl
  every_replaced t s c (b ∷ l) = go (eqb b 9) refl (every_replaced t s (c + 1) l) (every_replaced t s (c + to_stop c) l)
    where
      go : (z : Bool) → eqb b 9 ≡ z → every kind (replaced (c + 1) l) ≡ every kind l → every kind (replaced (c + to_stop c) l) ≡ every kind l →
          every kind (replaced c (b ∷ l)) ≡ every kind (b ∷ l)
      go true e f g =
          let q : b ≡ 9 = eqb-true _ _ e in
          rw (on_tab c b l e, q, t) (spaces_every (to_stop c) _ s ∙ g)
      go false e f g = rw (on_other c b l e, f)

-- a byte and what stands for it: itself, or a space for a tab
abbrev Alike : ℕ → ℕ → Type 0
Alike x y = (x ≡ y) ⊎ ((x ≡ 9) × (y ≡ 32))

alike_told : (kind : ℕ → Bool) → kind 9 ≡ false → kind 32 ≡ false → {x y : ℕ} → Alike x y → kind y ≡ kind x
alike_told kind t s a = ⊎_elim (λ e. ap kind (sym e)) (λ e. rw (e.0, e.1) (s ∙ sym t)) a

alike_same : (kind : ℕ → Bool) → kind 9 ≡ false → {x y : ℕ} → kind x ≡ true → Alike x y → x ≡ y
alike_same kind t h a = ⊎_elim (λ e. e) (λ e. absurd (clash h (ap kind e.0 ∙ t))) a

-- the first byte, and the one behind a run
first_alike : (c : ℕ) (l : List ℕ) → Alike (first l) (first (replaced c l))
unfolding replaced choose
first_alike c [] = inl refl
first_alike c (b ∷ l) = go (eqb b 9) refl
  where
    go : (z : Bool) → eqb b 9 ≡ z → Alike b (first (replaced c (b ∷ l)))
    go true e = inr (eqb-true _ _ e, rw (on_tab c b l e) (spaces_first (to_stop c) _ (omega arith)))
    go false e = inl (rw (on_other c b l e))

behind_alike : (kind : ℕ → Bool) → kind 9 ≡ false → (c : ℕ) (l : List ℕ) → Alike (get_or l (leading kind l) 0) (get_or (replaced c l) (leading kind l) 0)
unfolding leading choose replaced
behind_alike kind t c [] = inl refl
behind_alike kind t c (b ∷ l) = go (kind b) refl (eqb b 9) refl (behind_alike kind t (c + 1) l)
  where
    go : (y : Bool) → kind b ≡ y → (z : Bool) → eqb b 9 ≡ z → Alike (get_or l (leading kind l) 0) (get_or (replaced (c + 1) l) (leading kind l) 0) →
        Alike (get_or (b ∷ l) (choose y (suc (leading kind l)) 0) 0) (get_or (replaced c (b ∷ l)) (choose y (suc (leading kind l)) 0) 0)
    go true k true e f = absurd (clash k (ap kind (eqb-true _ _ e) ∙ t))
    go true k false e f = rw (on_other c b l e) f
    go false k z e f = first_alike c (b ∷ l)

-- a thematic break
or_true : (b : Bool) → or b true ≡ true
unfolding or
or_true true = refl
or_true false = refl

-- spaces and tabs are no marks
no_break : (break_mark 9 ≡ false) × (break_mark 32 ≡ false)
unfolding break_mark or
no_break = (refl, refl)

no_bullets : (bullet_mark 9 ≡ false) × (bullet_mark 32 ≡ false)
unfolding bullet_mark or
no_bullets = (refl, refl)

no_ordered : (ordered_mark 9 ≡ false) × (ordered_mark 32 ≡ false)
unfolding ordered_mark or
no_ordered = (refl, refl)

no_digit : (digit 9 ≡ false) × (digit 32 ≡ false)
unfolding digit and
no_digit = (refl, refl)

abbrev is_one : ℕ → Bool
is_one b = eqb b 49

module _ (mark : ℕ) (h : break_mark mark ≡ true) where
  not_mark : (b : ℕ) → break_mark b ≡ false → is_mark mark b ≡ false
  unfolding is_mark
  not_mark b e = ne_eqb b mark (λ q. clash h (ap break_mark (sym q) ∙ e))

  may_stand : (b : ℕ) → space_or_tab b ≡ true → mark_or_blank mark b ≡ true
  unfolding mark_or_blank
  may_stand b e = rw e (or_true (is_mark mark b))

  marks_replaced : (c : ℕ) (l : List ℕ) → marks_only mark (replaced c l) ≡ marks_only mark l
  unfolding marks_only space_or_tab or
  marks_replaced c l =
      rw (
        count_replaced (is_mark mark) (not_mark 9 no_break.0) (not_mark 32 no_break.1) c l,
        every_replaced (mark_or_blank mark) (may_stand 9 refl) (may_stand 32 refl) c l,
      )

module _ (c : ℕ) (l : List ℕ) where
  break_replaced : thematic_break (replaced c l) ≡ thematic_break l
  unfolding thematic_break and
  break_replaced = go (break_mark (first l)) refl
    where
      alike : break_mark (first (replaced c l)) ≡ break_mark (first l)
      alike = alike_told break_mark no_break.0 no_break.1 (first_alike c l)

      go : (y : Bool) → break_mark (first l) ≡ y → thematic_break (replaced c l) ≡ thematic_break l
      go true e =
          let q : first l ≡ first (replaced c l) = alike_same break_mark no_break.0 e (first_alike c l) in
          rw (← q, e) (marks_replaced (first l) e c l)
      go false e = rw (alike, e)

  digits_replaced : leading digit (replaced c l) ≡ leading digit l
  digits_replaced = leading_replaced digit no_digit.0 no_digit.1 c l

  one_replaced : is_one (first (replaced c l)) ≡ is_one (first l)
  one_replaced = alike_told is_one refl refl (first_alike c l)

  may_replaced : (z : Bool) → may_start z (replaced c l) ≡ may_start z l
  unfolding may_start starts_with_one
  may_replaced z = rw (digits_replaced, one_replaced)

  -- the byte behind the digits
  behind_digits : Alike (get_or l (leading digit l) 0) (get_or (replaced c l) (leading digit l) 0)
  behind_digits = behind_alike digit no_digit.0 c l

  ordered_mark_lem : ordered_mark (get_or (replaced c l) (leading digit l) 0) ≡ ordered_mark (get_or l (leading digit l) 0)
  ordered_mark_lem = alike_told ordered_mark no_ordered.0 no_ordered.1 behind_digits

  ordered_replaced : (z : Bool) → ordered_of z (replaced c l) ≡ ordered_of z l
  unfolding ordered_of
  ordered_replaced z =
      rw (digits_replaced, ordered_mark_lem, may_replaced z)
      (choose_where _ _ _ _ _
      (λ e.
      let m = and_left _ _ (and_right _ _ (and_right _ _ e)) in
      ap (λ (b : ℕ). marked (Ordered b) (leading digit l + 1)) (sym (alike_same ordered_mark no_ordered.0 m behind_digits)))
      (λ e. refl))

  -- the marker is the same
  pub marker_replaced : (z : Bool) → marker_of z (replaced c l) ≡ marker_of z l
  unfolding marker_of
  marker_replaced z =
      rw (alike_told bullet_mark no_bullets.0 no_bullets.1 (first_alike c l), break_replaced, ordered_replaced z)
      (choose_where _ _ _ _ _
      (λ e. ap (λ (b : ℕ). choose (thematic_break l) None (marked (Bullet b) 1)) (sym (alike_same bullet_mark no_bullets.0 e (first_alike c l))))
      (λ e. refl))

-- bytes that are no tabs have as many columns
no_tabs : (c : ℕ) (l : List ℕ) (n : ℕ) → n ≤ length l → ((p : ℕ) → p < n → get_or l p 0 ≡ 9 → ⊥) → up_to c l n ≡ n
unfolding up_to replaced
no_tabs c l zero h f = refl
no_tabs c [] (suc n) h f = absurd (omega arith)
no_tabs c (b ∷ l) (suc n) h f =
    let e : eqb b 9 ≡ false = ne_eqb b 9 (f 0 (omega arith)) in
    rw (on_other c b (take n l) e) (ap suc (no_tabs (c + 1) l n (omega arith) (λ p k. f (suc p) (omega arith))))

-- a byte of a kind that a tab is not is no tab
not_tab : (kind : ℕ → Bool) → kind 9 ≡ false → (b : ℕ) → kind b ≡ true → b ≡ 9 → ⊥
not_tab kind t b h e = clash h (ap kind e ∙ t)

-- no byte of a marker is
bullet_tabs : (l : List ℕ) (kind : Kind) (width : ℕ) → bullet_mark (first l) ≡ true →
    marked kind width ≡ choose (thematic_break l) None (marked (Bullet (first l)) 1) → (p : ℕ) → p < width → get_or l p 0 ≡ 9 → ⊥
bullet_tabs l kind width b q p h =
    ⊎_elim
    (λ w. absurd (unmarked_not kind width w.1))
    (λ w.
    let e : width ≡ 1 = marked_width _ _ _ _ w.1 in
    let z : p ≡ 0 = omega arith in
    rw z (not_tab bullet_mark no_bullets.0 (first l) b))
    (chosen _ _ _ _ q)

ordered_tabs : (z : Bool) (l : List ℕ) (kind : Kind) (width : ℕ) → marked kind width ≡ ordered_of z l → (p : ℕ) → p < width → get_or l p 0 ≡ 9 → ⊥
unfolding ordered_of
ordered_tabs z l kind width q p h =
    ⊎_elim
    (λ w.
    let e : width ≡ leading digit l + 1 = marked_width _ _ _ _ w.1 in
    let m = and_left _ _ (and_right _ _ (and_right _ _ w.0)) in
    digits_tabs m (omega arith))
    (λ w. absurd (unmarked_not kind width w.1))
    (chosen _ _ _ _ q)
  where
    digits_tabs : ordered_mark (get_or l (leading digit l) 0) ≡ true → p < leading digit l + 1 → get_or l p 0 ≡ 9 → ⊥
    digits_tabs m k = go (eqb p (leading digit l)) refl
      where
        go : (y : Bool) → eqb p (leading digit l) ≡ y → get_or l p 0 ≡ 9 → ⊥
        go true e = let q : p ≡ leading digit l = eqb-true _ _ e in rw q (not_tab ordered_mark no_ordered.0 _ m)
        go false e =
            let q = eqb-false p (leading digit l) e in
            not_tab digit no_digit.0 _ (in_run digit l p (omega arith))

-- so a marker has as many columns as bytes
pub marker_columns : (z : Bool) (c : ℕ) (l : List ℕ) (kind : Kind) (width : ℕ) → marked kind width ≡ marker_of z l → up_to c l width ≡ width
unfolding marker_of
marker_columns z c l kind width q =
    no_tabs c l width (told z l kind width q).fits
    (⊎_elim (λ w. bullet_tabs l kind width w.0 w.1) (λ w. ordered_tabs z l kind width w.1) (chosen _ _ _ _ q))
