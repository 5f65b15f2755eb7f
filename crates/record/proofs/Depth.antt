-- Sound events and their depth: more room does no harm, and room for those that are open at once is enough.
-- Assumes nothing.
use mathlib.Core.Path.{◌≡◌, refl, ap}
use mathlib.Core.Bool.{Bool, true, false}
use mathlib.Core.List.{List, [], ◌∷◌}
use Prim.Native.Nat.{ℕ, zero, suc, ◌+◌, ◌≤◌, ◌<◌}
use native.Mathlib.Omega.{arith}
use lib.ListN.{length, take}
use lib.Dec.{ltb, eqb}
use borrow.Author.Tests.{lt-ltb, eqb-true}
use Rattle.record.specs.Choice.{choose}
use Rattle.record.specs.Stack.{innermost, outer, fits_open, after, open_after}
use Rattle.record.specs.Sound.{sound_from, sound, OpenAtMost}
use Rattle.record.specs.declared.event.Event.{Event}
use Rattle.record.proofs.Bools.{and_left, and_right, and_both}
use Rattle.record.proofs.Soundness.{fits_room, after_enter}

-- an event fits where there is room for it
fits_less : (deep more : ℕ) (e : Event) (held : List ℕ) → fits_open more e held ≡ true → (e.kind ≡ 0 → length held < deep) → fits_open deep e held ≡ true
unfolding fits_open choose
fits_less deep more e held q f = go (eqb e.kind 0) refl q
  where
    go : (b : Bool) → eqb e.kind 0 ≡ b → choose b (ltb (length held) more) (innermost e.name held) ≡ true →
        choose b (ltb (length held) deep) (innermost e.name held) ≡ true
    go true z q = lt-ltb _ _ (f (eqb-true _ _ z))
    go false z q = q

outer_long : (xs ys : List ℕ) → length xs ≡ length ys → length (outer xs) ≡ length (outer ys)
outer_long [] [] h = refl
outer_long [] (y ∷ ys) h = absurd (omega arith)
outer_long (x ∷ xs) [] h = absurd (omega arith)
outer_long (x ∷ xs) (y ∷ ys) h = omega arith

-- names and numbers that are open are as many
after_long : (e : Event) (x y : ℕ) (xs ys : List ℕ) → length xs ≡ length ys → length (after e x xs) ≡ length (after e y ys)
unfolding after choose
after_long e x y xs ys h = go (eqb e.kind 0)
  where
    go : (b : Bool) → length (choose b (x ∷ xs) (outer xs)) ≡ length (choose b (y ∷ ys) (outer ys))
    go true = ap suc h
    go false = outer_long xs ys h

shallow_from : (deep more d last i : ℕ) (held opens : List ℕ) (es : List Event) → length held ≡ length opens → sound_from more d last held es ≡ true →
    ((k : ℕ) → k ≤ length es → length (open_after (take k es) i opens) ≤ deep) → sound_from deep d last held es ≡ true
unfolding sound_from open_after
shallow_from deep more d last i held opens [] l q f = q
shallow_from deep more d last i held opens (e ∷ es) l q f =
    and_both _ _ (and_left _ _ q)
    (and_both _ _ (fits_less deep more e held (and_left _ _ (and_right _ _ q)) room)
    (shallow_from deep more d e.place (i + 1) (after e e.name held) (after e i opens) es (after_long e e.name i held opens l) (and_right _ _ (and_right _ _ q))
    (λ k h. f (suc k) (omega arith))))
  where
    room : e.kind ≡ 0 → length held < deep
    room z =
        let one : length (after e i opens) ≤ deep = f 1 (omega arith) in
        let two : length (after e i opens) ≡ suc (length opens) = ap length (after_enter e i opens z) in
        omega arith

pub sound_shallow : (deep more d : ℕ) (es : List Event) → sound more d es ≡ true → OpenAtMost deep es → sound deep d es ≡ true
sound_shallow deep more d es q f = shallow_from deep more d 0 0 [] [] es refl q f

pub fits_deeper : (deep more : ℕ) (e : Event) (held : List ℕ) → deep ≤ more → fits_open deep e held ≡ true → fits_open more e held ≡ true
fits_deeper deep more e held h q = fits_less more deep e held q (λ z. let l : length held < deep = fits_room deep e held q z in omega arith)

pub sound_deeper : (deep more d last : ℕ) (held : List ℕ) (es : List Event) → deep ≤ more → sound_from deep d last held es ≡ true → sound_from more d last held es ≡ true
unfolding sound_from
sound_deeper deep more d last held [] h q = q
sound_deeper deep more d last held (e ∷ es) h q =
    and_both _ _ (and_left _ _ q)
    (and_both _ _ (fits_deeper deep more e held h (and_left _ _ (and_right _ _ q)))
    (sound_deeper deep more d e.place (after e e.name held) es h (and_right _ _ (and_right _ _ q))))

outer_short : (xs : List ℕ) (n : ℕ) → length xs ≤ n → length (outer xs) ≤ n
outer_short [] n h = h
outer_short (x ∷ xs) n h = omega arith

-- where an event fits there is room for what is then open
after_room : (deep : ℕ) (e : Event) (held : List ℕ) → fits_open deep e held ≡ true → length held ≤ deep → length (after e e.name held) ≤ deep
unfolding after choose
after_room deep e held q h = go (eqb e.kind 0) refl
  where
    go : (b : Bool) → eqb e.kind 0 ≡ b → length (choose b (e.name ∷ held) (outer held)) ≤ deep
    go true z =
        let l : length held < deep = fits_room deep e held q (eqb-true _ _ z) in
        omega arith
    go false z = outer_short held deep h

open_within : (deep d last i : ℕ) (held opens : List ℕ) (es : List Event) → length held ≡ length opens → length held ≤ deep →
    sound_from deep d last held es ≡ true → (k : ℕ) → k ≤ length es → length (open_after (take k es) i opens) ≤ deep
unfolding sound_from open_after
open_within deep d last i held opens es l h q zero g = omega arith
open_within deep d last i held opens [] l h q (suc k) g = absurd (omega arith)
open_within deep d last i held opens (e ∷ es) l h q (suc k) g =
    open_within deep d e.place (i + 1) (after e e.name held) (after e i opens) es (after_long e e.name i held opens l)
    (after_room deep e held (and_left _ _ (and_right _ _ q)) h) (and_right _ _ (and_right _ _ q)) k (omega arith)

-- sound events keep within the depth that they are sound with
pub sound_open : (deep d : ℕ) (es : List Event) → sound deep d es ≡ true → OpenAtMost deep es
sound_open deep d es q k h = open_within deep d 0 0 [] [] es refl (omega arith) q k h
