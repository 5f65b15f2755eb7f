-- Sound lists of events, one event at a time, and the enter events that are open at each.
-- Assumes nothing.
use mathlib.Core.Path.{◌≡◌, refl, ap, ◌∙◌}
use mathlib.Core.Bool.{true}
use mathlib.Core.List.{List, [], ◌∷◌, ◌++◌}
use Prim.Native.Nat.{ℕ, suc, ◌+◌, ◌≤◌, ◌<◌}
use native.Mathlib.Omega.{arith}
use lib.ListN.{length}
use borrow.Author.Tests.{leb-true, ltb-true, eqb-true, eq-eqb, ne_eqb, le-leb, lt-ltb}
use Rattle.record.specs.Choice.{choose, and}
use Rattle.record.specs.Stack.{innermost, outer, fits_open, after, open_after}
use Rattle.record.specs.Sound.{placed, sound_from}
use Rattle.record.specs.declared.event.Event.{Event}
use Rattle.record.proofs.Bools.{and_left, and_right}

-- what one event of a sound list tells, where the names `held` are open before it and the event before has the place `last`
pub record Stands (deep d last : ℕ) (held : List ℕ) (e : Event) : Type 0 where
  pub kind : e.kind ≤ 1
  pub name : e.name ≤ 24
  pub inside : e.place ≤ d
  pub rising : last ≤ e.place
  pub room : e.kind ≡ 0 → length held < deep
  pub partner : e.kind ≡ 1 → held ≡ e.name ∷ outer held

pub fits_room : (deep : ℕ) (e : Event) (held : List ℕ) → fits_open deep e held ≡ true → e.kind ≡ 0 → length held < deep
unfolding fits_open choose
fits_room deep e held q k = ltb-true _ _ (rw (eq-eqb _ _ k) at q)

is_innermost : (name : ℕ) (held : List ℕ) → innermost name held ≡ true → held ≡ name ∷ outer held
is_innermost name [] q = let z : ◌≡◌ {A = ℕ} 0 1 = cc in absurd (omega arith)
is_innermost name (top ∷ held) q = ap (λ (n : ℕ). n ∷ held) (eqb-true top name q)

pub fits_partner : (deep : ℕ) (e : Event) (held : List ℕ) → fits_open deep e held ≡ true → e.kind ≡ 1 → held ≡ e.name ∷ outer held
unfolding fits_open choose
fits_partner deep e held q k = is_innermost _ _ (rw (ne_eqb e.kind 0 (λ z. omega arith)) at q)

module _ (deep d last : ℕ) (held : List ℕ) (e : Event) (es : List Event) (q : sound_from deep d last held (e ∷ es) ≡ true) where
  pub stands : Stands deep d last held e
  unfolding sound_from placed
  stands =
      let p = and_left _ _ q in
      let f = and_left _ _ (and_right _ _ q) in
      record {
        kind = leb-true _ _ (and_left _ _ p);
        name = leb-true _ _ (and_left _ _ (and_right _ _ p));
        inside = leb-true _ _ (and_left _ _ (and_right _ _ (and_right _ _ p)));
        rising = leb-true _ _ (and_right _ _ (and_right _ _ (and_right _ _ p)));
        room = fits_room deep e held f;
        partner = fits_partner deep e held f;
      }

  pub sound_rest : sound_from deep d e.place (after e e.name held) es ≡ true
  unfolding sound_from
  sound_rest = and_right _ _ (and_right _ _ q)

-- the other way: an event that stands, before a sound list, makes a sound list
pub sound_enter : (deep d last : ℕ) (held : List ℕ) (e : Event) (es : List Event) → e.kind ≡ 0 → e.name ≤ 24 → e.place ≤ d → last ≤ e.place →
    length held < deep → sound_from deep d e.place (e.name ∷ held) es ≡ true → sound_from deep d last held (e ∷ es) ≡ true
unfolding sound_from placed fits_open after choose and
sound_enter deep d last held e es k n p l r s =
    rw (le-leb e.kind 1 (omega arith), le-leb _ _ n, le-leb _ _ p, le-leb _ _ l, eq-eqb _ _ k, lt-ltb _ _ r) s

pub sound_exit : (deep d last : ℕ) (held : List ℕ) (e : Event) (es : List Event) → e.kind ≡ 1 → e.name ≤ 24 → e.place ≤ d → last ≤ e.place →
    sound_from deep d e.place held es ≡ true → sound_from deep d last (e.name ∷ held) (e ∷ es) ≡ true
unfolding sound_from placed fits_open after choose and
sound_exit deep d last held e es k n p l s =
    rw (le-leb e.kind 1 (omega arith), le-leb _ _ n, le-leb _ _ p, le-leb _ _ l, ne_eqb e.kind 0 (λ z. omega arith), eq-eqb e.name e.name refl) s

-- what an enter and an exit do to what is open
pub after_enter : (e : Event) (x : ℕ) (held : List ℕ) → e.kind ≡ 0 → after e x held ≡ x ∷ held
unfolding after choose
after_enter e x held k = rw (eq-eqb _ _ k)

pub after_exit : (e : Event) (x : ℕ) (held : List ℕ) → e.kind ≡ 1 → after e x held ≡ outer held
unfolding after choose
after_exit e x held k = rw (ne_eqb e.kind 0 (λ z. omega arith))

pub open_append : (es fs : List Event) (i : ℕ) (held : List ℕ) → open_after (es ++ fs) i held ≡ open_after fs (i + length es) (open_after es i held)
unfolding open_after
open_append [] fs i held =
    let k : i ≡ i + 0 = omega arith in
    ap (λ (m : ℕ). open_after fs m held) k
open_append (e ∷ es) fs i held =
    let k : i + 1 + length es ≡ i + suc (length es) = omega arith in
    open_append es fs (i + 1) (after e i held) ∙ ap (λ (m : ℕ). open_after fs m (open_after es (i + 1) (after e i held))) k
