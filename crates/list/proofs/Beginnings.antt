-- An item has a mark just where it begins as document 01 says.
-- Assumes nothing.
use mathlib.Core.Path.{◌≡◌, refl, ap}
use mathlib.Core.Bool.{Bool, true, false}
use mathlib.Core.Logic.{◌⊎◌, inl, inr}
use mathlib.Core.List.{List}
use Prim.Native.Nat.{ℕ, ◌+◌}
use native.Mathlib.Omega.{arith}
use lib.Dec.{eqb}
use lib.ListN.{get_or}
use borrow.Author.Tests.{eqb-true, eq-eqb}
use Rattle.record.specs.Choice.{choose, and}
use Rattle.record.proofs.Bools.{and_left, and_right}
use Rattle.list.specs.Tree.{Row, none, pair}
use Rattle.list.specs.Item.{past_leaf, is_none, known, marker_of, prefix_of, mark_of}
use Rattle.list.specs.Offence.{Mark, star, plus, minus, point, bracket, Marker, bare, spaced, Prefix, unvalued, valued, Begins, at_once, indented}

-- the byte of a mark
known_mark : {b : ℕ} → Mark b → known b ≡ 0 → ⊥
unfolding known choose
known_mark star e = omega arith
known_mark plus e = omega arith
known_mark minus e = omega arith
known_mark point e = omega arith
known_mark bracket e = omega arith

mark_known : (b : ℕ) → (known b ≡ 0 → ⊥) → Mark b
unfolding known choose
mark_known b h = go₁ (eqb b 42) refl
  where
    go₅ : (z : Bool) → eqb b 41 ≡ z → eqb b 42 ≡ false → eqb b 43 ≡ false → eqb b 45 ≡ false → eqb b 46 ≡ false → Mark b
    go₅ true e p q r s = rw (eqb-true b 41 e) bracket
    go₅ false e p q r s = absurd (h (rw (p, q, r, s, e)))

    go₄ : (z : Bool) → eqb b 46 ≡ z → eqb b 42 ≡ false → eqb b 43 ≡ false → eqb b 45 ≡ false → Mark b
    go₄ true e p q r = rw (eqb-true b 46 e) point
    go₄ false e p q r = go₅ (eqb b 41) refl p q r e

    go₃ : (z : Bool) → eqb b 45 ≡ z → eqb b 42 ≡ false → eqb b 43 ≡ false → Mark b
    go₃ true e p q = rw (eqb-true b 45 e) minus
    go₃ false e p q = go₄ (eqb b 46) refl p q e

    go₂ : (z : Bool) → eqb b 43 ≡ z → eqb b 42 ≡ false → Mark b
    go₂ true e p = rw (eqb-true b 43 e) plus
    go₂ false e p = go₃ (eqb b 45) refl p e

    go₁ : (z : Bool) → eqb b 42 ≡ z → Mark b
    go₁ true e = rw (eqb-true b 42 e) star
    go₁ false e = go₂ (eqb b 43) refl e

-- a choice that is not 0 took its first side
chosen : (b : Bool) (x : ℕ) → (choose b x 0 ≡ 0 → ⊥) → (b ≡ true) × (x ≡ 0 → ⊥)
unfolding choose
chosen true x h = (refl, h)
chosen false x h = absurd (h refl)

module _ (document : List ℕ) where
  marker_mark : {row : Row} → Marker document row → marker_of document row ≡ 0 → ⊥
  unfolding marker_of past_leaf choose and
  marker_mark (bare {from = from} {to = to} e m) q = known_mark m (rw (eq-eqb to (from + 1) e) at q)
  marker_mark (spaced {from = from} {to = to} e m) q = known_mark m (rw (eq-eqb to (from + 1) e) at q)

  -- nothing behind the marker but at most one 14
  rest_by : (row : Row) → is_none (past_leaf 14 row) ≡ true → (row ≡ none) ⊎ ((a : ℕ) × (b : ℕ) × (row ≡ pair 14 a b none none))
  unfolding past_leaf choose
  rest_by none e = inl refl
  rest_by (pair n a b none next) e = go (eqb n 14) refl e
    where
      go : (z : Bool) → eqb n 14 ≡ z → is_none (choose z next (pair n a b none next)) ≡ true → (pair n a b none next ≡ none) ⊎ ((x : ℕ) × (y : ℕ) × (pair n a b none next ≡ pair 14 x y none none))
      go true t e = by next e
        where
          by : (next : Row) → is_none next ≡ true → (pair n a b none next ≡ none) ⊎ ((x : ℕ) × (y : ℕ) × (pair n a b none next ≡ pair 14 x y none none))
          by none e = inr (a, b, ap (λ (m : ℕ). pair m a b none none) (eqb-true n 14 t))
          by (pair m x y h k) e = let z : ◌≡◌ {A = ℕ} 0 1 = cc in absurd (omega arith)
      go false t e = let z : ◌≡◌ {A = ℕ} 0 1 = cc in absurd (omega arith)
  rest_by (pair n a b (pair m x y h k) next) e = let z : ◌≡◌ {A = ℕ} 0 1 = cc in absurd (omega arith)

  mark_marker : (row : Row) → (marker_of document row ≡ 0 → ⊥) → Marker document row
  unfolding marker_of
  mark_marker none h = absurd (h refl)
  mark_marker (pair n from to (pair m a b i k) next) h = absurd (h refl)
  mark_marker (pair n from to none next) h =
      let c = chosen (and (eqb n 17) (and (eqb to (from + 1)) (is_none (past_leaf 14 next)))) (known (get_or document from 0)) h in
      let en : n ≡ 17 = eqb-true _ _ (and_left _ _ c.0) in
      let et : to ≡ from + 1 = eqb-true _ _ (and_left _ _ (and_right _ _ c.0)) in
      rw en (by (rest_by next (and_right _ _ (and_right _ _ c.0))) et (mark_known (get_or document from 0) c.1))
    where
      by : (next ≡ none) ⊎ ((a : ℕ) × (b : ℕ) × (next ≡ pair 14 a b none none)) → to ≡ from + 1 → Mark (get_or document from 0) → Marker document (pair 17 from to none next)
      by (inl e) t m = rw e (bare t m)
      by (inr (a, b, e)) t m = rw e (spaced t m)

  prefix_mark : {row : Row} → Prefix document row → marker_of document (past_leaf 18 row) ≡ 0 → ⊥
  unfolding past_leaf choose
  prefix_mark (unvalued (bare e m)) q = marker_mark (bare e m) q
  prefix_mark (unvalued (spaced e m)) q = marker_mark (spaced e m) q
  prefix_mark (valued m) q = marker_mark m q

  mark_prefix : (row : Row) → (marker_of document (past_leaf 18 row) ≡ 0 → ⊥) → Prefix document row
  unfolding past_leaf choose
  mark_prefix none h = unvalued (mark_marker none h)
  mark_prefix (pair n a b (pair m x y i k) next) h = unvalued (mark_marker (pair n a b (pair m x y i k) next) h)
  mark_prefix (pair n a b none next) h = go (eqb n 18) refl h
    where
      go : (z : Bool) → eqb n 18 ≡ z → (marker_of document (choose z next (pair n a b none next)) ≡ 0 → ⊥) → Prefix document (pair n a b none next)
      go true t h = rw (eqb-true n 18 t) (valued (mark_marker next h))
      go false t h = unvalued (mark_marker (pair n a b none next) h)

  -- an item that begins so has a mark, and one that has a mark begins so
  pub begins_marked : {row : Row} → Begins document row → mark_of document row ≡ 0 → ⊥
  unfolding mark_of prefix_of past_leaf choose
  begins_marked (at_once {held = none} p) q = prefix_mark p q
  begins_marked (at_once {held = pair m x y i k} p) q = prefix_mark p q
  begins_marked (indented p) q = prefix_mark p q

  prefix_of_lem : (row : Row) → (prefix_of document row ≡ 0 → ⊥) → (a : ℕ) × (b : ℕ) × (held : Row) × (next : Row) × (row ≡ pair 16 a b held next) × Prefix document held
  unfolding prefix_of
  prefix_of_lem none h = absurd (h refl)
  prefix_of_lem (pair n a b held next) h =
      let c = chosen (eqb n 16) (marker_of document (past_leaf 18 held)) h in
      (a, b, held, next, ap (λ (m : ℕ). pair m a b held next) (eqb-true n 16 c.0), mark_prefix held c.1)

  pub marked_begins : (row : Row) → (mark_of document row ≡ 0 → ⊥) → Begins document row
  unfolding mark_of past_leaf choose
  marked_begins none h = absurd (no_prefix h)
    where
      no_prefix : (prefix_of document none ≡ 0 → ⊥) → ⊥
      no_prefix h =
          let f = prefix_of_lem none h in
          let z : ◌≡◌ {A = ℕ} 0 1 = cc f.4 in
          omega arith
  marked_begins (pair n a b (pair m x y i k) next) h =
      let f = prefix_of_lem (pair n a b (pair m x y i k) next) h in
      rw f.4 (at_once f.5)
  marked_begins (pair n a b none next) h = go (eqb n 14) refl h
    where
      go : (z : Bool) → eqb n 14 ≡ z → (prefix_of document (choose z next (pair n a b none next)) ≡ 0 → ⊥) → Begins document (pair n a b none next)
      go true t h =
          let f = prefix_of_lem next h in
          rw (eqb-true n 14 t, f.4) (indented f.5)
      go false t h =
          let f = prefix_of_lem (pair n a b none next) h in
          rw f.4 (at_once f.5)
