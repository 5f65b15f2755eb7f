-- The pieces of one run lie side by side from its start to its end, over any groups that take no more of it than it has. So a byte of the run
-- lies in exactly one of them, and no other byte in any.
-- Assumes nothing.
use Prim.Native.Nat.{ℕ, ◌+◌, ◌-◌, ◌≤◌, ◌<◌}
use mathlib.Core.Path.{◌≡◌, refl}
use mathlib.Core.Bool.{Bool, true, false}
use mathlib.Core.List.{List, [], ◌∷◌, ◌++◌}
use native.Mathlib.Omega.{arith}
use lib.Dec.{eqb, ltb, leb}
use borrow.Author.Tests.{ltb-true, ltb-false, le-ltb, le-leb, lt-leb}
use Rattle.record.specs.Choice.{choose, and}
use Rattle.runs.specs.Runs.{Run}
use Rattle.runs.specs.Plain.{Group}
use Rattle.runs.specs.Pieces.{Piece, piece, closings, openings, closed, opened, remains, left_from, left_to}
use Rattle.output.specs.Tiling.{Tiles, none, next, holding, leftover_piece, pieces_of, Divided}
use Rattle.output.proofs.Proper.{Proper, none, more}

-- two tilings in a row
pub tiles_append : {a b c : ℕ} {ps qs : List Piece} → Tiles a ps b → Tiles b qs c → Tiles a (ps ++ qs) c
tiles_append none u = u
tiles_append (next e l t) u = next e l (tiles_append t u)

pub tiles_rise : {a b : ℕ} {ps : List Piece} → Tiles a ps b → a ≤ b
tiles_rise none = omega arith
tiles_rise (next e l t) = let r = tiles_rise t in omega arith

-- the same tiling under another name of its end, or of its start
pub tiles_to : {a b c : ℕ} {ps : List Piece} → b ≡ c → Tiles a ps b → Tiles a ps c
tiles_to e t = rw e at t

pub tiles_from : {a b c : ℕ} {ps : List Piece} → a ≡ b → Tiles a ps c → Tiles b ps c
tiles_from e t = rw e at t

-- closing pieces go up from a place
pub closings_tile : {n : ℕ} {gs : List Group} (q marker at : ℕ) → Proper n gs → Tiles at (closings gs q marker at) (at + closed gs q)
unfolding closings closed choose
closings_tile q marker at none = tiles_to (omega arith) none
closings_tile {n} q marker at (more {g} {gs} a b t p) = go (closings_tile q marker at p) (closings_tile q marker (at + g.taken) p) (eqb g.closer q) refl
  where
    go : Tiles at (closings gs q marker at) (at + closed gs q) →
        Tiles (at + g.taken) (closings gs q marker (at + g.taken)) (at + g.taken + closed gs q) →
        (z : Bool) → eqb g.closer q ≡ z → Tiles at (closings (g ∷ gs) q marker at) (at + closed (g ∷ gs) q)
    go other own true e =
        let k : at + g.taken + closed gs q ≡ at + (g.taken + closed gs q) = omega arith in
        rw e (next {p = piece marker g.taken at (at + g.taken)} refl (omega arith) (tiles_to k own))
    go other own false e = rw e other

-- opening pieces go down from a place
pub openings_tile : {n : ℕ} {gs : List Group} (q marker at : ℕ) → Proper n gs → opened gs q ≤ at → Tiles (at - opened gs q) (openings gs q marker at) at
unfolding openings opened choose
openings_tile q marker at none h = tiles_from (omega arith) none
openings_tile {n} q marker at (more {g} {gs} a b t p) h = go (openings_tile q marker at p) (openings_tile q marker (at - g.taken) p) h (eqb g.opener q) refl
  where
    go : (opened gs q ≤ at → Tiles (at - opened gs q) (openings gs q marker at) at) →
        (opened gs q ≤ at - g.taken → Tiles (at - g.taken - opened gs q) (openings gs q marker (at - g.taken)) (at - g.taken)) →
        opened (g ∷ gs) q ≤ at → (z : Bool) → eqb g.opener q ≡ z → Tiles (at - opened (g ∷ gs) q) (openings (g ∷ gs) q marker at) at
    go other own l true e =
        let l' : g.taken + opened gs q ≤ at = rw e at l in
        rw e (tiles_from (omega arith) (tiles_append (own (omega arith)) (next refl (omega arith) none)))
    go other own l false e = let l' : opened gs q ≤ at = rw e at l in rw e (other l')

-- the leftover lies between
pub leftover_tiles : (gs : List Group) (q : ℕ) (r : Run) → left_from gs q r ≤ left_to gs q r → Tiles (left_from gs q r) (leftover_piece gs q r) (left_to gs q r)
unfolding leftover_piece remains choose
leftover_tiles gs q r h = go (ltb (left_from gs q r) (left_to gs q r)) refl
  where
    go : (z : Bool) → ltb (left_from gs q r) (left_to gs q r) ≡ z → Tiles (left_from gs q r) (leftover_piece gs q r) (left_to gs q r)
    go true e = rw e (next refl (ltb-true _ _ e) none)
    go false e = let l = ltb-false (left_from gs q r) (left_to gs q r) e in rw e (tiles_to (omega arith) none)

-- a run of which the groups take no more than it has is divided
pub divided : {n : ℕ} (gs : List Group) (q : ℕ) (r : Run) → Proper n gs → closed gs q + opened gs q ≤ r.size → Divided gs q r
unfolding pieces_of
divided gs q r p h =
    let f = closings_tile q r.marker r.start p in
    let m = leftover_tiles gs q r (omega arith) in
    let l = openings_tile q r.marker (r.start + r.size) p (omega arith) in
    record { first = f; middle = m; last = l; whole = tiles_append f (tiles_append m l) }

-- no piece holds a byte before or after the tiling
pub none_before : {a b : ℕ} {ps : List Piece} (at : ℕ) → Tiles a ps b → at < a → holding at ps ≡ 0
unfolding holding choose and
none_before at none h = refl
none_before at (next {p = p} {ps = ps} e l t) h = rw (lt-leb p.from at (omega arith)) (none_before at t (omega arith))

pub none_after : {a b : ℕ} {ps : List Piece} (at : ℕ) → Tiles a ps b → b ≤ at → holding at ps ≡ 0
unfolding holding choose and
none_after at none h = refl
none_after at (next {p = p} {ps = ps} e l t) h =
    let r = tiles_rise t in
    rw (le-leb p.from at (omega arith), le-ltb at p.to (omega arith)) (none_after at t h)

-- and exactly one a byte within
pub one_within : {a b : ℕ} {ps : List Piece} (at : ℕ) → Tiles a ps b → a ≤ at → at < b → holding at ps ≡ 1
unfolding holding choose and
one_within at none l h = absurd (omega arith)
one_within {a} {b} at (next {p = p} {ps = ps} e x t) l h = go (one_within at t) (ltb at p.to) refl
  where
    go : (p.to ≤ at → at < b → holding at ps ≡ 1) → (z : Bool) → ltb at p.to ≡ z → holding at (p ∷ ps) ≡ 1
    go rest true y =
        let y' = ltb-true at p.to y in
        rw (le-leb p.from at (omega arith), y, none_before at t y')
    go rest false y =
        let y' = ltb-false at p.to y in
        rw (le-leb p.from at (omega arith), y) (rest y' h)

-- how many hold a byte, in two lists
pub holding_append : (at : ℕ) (ps qs : List Piece) → holding at (ps ++ qs) ≡ holding at ps + holding at qs
unfolding holding choose
holding_append at [] qs = omega arith
holding_append at (p ∷ ps) qs = go (holding_append at ps qs) (and (leb p.from at) (ltb at p.to)) refl
  where
    go : holding at (ps ++ qs) ≡ holding at ps + holding at qs → (z : Bool) → and (leb p.from at) (ltb at p.to) ≡ z →
        holding at (p ∷ (ps ++ qs)) ≡ holding at (p ∷ ps) + holding at qs
    go ih true e = rw e (omega arith)
    go ih false e = rw e ih
