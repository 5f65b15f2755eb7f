-- The places of what comes out rise from the record's first to the document's end, and its kinds and names are good. A run's pieces lie side by
-- side from its start to its end, and so do its events; every other event keeps its place.
-- Assumes nothing.
use Prim.Native.Nat.{ℕ, suc, ◌+◌, ◌-◌, ◌≤◌, ◌<◌}
use mathlib.Core.Path.{◌≡◌, refl, ◌∙◌}
use mathlib.Core.Bool.{Bool, true, false}
use mathlib.Core.List.{List, [], ◌∷◌, ◌++◌}
use native.Mathlib.Omega.{arith}
use lib.Dec.{eqb}
use lib.ListN.{drop}
use Rattle.record.specs.Choice.{choose}
use Rattle.record.specs.Stack.{after}
use Rattle.record.specs.declared.event.Event.{Event}
use Rattle.runs.specs.Runs.{Run, run_of, runs_from}
use Rattle.runs.specs.Plain.{Group}
use Rattle.runs.specs.Pieces.{Piece, group_name, closings, openings, left_from, left_to, remains}
use Rattle.runs.specs.Output.{closing_events, opening_events, leftover_events, run_events, replaced}
use Rattle.groups.specs.Places.{run_at}
use Rattle.output.specs.Tiling.{Tiles, none, next, Divided}
use Rattle.output.proofs.Tilings.{tiles_rise}
use Rattle.output.proofs.Cut.{Parts, nothing, event, sequence}
use Rattle.output.proofs.Walks.{Rises, ends, goes, enters_at, leaves_at, rises_from, rises_append}
use Rattle.output.proofs.Aligned.{run_ends, runs_event, runs_run, replaced_event, replaced_run, first_left}

-- pieces of groups: emphasis, strong, strikethrough
data Named : List Piece → Type 0 where
  empty : Named []
  more : {p : Piece} {ps : List Piece} → p.name ≤ 8 → Named ps → Named (p ∷ ps)

group_named : (marker taken : ℕ) → group_name marker taken ≤ 8
unfolding group_name choose
group_named marker taken = go (eqb marker 126) refl (eqb taken 1) refl
  where
    go : (y : Bool) → eqb marker 126 ≡ y → (z : Bool) → eqb taken 1 ≡ z → group_name marker taken ≤ 8
    go true a z b = rw a (omega arith)
    go false a true b = rw (a, b) (omega arith)
    go false a false b = rw (a, b) (omega arith)

closings_named : (gs : List Group) (q marker at : ℕ) → Named (closings gs q marker at)
unfolding closings choose
closings_named [] q marker at = empty
closings_named (g ∷ gs) q marker at = go (closings_named gs q marker at) (closings_named gs q marker (at + g.taken)) (eqb g.closer q) refl
  where
    go : Named (closings gs q marker at) → Named (closings gs q marker (at + g.taken)) → (z : Bool) → eqb g.closer q ≡ z →
        Named (closings (g ∷ gs) q marker at)
    go other own true e = rw e (more (group_named marker g.taken) own)
    go other own false e = rw e other

named_append : {ps qs : List Piece} → Named ps → Named qs → Named (ps ++ qs)
named_append empty v = v
named_append (more n u) v = more n (named_append u v)

openings_named : (gs : List Group) (q marker at : ℕ) → Named (openings gs q marker at)
unfolding openings choose
openings_named [] q marker at = empty
openings_named (g ∷ gs) q marker at = go (openings_named gs q marker at) (openings_named gs q marker (at - g.taken)) (eqb g.opener q) refl
  where
    go : Named (openings gs q marker at) → Named (openings gs q marker (at - g.taken)) → (z : Bool) → eqb g.opener q ≡ z →
        Named (openings (g ∷ gs) q marker at)
    go other own true e = rw e (named_append own (more (group_named marker g.taken) empty))
    go other own false e = rw e other

rises_none : (a : ℕ) → Rises a [] a
rises_none a = let h : a ≤ a = omega arith in ends h

-- the events of pieces that lie side by side
closing_rises : {a b : ℕ} {ps : List Piece} → Tiles a ps b → Named ps → Rises a (closing_events ps) b
unfolding closing_events
closing_rises {a} none empty = rises_none a
closing_rises (next {p = p} e l t) (more n u) =
    leaves_at (p.name + 2) p.from (omega arith) (omega arith)
    (enters_at (p.name + 1) p.from (omega arith) (omega arith)
    (leaves_at (p.name + 1) p.to (omega arith) (omega arith) (leaves_at p.name p.to (omega arith) (omega arith) (closing_rises t u))))

opening_rises : {a b : ℕ} {ps : List Piece} → Tiles a ps b → Named ps → Rises a (opening_events ps) b
unfolding opening_events
opening_rises {a} none empty = rises_none a
opening_rises (next {p = p} e l t) (more n u) =
    enters_at p.name p.from (omega arith) (omega arith)
    (enters_at (p.name + 1) p.from (omega arith) (omega arith)
    (leaves_at (p.name + 1) p.to (omega arith) (omega arith) (enters_at (p.name + 2) p.to (omega arith) (omega arith) (opening_rises t u))))

leftover_rises : (gs : List Group) (q : ℕ) (r : Run) → left_from gs q r ≤ left_to gs q r → Rises (left_from gs q r) (leftover_events gs q r) (left_to gs q r)
unfolding leftover_events choose
leftover_rises gs q r h = go (remains gs q r) refl
  where
    go : (z : Bool) → remains gs q r ≡ z → Rises (left_from gs q r) (leftover_events gs q r) (left_to gs q r)
    go true e =
        rw e (enters_at 0 (left_from gs q r) (omega arith) (omega arith) (leaves_at 0 (left_to gs q r) (omega arith) h (rises_none (left_to gs q r))))
    go false e = rw e (ends h)

run_rises : (gs : List Group) (q : ℕ) (r : Run) → Divided gs q r → Rises r.start (run_events gs q r) (r.start + r.size)
unfolding run_events
run_rises gs q r d =
    rises_append (closing_rises d.first (closings_named gs q r.marker r.start))
    (rises_append (leftover_rises gs q r (tiles_rise d.middle))
    (opening_rises d.last (openings_named gs q r.marker (r.start + r.size))))

-- where a run of the record stands
run_stands : (gs : List Group) (q : ℕ) (doc : List ℕ) (e x : Event) (es : List Event) (i : ℕ) (held : List ℕ) → e.place < x.place →
    Divided gs q (run_of doc e (x ∷ es) i held) → Rises e.place (run_events gs q (run_of doc e (x ∷ es) i held)) x.place
run_stands gs q doc e x es i held l d =
    rw (run_ends doc e x es i held l) at (run_rises gs q (run_of doc e (x ∷ es) i held) d)

-- the whole output
pub output_rises : {d last : ℕ} {es : List Event} → Parts d last es → (doc : List ℕ) (i : ℕ) (held : List ℕ) (rs : List Run) (gs : List Group) (q : ℕ) →
    ((j : ℕ) → Divided gs j (run_at rs j)) → drop q rs ≡ runs_from doc es i held → Rises last (replaced es rs gs q) d
unfolding replaced
output_rises (nothing l) doc i held rs gs q p s = ends l
output_rises (event {e = e} {es = es} k n a l c) doc i held rs gs q p s =
    rw (replaced_event e es n rs gs q)
    (goes k a l (output_rises c doc (i + 1) (after e i held) rs gs q p (s ∙ runs_event e es n doc i held)))
output_rises (sequence {e = e} {x = x} {es = es} k n y m l z c) doc i held rs gs q p s =
    let t = first_left rs q (run_of doc e (x ∷ es) i held) (runs_from doc es (i + 1 + 1) held) (s ∙ runs_run e x es k n y m doc i held) in
    let b : Divided gs q (run_of doc e (x ∷ es) i held) = rw t.0 at (p q) in
    rw (replaced_run e x es k n y m rs gs q, t.0)
    (rises_from l (rises_append (run_stands gs q doc e x es i held z b) (output_rises c doc (i + 1 + 1) held rs gs (suc q) p t.1)))
