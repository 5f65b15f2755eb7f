-- Each run is divided, and each marker byte lies in exactly one of all pieces: runs do not overlap, so no piece of another run holds it.
-- Assumes nothing.
use Prim.Native.Nat.{ℕ, suc, ◌+◌, ◌-◌, ◌≤◌, ◌<◌}
use mathlib.Core.Path.{◌≡◌, refl, ◌∙◌}
use mathlib.Core.List.{List, [], ◌∷◌}
use mathlib.Core.Logic.{◌⊎◌, inl, inr, ⊎_elim}
use native.Mathlib.Omega.{arith}
use native.Mathlib.Numerals.{add-one}
use native.Mathlib.Nat.{add-zero, zero-add}
use lib.ListN.{drop}
use Rattle.record.specs.Stack.{after}
use Rattle.record.specs.declared.event.Event.{Event}
use Rattle.runs.specs.Runs.{Run, run_of, runs_from, runs_of}
use Rattle.runs.specs.Plain.{Group}
use Rattle.runs.specs.Pieces.{outcome}
use Rattle.groups.specs.Places.{run_at}
use Rattle.groups.proofs.Laws.{below}
use Rattle.groups.proofs.Matches.{outcome_matched}
use Rattle.groups.proofs.Accounts.{spent_within}
use Rattle.output.specs.Tiling.{pieces_of, all_pieces, Tiles, holding, Divided, Marker, here, there}
use Rattle.output.specs.Theorems.{EachDivided, EachMarkerOnce, OnlyMarkers}
use Rattle.output.proofs.Proper.{matches_proper}
use Rattle.output.proofs.Cut.{Parts, nothing, event, sequence, parts}
use Rattle.output.proofs.Tilings.{divided, none_before, none_after, one_within, holding_append}
use Rattle.output.proofs.Aligned.{runs_event, runs_run, run_ends, first_left}

pub each_divided : EachDivided
each_divided profile options doc es q =
    divided (outcome profile options doc es).groups q (run_at (runs_of doc es) q) (matches_proper (outcome_matched profile options doc es).matches)
    (spent_within profile options doc es q)

no_marker : {at : ℕ} → Marker at [] → ⊥
no_marker m = elim m [ ]

-- a marker of the first of some runs, or of the rest
one_of : {at : ℕ} {r : Run} {rs : List Run} → Marker at (r ∷ rs) → ((r.start ≤ at) × (at < r.start + r.size)) ⊎ Marker at rs
one_of (here a b) = inl (a, b)
one_of (there m) = inr m

-- the markers of the runs that are left stand at or after the event before
marker_after : {d last : ℕ} {es : List Event} → Parts d last es → (doc : List ℕ) (i : ℕ) (held : List ℕ) (at : ℕ) →
    Marker at (runs_from doc es i held) → last ≤ at
unfolding runs_from
marker_after (nothing l) doc i held at m = absurd (no_marker m)
marker_after (event {e = e} {es = es} k n a l c) doc i held at m =
    let r = marker_after c doc (i + 1) (after e i held) at (rw (runs_event e es n doc i held) at m) in
    omega arith
marker_after (sequence {last = last} {e = e} {x = x} {es = es} k n y o l z c) doc i held at m =
    ⊎_elim (λ (w : (e.place ≤ at) × (at < e.place + (x.place - e.place))). omega (arith, w.0))
    (λ (w : Marker at (runs_from doc es (i + 1 + 1) held)). omega (arith, marker_after c doc (i + 1 + 1) held at w))
    (one_of (rw (runs_run e x es k n y o doc i held) at m))

-- the pieces of a run, and of the runs after it
all_more : (gs : List Group) (at q : ℕ) (r : Run) (rs : List Run) → holding at (all_pieces gs q (r ∷ rs)) ≡ holding at (pieces_of gs q r) + holding at (all_pieces gs (suc q) rs)
unfolding all_pieces
all_more gs at q r rs = rw (add-one, holding_append)

module _ (gs : List Group) (rs : List Run) (parts : (q : ℕ) → Divided gs q (run_at rs q)) (doc : List ℕ) where
  -- a run of the record, as it is divided
  part : (e x : Event) (es : List Event) (i q : ℕ) (held : List ℕ) → e.place < x.place → run_at rs q ≡ run_of doc e (x ∷ es) i held →
      Tiles e.place (pieces_of gs q (run_of doc e (x ∷ es) i held)) x.place
  part e x es i q held l t = rw (run_ends doc e x es i held l) at (rw t at (parts q)).whole

  -- no piece of the runs that are left holds a byte before
  none_left : {d last : ℕ} {es : List Event} → Parts d last es → (i q : ℕ) (held : List ℕ) (at : ℕ) → drop q rs ≡ runs_from doc es i held →
      at < last → holding at (all_pieces gs q (runs_from doc es i held)) ≡ 0
  unfolding runs_from all_pieces holding
  none_left (nothing l) i q held at s b = refl
  none_left (event {e = e} {es = es} k n a l c) i q held at s b =
      rw (runs_event e es n doc i held) (none_left c (i + 1) q (after e i held) at (s ∙ runs_event e es n doc i held) (omega arith))
  none_left (sequence {e = e} {x = x} {es = es} k n y o l z c) i q held at s b =
      let r = run_of doc e (x ∷ es) i held in
      let ts = runs_from doc es (i + 1 + 1) held in
      let t = first_left rs q r ts (s ∙ runs_run e x es k n y o doc i held) in
      rw (runs_run e x es k n y o doc i held, all_more gs at q r ts)
      (omega (arith, none_before at (part e x es i q held z t.0) (omega arith), none_left c (i + 1 + 1) (suc q) held at t.1 (omega arith)))

  -- and exactly one a marker of theirs
  one_left : {d last : ℕ} {es : List Event} → Parts d last es → (i q : ℕ) (held : List ℕ) (at : ℕ) → drop q rs ≡ runs_from doc es i held →
      Marker at (runs_from doc es i held) → holding at (all_pieces gs q (runs_from doc es i held)) ≡ 1
  unfolding runs_from
  one_left (nothing l) i q held at s m = absurd (no_marker m)
  one_left (event {e = e} {es = es} k n a l c) i q held at s m =
      let r = runs_event e es n doc i held in
      rw r (one_left c (i + 1) q (after e i held) at (s ∙ r) (rw r at m))
  one_left (sequence {e = e} {x = x} {es = es} k n y o l z c) i q held at s m =
      let r = run_of doc e (x ∷ es) i held in
      let ts = runs_from doc es (i + 1 + 1) held in
      let t = first_left rs q r ts (s ∙ runs_run e x es k n y o doc i held) in
      let p = part e x es i q held z t.0 in
      rw (runs_run e x es k n y o doc i held, all_more gs at q r ts)
      (⊎_elim
      (λ (w : (e.place ≤ at) × (at < e.place + (x.place - e.place))).
      let b : at < x.place = omega (arith, w.1) in
      omega (arith, one_within at p w.0 b, none_left c (i + 1 + 1) (suc q) held at t.1 b))
      (λ (w : Marker at ts).
      omega (arith, none_after at p (marker_after c doc (i + 1 + 1) held at w), one_left c (i + 1 + 1) (suc q) held at t.1 w))
      (one_of (rw (runs_run e x es k n y o doc i held) at m)))

pub each_marker_once : EachMarkerOnce
unfolding runs_of
each_marker_once profile options doc es deep a at m =
    one_left (outcome profile options doc es).groups (runs_of doc es) (each_divided profile options doc es) doc (parts a) 0 0 [] at refl m

next_number : (q j : ℕ) → q + suc j ≡ suc q + j
next_number q j = omega arith

-- a byte that a piece holds is a marker of its run
only_of : (gs : List Group) (at : ℕ) (rs : List Run) (q : ℕ) → ((j : ℕ) → Divided gs (q + j) (run_at rs j)) → 0 < holding at (all_pieces gs q rs) → Marker at rs
unfolding all_pieces holding
only_of gs at [] q p h = absurd (omega arith)
only_of gs at (r ∷ rs) q p h =
    go (only_of gs at rs (suc q) (λ j. rw (next_number q j) at (p (suc j)))) (below at r.start) (below at (r.start + r.size)) (rw (all_more gs at q r rs) at h)
  where
    t : Tiles r.start (pieces_of gs q r) (r.start + r.size)
    t = (rw (add-zero q) at (p 0)).whole

    go : (0 < holding at (all_pieces gs (suc q) rs) → Marker at rs) → (at < r.start) ⊎ (r.start ≤ at) →
        (at < r.start + r.size) ⊎ (r.start + r.size ≤ at) → 0 < holding at (pieces_of gs q r) + holding at (all_pieces gs (suc q) rs) → Marker at (r ∷ rs)
    go rest (inl x) y h = there (rest (omega (arith, none_before at t x)))
    go rest (inr x) (inl y) h = here x y
    go rest (inr x) (inr y) h = there (rest (omega (arith, none_after at t y)))

pub only_markers : OnlyMarkers
only_markers profile options doc es at h =
    only_of (outcome profile options doc es).groups at (runs_of doc es) 0 (λ j. rw (zero-add j) (each_divided profile options doc es j)) h
