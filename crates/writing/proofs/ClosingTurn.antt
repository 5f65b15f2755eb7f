-- The loop over the groups that a run closes: what is written is the run's closing pieces among the groups that are past, and ahead are only
-- groups of this closer or later ones.
-- Assumes nothing.
use Prim.Native.Nat.{ℕ, ◌+◌, ◌-◌, ◌*◌, ◌≤◌, ◌<◌}
use mathlib.Core.Path.{◌≡◌, refl, sym, ap, ◌∙◌}
use mathlib.Core.List.{List, [], ◌∷◌, ◌++◌, append-nil}
use native.Mathlib.Omega.{arith}
use borrow.Author.Tests.{eq-eqb}
use Rattle.record.specs.Choice.{choose}
use Rattle.record.specs.declared.event.Event.{Event}
use Rattle.runs.specs.Plain.{Group}
use Rattle.runs.specs.Pieces.{piece, closings, closed}
use Rattle.runs.specs.Output.{closing_events}
use Rattle.slots.specs.Layout.{first_group_of, group_closer, group_taken}
use Rattle.groups.proofs.Laws.{closed_append, closed_own}
use Rattle.groups.proofs.Spans.{closings_append}
use Rattle.partners.specs.Section.{Ready, Puts}
use Rattle.partners.specs.declared.Section.{Section}
use Rattle.writing.specs.Kept.{Kept, group_at, groups_from, groups_in, first_closing, closings_in}
use Rattle.writing.proofs.Parts.{groups_split, groups_more, none_closing}
use Rattle.writing.proofs.Found.{First, first_found}
use Rattle.partners.proofs.Sections.{puts_none, puts_then, ready_first, ready_then}
use Rattle.writing.proofs.Pieces.{closing_append}

-- the pieces among the first i groups, and those of one group more
next_pieces : (n i : ℕ) (w : List ℕ) (q m from place t : ℕ) → n ≡ i + 1 → group_closer w i ≡ q → t ≡ group_taken w i → place ≡ from + closed (groups_from i w 0) q →
    closings (groups_from n w 0) q m from ≡ closings (groups_from i w 0) q m from ++ (piece m t place (place + t) ∷ [])
unfolding closings choose
next_pieces n i w q m from place t e o et ep =
    ap (λ (l : List Group). closings l q m from) (groups_more n i w e)
    ∙ (closings_append (groups_from i w 0) (group_at w i ∷ []) q m from
    ∙ rw (eq-eqb _ _ o, ← ep, ← et))

next_closed : (n i : ℕ) (w : List ℕ) (q t : ℕ) → n ≡ i + 1 → group_closer w i ≡ q → t ≡ group_taken w i →
    closed (groups_from n w 0) q ≡ closed (groups_from i w 0) q + t
next_closed n i w q t e o et =
    ap (λ (l : List Group). closed l q) (groups_more n i w e)
    ∙ (closed_append (groups_from i w 0) (group_at w i ∷ []) q
    ∙ ap (λ (k : ℕ). closed (groups_from i w 0) q + k) (closed_own (group_at w i) q o ∙ sym et))

-- the first i of n groups are past
pub record Closing (out₀ : Section) (w : List ℕ) (n q m from i : ℕ) (out : Section) (place : ℕ) : Type 0 where
  pub within : i ≤ n
  pub put : Puts out₀ (closings_in w i q m from) out
  pub reached : place ≡ from + closed (groups_in w i) q
  pub small : place ≤ from + 65536 * i
  pub ahead : (j : ℕ) → i ≤ j → j < n → q ≤ group_closer w j

-- all of them: what the function promises
abbrev Closings : Section → List ℕ → ℕ → ℕ → ℕ → ℕ → Section → ℕ → Type 0
Closings out₀ w n q m from out place = Puts out₀ (closings_in w n q m from) out × ((place ≡ from + closed (groups_in w n) q) × (place < 8589934592))

module _ {w : List ℕ} {n runs : ℕ} (k : Kept w n runs) {q : ℕ} (r : q < runs) where
  first_is : (f : ℕ) → f ≡ first_group_of w q → First n w 0 q f
  first_is f e = let x : f ≡ first_closing n w 0 q = e ∙ k.first q r in rw x (first_found n w 0 q)

  -- a run that closes nothing
  pub nothing_closed : (out : Section) (m from f : ℕ) → from < 4294967296 → f ≡ first_group_of w q → f ≡ 0 → Closings out w n q m from out from
  unfolding closing_events
  nothing_closed out m from f u e z =
      let h = none_closing n w 0 q m from ((first_is f e).none z) in
      let l : closings_in w n q m from ≡ [] = ap closing_events h.0 in
      let c = h.1 in
      (rw l (puts_none out), (omega arith, omega arith))

  -- the loop begins at the first group that the run closes
  pub start : (out : Section) (m from f : ℕ) → f ≡ first_group_of w q → (f ≡ 0 → ⊥) → Closing out w n q m from (f - 1) out from
  unfolding closing_events
  start out m from f e z =
      let a = first_is f e in
      let hi = a.high in
      let h = none_closing (f - 1) w 0 q m from (λ j x y c. a.before j x (omega arith) c) in
      let l : closings_in w (f - 1) q m from ≡ [] = ap closing_events h.0 in
      let c = h.1 in
      let o = a.own (omega arith) in
      record {
        within = omega arith;
        put = rw l (puts_none out);
        reached = omega arith;
        small = omega arith;
        ahead = λ j x y. let rise = k.rising (f - 1) j x y in omega arith;
      }

module _ {out₀ : Section} {w : List ℕ} {n q m from i : ℕ} {out : Section} {place : ℕ} (c : Closing out₀ w n q m from i out place) where
  next_events : (t : ℕ) → group_closer w i ≡ q → t ≡ group_taken w i →
      closings_in w (i + 1) q m from ≡ closings_in w i q m from ++ closing_events (piece m t place (place + t) ∷ [])
  next_events t o et =
      ap closing_events (next_pieces (i + 1) i w q m from place t refl o et c.reached)
      ∙ closing_append (closings (groups_in w i) q m from) (piece m t place (place + t) ∷ [])

  -- the events of all groups begin with those of the first
  first_events : (j : ℕ) → j ≤ n → (fs : List Event) × (closings_in w n q m from ≡ closings_in w j q m from ++ fs)
  first_events j h = (
    closing_events (closings (groups_from (n - j) w j) q m (from + closed (groups_in w j) q)),
    ap closing_events
        (ap (λ (l : List Group). closings l q m from) (groups_split n j w h) ∙ closings_append (groups_in w j) (groups_from (n - j) w j) q m from)
        ∙ closing_append (closings (groups_in w j) q m from) (closings (groups_from (n - j) w j) q m (from + closed (groups_in w j) q)),
  )

  -- there is room for the next piece
  pub room : {t : ℕ} → i < n → group_closer w i ≡ q → t ≡ group_taken w i → Ready out₀ (closings_in w n q m from) →
      Ready out (closing_events (piece m t place (place + t) ∷ []))
  room {t} h o et fits =
      let all = first_events (i + 1) (omega arith) in
      let e = next_events t o et in
      let f : Ready out₀ (closings_in w (i + 1) q m from) = ready_first (closings_in w (i + 1) q m from) all.0 (rw all.1 at fits) in
      ready_then (closings_in w i q m from) (closing_events (piece m t place (place + t) ∷ [])) c.put (rw e at f)

  -- a piece more
  pub turn : {out' : Section} {t : ℕ} → i < n → group_closer w i ≡ q → t ≡ group_taken w i → t < 65536 →
      Puts out (closing_events (piece m t place (place + t) ∷ [])) out' → Closing out₀ w n q m from (i + 1) out' (place + t)
  turn {out'} {t} h o et lt v =
      let e = next_events t o et in
      let x = next_closed (i + 1) i w q t refl o et in
      record {
        within = omega arith;
        put = rw e (puts_then (closings_in w i q m from) (closing_events (piece m t place (place + t) ∷ [])) c.put v);
        reached = omega (arith, c.reached, x);
        small = omega (arith, c.small);
        ahead = λ j a b. c.ahead j (omega arith) b;
      }

  -- no later group is the run's
  passed : {runs : ℕ} → Kept w n runs → from < 4294967296 → ((j : ℕ) → i ≤ j → j < n → group_closer w j ≡ q → ⊥) → Closings out₀ w n q m from out place
  passed k u none =
      let h = none_closing (n - i) w i q m (from + closed (groups_in w i) q) (λ j a b. none j a (omega (arith, c.within))) in
      let e : closings (groups_in w n) q m from ≡ closings (groups_in w i) q m from =
      ap (λ (l : List Group). closings l q m from) (groups_split n i w c.within)
      ∙ (closings_append (groups_in w i) (groups_from (n - i) w i) q m from
      ∙ rw (h.0, append-nil)) in
      let f : closed (groups_in w n) q ≡ closed (groups_in w i) q + closed (groups_from (n - i) w i) q =
      ap (λ (l : List Group). closed l q) (groups_split n i w c.within) ∙ closed_append (groups_in w i) (groups_from (n - i) w i) q in
      let z = h.1 in
      (rw e c.put, (omega (arith, c.reached), omega (arith, c.small, c.within, k.few)))

  -- the next group is another's
  pub left : {runs : ℕ} → Kept w n runs → from < 4294967296 → i < n → (group_closer w i ≡ q → ⊥) → Closings out₀ w n q m from out place
  left k u h o = passed k u (λ j a b e. let x = k.rising i j a b in let y = c.ahead i (omega arith) h in o (omega arith))

  -- there is no next group
  pub ended : {runs : ℕ} → Kept w n runs → from < 4294967296 → n ≤ i → Closings out₀ w n q m from out place
  ended k u h = passed k u (λ j a b e. omega arith)
