-- The loop over the groups that a run opens, from the latest back: what is written is the run's opening pieces among the groups that are
-- behind, and the run's next byte and what it gave to the groups ahead make up its end.
-- Assumes nothing.
use Prim.Native.Nat.{ℕ, ◌+◌, ◌-◌, ◌*◌, ◌≤◌, ◌<◌}
use mathlib.Core.Path.{◌≡◌, refl, ap, ◌∙◌}
use mathlib.Core.List.{List, [], ◌∷◌, ◌++◌, append-nil}
use native.Mathlib.Omega.{arith}
use borrow.Author.Tests.{eq-eqb}
use Rattle.record.specs.Choice.{choose}
use Rattle.record.specs.declared.event.Event.{Event}
use Rattle.runs.specs.Plain.{Group}
use Rattle.runs.specs.Pieces.{piece, openings, opened}
use Rattle.runs.specs.Output.{opening_events}
use Rattle.slots.specs.Layout.{latest_group_of, group_opener, group_taken, group_earlier}
use Rattle.groups.proofs.Laws.{opened_append, opened_own}
use Rattle.groups.proofs.Spans.{openings_append}
use Rattle.partners.specs.Section.{Ready, Puts}
use Rattle.partners.specs.declared.Section.{Section}
use Rattle.writing.specs.Kept.{Kept, group_at, groups_from, groups_in, latest_opening, openings_in}
use Rattle.writing.proofs.Parts.{groups_parts, groups_split, groups_first, groups_more, none_opening}
use Rattle.writing.proofs.Found.{Latest, latest_found}
use Rattle.partners.proofs.Sections.{puts_none, puts_then, ready_first, ready_then}
use Rattle.writing.proofs.Pieces.{opening_append}

-- from group e on, where i is the run's first: its piece comes last
next_pieces : (n e i : ℕ) (w : List ℕ) (q m place t : ℕ) → e ≤ i → i < n → ((j : ℕ) → e ≤ j → j < i → group_opener w j ≡ q → ⊥) →
    group_opener w i ≡ q → t ≡ group_taken w i →
    openings (groups_from (n - e) w e) q m (place + t) ≡ openings (groups_from (n - (i + 1)) w (i + 1)) q m place ++ (piece m t place (place + t) ∷ [])
unfolding openings choose
next_pieces n e i w q m place t a b none o et =
    let h = none_opening (i - e) w e q m (place + t) (λ j x y. none j x (omega arith)) in
    let z : place + t - 0 ≡ place + t = omega arith in
    let s : place + t - t ≡ place = omega arith in
    ap (λ (l : List Group). openings l q m (place + t)) (groups_parts (n - e) (i - e) (n - i) w e i (omega arith) (omega arith))
    ∙ (openings_append (groups_from (i - e) w e) (groups_from (n - i) w i) q m (place + t)
    ∙ (rw (h.0, h.1, z, append-nil)
    (ap (λ (l : List Group). openings l q m (place + t)) (groups_first (n - i) (n - (i + 1)) w i (i + 1) (omega arith) refl)
    ∙ rw (eq-eqb _ _ o, ← et, s))))

-- what the run gave to the groups up to i is what it gave to those before e, and to i
next_opened : (n e i : ℕ) (w : List ℕ) (q t : ℕ) → n ≡ i + 1 → e ≤ i → ((j : ℕ) → e ≤ j → j < i → group_opener w j ≡ q → ⊥) →
    group_opener w i ≡ q → t ≡ group_taken w i → opened (groups_from n w 0) q ≡ opened (groups_from e w 0) q + t
next_opened n e i w q t en a none o et =
    let h = none_opening (i - e) w e q 0 0 (λ j x y. none j x (omega arith)) in
    let f = ap (λ (l : List Group). opened l q) (groups_more n i w en) in
    let g = opened_append (groups_from i w 0) (group_at w i ∷ []) q in
    let k = opened_own (group_at w i) q o in
    let l = ap (λ (l : List Group). opened l q) (groups_split i e w a) in
    let m = opened_append (groups_from e w 0) (groups_from (i - e) w e) q in
    let z = h.1 in
    omega (arith, f, g, k, l, m, z, et)

-- all of a run's opening pieces, and those from group e on
from_group : (n e : ℕ) (w : List ℕ) (q m place end : ℕ) → e ≤ n → place + opened (groups_from e w 0) q ≡ end →
    openings (groups_from n w 0) q m end ≡ openings (groups_from (n - e) w e) q m place ++ openings (groups_from e w 0) q m end
from_group n e w q m place end a h =
    let s : end - opened (groups_from e w 0) q ≡ place = omega arith in
    ap (λ (l : List Group). openings l q m end) (groups_split n e w a)
    ∙ (openings_append (groups_from e w 0) (groups_from (n - e) w e) q m end
    ∙ rw s)

-- of n groups those from number g on are behind, and g - 1 is next
pub record Opening (out₀ : Section) (w : List ℕ) (n q m from g : ℕ) (out : Section) (place : ℕ) : Type 0 where
  pub within : g ≤ n
  pub own : 0 < g → group_opener w (g - 1) ≡ q
  pub put : Puts out₀ (opening_events (openings (groups_from (n - g) w g) q m place)) out
  pub ends : place + opened (groups_in w g) q ≡ from + opened (groups_in w n) q
  pub small : place + 65536 * g ≤ from + 65536 * n

-- the loop begins at the latest group that the run opens
pub start : {w : List ℕ} {n runs : ℕ} → Kept w n runs → {q : ℕ} → q < runs → (out : Section) (m from g : ℕ) → g ≡ latest_group_of w q →
    Opening out w n q m from g out from
unfolding opening_events
start {w} {n} {runs} k {q} r out m from g e =
    let x : g ≡ latest_opening n w q = e ∙ k.latest q r in
    let a : Latest n w q g = rw x (latest_found n w q) in
    let lo = a.low in
    let h = none_opening (n - g) w g q m from (λ j b c. a.none j b (omega arith)) in
    let l : opening_events (openings (groups_from (n - g) w g) q m from) ≡ [] = ap opening_events h.0 in
    let z = h.1 in
    let s = ap (λ (l : List Group). opened l q) (groups_split n g w lo) in
    let t = opened_append (groups_in w g) (groups_from (n - g) w g) q in
    record {
      within = lo;
      own = a.own;
      put = rw l (puts_none out);
      ends = omega (arith, s, t, z);
      small = omega arith;
    }

module _ {w : List ℕ} {n runs : ℕ} (k : Kept w n runs) {out₀ : Section} {q m from g : ℕ} {out : Section} {place : ℕ}
    (c : Opening out₀ w n q m from g out place) (pos : 0 < g) where
  earlier_is : (e : ℕ) → e ≡ group_earlier w (g - 1) → Latest (g - 1) w q e
  earlier_is e f =
      let u = c.within in
      let x : e ≡ latest_opening (g - 1) w q = f ∙ (k.earlier (g - 1) (omega arith) ∙ ap (λ (o : ℕ). latest_opening (g - 1) w o) (c.own pos)) in
      rw x (latest_found (g - 1) w q)

  next_events : (e t : ℕ) → e ≡ group_earlier w (g - 1) → t ≡ group_taken w (g - 1) →
      opening_events (openings (groups_from (n - e) w e) q m (place + t))
      ≡ opening_events (openings (groups_from (n - g) w g) q m place) ++ opening_events (piece m t place (place + t) ∷ [])
  next_events e t f et =
      let u = c.within in
      let s : g - 1 + 1 ≡ g = omega arith in
      let a = earlier_is e f in
      let x = next_pieces n e (g - 1) w q m place t a.low (omega arith) a.none (c.own pos) et in
      ap opening_events (rw s at x) ∙ opening_append (openings (groups_from (n - g) w g) q m place) (piece m t place (place + t) ∷ [])

  next_ends : (e t : ℕ) → e ≡ group_earlier w (g - 1) → t ≡ group_taken w (g - 1) → place + t + opened (groups_in w e) q ≡ from + opened (groups_in w n) q
  next_ends e t f et =
      let a = earlier_is e f in
      let o = next_opened g e (g - 1) w q t (omega arith) a.low a.none (c.own pos) et in
      omega (arith, c.ends, o)

  -- the events of all groups begin with those of the groups behind
  first_events : (e t : ℕ) → e ≡ group_earlier w (g - 1) → t ≡ group_taken w (g - 1) →
      (fs : List Event) × (openings_in w n q m from ≡ opening_events (openings (groups_from (n - e) w e) q m (place + t)) ++ fs)
  first_events e t f et =
      let u = c.within in
      let lo = (earlier_is e f).low in
      let all = from_group n e w q m (place + t) (from + opened (groups_in w n) q) (omega arith) (next_ends e t f et) in (
        opening_events (openings (groups_in w e) q m (from + opened (groups_in w n) q)),
        ap opening_events all
            ∙ opening_append (openings (groups_from (n - e) w e) q m (place + t)) (openings (groups_in w e) q m (from + opened (groups_in w n) q)),
      )

  -- there is room for the next piece
  pub room : {t : ℕ} → t ≡ group_taken w (g - 1) → Ready out₀ (openings_in w n q m from) → Ready out (opening_events (piece m t place (place + t) ∷ []))
  room {t} et fits =
      let e : ℕ = group_earlier w (g - 1) in
      let all = first_events e t refl et in
      let x = next_events e t refl et in
      let f : Ready out₀ (opening_events (openings (groups_from (n - e) w e) q m (place + t))) =
      ready_first (opening_events (openings (groups_from (n - e) w e) q m (place + t))) all.0 (rw all.1 at fits) in
      ready_then (opening_events (openings (groups_from (n - g) w g) q m place)) (opening_events (piece m t place (place + t) ∷ [])) c.put (rw x at f)

  -- the link names an earlier group
  pub falls : {e : ℕ} → e ≡ group_earlier w (g - 1) → e < g
  falls {e} f = let lo = (earlier_is e f).low in omega arith

  -- a piece more
  pub turn : {out' : Section} {t e : ℕ} → t ≡ group_taken w (g - 1) → t < 65536 → e ≡ group_earlier w (g - 1) →
      Puts out (opening_events (piece m t place (place + t) ∷ [])) out' → Opening out₀ w n q m from e out' (place + t)
  turn {out'} {t} {e} et lt f v =
      let u = c.within in
      let a = earlier_is e f in
      let lo = a.low in
      record {
        within = omega arith;
        own = a.own;
        put =
            rw (next_events e t f et)
            (puts_then (opening_events (openings (groups_from (n - g) w g) q m place)) (opening_events (piece m t place (place + t) ∷ [])) c.put v);
        ends = next_ends e t f et;
        small = omega (arith, c.small);
      }

-- no group is ahead
pub ended : {w : List ℕ} {n : ℕ} {out₀ : Section} {q m from g : ℕ} {out : Section} {place : ℕ} → Opening out₀ w n q m from g out place → g ≤ 0 →
    Puts out₀ (openings_in w n q m from) out
unfolding groups_from opened
ended {w = w} {n = n} {q = q} {from = from} {g = g} {place = place} c h =
    let z : g ≡ 0 = omega arith in
    let s : n - 0 ≡ n = omega arith in
    let e = rw z at c.ends in
    let x : place ≡ from + opened (groups_in w n) q = omega (arith, e) in
    rw (z, s, x) at c.put
