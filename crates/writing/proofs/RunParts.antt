-- What stands for a run in parts, by what is left of it: the account of its markers makes its leftover exactly the bytes between what it gave as
-- a closer and what it gave as an opener.
-- Assumes nothing.
use Prim.Native.Nat.{ℕ, ◌+◌, ◌-◌, ◌≤◌, ◌<◌}
use mathlib.Core.Path.{◌≡◌}
use mathlib.Core.Bool.{true, false}
use mathlib.Core.Logic.{◌⊎◌, inl, inr}
use mathlib.Core.List.{List, [], ◌∷◌, ◌++◌}
use native.Mathlib.Omega.{arith}
use borrow.Author.Tests.{eq-eqb, ne_eqb, lt-ltb, le-ltb}
use Rattle.record.specs.Choice.{choose}
use Rattle.record.specs.Event.{enter, exit}
use Rattle.record.specs.declared.event.Event.{Event}
use Rattle.runs.specs.Pieces.{closed, opened, remains, opening_pieces}
use Rattle.runs.specs.Output.{leftover_events, opening_events, run_events}
use Rattle.slots.specs.Layout.{whole_of, left_of, marker_of}
use Rattle.partners.specs.Section.{Ready, Puts}
use Rattle.partners.specs.declared.Section.{Section}
use Rattle.writing.specs.Kept.{Kept, groups_in, closings_in, openings_in, left_in, run_kept}
use Rattle.partners.proofs.Sections.{puts_none, puts_then, ready_first, ready_then}
use Rattle.partners.proofs.Walk.{same}

-- what is left of a run, if it is any
pub some_left : (from to : ℕ) → (from ≡ to → ⊥) → left_in from to ≡ enter 0 from ∷ exit 0 to ∷ []
unfolding left_in choose
some_left from to z = rw (ne_eqb from to z)

pub none_left : (from to : ℕ) → from ≡ to → (out : Section) → Puts out (left_in from to) out
unfolding left_in choose
none_left from to z out = rw (eq-eqb _ _ z) (puts_none out)

-- the events of the run that slot q keeps
abbrev pub events_kept : List ℕ → ℕ → ℕ → ℕ → List Event
events_kept w n q from = run_events (groups_in w n) q (run_kept w q from)

-- there is room for the closing pieces
pub closing_fits : {out : Section} (w : List ℕ) (n q m from : ℕ) → m ≡ marker_of w q → Ready out (events_kept w n q from) →
    Ready out (closings_in w n q m from)
unfolding run_events
closing_fits w n q m from em h =
    rw em
    (ready_first (closings_in w n q (marker_of w q) from)
    (leftover_events (groups_in w n) q (run_kept w q from) ++ opening_events (opening_pieces (groups_in w n) q (run_kept w q from))) h)

module _ {w : List ℕ} {n runs : ℕ} (k : Kept w n runs) {q : ℕ} (r : q < runs) (m from place t : ℕ) (em : m ≡ marker_of w q)
    (ep : place ≡ from + closed (groups_in w n) q) (et : t ≡ left_of w q) where
  none_remains : t ≡ 0 → remains (groups_in w n) q (run_kept w q from) ≡ false
  unfolding remains
  none_remains z =
      let a = k.accounts q r in
      let h : from + whole_of w q - opened (groups_in w n) q ≤ from + closed (groups_in w n) q = omega arith in
      le-ltb _ _ h

  some_remains : (t ≡ 0 → ⊥) → remains (groups_in w n) q (run_kept w q from) ≡ true
  unfolding remains
  some_remains z =
      let a = k.accounts q r in
      let h : from + closed (groups_in w n) q < from + whole_of w q - opened (groups_in w n) q = omega arith in
      lt-ltb _ _ h

  emptied_is : t ≡ 0 → events_kept w n q from ≡ closings_in w n q m from ++ (left_in place (place + t) ++ openings_in w n q m (place + t))
  unfolding run_events leftover_events left_in choose
  emptied_is z =
      let a = k.accounts q r in
      let end : from + whole_of w q ≡ place + t + opened (groups_in w n) q = omega arith in
      let same_end : place ≡ place + t = omega arith in
      rw (none_remains z, eq-eqb _ _ same_end, end, em)

  left_is : (t ≡ 0 → ⊥) → events_kept w n q from ≡ closings_in w n q m from ++ (left_in place (place + t) ++ openings_in w n q m (place + t))
  unfolding run_events leftover_events left_in choose
  left_is z =
      let a = k.accounts q r in
      let to : from + whole_of w q - opened (groups_in w n) q ≡ place + t = omega arith in
      let end : from + whole_of w q ≡ place + t + opened (groups_in w n) q = omega arith in
      let apart : place ≡ place + t → ⊥ = λ q. z (omega arith) in
      rw (some_remains z, ne_eqb place (place + t) apart, to, end, em, ← ep)

  parts : events_kept w n q from ≡ closings_in w n q m from ++ (left_in place (place + t) ++ openings_in w n q m (place + t))
  parts = go (same t 0)
    where
      go : (t ≡ 0) ⊎ (t ≡ 0 → ⊥) → events_kept w n q from ≡ closings_in w n q m from ++ (left_in place (place + t) ++ openings_in w n q m (place + t))
      go (inl z) = emptied_is z
      go (inr z) = left_is z

  module _ {out₀ out₁ : Section} (c : Puts out₀ (closings_in w n q m from) out₁) where
    behind_fit : Ready out₀ (events_kept w n q from) → Ready out₁ (left_in place (place + t) ++ openings_in w n q m (place + t))
    behind_fit h = ready_then (closings_in w n q m from) (left_in place (place + t) ++ openings_in w n q m (place + t)) c (rw parts at h)

    pub leftover_fits : Ready out₀ (events_kept w n q from) → Ready out₁ (left_in place (place + t))
    leftover_fits h = ready_first (left_in place (place + t)) (openings_in w n q m (place + t)) (behind_fit h)

    module _ {out₂ : Section} (l : Puts out₁ (left_in place (place + t)) out₂) where
      pub openings_fit : Ready out₀ (events_kept w n q from) → Ready out₂ (openings_in w n q m (place + t))
      openings_fit h = ready_then (left_in place (place + t)) (openings_in w n q m (place + t)) l (behind_fit h)

      pub run_put : {out₃ : Section} → Puts out₂ (openings_in w n q m (place + t)) out₃ → Puts out₀ (events_kept w n q from) out₃
      run_put v =
          rw parts
          (puts_then (closings_in w n q m from) (left_in place (place + t) ++ openings_in w n q m (place + t)) c
          (puts_then (left_in place (place + t)) (openings_in w n q m (place + t)) l v))
