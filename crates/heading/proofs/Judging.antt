-- What the first pass finds, against the definition: the heading that offends, or how many events the result has.
-- Assumes nothing.
use mathlib.Core.Path.{◌≡◌, refl, sym, ap, ◌∙◌}
use mathlib.Core.Bool.{Bool, true, false}
use mathlib.Core.Logic.{◌⊎◌, inl, inr}
use mathlib.Core.List.{List, [], ◌∷◌}
use Prim.Native.Nat.{ℕ, ◌+◌, ◌≤◌, ◌<◌}
use native.Mathlib.Omega.{arith}
use Rattle.std.proofs.Common.{Result, Ok, Err}
use lib.ListN.{length}
use Rattle.record.specs.Choice.{choose}
use Rattle.record.specs.Outcome.{Resolution, offends, gives}
use Rattle.record.specs.declared.event.Event.{Event}
use Rattle.heading.specs.Headings.{resolved_from, offending, earliest, headings}
use Rattle.heading.specs.Steps.{judged_of}
use Rattle.record.specs.declared.listed.Offender.{Offender}

-- either no heading offends, or one of these does
pub either : (i : ℕ) (es : List Event) (good : Resolution) →
    (earliest i es good ≡ good) ⊎ ((k : ℕ) × (earliest i es good ≡ offends k) × (i ≤ k) × (k < i + length es))
unfolding earliest choose
either i [] good = inl refl
either i (e ∷ es) good = go (offending e es) (either (i + 1) es good)
  where
    go : (b : Bool) → (earliest (i + 1) es good ≡ good) ⊎ ((k : ℕ) × (earliest (i + 1) es good ≡ offends k) × (i + 1 ≤ k) × (k < i + 1 + length es)) →
        (choose b (offends i) (earliest (i + 1) es good) ≡ good)
        ⊎ ((k : ℕ) × (choose b (offends i) (earliest (i + 1) es good) ≡ offends k) × (i ≤ k) × (k < i + length (e ∷ es)))
    go true p = inr (i, refl, omega arith, omega arith)
    go false (inl q) = inl q
    go false (inr (k, q, l, u)) = inr (k, q, omega arith, omega arith)

abbrev event_of : Result ℕ Offender → ℕ
event_of (Ok n) = 0
event_of (Err o) = o.event

pub offends_is : (es : List Event) (k : ℕ) → Err (record { event = k }) ≡ judged_of (headings es) → (headings es ≡ offends k) × (k < length es)
unfolding headings
offends_is es k q = go (either 0 es (gives (resolved_from 0 es)))
  where
    go : (headings es ≡ gives (resolved_from 0 es)) ⊎ ((j : ℕ) × (headings es ≡ offends j) × (0 ≤ j) × (j < 0 + length es)) →
        (headings es ≡ offends k) × (k < length es)
    go (inl p) =
        let z : ◌≡◌ {A = Result ℕ Offender} (Err (record { event = k })) (Ok (length (resolved_from 0 es))) = q ∙ ap judged_of p in
        let y : ◌≡◌ {A = ℕ} 0 1 = cc in
        absurd (omega arith)
    go (inr (j, p, l, u)) =
        let z : ◌≡◌ {A = Result ℕ Offender} (Err (record { event = k })) (Err (record { event = j })) = q ∙ ap judged_of p in
        let y : j ≡ k = sym (ap event_of z) in
        (p ∙ ap (λ (m : ℕ). offends m) y, omega arith)

pub sized_is : (es : List Event) (n : ℕ) → Ok n ≡ judged_of (headings es) → (headings es ≡ gives (resolved_from 0 es)) × (n ≡ length (resolved_from 0 es))
unfolding headings
sized_is es n q = go (either 0 es (gives (resolved_from 0 es)))
  where
    go : (headings es ≡ gives (resolved_from 0 es)) ⊎ ((j : ℕ) × (headings es ≡ offends j) × (0 ≤ j) × (j < 0 + length es)) →
        (headings es ≡ gives (resolved_from 0 es)) × (n ≡ length (resolved_from 0 es))
    go (inl p) =
        let z : ◌≡◌ {A = Result ℕ Offender} (Ok n) (Ok (length (resolved_from 0 es))) = q ∙ ap judged_of p in
        (p, cc)
    go (inr (j, p, l, u)) =
        let z : ◌≡◌ {A = Result ℕ Offender} (Ok n) (Err (record { event = j })) = q ∙ ap judged_of p in
        let y : ◌≡◌ {A = ℕ} 0 1 = cc in
        absurd (omega arith)
