-- The loop of `copy`: the first i events of a record are put, and then the next.
-- Assumes nothing.
use mathlib.Core.Path.{◌≡◌, refl, ap, ◌∙◌}
use mathlib.Core.List.{List, [], ◌∷◌, ◌++◌}
use Prim.Native.Nat.{ℕ, zero, suc, ◌+◌, ◌-◌, ◌*◌, ◌<◌}
use native.Mathlib.Omega.{arith}
use Rattle.record.specs.Event.{event_at, events_by}
use Rattle.record.specs.declared.event.Event.{Event}
use Rattle.record.proofs.Parts.{events_cons, events_none}
use Rattle.partners.specs.Pen.{Fits, Put}
use Rattle.partners.specs.declared.Pen.{Pen}
use Rattle.partners.proofs.Pens.{put_none, put_then, fits_first, fits_then}

-- k events, and then the others
events_parts : (width n k m : ℕ) (s : List ℕ) (at there : ℕ) → n ≡ k + m → there ≡ at + width * k →
    events_by width n s at ≡ events_by width k s at ++ events_by width m s there
unfolding events_by
events_parts width n zero m s at there e t =
    let a : n ≡ m = omega arith in
    let b : there ≡ at = omega arith in
    rw (a, b)
events_parts width zero (suc k) m s at there e t = absurd (omega arith)
events_parts width (suc n) (suc k) m s at there e t =
    ap (λ (l : List Event). event_at s at ∷ l) (events_parts width n k m s (at + width) there (omega arith) (omega arith))

pub begun : (d : List ℕ) (p : Pen) (s : List ℕ) (from width : ℕ) → Put d p (events_by width 0 s from) d p
unfolding events_by
begun d p s from width = put_none d p

module _ (s : List ℕ) (from width i : ℕ) {d₀ d : List ℕ} {p₀ p : Pen} (u : Put d₀ p₀ (events_by width i s from) d p) where
  pub one_fits : (n : ℕ) {e : Event} → i < n → e ≡ event_at s (from + width * i) → Fits d₀ p₀ (events_by width n s from) → Fits d p (e ∷ [])
  one_fits n {e} more q f =
      let at : ℕ = from + width * i in
      let ahead : events_by width n s from ≡ events_by width i s from ++ (event_at s at ∷ events_by width (n - (i + 1)) s (at + width)) =
      events_parts width n i (n - i) s from at (omega arith) refl
      ∙ ap (λ (l : List Event). events_by width i s from ++ l) (events_cons width (n - i) (n - (i + 1)) s at (omega arith)) in
      let g : Fits d₀ p₀ (events_by width i s from ++ (event_at s at ∷ events_by width (n - (i + 1)) s (at + width))) = rw ahead at f in
      rw q
      (fits_first (event_at s at ∷ []) (events_by width (n - (i + 1)) s (at + width))
      (fits_then (events_by width i s from) (event_at s at ∷ events_by width (n - (i + 1)) s (at + width)) u g))

  pub one_more : {d₁ : List ℕ} {p₁ : Pen} {e : Event} → e ≡ event_at s (from + width * i) → Put d p (e ∷ []) d₁ p₁ →
      Put d₀ p₀ (events_by width (i + 1) s from) d₁ p₁
  one_more {d₁} {p₁} {e} q v =
      let at : ℕ = from + width * i in
      let z : events_by width 0 s (at + width) ≡ [] = events_none width 0 s (at + width) refl in
      let l : events_by width (i + 1) s from ≡ events_by width i s from ++ (event_at s at ∷ []) =
      events_parts width (i + 1) i 1 s from at refl refl
      ∙ ap (λ (l : List Event). events_by width i s from ++ l) (events_cons width 1 0 s at refl ∙ ap (λ (l : List Event). event_at s at ∷ l) z) in
      let v' : Put d p (event_at s at ∷ []) d₁ p₁ = rw q at v in
      rw l (put_then (events_by width i s from) (event_at s at ∷ []) u v')
