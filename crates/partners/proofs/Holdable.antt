-- Nothing is found exactly where a record may hold the document and the events.
-- Assumes nothing.
use mathlib.Core.Path.{◌≡◌, refl}
use mathlib.Core.Bool.{Bool, true, false}
use mathlib.Core.List.{List, [], ◌∷◌}
use Prim.Native.Nat.{ℕ, ◌+◌, ◌≤◌}
use native.Mathlib.Omega.{arith}
use lib.ListN.{length}
use borrow.Author.Tests.{le-ltb, ltb-false}
use Rattle.record.specs.Check.{first_return}
use Rattle.record.specs.Choice.{choose}
use Rattle.record.specs.ReadsBack.{Holdable}
use Rattle.record.specs.Sound.{sound_from}
use Rattle.record.specs.Stack.{after}
use Rattle.record.specs.declared.event.Event.{Event}
use Rattle.record.proofs.Bools.{and_left, and_right, and_both}
use Rattle.record.proofs.Chosen.{first_side}
use Rattle.record.proofs.Good.{none_returned, passes_all}
use Rattle.record.proofs.ReadsBack.{sound_storable}
use Rattle.partners.specs.EitherForm.{Finding, nothing, broken_from, found, Writable, NothingFound}

-- what a record may hold can be written
pub writable : {document : List ℕ} {es : List Event} → Holdable document es → Writable document es
writable {document} {es} h =
    let small : length document ≤ 16384 = h.small in
    let few : length es ≤ 2048 = h.few in
    record {
      document_count = omega arith;
      event_count = omega arith;
      places = sound_storable 64 (length document) 0 [] es h.sound_events (omega arith);
    }

-- a choice that comes to nothing, one side of which is a finding, is its other side
passed : (b : Bool) (x y : Finding) → (y ≡ nothing → ⊥) → choose b x y ≡ nothing → (b ≡ true) × (x ≡ nothing)
unfolding choose
passed true x y n q = (refl, q)
passed false x y n q = absurd (n q)

missed : (b : Bool) (x y : Finding) → (x ≡ nothing → ⊥) → choose b x y ≡ nothing → (b ≡ false) × (y ≡ nothing)
unfolding choose
missed true x y n q = absurd (n q)
missed false x y n q = (refl, q)

sound_unbroken : (d k last : ℕ) (held : List ℕ) (es : List Event) → sound_from 64 d last held es ≡ true → broken_from d k last held es ≡ nothing
unfolding sound_from broken_from
sound_unbroken d k last held [] q = first_side _ _ _ _ q refl
sound_unbroken d k last held (e ∷ es) q =
    first_side _ _ _ _ (and_both _ _ (and_left _ _ q) (and_left _ _ (and_right _ _ q)))
    (sound_unbroken d (k + 1) e.place (after e e.name held) es (and_right _ _ (and_right _ _ q)))

unbroken_sound : (d k last : ℕ) (held : List ℕ) (es : List Event) → broken_from d k last held es ≡ nothing → sound_from 64 d last held es ≡ true
unfolding sound_from broken_from
unbroken_sound d k last held [] q = (passed _ _ _ (λ p. let z : ◌≡◌ {A = ℕ} 0 1 = cc in omega arith) q).0
unbroken_sound d k last held (e ∷ es) q =
    let p = passed _ _ _ (λ r. let z : ◌≡◌ {A = ℕ} 0 1 = cc in omega arith) q in
    and_both _ _ (and_left _ _ p.0) (and_both _ _ (and_right _ _ p.0) (unbroken_sound d (k + 1) e.place (after e e.name held) es p.1))

pub holdable_nothing : (works options : ℕ) (document : List ℕ) (es : List Event) → 65536 ≤ works → options ≤ 63 → Holdable document es →
    found works options document es ≡ nothing
unfolding found choose
holdable_nothing works options document es w o h =
    let r : first_return (length document) document 0 ≡ 0 + length document =
    passes_all (length document) document 0 (λ k g q. let z : 0 + k ≡ k = omega arith in h.no_return k g (rw z at q)) in
    rw (
      le-ltb works 65536 w,
      le-ltb 63 options o,
      le-ltb 16384 (length document) h.small,
      le-ltb 2048 (length es) h.few,
      le-ltb (first_return (length document) document 0) (length document) (omega arith),
    )
    (sound_unbroken (length document) 0 0 [] es h.sound_events)

pub nothing_holdable : (works options : ℕ) (document : List ℕ) (es : List Event) → found works options document es ≡ nothing →
    (65536 ≤ works) × (options ≤ 63) × Holdable document es
unfolding found
nothing_holdable works options document es q =
    let p₁ = missed _ _ _ (λ r. let z : ◌≡◌ {A = ℕ} 0 1 = cc in omega arith) q in
    let p₂ = missed _ _ _ (λ r. let z : ◌≡◌ {A = ℕ} 0 1 = cc in omega arith) p₁.1 in
    let p₃ = missed _ _ _ (λ r. let z : ◌≡◌ {A = ℕ} 0 1 = cc in omega arith) p₂.1 in
    let p₄ = missed _ _ _ (λ r. let z : ◌≡◌ {A = ℕ} 0 1 = cc in omega arith) p₃.1 in
    let p₅ = missed _ _ _ (λ r. let z : ◌≡◌ {A = ℕ} 0 1 = cc in omega arith) p₄.1 in
    let r : length document ≤ first_return (length document) document 0 = ltb-false _ _ p₅.0 in (
      ltb-false _ _ p₁.0,
      ltb-false _ _ p₂.0,
      record {
        small = ltb-false _ _ p₃.0;
        no_return = λ k h e. none_returned (length document) document 0 (omega arith) k h (let z : 0 + k ≡ k = omega arith in rw z e);
        few = ltb-false _ _ p₄.0;
        sound_events = unbroken_sound (length document) 0 0 [] es p₅.1;
      },
    )

pub nothing_found : NothingFound
nothing_found works options document es = (holdable_nothing works options document es, nothing_holdable works options document es)
