-- The shape rule as a test (`shaped`) and as what a run may look like (`Shape`) are one.
-- Assumes nothing.
use Prim.Native.Nat.{ℕ, zero, suc, ◌+◌, ◌-◌, ◌<◌, ◌≤◌}
use mathlib.Core.Path.{◌≡◌, refl, ap}
use mathlib.Core.Bool.{Bool, true, false, not}
use mathlib.Core.List.{List, [], ◌∷◌}
use native.Mathlib.Omega.{arith}
use lib.ListN.{length, get_or}
use lib.Dec.{ltb}
use borrow.Author.Tests.{eq-eqb, ne_eqb, eqb-true, lt-ltb, ltb-true, ltb-false, not-true}
use Rattle.record.specs.Choice.{choose, and}
use Rattle.record.specs.Options.{option_on}
use Rattle.record.specs.Event.{event, exit}
use Rattle.record.specs.declared.event.Event.{Event}
use Rattle.record.proofs.Bools.{and_left, and_right, and_both, clash}
use Rattle.runs.specs.Runs.{is_marker, allowed, left_at_once, all_are, is_byte, byte_at, run_between, shaped}
use Rattle.runs.proofs.Marks.{Mark, star as a-star, line as a-line, tilde as a-tilde, mark}
use Rattle.attention.specs.Shape.{Marker, star, line, tilde, Shape}

-- a scan over bytes that are all one says so of each, and the other way round
each_alike : (n marker : ℕ) (doc : List ℕ) (at : ℕ) → all_are n marker doc at ≡ true → (i : ℕ) → at ≤ i → i < at + n → get_or doc i 0 ≡ marker
unfolding all_are
each_alike zero marker doc at q i l h = absurd (omega arith)
each_alike (suc n) marker doc at q i l h = go (ltb at i) refl (each_alike n marker doc (at + 1) (and_right _ _ q) i)
  where
    go : (z : Bool) → ltb at i ≡ z → (at + 1 ≤ i → i < at + 1 + n → get_or doc i 0 ≡ marker) → get_or doc i 0 ≡ marker
    go true e further = let p : at < i = ltb-true at i e in further (omega arith) (omega arith)
    go false e further =
        let p : i ≤ at = ltb-false at i e in
        let same : i ≡ at = omega arith in
        rw same (eqb-true _ _ (and_left _ _ q))

alike_all : (n marker : ℕ) (doc : List ℕ) (at : ℕ) → ((i : ℕ) → at ≤ i → i < at + n → get_or doc i 0 ≡ marker) → all_are n marker doc at ≡ true
unfolding all_are
alike_all zero marker doc at f = refl
alike_all (suc n) marker doc at f =
    and_both _ _ (eq-eqb _ _ (f at (omega arith) (omega arith))) (alike_all n marker doc (at + 1) (λ i l h. f i (omega arith) (omega arith)))

-- a marker whose option is on, as two tests
known_marker : (options m : ℕ) → Mark m → allowed options m ≡ true → Marker options m
unfolding allowed option_on choose
known_marker options m a-star a = star (eqb-true _ _ a)
known_marker options m a-line a = line (eqb-true _ _ a)
known_marker options m a-tilde a = tilde (eqb-true _ _ a)

marker_tested : {options m : ℕ} → Marker options m → (is_marker m ≡ true) × (allowed options m ≡ true)
unfolding is_marker allowed option_on choose
marker_tested (star h) = (refl, eq-eqb _ _ h)
marker_tested (line h) = (refl, eq-eqb _ _ h)
marker_tested (tilde h) = (refl, eq-eqb _ _ h)

-- the byte at a place is this one
is_byte_lem : (marker : ℕ) (doc : List ℕ) (at : ℕ) → at < length doc → get_or doc at 0 ≡ marker → is_byte marker (byte_at doc at) ≡ true
unfolding byte_at choose
is_byte_lem marker doc at h e = rw (lt-ltb at (length doc) h) (eq-eqb _ _ e)

no_byte : (marker : ℕ) (doc : List ℕ) (at : ℕ) → (at < length doc → get_or doc at 0 ≡ marker → ⊥) → is_byte marker (byte_at doc at) ≡ false
unfolding byte_at choose
no_byte marker doc at f = go (ltb at (length doc)) refl
  where
    go : (z : Bool) → ltb at (length doc) ≡ z → is_byte marker (byte_at doc at) ≡ false
    go true e = rw e (ne_eqb _ _ (f (ltb-true _ _ e)))
    go false e = rw e

exits_run : (x : Event) → x.kind ≡ 1 → x.name ≡ 1 → x ≡ exit 1 x.place
exits_run x k n = let e : event x.kind x.name x.place ≡ exit 1 x.place = cc in e

module _ (doc : List ℕ) (options : ℕ) (e : Event) where
  pub shape_of : (es : List Event) → shaped doc options e es ≡ true → Shape doc options e.place es
  unfolding shaped run_between left_at_once
  shape_of [] q = absurd (clash (and_left _ _ q) refl)
  shape_of (x ∷ es) q =
      let m = get_or doc e.place 0 in
      let left = and_left _ _ q in
      let q₁ = and_right _ _ q in
      let q₂ = and_right _ _ q₁ in
      let q₃ = and_right _ _ q₂ in
      let q₄ = and_right _ _ q₃ in
      let later : e.place < x.place = ltb-true _ _ (and_left _ _ q₁) in
      record {
        to = x.place;
        rest = es;
        marker = m;
        left_at_once = ap (λ (y : Event). y ∷ es) (exits_run x (eqb-true _ _ (and_left _ _ left)) (eqb-true _ _ (and_right _ _ left)));
        later = later;
        known = known_marker options m (mark m (and_left _ _ q₂)) (and_right _ _ q₄);
        all_alike = λ i l h. each_alike (x.place - e.place) m doc e.place (and_left _ _ q₃) i l (omega arith);
        ends_there = λ h b. clash (is_byte_lem m doc x.place h b) (not-true _ (and_left _ _ q₄));
      }

  tested : (to : ℕ) (rest : List Event) (marker : ℕ) → e.place < to → Marker options marker →
      ((i : ℕ) → e.place ≤ i → i < to → get_or doc i 0 ≡ marker) → (to < length doc → get_or doc to 0 ≡ marker → ⊥) →
      shaped doc options e (exit 1 to ∷ rest) ≡ true
  unfolding shaped run_between left_at_once and
  tested to rest marker later known f g =
      let same : get_or doc e.place 0 ≡ marker = f e.place (omega arith) later in
      let t = marker_tested known in
      rw same
      (and_both _ _ (lt-ltb _ _ later)
      (and_both _ _ t.0
      (and_both _ _ (alike_all (to - e.place) marker doc e.place (λ i l h. f i l (omega arith)))
      (and_both _ _ (ap not (no_byte marker doc to g)) t.1))))

  pub shaped_so : (es : List Event) → Shape doc options e.place es → shaped doc options e es ≡ true
  shaped_so es s = rw s.left_at_once (tested s.to s.rest s.marker s.later s.known s.all_alike s.ends_there)
