-- An accepted record cut at its runs: nothing, an event that is no run's before the rest, or a whole run before the rest. All that is proved of
-- records goes by this.
-- Assumes nothing.
use Prim.Native.Nat.{ℕ, zero, suc, ◌+◌, ◌≤◌, ◌<◌}
use mathlib.Core.Path.{◌≡◌, refl, ◌∙◌}
use mathlib.Core.Bool.{Bool, true, false}
use mathlib.Core.List.{List, [], ◌∷◌}
use mathlib.Core.Option.{Option, none, some}
use mathlib.Core.Logic.{◌⊎◌, inl, inr, ⊎_elim}
use native.Mathlib.Omega.{arith}
use lib.Dec.{eqb}
use borrow.Author.Tests.{eqb-true, eq-eqb, ne_eqb, ltb-true, not-false}
use lib.ListN.{length}
use Rattle.record.specs.Choice.{choose, and}
use Rattle.record.specs.Stack.{outer}
use Rattle.record.specs.Sound.{sound_from}
use Rattle.record.specs.declared.event.Event.{Event}
use Rattle.record.proofs.Bools.{and_left, and_right, clash}
use Rattle.record.proofs.Soundness.{stands, sound_rest, after_enter, after_exit}
use Rattle.runs.specs.Runs.{enters_run, left_at_once, run_between, shaped, offender_from, offender}
use Rattle.output.specs.Accepted.{Accepted}

-- over a document of d bytes, where the event before has the place `last` and the names h are open
pub data Cut (d : ℕ) : ℕ → List ℕ → List Event → Type 0 where
  over : {last : ℕ} → last ≤ d → Cut d last [] []
  enters : {last : ℕ} {h : List ℕ} {e : Event} {es : List Event} → e.kind ≡ 0 → (e.name ≡ 1 → ⊥) → e.name ≤ 24 → last ≤ e.place →
      Cut d e.place (e.name ∷ h) es → Cut d last h (e ∷ es)
  leaves : {last n : ℕ} {h : List ℕ} {e : Event} {es : List Event} → e.kind ≡ 1 → (e.name ≡ 1 → ⊥) → e.name ≤ 24 → last ≤ e.place →
      n ≡ e.name → Cut d e.place h es → Cut d last (n ∷ h) (e ∷ es)
  run : {last : ℕ} {h : List ℕ} {e x : Event} {es : List Event} → e.kind ≡ 0 → e.name ≡ 1 → x.kind ≡ 1 → x.name ≡ 1 → last ≤ e.place →
      e.place < x.place → Cut d x.place h es → Cut d last h (e ∷ (x ∷ es))

-- none of some names is 1
data NoRuns : List ℕ → Type 0 where
  empty : NoRuns []
  other : {n : ℕ} {h : List ℕ} → (n ≡ 1 → ⊥) → NoRuns h → NoRuns (n ∷ h)

-- whether an event enters a run
pub enters_run_lem : (e : Event) → e.kind ≡ 0 → e.name ≡ 1 → enters_run e ≡ true
unfolding enters_run and
enters_run_lem e k n = rw (eq-eqb _ _ k, eq-eqb _ _ n)

pub enters_none : (e : Event) → (e.name ≡ 1 → ⊥) → enters_run e ≡ false
unfolding enters_run and
enters_none e n = go (eqb e.kind 0) refl
  where
    go : (z : Bool) → eqb e.kind 0 ≡ z → enters_run e ≡ false
    go true q = rw (q, ne_eqb _ _ n)
    go false q = rw q

pub exits_none : (x : Event) → x.kind ≡ 1 → enters_run x ≡ false
unfolding enters_run and
exits_none x k = rw (ne_eqb x.kind 0 (λ z. omega arith))

-- no offender among some: the first is none, and the rest has none
at_first : (b : Bool) (i : ℕ) (f : Option ℕ) → choose b (some i) f ≡ none → b ≡ false
unfolding choose
at_first true i f q = let z : ◌≡◌ {A = ℕ} 0 1 = cc in absurd (omega arith)
at_first false i f q = refl

at_rest : (b : Bool) (i : ℕ) (f : Option ℕ) → choose b (some i) f ≡ none → f ≡ none
unfolding choose
at_rest true i f q = let z : ◌≡◌ {A = ℕ} 0 1 = cc in absurd (omega arith)
at_rest false i f q = q

run_shaped : (doc : List ℕ) (options : ℕ) (e : Event) (es : List Event) (i : ℕ) → e.kind ≡ 0 → e.name ≡ 1 → offender_from doc options (e ∷ es) i ≡ none →
    shaped doc options e es ≡ true
unfolding offender_from and
run_shaped doc options e es i k n f =
    let r = enters_run_lem e k n in
    not-false (shaped doc options e es) (rw r at (at_first _ _ _ f))

shaped_left : (doc : List ℕ) (options : ℕ) (e x : Event) (es : List Event) → shaped doc options e (x ∷ es) ≡ true →
    (x.kind ≡ 1) × (x.name ≡ 1) × (e.place < x.place)
unfolding shaped run_between left_at_once
shaped_left doc options e x es s =
    let l = and_left _ _ s in
    (eqb-true _ _ (and_left _ _ l), eqb-true _ _ (and_right _ _ l), ltb-true _ _ (and_left _ _ (and_right _ _ s)))

shaped_some : (doc : List ℕ) (options : ℕ) (e : Event) → shaped doc options e [] ≡ true → ⊥
unfolding shaped left_at_once and
shaped_some doc options e s = clash s refl

rest_none : (doc : List ℕ) (options : ℕ) (e : Event) (es : List Event) (i : ℕ) → offender_from doc options (e ∷ es) i ≡ none → offender_from doc options es (i + 1) ≡ none
unfolding offender_from
rest_none doc options e es i f = at_rest _ _ _ f

is_kind : (n : ℕ) → n ≤ 1 → (n ≡ 0) ⊎ (n ≡ 1)
is_kind zero h = inl refl
is_kind (suc n) h = inr (omega arith)

-- an event enters a run or does not
run_or_not : (e : Event) → ((e.kind ≡ 0) × (e.name ≡ 1)) ⊎ ((e.kind ≡ 0) × (e.name ≡ 1) → ⊥)
unfolding enters_run
run_or_not e = go (enters_run e) refl
  where
    go : (z : Bool) → enters_run e ≡ z → ((e.kind ≡ 0) × (e.name ≡ 1)) ⊎ ((e.kind ≡ 0) × (e.name ≡ 1) → ⊥)
    go true q = inl (eqb-true _ _ (and_left _ _ q), eqb-true _ _ (and_right _ _ q))
    go false q = inr (λ z. clash (enters_run_lem e z.0 z.1) q)

-- an exit is no run's where no run is open
plain_exit : {d last : ℕ} (h : List ℕ) (e : Event) (es : List Event) → NoRuns h → h ≡ e.name ∷ outer h → e.kind ≡ 1 → e.name ≤ 24 → last ≤ e.place →
    ((k : List ℕ) → outer h ≡ k → NoRuns k → Cut d e.place k es) → Cut d last h (e ∷ es)
plain_exit [] e es empty q k n l f = let z : ◌≡◌ {A = ℕ} 0 1 = cc in absurd (omega arith)
plain_exit (m ∷ h) e es (other x r) q k n l f =
    let y : m ≡ e.name = cc in
    leaves k (λ (z : e.name ≡ 1). x (y ∙ z)) n l y (f h refl r)

module _ (doc : List ℕ) (deep options d : ℕ) where
  -- an event that is no run's
  plain_step : (last : ℕ) (h : List ℕ) (e : Event) (es : List Event) (i : ℕ) → NoRuns h → sound_from deep d last h (e ∷ es) ≡ true →
      ((e.kind ≡ 0) × (e.name ≡ 1) → ⊥) →
      ((k : List ℕ) → NoRuns k → sound_from deep d e.place k es ≡ true → Cut d e.place k es) → Cut d last h (e ∷ es)
  plain_step last h e es i p s ne f =
      let st = stands deep d last h e es s in
      ⊎_elim
      (λ (z : e.kind ≡ 0).
      let x : e.name ≡ 1 → ⊥ = λ y. ne (z, y) in
      enters z x st.name st.rising (f (e.name ∷ h) (other x p) (rw (after_enter e e.name h z) at (sound_rest deep d last h e es s))))
      (λ (z : e.kind ≡ 1).
      plain_exit h e es p (st.partner z) z st.name st.rising
      (λ k q r. f k r (rw (after_exit e e.name h z, q) at (sound_rest deep d last h e es s))))
      (is_kind e.kind st.kind)

  -- a run is left at once
  run_step : (last : ℕ) (h : List ℕ) (e x : Event) (es : List Event) (i : ℕ) → sound_from deep d last h (e ∷ (x ∷ es)) ≡ true →
      offender_from doc options (e ∷ (x ∷ es)) i ≡ none → e.kind ≡ 0 → e.name ≡ 1 →
      (x.place ≤ d → sound_from deep d x.place h es ≡ true → Cut d x.place h es) → Cut d last h (e ∷ (x ∷ es))
  run_step last h e x es i s f k n g =
      let st = stands deep d last h e (x ∷ es) s in
      let l = shaped_left doc options e x es (run_shaped doc options e (x ∷ es) i k n f) in
      let s₁ : sound_from deep d e.place (e.name ∷ h) (x ∷ es) ≡ true = rw (after_enter e e.name h k) at (sound_rest deep d last h e (x ∷ es) s) in
      let s₂ : sound_from deep d x.place h es ≡ true = rw (after_exit x x.name (e.name ∷ h) l.0) at (sound_rest deep d e.place (e.name ∷ h) x es s₁) in
      run k n l.0 l.1 st.rising l.2 (g (stands deep d e.place (e.name ∷ h) x es s₁).inside s₂)

  cut_from : (last : ℕ) (h : List ℕ) (es : List Event) (i : ℕ) → last ≤ d → NoRuns h → sound_from deep d last h es ≡ true →
      offender_from doc options es i ≡ none → Cut d last h es
  unfolding sound_from
  cut_from last [] [] i low p s f = over low
  cut_from last (n ∷ h) [] i low p s f = let z : ◌≡◌ {A = ℕ} 0 1 = cc in absurd (omega arith)
  cut_from last h (e ∷ []) i low p s f =
      plain_step last h e [] i p s (λ z. shaped_some doc options e (run_shaped doc options e [] i z.0 z.1 f))
      (λ k r t. cut_from e.place k [] (i + 1) (stands deep d last h e [] s).inside r t (rest_none doc options e [] i f))
  cut_from last h (e ∷ (x ∷ es)) i low p s f =
      ⊎_elim
      (λ (z : (e.kind ≡ 0) × (e.name ≡ 1)).
      run_step last h e x es i s f z.0 z.1
      (λ m t. cut_from x.place h es (i + 1 + 1) m p t (rest_none doc options x es (i + 1) (rest_none doc options e (x ∷ es) i f))))
      (λ (ne : (e.kind ≡ 0) × (e.name ≡ 1) → ⊥).
      plain_step last h e (x ∷ es) i p s ne
      (λ k r t. cut_from e.place k (x ∷ es) (i + 1) (stands deep d last h e (x ∷ es) s).inside r t (rest_none doc options e (x ∷ es) i f)))
      (run_or_not e)

-- the whole of an accepted record
pub cut : {deep options : ℕ} {doc : List ℕ} {es : List Event} → Accepted deep options doc es → Cut (length doc) 0 [] es
unfolding offender
cut {deep} {options} {doc} {es} a = cut_from doc deep options (length doc) 0 [] es 0 (omega arith) empty a.events a.shapes

-- the same, where what is open does not matter
pub data Parts (d : ℕ) : ℕ → List Event → Type 0 where
  nothing : {last : ℕ} → last ≤ d → Parts d last []
  event : {last : ℕ} {e : Event} {es : List Event} → e.kind ≤ 1 → (e.name ≡ 1 → ⊥) → e.name ≤ 24 → last ≤ e.place →
      Parts d e.place es → Parts d last (e ∷ es)
  sequence : {last : ℕ} {e x : Event} {es : List Event} → e.kind ≡ 0 → e.name ≡ 1 → x.kind ≡ 1 → x.name ≡ 1 → last ≤ e.place →
      e.place < x.place → Parts d x.place es → Parts d last (e ∷ x ∷ es)

kind_most : (e : Event) (n : ℕ) → e.kind ≡ n → n ≤ 1 → e.kind ≤ 1
kind_most e n k l = omega arith

pub parts_of : {d last : ℕ} {h : List ℕ} {es : List Event} → Cut d last h es → Parts d last es
parts_of (over l) = nothing l
parts_of (enters {e = e} k n a l c) = event (kind_most e 0 k (omega arith)) n a l (parts_of c)
parts_of (leaves {e = e} k n a l p c) = event (kind_most e 1 k (omega arith)) n a l (parts_of c)
parts_of (run k n y m l p c) = sequence k n y m l p (parts_of c)

pub parts : {deep options : ℕ} {doc : List ℕ} {es : List Event} → Accepted deep options doc es → Parts (length doc) 0 es
parts a = parts_of (cut a)
