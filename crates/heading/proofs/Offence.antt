-- Number 6 as the table has it: a refusal names the earliest heading that breaks the shape rule, and where none does there is none.
--     earliest-offends    the definition's offender is the earliest
--     gives-unbroken      a result only where no heading breaks the rule
-- Assumes nothing.
use mathlib.Core.Path.{◌≡◌, refl, sym, ap, ◌∙◌, subst}
use mathlib.Core.Bool.{Bool, true, false, not}
use mathlib.Core.Logic.{◌⊎◌, inl, inr}
use mathlib.Core.List.{List, [], ◌∷◌, ◌++◌}
use Prim.Native.Nat.{ℕ, zero, suc, ◌+◌, ◌≤◌, ◌<◌}
use native.Mathlib.Omega.{arith}
use lib.ListN.{length, take, drop}
use lib.Seq.{split_at, take_all, take-append_seam}
use borrow.Author.Tests.{eqb-true}
use Rattle.record.specs.Choice.{choose, and}
use Rattle.record.specs.Event.{event, enter, exit}
use Rattle.record.specs.Stack.{nth, after}
use Rattle.record.specs.Sound.{sound_from, sound}
use Rattle.record.specs.Outcome.{Resolution, offends, gives}
use Rattle.record.specs.declared.event.Event.{Event}
use Rattle.record.proofs.Bools.{and_left, and_right, and_both}
use Rattle.record.proofs.Soundness.{sound_rest, after_enter, after_exit}
use Rattle.heading.specs.Headings.{is_of, before_first, inner_of, leaf, leaves, starts_with, headed, shaped, resolved_from, offending, earliest, headings}
use Rattle.heading.specs.Shape.{LeafName, Pairs, none, pair, Shape, bare, spaced, Follows, Broken, Earliest}
use Rattle.heading.proofs.Seeking.{before_le, before_here, before_next}
use Rattle.heading.proofs.Leaves.{is_of_lem, of_is, first_leaf, rest_leaves, leaf_apart, before_past}
use Rattle.heading.proofs.Judging.{either}

-- an event is its three numbers
pub event_is : (e : Event) (k n : ℕ) → e.kind ≡ k → e.name ≡ n → e ≡ event k n e.place
event_is e k n p q = rw (← p, ← q)

-- the shape as a test and as a predicate
pub odd : (e : Event) → leaves (e ∷ []) ≡ true → ⊥
unfolding leaves
odd e q = let z : ◌≡◌ {A = ℕ} 0 1 = cc in omega arith

pairs_of : (es : List Event) → leaves es ≡ true → Pairs es
pairs_of [] q = none
pairs_of (e ∷ []) q = absurd (odd e q)
pairs_of (e ∷ f ∷ es) q =
    let l = first_leaf e f es q in
    subst (λ (x : Event). Pairs (x ∷ f ∷ es)) (sym (event_is e 0 e.name l.enters refl))
    (subst (λ (x : Event). Pairs (enter e.name e.place ∷ x ∷ es)) (sym (event_is f 1 e.name l.exits l.same))
    (pair l.named (pairs_of es (rest_leaves e f es q))))

leaf_of : (name p q : ℕ) → LeafName name → leaf (enter name p) (exit name q) ≡ true
unfolding leaf is_of choose and
leaf_of name p q (inl z) = rw z
leaf_of name p q (inr (inl z)) = rw z
leaf_of name p q (inr (inr z)) = rw z

pub leaves_of : {es : List Event} → Pairs es → leaves es ≡ true
unfolding leaves
leaves_of none = refl
leaves_of (pair {name} {p} {q} {es} z l) = and_both _ _ (leaf_of name p q z) (leaves_of l)

pub shaped_of : {es : List Event} → Shape es → shaped es ≡ true
unfolding shaped headed starts_with leaves leaf is_of choose and
shaped_of (bare l) = leaves_of l
shaped_of (spaced l) = leaves_of l

twelve : (es : List Event) → starts_with 12 es ≡ true → leaves es ≡ true → (p : ℕ) × (q : ℕ) × (rest : List Event) × (es ≡ enter 12 p ∷ exit 12 q ∷ rest) × Pairs rest
unfolding starts_with
twelve [] s q = let z : ◌≡◌ {A = ℕ} 0 1 = cc in absurd (omega arith)
twelve (e ∷ []) s q = absurd (odd e q)
twelve (e ∷ f ∷ es) s q =
    let l = first_leaf e f es q in
    let n : e.name ≡ 12 = eqb-true _ _ s in (
      e.place,
      f.place,
      es,
      ap (λ (x : Event). x ∷ f ∷ es) (event_is e 0 12 l.enters n) ∙ ap (λ (x : Event). enter 12 e.place ∷ x ∷ es) (event_is f 1 12 l.exits (l.same ∙ n)),
      pairs_of es (rest_leaves e f es q),
    )

shape_bare : (es : List Event) → starts_with 12 es ≡ true → leaves es ≡ true → Shape es
shape_bare es s q =
    let t = twelve es s q in
    subst Shape (sym t.3) (bare t.4)

headed_plain : (es : List Event) → starts_with 14 es ≡ false → headed es ≡ true → starts_with 12 es ≡ true
unfolding headed choose
headed_plain es s h = rw s at h

headed_spaced : (es : List Event) → starts_with 14 es ≡ true → headed es ≡ true → leaves es ≡ true → Shape es
unfolding headed choose starts_with
headed_spaced [] s h l = let z : ◌≡◌ {A = ℕ} 0 1 = cc in absurd (omega arith)
headed_spaced (e ∷ []) s h l = absurd (odd e l)
headed_spaced (e ∷ f ∷ es) s h l =
    let k = first_leaf e f es l in
    let n : e.name ≡ 14 = eqb-true _ _ s in
    let t = twelve es (rw s at h) (rest_leaves e f es l) in
    subst Shape
    (sym (ap (λ (x : Event). x ∷ f ∷ es) (event_is e 0 14 k.enters n)
    ∙ ap (λ (x : Event). enter 14 e.place ∷ x ∷ es) (event_is f 1 14 k.exits (k.same ∙ n))
    ∙ ap (λ (r : List Event). enter 14 e.place ∷ exit 14 f.place ∷ r) t.3))
    (spaced t.4)

pub shape_of : (es : List Event) → shaped es ≡ true → Shape es
unfolding shaped
shape_of es q = go es (starts_with 14 es) refl (and_left _ _ q) (and_right _ _ q)
  where
    go : (es : List Event) (b : Bool) → starts_with 14 es ≡ b → headed es ≡ true → leaves es ≡ true → Shape es
    go es false s h l = shape_bare es (headed_plain es s h) l
    go es true s h l = headed_spaced es s h l

-- what follows a heading's enter, as a test and as a predicate
pub before_is : (is : Event → Bool) (es : List Event) → before_first is es < length es → is (nth es (before_first is es)) ≡ true
unfolding before_first choose
before_is is [] h = absurd (omega arith)
before_is is (e ∷ es) h = go (is e) refl (λ l. before_is is es l)
  where
    go : (b : Bool) → is e ≡ b → (before_first is es < length es → is (nth es (before_first is es)) ≡ true) →
        is (nth (e ∷ es) (choose (is e) 0 (suc (before_first is es)))) ≡ true
    go true q more = rw (q, q)
    go false q more =
        let h' : suc (before_first is es) < suc (length es) = rw q at h in
        rw q (more (omega arith))

follows_of : (es : List Event) → shaped (inner_of es) ≡ true → before_first (is_of 1 11) es < length es → Follows es
unfolding inner_of
follows_of es q h =
    let o = of_is 1 11 (nth es (before_first (is_of 1 11) es)) (before_is (is_of 1 11) es h) in
    record {
      inner = take (before_first (is_of 1 11) es) es;
      place = (nth es (before_first (is_of 1 11) es)).place;
      rest = drop (suc (before_first (is_of 1 11) es)) es;
      split =
          split_at es (before_first (is_of 1 11) es) (event 0 0 0) h
          ∙ ap (λ (x : Event). take (before_first (is_of 1 11) es) es ++ (x ∷ drop (suc (before_first (is_of 1 11) es)) es)) (event_is (nth es (before_first (is_of 1 11) es)) 1 11 o.0 o.1);
      shape = shape_of (take (before_first (is_of 1 11) es) es) q;
    }

-- leaf pairs hold no exit of a heading
pub none_before : (es : List Event) → leaves es ≡ true → before_first (is_of 1 11) es ≡ length es
unfolding before_first
none_before [] q = refl
none_before (e ∷ []) q = absurd (odd e q)
none_before (e ∷ f ∷ es) q =
    let apart = leaf_apart 1 e f (first_leaf e f es q) in
    omega (arith, before_next (is_of 1 11) e (f ∷ es) apart.0, before_next (is_of 1 11) f es apart.1, none_before es (rest_leaves e f es q))

-- so the inner events are those before the first
pub inner_is : (inner rest : List Event) (x : Event) → leaves inner ≡ true → is_of 1 11 x ≡ true →
    (before_first (is_of 1 11) (inner ++ (x ∷ rest)) ≡ length inner) × (inner_of (inner ++ (x ∷ rest)) ≡ inner)
unfolding inner_of
inner_is inner rest x l q =
    let n = none_before inner l in
    let b : before_first (is_of 1 11) (inner ++ (x ∷ rest)) ≡ length inner = before_past (is_of 1 11) inner (x ∷ rest) (omega arith) ∙ omega (arith, before_here (is_of 1 11) x rest q) in
    (b, ap (λ (k : ℕ). take k (inner ++ (x ∷ rest))) b ∙ take-append_seam inner (x ∷ rest))

shaped_leaves : (es : List Event) → shaped es ≡ true → leaves es ≡ true
unfolding shaped
shaped_leaves es q = and_right _ _ q

follows_shaped : (es : List Event) → Follows es → shaped (inner_of es) ≡ true
follows_shaped es f =
    let q = shaped_of f.shape in
    let i = inner_is f.inner f.rest (exit 11 f.place) (shaped_leaves f.inner q) (is_of_lem 1 11 (exit 11 f.place) refl refl) in
    ap (λ (l : List Event). shaped (inner_of l)) f.split ∙ ap shaped i.1 ∙ q

-- in a sound list an open event is left: leaf pairs alone do not reach the end
never_closed : (es : List Event) (deep d last top : ℕ) (held : List ℕ) → leaves es ≡ true → sound_from deep d last (top ∷ held) es ≡ true → ⊥
unfolding sound_from
never_closed [] deep d last top held q s = let z : ◌≡◌ {A = ℕ} 0 1 = cc in omega arith
never_closed (e ∷ []) deep d last top held q s = odd e q
never_closed (e ∷ f ∷ es) deep d last top held q s =
    let l = first_leaf e f es q in
    let s₁ : sound_from deep d e.place (e.name ∷ top ∷ held) (f ∷ es) ≡ true = rw (after_enter e e.name (top ∷ held) l.enters) at (sound_rest deep d last (top ∷ held) e (f ∷ es) s) in
    let s₂ : sound_from deep d f.place (top ∷ held) es ≡ true = rw (after_exit f f.name (e.name ∷ top ∷ held) l.exits) at (sound_rest deep d e.place (e.name ∷ top ∷ held) f es s₁) in
    never_closed es deep d f.place top held (rest_leaves e f es q) s₂

pub at_most : (a b : ℕ) → a ≤ b → (a < b) ⊎ (a ≡ b)
at_most zero zero l = inr refl
at_most zero (suc b) l = inl (omega arith)
at_most (suc a) zero l = absurd (omega arith)
at_most (suc a) (suc b) l = go (at_most a b (omega arith))
  where
    go : (a < b) ⊎ (a ≡ b) → (suc a < suc b) ⊎ (suc a ≡ suc b)
    go (inl h) = inl (omega arith)
    go (inr h) = inr (ap suc h)

pub exit_comes : (es : List Event) (deep d last top : ℕ) (held : List ℕ) → sound_from deep d last (top ∷ held) es ≡ true → leaves (inner_of es) ≡ true →
    before_first (is_of 1 11) es < length es
unfolding inner_of
exit_comes es deep d last top held s q = go (at_most (before_first (is_of 1 11) es) (length es) (before_le (is_of 1 11) es))
  where
    go : (before_first (is_of 1 11) es < length es) ⊎ (before_first (is_of 1 11) es ≡ length es) → before_first (is_of 1 11) es < length es
    go (inl h) = h
    go (inr h) =
        let t : take (before_first (is_of 1 11) es) es ≡ es = take_all (before_first (is_of 1 11) es) es (omega arith) in
        absurd (never_closed es deep d last top held (ap leaves (sym t) ∙ q) s)

clash : (b : Bool) → b ≡ true → not b ≡ true → ⊥
clash true p q = let z : ◌≡◌ {A = ℕ} 0 1 = cc in omega arith
clash false p q = let z : ◌≡◌ {A = ℕ} 0 1 = cc in omega arith

offends_by : (e : Event) (es : List Event) → is_of 0 11 e ≡ true → shaped (inner_of es) ≡ false → offending e es ≡ true
unfolding offending and
offends_by e es p q = rw (p, q)

stopped : (i : ℕ) (e : Event) (es : List Event) (good : Resolution) → offending e es ≡ true → earliest i (e ∷ es) good ≡ offends i
unfolding earliest choose
stopped i e es good p = rw p

goes_on : (i : ℕ) (e : Event) (es : List Event) (good : Resolution) → offending e es ≡ false → earliest i (e ∷ es) good ≡ earliest (i + 1) es good
unfolding earliest choose
goes_on i e es good p = rw p

no_end : (i : ℕ) (r : List Event) (m : ℕ) → earliest i [] (gives r) ≡ offends m → ⊥
unfolding earliest
no_end i r m q = let z : ◌≡◌ {A = ℕ} 0 1 = cc in omega arith

not_both : (i : ℕ) (r : List Event) → offends i ≡ gives r → ⊥
not_both i r q = let z : ◌≡◌ {A = ℕ} 0 1 = cc in omega arith

passed_not : (i : ℕ) (e : Event) (es r : List Event) → earliest i (e ∷ es) (gives r) ≡ gives r → offending e es ≡ true → ⊥
passed_not i e es r q p = not_both i r (sym (stopped i e es (gives r) p) ∙ q)

passed_on : (i : ℕ) (e : Event) (es r : List Event) → earliest i (e ∷ es) (gives r) ≡ gives r → earliest (i + 1) es (gives r) ≡ gives r
passed_on i e es r q = go (offending e es) refl
  where
    go : (b : Bool) → offending e es ≡ b → earliest (i + 1) es (gives r) ≡ gives r
    go true p = absurd (passed_not i e es r q p)
    go false p = sym (goes_on i e es (gives r) p) ∙ q

-- one event, as a test and as a predicate
module _ (e : Event) (es : List Event) where
  here_broken : offending e es ≡ true → Broken (e ∷ es) 0
  unfolding offending
  here_broken q =
      let o = of_is 0 11 e (and_left _ _ q) in
      record {
        within = omega arith;
        enters = o.0;
        heading = o.1;
        unlike = λ f. clash (shaped (inner_of es)) (follows_shaped es f) (and_right _ _ q);
      }

  broken_here : (deep d last : ℕ) (held : List ℕ) → sound_from deep d last held (e ∷ es) ≡ true → Broken (e ∷ es) 0 → offending e es ≡ true
  broken_here deep d last held s b = go (shaped (inner_of es)) refl
    where
      rest : sound_from deep d e.place (e.name ∷ held) es ≡ true
      rest = rw (after_enter e e.name held b.enters) at (sound_rest deep d last held e es s)

      go : (z : Bool) → shaped (inner_of es) ≡ z → offending e es ≡ true
      go true q = absurd (b.unlike (follows_of es q (exit_comes es deep d e.place e.name held rest (shaped_leaves (inner_of es) q))))
      go false q = offends_by e es (is_of_lem 0 11 e b.enters b.heading) q

  later_broken : (k : ℕ) → Broken es k → Broken (e ∷ es) (suc k)
  later_broken k b = record { within = omega (arith, b.within); enters = b.enters; heading = b.heading; unlike = b.unlike }

  broken_later : (k : ℕ) → Broken (e ∷ es) (suc k) → Broken es k
  broken_later k b = record { within = omega (arith, b.within); enters = b.enters; heading = b.heading; unlike = b.unlike }

-- no heading breaks the rule, where the definition passes every event
unbroken : (i : ℕ) (es : List Event) (r : List Event) (deep d last : ℕ) (held : List ℕ) → sound_from deep d last held es ≡ true →
    earliest i es (gives r) ≡ gives r → (k : ℕ) → Broken es k → ⊥
unbroken i [] r deep d last held s q k b = omega (arith, b.within)
unbroken i (e ∷ es) r deep d last held s q zero b = passed_not i e es r q (broken_here e es deep d last held s b)
unbroken i (e ∷ es) r deep d last held s q (suc k) b =
    unbroken (i + 1) es r deep d e.place (after e e.name held) (sound_rest deep d last held e es s) (passed_on i e es r q) k (broken_later e es k b)

-- the definition's offender is broken, and none before it
earlier : (e : Event) (es : List Event) (k deep d last : ℕ) (held : List ℕ) → sound_from deep d last held (e ∷ es) ≡ true → offending e es ≡ false → Earliest es k →
    (j : ℕ) → j < suc k → Broken (e ∷ es) j → ⊥
earlier e es k deep d last held s p f zero l b =
    let t = broken_here e es deep d last held s b in
    let z : ◌≡◌ {A = ℕ} 0 1 = cc in
    omega arith
earlier e es k deep d last held s p f (suc j) l b = f.first j (omega arith) (broken_later e es j b)

spotted : (i : ℕ) (es : List Event) (r : List Event) (m deep d last : ℕ) (held : List ℕ) → sound_from deep d last held es ≡ true →
    earliest i es (gives r) ≡ offends m → (k : ℕ) × (m ≡ i + k) × Earliest es k
spotted i [] r m deep d last held s q = absurd (no_end i r m q)
spotted i (e ∷ es) r m deep d last held s q =
    go (offending e es) refl (λ p. spotted (i + 1) es r m deep d e.place (after e e.name held) (sound_rest deep d last held e es s) p)
  where
    go : (b : Bool) → offending e es ≡ b → (earliest (i + 1) es (gives r) ≡ offends m → (k : ℕ) × (m ≡ i + 1 + k) × Earliest es k) →
        (k : ℕ) × (m ≡ i + k) × Earliest (e ∷ es) k
    go true p more =
        let z : offends i ≡ offends m = sym (stopped i e es (gives r) p) ∙ q in
        let y : i ≡ m = cc in
        (0, omega arith, record { broken = here_broken e es p; first = λ j l b. absurd (omega arith) })
    go false p more =
        let f = more (sym (goes_on i e es (gives r) p) ∙ q) in
        (suc f.0, omega (arith, f.1), record { broken = later_broken e es f.0 f.2.broken; first = earlier e es f.0 deep d last held s p f.2 })

-- a refusal names the earliest heading that breaks the rule
pub earliest_offends : (es : List Event) (deep d k : ℕ) → sound deep d es ≡ true → headings es ≡ offends k → Earliest es k
unfolding headings
earliest_offends es deep d k s q =
    let f = spotted 0 es (resolved_from 0 es) k deep d 0 [] s q in
    let z : f.0 ≡ k = omega (arith, f.1) in
    subst (Earliest es) z f.2

-- a result only where no heading does
pub gives_unbroken : (es rs : List Event) (deep d : ℕ) → sound deep d es ≡ true → headings es ≡ gives rs → (k : ℕ) → Broken es k → ⊥
unfolding headings
gives_unbroken es rs deep d s q = go (either 0 es (gives (resolved_from 0 es)))
  where
    go : (earliest 0 es (gives (resolved_from 0 es)) ≡ gives (resolved_from 0 es))
        ⊎ ((k : ℕ) × (earliest 0 es (gives (resolved_from 0 es)) ≡ offends k) × (0 ≤ k) × (k < 0 + length es)) → (k : ℕ) → Broken es k → ⊥
    go (inl p) = unbroken 0 es (resolved_from 0 es) deep d 0 [] s p
    go (inr (j, p, l, u)) =
        let z : offends j ≡ gives rs = sym p ∙ q in
        let y : ◌≡◌ {A = ℕ} 0 1 = cc in
        absurd (omega arith)
