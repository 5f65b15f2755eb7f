-- A record as its runs with what stands between them: the gap before the first run, the first run, the gap after it, and so on. The output is
-- the same gaps with something else in each run's place.
-- Assumes nothing.
use Prim.Native.Nat.{ℕ, zero, suc, ◌+◌, ◌≤◌, ◌<◌}
use mathlib.Core.Path.{◌≡◌, refl, sym, ◌∙◌}
use mathlib.Core.List.{List, [], ◌∷◌, ◌++◌, append_assoc}
use native.Mathlib.Omega.{arith}
use lib.Dec.{eqb}
use borrow.Author.Tests.{eq-eqb, ne_eqb}
use Rattle.record.specs.Choice.{choose}
use Rattle.record.specs.declared.event.Event.{Event}
use Rattle.runs.specs.Runs.{enters_run}
use Rattle.output.proofs.Cut.{enters_run_lem, enters_none, exits_none}

-- gap i of some events: those that stand before their run i and after the one before it
unfoldable pub gap : List Event → ℕ → List Event
gap [] i = []
gap (e ∷ es) zero = choose (enters_run e) [] (choose (eqb e.name 1) (gap es zero) (e ∷ gap es zero))
gap (e ∷ es) (suc i) = choose (enters_run e) (gap es i) (gap es (suc i))

-- gaps from number i on, with m runs between them: what stands for the runs is `for`, of which the first has number q
unfoldable pub weave : (ℕ → List Event) → (ℕ → List Event) → ℕ → ℕ → ℕ → List Event
weave between for i q zero = between i
weave between for i q (suc m) = between i ++ (for q ++ weave between for (suc i) (suc q) m)

-- nothing in the runs' place
abbrev pub bare : ℕ → List Event
bare q = []

-- the gaps of an event more, and of a run more
module _ (e : Event) (es : List Event) (n : e.name ≡ 1 → ⊥) where
  pub gap_first : gap (e ∷ es) 0 ≡ e ∷ gap es 0
  unfolding gap choose
  gap_first = rw (enters_none e n, ne_eqb _ _ n)

  pub gap_later : (i : ℕ) → gap (e ∷ es) (suc i) ≡ gap es (suc i)
  unfolding gap choose
  gap_later i = rw (enters_none e n)

module _ (e x : Event) (es : List Event) (k : e.kind ≡ 0) (n : e.name ≡ 1) (l : x.kind ≡ 1) (m : x.name ≡ 1) where
  pub gap_none : gap (e ∷ (x ∷ es)) 0 ≡ []
  unfolding gap choose
  gap_none = rw (enters_run_lem e k n)

  pub gap_past : (i : ℕ) → gap (e ∷ (x ∷ es)) (suc i) ≡ gap es i
  unfolding gap choose
  gap_past zero = rw (enters_run_lem e k n, exits_none x l, eq-eqb _ _ m)
  gap_past (suc i) = rw (enters_run_lem e k n, exits_none x l)

-- other gaps that are the same, one place on
pub weave_shift : (f g for : ℕ → List Event) → ((i : ℕ) → f (suc i) ≡ g i) → (m i q : ℕ) → weave f for (suc i) q m ≡ weave g for i q m
unfolding weave
weave_shift f g for a zero i q = a i
weave_shift f g for a (suc m) i q = rw (a i, weave_shift f g for a m (suc i) (suc q))

pub weave_same : (f g for : ℕ → List Event) → ((i : ℕ) → f (suc i) ≡ g (suc i)) → (m i q : ℕ) → weave f for (suc i) q m ≡ weave g for (suc i) q m
weave_same f g for a m i q = weave_shift f (λ j. g (suc j)) for a m i q ∙ sym (weave_shift g (λ j. g (suc j)) for (λ j. refl) m i q)

-- something else in the runs' place that is the same there
pub weave_for : (f for with : ℕ → List Event) (m i q : ℕ) → ((j : ℕ) → q ≤ j → j < q + m → for j ≡ with j) → weave f for i q m ≡ weave f with i q m
unfolding weave
weave_for f for with zero i q a = refl
weave_for f for with (suc m) i q a =
    rw (a q (omega arith) (omega arith), weave_for f for with m (suc i) (suc q) (λ j l h. a j (omega arith) (omega arith)))

-- cut at the run p
pub weave_split : (f for : ℕ → List Event) (m s w i q p : ℕ) → w ≡ m + suc s → p ≡ q + m → (j : ℕ) → j ≡ i + m →
    weave f for i q w ≡ weave f for i q m ++ (for p ++ weave f for (suc j) (suc p) s)
unfolding weave
weave_split f for zero s w i q p a b j c =
    let a' : w ≡ suc s = omega arith in
    let b' : p ≡ q = omega arith in
    let c' : j ≡ i = omega arith in
    rw (a', b', c')
weave_split f for (suc m) s zero i q p a b j c = absurd (omega arith)
weave_split f for (suc m) s (suc w) i q p a b j c =
    rw (weave_split f for m s w (suc i) (suc q) p (omega arith) (omega arith) j (omega arith)) (simp append_assoc)

-- an event that is no run's before the gaps
pub weave_event : (for : ℕ → List Event) (e : Event) (es : List Event) → (e.name ≡ 1 → ⊥) → (m q : ℕ) →
    weave (gap (e ∷ es)) for 0 q m ≡ e ∷ weave (gap es) for 0 q m
unfolding weave
weave_event for e es n zero q = gap_first e es n
weave_event for e es n (suc m) q =
    rw (gap_first e es n, weave_same (gap (e ∷ es)) (gap es) for (gap_later e es n) m 0 (suc q))

-- a run before the gaps
pub weave_run : (for : ℕ → List Event) (e x : Event) (es : List Event) → e.kind ≡ 0 → e.name ≡ 1 → x.kind ≡ 1 → x.name ≡ 1 → (m q : ℕ) →
    weave (gap (e ∷ (x ∷ es))) for 0 q (suc m) ≡ for q ++ weave (gap es) for 0 (suc q) m
unfolding weave
weave_run for e x es k n l o m q =
    rw (gap_none e x es k n l o, weave_shift (gap (e ∷ (x ∷ es))) (gap es) for (gap_past e x es k n l o) m 0 (suc q))

-- up to that run there is nothing
pub weave_none : (for : ℕ → List Event) (e x : Event) (es : List Event) → e.kind ≡ 0 → e.name ≡ 1 → x.kind ≡ 1 → x.name ≡ 1 → (q : ℕ) →
    weave (gap (e ∷ (x ∷ es))) for 0 q 0 ≡ []
unfolding weave
weave_none for e x es k n l o q = gap_none e x es k n l o
