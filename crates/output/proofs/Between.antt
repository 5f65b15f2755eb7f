-- Two runs in one container: what the record has between them opens and closes nothing but its own. For the container's number is open at both,
-- numbers are never used again, and so nothing that was open at the first was left before the second. By induction on the events: first up to
-- the first run, then with D the enters open since then, whose names are N, and K those open at the first run, whose names are M.
-- Assumes nothing.
use Prim.Native.Nat.{ℕ, zero, suc, ◌+◌, ◌≤◌, ◌<◌}
use mathlib.Core.Path.{◌≡◌, refl, sym, ap, ◌∙◌}
use mathlib.Core.Bool.{Bool, true, false}
use mathlib.Core.List.{List, [], ◌∷◌, ◌++◌}
use mathlib.Core.Option.{Option, some}
use native.Mathlib.Omega.{arith}
use lib.Dec.{eqb}
use lib.ListN.{length}
use Rattle.record.specs.Choice.{choose}
use Rattle.record.specs.Stack.{outer, after}
use Rattle.record.specs.declared.event.Event.{Event}
use Rattle.record.proofs.Soundness.{after_enter, after_exit}
use Rattle.runs.specs.Runs.{innermost_of, enters_run, runs_from, runs_of}
use Rattle.groups.specs.Places.{run_at}
use Rattle.output.proofs.Cut.{Cut, over, enters, leaves, run}
use Rattle.output.proofs.Walks.{Walks, stay, into, out}
use Rattle.output.proofs.Weave.{gap, gap_later, gap_past, weave, bare, weave_same, weave_shift, weave_event, weave_run, weave_none}
use Rattle.output.proofs.Aligned.{runs_event, runs_run}

-- none of some numbers is this one
data Misses (t : Option ℕ) : List ℕ → Type 0 where
  empty : Misses t []
  other : {n : ℕ} {l : List ℕ} → (t ≡ some n → ⊥) → Misses t l → Misses t (n ∷ l)

-- nor is any from i on
abbrev Fresh : Option ℕ → ℕ → Type 0
Fresh t i = (j : ℕ) → i ≤ j → t ≡ some j → ⊥

misses_outer : {t : Option ℕ} {l : List ℕ} → Misses t l → Misses t (outer l)
misses_outer empty = empty
misses_outer (other n m) = m

misses_after : {t : Option ℕ} (e : Event) (i : ℕ) (l : List ℕ) → Fresh t i → Misses t l → Misses t (after e i l)
unfolding after choose
misses_after {t} e i l f m = go (eqb e.kind 0) refl
  where
    go : (z : Bool) → eqb e.kind 0 ≡ z → Misses t (after e i l)
    go true q = rw q (other (f i (omega arith)) m)
    go false q = rw q (misses_outer m)

misses_top : {t : Option ℕ} {x : ℕ} (l : List ℕ) → Misses t l → innermost_of l ≡ t → t ≡ some x → ⊥
misses_top [] empty q p = let z : ◌≡◌ {A = ℕ} 0 1 = cc in omega arith
misses_top (n ∷ l) (other a m) q p = a (sym q)

-- once it is missed it is no run's container any more
missed : (doc : List ℕ) (x : ℕ) (es : List Event) (i : ℕ) (held : List ℕ) → Misses (some x) held → Fresh (some x) i →
    (m : ℕ) → m < length (runs_from doc es i held) → (run_at (runs_from doc es i held) m).container ≡ some x → ⊥
unfolding runs_from choose
missed doc x [] i held a f m h q = omega arith
missed doc x (e ∷ es) i held a f m h q =
    go m (missed doc x es (i + 1) (after e i held) (misses_after e i held f a) (λ j l. f j (omega arith))) (enters_run e) refl h q
  where
    go : (m : ℕ) → ((m : ℕ) → m < length (runs_from doc es (i + 1) (after e i held)) → (run_at (runs_from doc es (i + 1) (after e i held)) m).container ≡ some x → ⊥) →
        (z : Bool) → enters_run e ≡ z → m < length (runs_from doc (e ∷ es) i held) → (run_at (runs_from doc (e ∷ es) i held) m).container ≡ some x → ⊥
    go m ih false r h q = ih m (rw r at h) (rw r at q)
    go zero ih true r h q = misses_top held a (rw r at q) refl
    go (suc m) ih true r h q =
        let h' : suc m < suc (length (runs_from doc es (i + 1) (after e i held))) = rw r at h in
        ih m (omega arith) (rw r at q)

-- from the first run on: K are open there, with the names M
module _ (doc : List ℕ) (K M : List ℕ) (both : length K ≡ length M) (once : Misses (innermost_of K) (outer K)) where
  -- an exit that would leave what is open at the first run
  too_far : (es : List Event) (i m n : ℕ) (h : List ℕ) → Fresh (innermost_of K) i → n ∷ h ≡ M → m < length (runs_from doc es i (outer K)) →
      (run_at (runs_from doc es i (outer K)) m).container ≡ innermost_of K → ⊥
  too_far es i m n h f q l c = go K refl
    where
      go : (k : List ℕ) → K ≡ k → ⊥
      go [] e =
          let x : length K ≡ 0 = ap length e in
          let y : suc (length h) ≡ length M = ap length q in
          omega arith
      go (x ∷ k) e =
          let t : innermost_of K ≡ some x = ap innermost_of e in
          missed doc x es i (outer K) (rw t at once) (rw t at f) m l (c ∙ t)

  -- a container that is innermost is the first run's only where nothing is open since
  at_second : (D : List ℕ) → Misses (innermost_of K) D → innermost_of (D ++ K) ≡ innermost_of K → length D ≡ 0
  at_second [] a q = refl
  at_second (n ∷ D) (other a b) q = absurd (a (sym q))

  empty_walk : (N : List ℕ) → length N ≡ 0 → Walks [] N []
  empty_walk [] q = stay
  empty_walk (n ∷ N) q = absurd (omega arith)

  from_first : {d last : ℕ} {h : List ℕ} {es : List Event} → Cut d last h es → (i q m : ℕ) (D N : List ℕ) → h ≡ N ++ M → length D ≡ length N →
      Misses (innermost_of K) D → Fresh (innermost_of K) i → m < length (runs_from doc es i (D ++ K)) →
      (run_at (runs_from doc es i (D ++ K)) m).container ≡ innermost_of K → Walks (weave (gap es) bare 0 q m) N []
  unfolding runs_from
  from_first (over l) i q m D N p s a f h c = absurd (omega arith)
  from_first (enters {e = e} {es = es} k n b l w) i q m D N p s a f h c =
      let r : runs_from doc (e ∷ es) i (D ++ K) ≡ runs_from doc es (i + 1) (i ∷ (D ++ K)) =
      runs_event e es n doc i (D ++ K) ∙ ap (λ (t : List ℕ). runs_from doc es (i + 1) t) (after_enter e i (D ++ K) k) in
      rw (weave_event bare e es n m q)
      (into k
      (from_first w (i + 1) q m (i ∷ D) (e.name ∷ N) (ap (λ (t : List ℕ). e.name ∷ t) p) (ap suc s) (other (f i (omega arith)) a)
      (λ j y. f j (omega arith)) (rw r at h) (rw r at c)))
  from_first (leaves {n = o} {h = g} {e = e} {es = es} k n b l y w) i q m D N p s a f h c =
      rw (weave_event bare e es n m q) (go D N p s a (rw r at h) (rw r at c) (from_first w (i + 1) q m))
    where
      r : runs_from doc (e ∷ es) i (D ++ K) ≡ runs_from doc es (i + 1) (outer (D ++ K))
      r = runs_event e es n doc i (D ++ K) ∙ ap (λ (t : List ℕ). runs_from doc es (i + 1) t) (after_exit e i (D ++ K) k)

      go : (D N : List ℕ) → o ∷ g ≡ N ++ M → length D ≡ length N → Misses (innermost_of K) D → m < length (runs_from doc es (i + 1) (outer (D ++ K))) →
          (run_at (runs_from doc es (i + 1) (outer (D ++ K))) m).container ≡ innermost_of K →
          ((D N : List ℕ) → g ≡ N ++ M → length D ≡ length N → Misses (innermost_of K) D → Fresh (innermost_of K) (i + 1) →
          m < length (runs_from doc es (i + 1) (D ++ K)) → (run_at (runs_from doc es (i + 1) (D ++ K)) m).container ≡ innermost_of K →
          Walks (weave (gap es) bare 0 q m) N []) → Walks (e ∷ weave (gap es) bare 0 q m) N []
      go [] [] p s a h c ih = absurd (too_far es (i + 1) m o g (λ j z. f j (omega arith)) p h c)
      go [] (x ∷ N) p s a h c ih = absurd (omega arith)
      go (x ∷ D) [] p s a h c ih = absurd (omega arith)
      go (x ∷ D) (z ∷ N) p s (other t a) h c ih =
          let u : z ≡ o = cc in
          out k (u ∙ y) (ih D N (cc) (omega arith) a (λ j v. f j (omega arith)) h c)
  from_first (run {e = e} {x = x} {es = es} k n y o l z w) i q zero D N p s a f h c =
      let r = runs_run e x es k n y o doc i (D ++ K) in
      let c' : innermost_of (D ++ K) ≡ innermost_of K = rw r at c in
      let g = at_second D a c' in
      rw (weave_none bare e x es k n y o q) (empty_walk N (omega arith))
  from_first (run {e = e} {x = x} {es = es} k n y o l z w) i q (suc m) D N p s a f h c =
      let r = runs_run e x es k n y o doc i (D ++ K) in
      let h' : suc m < suc (length (runs_from doc es (i + 1 + 1) (D ++ K))) = rw r at h in
      rw (weave_run bare e x es k n y o m q)
      (from_first w (i + 1 + 1) (suc q) m D N p s a (λ j v. f j (omega arith)) (omega arith) (rw r at c))

-- numbers that fall, all below i
data Falls : ℕ → List ℕ → Type 0 where
  empty : {i : ℕ} → Falls i []
  lower : {i n : ℕ} {l : List ℕ} → n < i → Falls n l → Falls i (n ∷ l)

falls_fresh : {i : ℕ} {l : List ℕ} → Falls i l → Fresh (innermost_of l) i
falls_fresh empty j h q = let z : ◌≡◌ {A = ℕ} 0 1 = cc in omega arith
falls_fresh (lower {n = n} a f) j h q = let z : n ≡ j = cc in omega arith

falls_below : {i : ℕ} {l : List ℕ} (x : ℕ) → i ≤ x → Falls i l → Misses (some x) l
falls_below x h empty = empty
falls_below x h (lower {n = n} a f) = other (λ (q : some x ≡ some n). let z : x ≡ n = cc in omega arith) (falls_below x (omega arith) f)

falls_once : {i : ℕ} {l : List ℕ} → Falls i l → Misses (innermost_of l) (outer l)
falls_once empty = empty
falls_once (lower {n = n} a f) = falls_below n (omega arith) f

falls_later : {i j : ℕ} {l : List ℕ} → i ≤ j → Falls i l → Falls j l
falls_later h empty = empty
falls_later {i} {j} h (lower {n = n} a f) = let b : n < j = omega arith in lower b f

-- what stands between the runs o and p of one container leads from nothing to nothing
between_from : {d last : ℕ} {h : List ℕ} {es : List Event} → Cut d last h es → (doc : List ℕ) (i q : ℕ) (held : List ℕ) →
    length held ≡ length h → Falls i held → (o m p : ℕ) → suc o + m ≡ p → p < length (runs_from doc es i held) →
    (run_at (runs_from doc es i held) o).container ≡ (run_at (runs_from doc es i held) p).container → Walks (weave (gap es) bare (suc o) q m) [] []
unfolding runs_from
between_from (over l) doc i q held s f o m p a h c = absurd (omega arith)
between_from (enters {h = g} {e = e} {es = es} k n b l w) doc i q held s f o m p a h c =
    let r : runs_from doc (e ∷ es) i held ≡ runs_from doc es (i + 1) (i ∷ held) =
    runs_event e es n doc i held ∙ ap (λ (t : List ℕ). runs_from doc es (i + 1) t) (after_enter e i held k) in
    let lw : i < i + 1 = omega arith in
    rw (weave_same (gap (e ∷ es)) (gap es) bare (gap_later e es n) m o q)
    (between_from w doc (i + 1) q (i ∷ held) (ap suc s) (lower lw f) o m p a (rw r at h) (rw r at c))
between_from (leaves {h = g} {e = e} {es = es} k n b l y w) doc i q [] s f o m p a h c = absurd (omega arith)
between_from (leaves {h = g} {e = e} {es = es} k n b l y w) doc i q (x ∷ held) s (lower v f) o m p a h c =
    let r : runs_from doc (e ∷ es) i (x ∷ held) ≡ runs_from doc es (i + 1) held =
    runs_event e es n doc i (x ∷ held) ∙ ap (λ (t : List ℕ). runs_from doc es (i + 1) t) (after_exit e i (x ∷ held) k) in
    rw (weave_same (gap (e ∷ es)) (gap es) bare (gap_later e es n) m o q)
    (between_from w doc (i + 1) q held (omega arith) (falls_later (omega arith) f) o m p a (rw r at h) (rw r at c))
between_from (run {e = e} {x = x} {es = es} k n y t l z w) doc i q held s f o m zero a h c = absurd (omega arith)
between_from (run {h = g} {e = e} {x = x} {es = es} k n y t l z w) doc i q held s f zero m (suc p) a h c =
    let r = runs_run e x es k n y t doc i held in
    let h' : suc p < suc (length (runs_from doc es (i + 1 + 1) held)) = rw r at h in
    let j : m ≡ p = omega arith in
    let c' : innermost_of held ≡ (run_at (runs_from doc es (i + 1 + 1) held) p).container = rw r at c in
    rw (weave_shift (gap (e ∷ (x ∷ es))) (gap es) bare (gap_past e x es k n y t) m 0 q, j)
    (from_first doc held g s (falls_once f) w (i + 1 + 1) q p [] [] refl refl empty (λ u v. falls_fresh f u (omega arith)) (omega arith) (sym c'))
between_from (run {e = e} {x = x} {es = es} k n y t l z w) doc i q held s f (suc o) m (suc p) a h c =
    let r = runs_run e x es k n y t doc i held in
    let h' : suc p < suc (length (runs_from doc es (i + 1 + 1) held)) = rw r at h in
    rw (weave_shift (gap (e ∷ (x ∷ es))) (gap es) bare (gap_past e x es k n y t) m (suc o) q)
    (between_from w doc (i + 1 + 1) q held s (falls_later (omega arith) f) o m p (omega arith) (omega arith) (rw r at c))

pub one_container_between : {d : ℕ} (doc : List ℕ) (es : List Event) → Cut d 0 [] es → (o m p : ℕ) → suc o + m ≡ p → p < length (runs_of doc es) →
    (run_at (runs_of doc es) o).container ≡ (run_at (runs_of doc es) p).container → Walks (weave (gap es) bare (suc o) (suc o) m) [] []
unfolding runs_of
one_container_between doc es w o m p a h c = between_from w doc 0 (suc o) [] refl empty o m p a h c
