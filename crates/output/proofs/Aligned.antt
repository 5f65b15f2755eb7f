-- What an event more, or a whole run more, does to the runs of a record and to what comes out of it. The output is the record's gaps with what
-- stands for each run between them.
-- Assumes nothing.
use Prim.Native.Nat.{ℕ, zero, suc, ◌+◌, ◌<◌}
use mathlib.Core.Path.{◌≡◌, refl, ap}
use mathlib.Core.List.{List, [], ◌∷◌, ◌++◌}
use native.Mathlib.Omega.{arith}
use native.Mathlib.Numerals.{add-one}
use lib.ListN.{length, drop}
use borrow.Author.Tests.{eq-eqb, ne_eqb}
use Rattle.record.specs.Choice.{choose}
use Rattle.record.specs.Stack.{after}
use Rattle.record.specs.declared.event.Event.{Event}
use Rattle.record.proofs.Soundness.{after_enter, after_exit}
use Rattle.runs.specs.Runs.{Run, run_of, runs_from}
use Rattle.runs.specs.Plain.{Group}
use Rattle.runs.specs.Output.{run_events, replaced}
use Rattle.groups.specs.Places.{run_at}
use Rattle.output.proofs.Cut.{Cut, over, enters, leaves, run, Parts, nothing, event, sequence, enters_run_lem, enters_none, exits_none}
use Rattle.output.proofs.Walks.{Walks, stay, into, out}
use Rattle.output.proofs.Weave.{gap, weave, bare, weave_event, weave_run}

-- what stands for each run
abbrev pub stands_for : List Run → List Group → ℕ → List Event
stands_for rs gs q = run_events gs q (run_at rs q)

module _ (e : Event) (es : List Event) (n : e.name ≡ 1 → ⊥) where
  pub runs_event : (doc : List ℕ) (i : ℕ) (held : List ℕ) → runs_from doc (e ∷ es) i held ≡ runs_from doc es (i + 1) (after e i held)
  unfolding runs_from choose
  runs_event doc i held = rw (enters_none e n)

  pub replaced_event : (rs : List Run) (gs : List Group) (q : ℕ) → replaced (e ∷ es) rs gs q ≡ e ∷ replaced es rs gs q
  unfolding replaced choose
  replaced_event rs gs q = rw (enters_none e n, ne_eqb _ _ n)

module _ (e x : Event) (es : List Event) (k : e.kind ≡ 0) (n : e.name ≡ 1) (l : x.kind ≡ 1) (m : x.name ≡ 1) where
  pub runs_run : (doc : List ℕ) (i : ℕ) (held : List ℕ) →
      runs_from doc (e ∷ (x ∷ es)) i held ≡ run_of doc e (x ∷ es) i held ∷ runs_from doc es (i + 1 + 1) held
  unfolding runs_from choose
  runs_run doc i held = rw (enters_run_lem e k n, exits_none x l, after_enter e i held k, after_exit x (i + 1) (i ∷ held) l)

  pub replaced_run : (rs : List Run) (gs : List Group) (q : ℕ) → replaced (e ∷ (x ∷ es)) rs gs q ≡ stands_for rs gs q ++ replaced es rs gs (suc q)
  unfolding replaced choose
  replaced_run rs gs q = rw (enters_run_lem e k n, exits_none x l, eq-eqb _ _ m, add-one)

-- where a run of the record ends
pub run_ends : (doc : List ℕ) (e x : Event) (es : List Event) (i : ℕ) (held : List ℕ) → e.place < x.place →
    (run_of doc e (x ∷ es) i held).start + (run_of doc e (x ∷ es) i held).size ≡ x.place
run_ends doc e x es i held l = omega arith

-- the run q of all runs is the first of those that are left
pub first_left : (rs : List Run) (q : ℕ) (r : Run) (ts : List Run) → drop q rs ≡ r ∷ ts → (run_at rs q ≡ r) × (drop (suc q) rs ≡ ts)
first_left [] zero r ts e = let z : ◌≡◌ {A = ℕ} 0 1 = cc in absurd (omega arith)
first_left [] (suc q) r ts e = let z : ◌≡◌ {A = ℕ} 0 1 = cc in absurd (omega arith)
first_left (x ∷ rs) zero r ts e = (cc, cc)
first_left (x ∷ rs) (suc q) r ts e = first_left rs q r ts e

-- the output as gaps and what stands between them
pub replaced_weaves : {d last : ℕ} {es : List Event} → Parts d last es → (doc : List ℕ) (i : ℕ) (held : List ℕ) (rs : List Run) (gs : List Group) (q : ℕ) →
    replaced es rs gs q ≡ weave (gap es) (stands_for rs gs) 0 q (length (runs_from doc es i held))
unfolding replaced weave gap runs_from
replaced_weaves (nothing l) doc i held rs gs q = refl
replaced_weaves (event {e = e} {es = es} k n a l c) doc i held rs gs q =
    rw (
      replaced_event e es n rs gs q,
      runs_event e es n doc i held,
      weave_event (stands_for rs gs) e es n (length (runs_from doc es (i + 1) (after e i held))) q,
    )
    (ap (λ (fs : List Event). e ∷ fs) (replaced_weaves c doc (i + 1) (after e i held) rs gs q))
replaced_weaves (sequence {e = e} {x = x} {es = es} k n y m l p c) doc i held rs gs q =
    rw (
      replaced_run e x es k n y m rs gs q,
      runs_run e x es k n y m doc i held,
      weave_run (stands_for rs gs) e x es k n y m (length (runs_from doc es (i + 1 + 1) held)) q,
    )
    (ap (λ (fs : List Event). stands_for rs gs q ++ fs) (replaced_weaves c doc (i + 1 + 1) held rs gs (suc q)))

-- and the record itself without its runs
pub bare_walks : {d last : ℕ} {h : List ℕ} {es : List Event} → Cut d last h es → (doc : List ℕ) (i : ℕ) (held : List ℕ) (q : ℕ) →
    Walks (weave (gap es) bare 0 q (length (runs_from doc es i held))) h []
unfolding weave gap runs_from
bare_walks (over l) doc i held q = stay
bare_walks (enters {e = e} {es = es} k n a l c) doc i held q =
    rw (runs_event e es n doc i held, weave_event bare e es n (length (runs_from doc es (i + 1) (after e i held))) q)
    (into k (bare_walks c doc (i + 1) (after e i held) q))
bare_walks (leaves {e = e} {es = es} k n a l p c) doc i held q =
    rw (runs_event e es n doc i held, weave_event bare e es n (length (runs_from doc es (i + 1) (after e i held))) q)
    (out k p (bare_walks c doc (i + 1) (after e i held) q))
bare_walks (run {e = e} {x = x} {es = es} k n y m l p c) doc i held q =
    rw (runs_run e x es k n y m doc i held, weave_run bare e x es k n y m (length (runs_from doc es (i + 1 + 1) held)) q)
    (bare_walks c doc (i + 1 + 1) held (suc q))
