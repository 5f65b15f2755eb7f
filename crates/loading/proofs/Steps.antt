-- The pass, one event at a time, over lists: what is left to judge finds the offender that the whole has, and what is left gives the runs that
-- the whole gives after those found already.
-- Assumes nothing.
use mathlib.Core.Path.{◌≡◌, refl, sym, ap, ◌∙◌}
use mathlib.Core.Bool.{true, false}
use mathlib.Core.List.{List, [], ◌∷◌, ◌++◌, append_assoc, append-nil}
use mathlib.Core.Option.{none, some}
use Prim.Native.Nat.{ℕ, zero, suc, ◌+◌, ◌≤◌, ◌<◌}
use native.Mathlib.Omega.{arith}
use lib.ListN.{get_or}
use borrow.Author.Tests.{eq-eqb, ne_eqb, eqb-true, ltb-true}
use Rattle.record.specs.Choice.{choose, and}
use Rattle.record.specs.Bytes.{u32_at}
use Rattle.record.specs.Event.{event_at, events_by}
use Rattle.record.specs.Stack.{after}
use Rattle.record.specs.Sound.{sound_from}
use Rattle.record.specs.declared.event.Event.{Event}
use Rattle.record.proofs.Bools.{and_left, and_right, clash}
use Rattle.record.proofs.Parts.{events_cons, events_none}
use Rattle.record.proofs.Soundness.{Stands, stands, sound_rest, after_enter}
use Rattle.runs.specs.Runs.{Run, is_marker, enters_run, run_of, runs_from, runs_of, left_at_once, run_between, shaped, offender_from, offender}

-- an event enters a run, or it does not
pub enters : (e : Event) → e.kind ≡ 0 → e.name ≡ 1 → enters_run e ≡ true
unfolding enters_run and
enters e k n = rw (eq-eqb _ _ k, eq-eqb _ _ n)

pub no_enter : (e : Event) → (e.kind ≡ 0 → ⊥) → enters_run e ≡ false
unfolding enters_run and
no_enter e k = rw (ne_eqb _ _ k)

pub other_enter : (e : Event) → e.kind ≡ 0 → (e.name ≡ 1 → ⊥) → enters_run e ≡ false
unfolding enters_run and
other_enter e k n = rw (eq-eqb _ _ k, ne_eqb _ _ n)

-- one event of the two definitions
module _ (doc : List ℕ) (options : ℕ) (e : Event) (es : List Event) (i : ℕ) (held : List ℕ) where
  passed_judged : enters_run e ≡ false → offender_from doc options (e ∷ es) i ≡ offender_from doc options es (i + 1)
  unfolding offender_from and choose
  passed_judged h = rw h

  passed_found : enters_run e ≡ false → runs_from doc (e ∷ es) i held ≡ runs_from doc es (i + 1) (after e i held)
  unfolding runs_from choose
  passed_found h = rw h

  broken : enters_run e ≡ true → shaped doc options e es ≡ false → offender_from doc options (e ∷ es) i ≡ some i
  unfolding offender_from and choose
  broken h q = rw (h, q)

  run_judged : enters_run e ≡ true → shaped doc options e es ≡ true → offender_from doc options (e ∷ es) i ≡ offender_from doc options es (i + 1)
  unfolding offender_from and choose
  run_judged h q = rw (h, q)

  run_found : enters_run e ≡ true → runs_from doc (e ∷ es) i held ≡ run_of doc e es i held ∷ runs_from doc es (i + 1) (after e i held)
  unfolding runs_from choose
  run_found h = rw h

-- where the pass stands: `left` events of `all`, w bytes apart from a place on, the first of number i; `held` and `names` are open, and `done` are
-- the runs found
pub record Reached (w : ℕ) (doc : List ℕ) (all : List Event) (s : List ℕ) (d options left at i : ℕ)
    (held names : List ℕ) (last : ℕ) (done : List Run) : Type 0 where
  pub sound : sound_from 64 d last names (events_by w left s at) ≡ true
  pub judged : offender_from doc options (events_by w left s at) i ≡ offender doc options all
  pub found : done ++ runs_from doc (events_by w left s at) i held ≡ runs_of doc all

module _ {w : ℕ} {doc : List ℕ} {all : List Event} {s : List ℕ} {d options left at i : ℕ} {held names : List ℕ} {last : ℕ} {done : List Run}
    (r : Reached w doc all s d options left at i held names last done) where
  -- at the end no run offends, and all are found
  pub none_left : left ≡ 0 → offender doc options all ≡ none
  unfolding offender_from
  none_left h =
      let q : offender_from doc options [] i ≡ offender doc options all = rw (events_none w left s at h) at r.judged in
      sym q

  pub all_found : left ≡ 0 → done ≡ runs_of doc all
  unfolding runs_from
  all_found h =
      let q : done ++ runs_from doc [] i held ≡ runs_of doc all = rw (events_none w left s at h) at r.found in
      sym (append-nil done) ∙ q

  module _ (m : ℕ) (more : left ≡ m + 1) where
    here_sound : sound_from 64 d last names (event_at s at ∷ events_by w m s (at + w)) ≡ true
    here_sound = rw (events_cons w left m s at more) at r.sound

    pub standing_here : Stands 64 d last names (event_at s at)
    standing_here = stands 64 d last names (event_at s at) (events_by w m s (at + w)) here_sound

    rest_sound : sound_from 64 d (u32_at s (at + 4)) (after (event_at s at) (get_or s (at + 1) 0) names) (events_by w m s (at + w)) ≡ true
    rest_sound = sound_rest 64 d last names (event_at s at) (events_by w m s (at + w)) here_sound

    judged_here : offender_from doc options (event_at s at ∷ events_by w m s (at + w)) i ≡ offender doc options all
    judged_here = rw (events_cons w left m s at more) at r.judged

    found_here : done ++ runs_from doc (event_at s at ∷ events_by w m s (at + w)) i held ≡ runs_of doc all
    found_here = rw (events_cons w left m s at more) at r.found

    -- an event that enters no run
    pub passed : enters_run (event_at s at) ≡ false →
        Reached w doc all s d options m (at + w) (i + 1) (after (event_at s at) i held) (after (event_at s at) (get_or s (at + 1) 0) names)
        (u32_at s (at + 4)) done
    passed h =
        record {
          sound = rest_sound;
          judged = sym (passed_judged doc options (event_at s at) (events_by w m s (at + w)) i held h) ∙ judged_here;
          found =
              ap (λ (rs : List Run). done ++ rs) (sym (passed_found doc options (event_at s at) (events_by w m s (at + w)) i held h))
              ∙ found_here;
        }

    -- an enter is followed by another event, since none is left open
    pub followed : get_or s at 0 ≡ 0 → 0 < m
    unfolding sound_from
    followed k = go m refl
      where
        go : (x : ℕ) → m ≡ x → 0 < m
        go zero z =
            let q : sound_from 64 d (u32_at s (at + 4)) (get_or s (at + 1) 0 ∷ names) (events_by w m s (at + w)) ≡ true =
            rw (after_enter (event_at s at) (get_or s (at + 1) 0) names k) at rest_sound in
            let t : sound_from 64 d (u32_at s (at + 4)) (get_or s (at + 1) 0 ∷ names) [] ≡ true = rw (events_none w m s (at + w) z) at q in
            absurd (clash refl (sym t))
        go (suc x) z = omega arith

    -- the place of the event that follows
    pub next_inside : (k : ℕ) → m ≡ k + 1 → u32_at s (at + w + 4) ≤ d
    next_inside k z =
        let q : sound_from 64 d (u32_at s (at + 4)) (after (event_at s at) (get_or s (at + 1) 0) names) (event_at s (at + w) ∷ events_by w k s (at + w + w)) ≡ true =
        rw (events_cons w m k s (at + w) z) at rest_sound in
        let st = stands 64 d (u32_at s (at + 4)) (after (event_at s at) (get_or s (at + 1) 0) names) (event_at s (at + w)) (events_by w k s (at + w + w)) q in
        st.inside

    module _ (h : enters_run (event_at s at) ≡ true) where
      pub offends : shaped doc options (event_at s at) (events_by w m s (at + w)) ≡ false → offender doc options all ≡ some i
      offends q = sym judged_here ∙ broken doc options (event_at s at) (events_by w m s (at + w)) i held h q

      -- a run's enter
      pub run_entered : shaped doc options (event_at s at) (events_by w m s (at + w)) ≡ true →
          Reached w doc all s d options m (at + w) (i + 1) (after (event_at s at) i held) (after (event_at s at) (get_or s (at + 1) 0) names) (u32_at s (at + 4))
          (done ++ (run_of doc (event_at s at) (events_by w m s (at + w)) i held ∷ []))
      run_entered q =
          record {
            sound = rest_sound;
            judged = sym (run_judged doc options (event_at s at) (events_by w m s (at + w)) i held h q) ∙ judged_here;
            found =
                append_assoc done (run_of doc (event_at s at) (events_by w m s (at + w)) i held ∷ [])
                (runs_from doc (events_by w m s (at + w)) (i + 1) (after (event_at s at) i held))
                ∙ ap (λ (rs : List Run). done ++ rs) (sym (run_found doc options (event_at s at) (events_by w m s (at + w)) i held h))
                ∙ found_here;
          }

-- the shape rule looks at the next event alone
pub next_alone : (w : ℕ) (s doc : List ℕ) (options m at : ℕ) (e : Event) → 0 < m →
    shaped doc options e (events_by w 1 s at) ≡ shaped doc options e (events_by w m s at)
unfolding shaped left_at_once events_by
next_alone w s doc options zero at e h = absurd (omega arith)
next_alone w s doc options (suc m) at e h = refl

-- what a run's shape tells
pub record Shape (w : ℕ) (doc s : List ℕ) (at : ℕ) : Type 0 where
  pub next_exits : get_or s (at + w) 0 ≡ 1
  pub later : u32_at s (at + 4) < u32_at s (at + w + 4)
  pub marked : is_marker (get_or doc (u32_at s (at + 4)) 0) ≡ true

pub shape_tells : (w : ℕ) (doc s : List ℕ) (options at : ℕ) → shaped doc options (event_at s at) (events_by w 1 s (at + w)) ≡ true → Shape w doc s at
unfolding shaped left_at_once events_by run_between
shape_tells w doc s options at q =
    let b = and_right _ _ q in
    record {
      next_exits = eqb-true _ _ (and_left _ _ (and_left _ _ q));
      later = ltb-true _ _ (and_left _ _ b);
      marked = and_left _ _ (and_right _ _ b);
    }
