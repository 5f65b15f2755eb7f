-- Where the runs of a record stand: each at its enter, their numbers rising, and in a sound list of events each ends before the next begins.
-- By induction on the events that are left.
-- Assumes nothing.
use Prim.Native.Nat.{ℕ, zero, suc, ◌+◌, ◌≤◌, ◌<◌}
use mathlib.Core.Path.{◌≡◌, refl, sym, ap, ◌∙◌}
use mathlib.Core.Bool.{Bool, true, false}
use mathlib.Core.List.{List, [], ◌∷◌}
use native.Mathlib.Omega.{arith}
use lib.ListN.{length, take, drop, length-drop}
use lib.Seq.{take-suc, length-take-le, get_or-drop, drop-drop}
use Rattle.record.specs.Choice.{choose}
use Rattle.record.specs.Stack.{nth, after, open_after, open_at}
use Rattle.record.specs.Event.{event}
use Rattle.record.specs.Sound.{sound_from, sound}
use Rattle.record.specs.declared.event.Event.{Event}
use Rattle.record.proofs.Soundness.{stands, sound_rest, open_append}
use Rattle.runs.specs.Runs.{first_place, innermost_of, enters_run, run_of, runs_from, runs_of}
use Rattle.groups.specs.Places.{run_at, Stands}

-- the events left after k
rest_at : (all es : List Event) (k j : ℕ) → drop k all ≡ es → nth es j ≡ nth all (k + j)
rest_at all es k j q = ap (λ (l : List Event). nth l j) (sym q) ∙ get_or-drop k all j (event 0 0 0)

rest_next : (all es : List Event) (e : Event) (k : ℕ) → drop k all ≡ e ∷ es → drop (k + 1) all ≡ es
rest_next all es e k q = sym (drop-drop 1 k all) ∙ ap (λ (l : List Event). drop 1 l) q

rest_in : (all es : List Event) (e : Event) (k : ℕ) → drop k all ≡ e ∷ es → k < length all
rest_in all es e k q =
    let l : length (drop k all) ≡ suc (length es) = ap length q in
    omega (arith, length-drop k all)

first_is : (es : List Event) → first_place es ≡ (nth es 0).place
first_is [] = refl
first_is (e ∷ es) = refl

-- what is open after one event more
pub open_next : (all : List Event) (k : ℕ) → k < length all → open_at all (k + 1) ≡ after (nth all k) k (open_at all k)
unfolding open_after
open_next all k h =
    let s : k + 1 ≡ suc k = omega arith in
    let t = take-suc all k (event 0 0 0) h in
    let n : 0 + length (take k all) ≡ k = omega (arith, length-take-le k all (omega arith)) in
    rw (s, t, open_append, n)

module _ (doc : List ℕ) (all : List Event) where
  this : (e : Event) (es : List Event) (k : ℕ) → drop k all ≡ e ∷ es → nth all k ≡ e
  this e es k d = let z : k + 0 ≡ k = omega arith in sym (rw z at (rest_at all (e ∷ es) k 0 d))

  opened_next : (e : Event) (es : List Event) (k : ℕ) (held : List ℕ) → drop k all ≡ e ∷ es → held ≡ open_at all k → after e k held ≡ open_at all (k + 1)
  opened_next e es k held d o = rw (open_next all k (rest_in all es e k d), this e es k d, o)

  -- the runs of the events left
  from_here : (es : List Event) (k : ℕ) (held : List ℕ) → drop k all ≡ es → held ≡ open_at all k → (q : ℕ) → q < length (runs_from doc es k held) →
      Stands all (run_at (runs_from doc es k held) q) × (k ≤ (run_at (runs_from doc es k held) q).number)
  unfolding runs_from choose
  from_here [] k held d o q h = absurd (omega arith)
  from_here (e ∷ es) k held d o q h = go (from_here es (k + 1) (after e k held) (rest_next all es e k d) (opened_next e es k held d o)) (enters_run e) refl
    where
      follows : first_place es ≡ (nth all (k + 1)).place
      follows =
          let z : k + 1 + 0 ≡ k + 1 = omega arith in
          first_is es ∙ ap (λ (x : Event). x.place) (rw z at (rest_at all es (k + 1) 0 (rest_next all es e k d)))

      own : enters_run e ≡ true → Stands all (run_of doc e es k held)
      own r =
          record {
            within = rest_in all es e k d;
            enters = ap enters_run (this e es k d) ∙ r;
            start = ap (λ (x : Event). x.place) (sym (this e es k d));
            size = rw (this e es k d, follows);
            container = ap innermost_of o;
          }

      go : ((q : ℕ) → q < length (runs_from doc es (k + 1) (after e k held)) →
          Stands all (run_at (runs_from doc es (k + 1) (after e k held)) q) × (k + 1 ≤ (run_at (runs_from doc es (k + 1) (after e k held)) q).number)) →
          (z : Bool) → enters_run e ≡ z → Stands all (run_at (runs_from doc (e ∷ es) k held) q) × (k ≤ (run_at (runs_from doc (e ∷ es) k held) q).number)
      go ih true r = rw r (first q (rw r at h))
        where
          first : (p : ℕ) → p < suc (length (runs_from doc es (k + 1) (after e k held))) →
              Stands all (run_at (run_of doc e es k held ∷ runs_from doc es (k + 1) (after e k held)) p)
              × (k ≤ (run_at (run_of doc e es k held ∷ runs_from doc es (k + 1) (after e k held)) p).number)
          first zero l = (own r, omega arith)
          first (suc p) l = let i = ih p (omega arith) in (i.0, omega (arith, i.1))
      go ih false r = let i = ih q (rw r at h) in rw r ((i.0, omega (arith, i.1)))

  rise_here : (es : List Event) (k : ℕ) (held : List ℕ) → drop k all ≡ es → held ≡ open_at all k → (p q : ℕ) → p < q →
      q < length (runs_from doc es k held) → (run_at (runs_from doc es k held) p).number < (run_at (runs_from doc es k held) q).number
  unfolding runs_from choose
  rise_here [] k held d o p q l h = absurd (omega arith)
  rise_here (e ∷ es) k held d o p q l h = go (rise_here es (k + 1) (after e k held) d' o') (enters_run e) refl
    where
      d' : drop (k + 1) all ≡ es
      d' = rest_next all es e k d

      o' : after e k held ≡ open_at all (k + 1)
      o' = opened_next e es k held d o

      go : ((p q : ℕ) → p < q → q < length (runs_from doc es (k + 1) (after e k held)) →
          (run_at (runs_from doc es (k + 1) (after e k held)) p).number < (run_at (runs_from doc es (k + 1) (after e k held)) q).number) →
          (z : Bool) → enters_run e ≡ z → (run_at (runs_from doc (e ∷ es) k held) p).number < (run_at (runs_from doc (e ∷ es) k held) q).number
      go ih true r = rw r (two p q l (rw r at h))
        where
          two : (p q : ℕ) → p < q → q < suc (length (runs_from doc es (k + 1) (after e k held))) →
              (run_at (run_of doc e es k held ∷ runs_from doc es (k + 1) (after e k held)) p).number
              < (run_at (run_of doc e es k held ∷ runs_from doc es (k + 1) (after e k held)) q).number
          two p zero l h = absurd (omega arith)
          two zero (suc q) l h = omega (arith, (from_here es (k + 1) (after e k held) d' o' q (omega arith)).1)
          two (suc p) (suc q) l h = ih p q (omega arith) (omega arith)
      go ih false r = rw r (ih p q l (rw r at h))

  -- every run of a record stands at its enter
  pub run_stands : (q : ℕ) → q < length (runs_of doc all) → Stands all (run_at (runs_of doc all) q)
  unfolding runs_of open_after
  run_stands q h = (from_here all 0 [] refl refl q h).0

  -- later runs are entered later
  pub numbers_rise : (p q : ℕ) → p < q → q < length (runs_of doc all) → (run_at (runs_of doc all) p).number < (run_at (runs_of doc all) q).number
  unfolding runs_of open_after
  numbers_rise p q l h = rise_here all 0 [] refl refl p q l h

-- the places of sound events rise
places_from : (deep d last : ℕ) (held : List ℕ) (es : List Event) → sound_from deep d last held es ≡ true → (j : ℕ) → j < length es → last ≤ (nth es j).place
places_from deep d last held [] s j h = absurd (omega arith)
places_from deep d last held (e ∷ es) s zero h = (stands deep d last held e es s).rising
places_from deep d last held (e ∷ es) s (suc j) h =
    let a = (stands deep d last held e es s).rising in
    let b = places_from deep d e.place (after e e.name held) es (sound_rest deep d last held e es s) j (omega arith) in
    omega arith

pub places_rise : (deep d last : ℕ) (held : List ℕ) (es : List Event) → sound_from deep d last held es ≡ true → (i j : ℕ) → i ≤ j → j < length es →
    (nth es i).place ≤ (nth es j).place
places_rise deep d last held [] s i j l h = absurd (omega arith)
places_rise deep d last held (e ∷ es) s zero zero l h = omega arith
places_rise deep d last held (e ∷ es) s zero (suc j) l h =
    places_from deep d e.place (after e e.name held) es (sound_rest deep d last held e es s) j (omega arith)
places_rise deep d last held (e ∷ es) s (suc i) zero l h = absurd (omega arith)
places_rise deep d last held (e ∷ es) s (suc i) (suc j) l h =
    places_rise deep d e.place (after e e.name held) es (sound_rest deep d last held e es s) i j (omega arith) (omega arith)

-- a run ends before a later run begins
pub ends_before : (deep d : ℕ) (doc : List ℕ) (es : List Event) → sound deep d es ≡ true → (p q : ℕ) → p < q → q < length (runs_of doc es) →
    (run_at (runs_of doc es) p).start + (run_at (runs_of doc es) p).size ≤ (run_at (runs_of doc es) q).start
ends_before deep d doc es s p q l h =
    let a = run_stands doc es p (omega arith) in
    let b = run_stands doc es q h in
    let n = numbers_rise doc es p q l h in
    let w = b.within in
    let x = places_rise deep d 0 [] es s ((run_at (runs_of doc es) p).number + 1) (run_at (runs_of doc es) q).number (omega arith) w in
    let y = places_rise deep d 0 [] es s (run_at (runs_of doc es) p).number ((run_at (runs_of doc es) p).number + 1) (omega arith) (omega arith) in
    omega (arith, a.start, a.size, b.start)
