-- How many events come out: the runs that have no marker left are the definition's emptied runs, and document 01's formula is the length of
-- the output.
-- Assumes nothing.
use mathlib.Core.Path.{◌≡◌, refl, sym, ap, ◌∙◌}
use mathlib.Core.Bool.{Bool, true, false}
use mathlib.Core.List.{List}
use mathlib.Core.Option.{none}
use Prim.Native.Nat.{ℕ, zero, suc, ◌+◌, ◌*◌, ◌-◌, ◌≤◌, ◌<◌}
use native.Mathlib.Omega.{arith}
use lib.Dec.{eqb}
use lib.ListN.{length, get_or, drop}
use lib.Seq.{drop-cons, drop-length}
use borrow.Author.Tests.{eqb-true, eqb-false, lt-ltb, le-ltb}
use Rattle.record.specs.Choice.{choose}
use Rattle.record.specs.Event.{document_in, events_in}
use Rattle.record.specs.declared.form.Form.{Form}
use Rattle.record.specs.Good.{GoodIn}
use Rattle.record.proofs.Parts.{length_events, length_document}
use Rattle.runs.specs.Runs.{Run, offender, runs_of}
use Rattle.runs.specs.Rule.{Profile}
use Rattle.runs.specs.Plain.{Group}
use Rattle.runs.specs.Pieces.{outcome, closed, opened, remains}
use Rattle.runs.specs.Output.{no_run, output, emptied, result_size}
use Rattle.slots.specs.Layout.{left_of}
use Rattle.output.specs.Accepted.{Accepted}
use Rattle.output.proofs.ResultSize.{size_of_output, emptied_few}
use Rattle.attention.specs.Result.{emptied_from, Matched}
use Rattle.attention.proofs.Bridging.{left_of_run}

-- a run remains just where its slot has markers left
remains_left : (gs : List Group) (q : ℕ) (r : Run) (left : ℕ) → left + closed gs q + opened gs q ≡ r.size → eqb left 0 ≡ true → remains gs q r ≡ false
unfolding remains
remains_left gs q r left e z =
    let k : left ≡ 0 = eqb-true _ _ z in
    le-ltb (r.start + closed gs q) (r.start + r.size - opened gs q) (omega arith)

above : (x : ℕ) → (x ≡ 0 → ⊥) → 0 < x
above zero h = absurd (h refl)
above (suc x) h = omega arith

remains_some : (gs : List Group) (q : ℕ) (r : Run) (left : ℕ) → left + closed gs q + opened gs q ≡ r.size → eqb left 0 ≡ false → remains gs q r ≡ true
unfolding remains
remains_some gs q r left e z =
    let k : 0 < left = above left (eqb-false _ _ z) in
    lt-ltb (r.start + closed gs q) (r.start + r.size - opened gs q) (omega arith)

-- one run counted, by its slot and by the groups
one_counted : (gs : List Group) (q : ℕ) (r : Run) (left rest rest' : ℕ) → left + closed gs q + opened gs q ≡ r.size → rest ≡ rest' →
    choose (eqb left 0) (rest + 1) rest ≡ choose (remains gs q r) rest' (1 + rest')
unfolding choose
one_counted gs q r left rest rest' e on = go (eqb left 0) refl
  where
    go : (z : Bool) → eqb left 0 ≡ z → choose (eqb left 0) (rest + 1) rest ≡ choose (remains gs q r) rest' (1 + rest')
    go true t = rw (t, remains_left gs q r left e t) (omega arith)
    go false t = rw (t, remains_some gs q r left e t) on

-- counted over the slots, and over the runs
emptied_on : (w : List ℕ) (gs : List Group) (rs : List Run) (m q : ℕ) → q + m ≡ length rs →
    ((j : ℕ) → j < length rs → left_of w j + closed gs j + opened gs j ≡ (get_or rs j no_run).size) → emptied_from m w q ≡ emptied gs q (drop q rs)
unfolding emptied_from emptied
emptied_on w gs rs zero q h f =
    let e : q ≡ length rs = omega arith in
    rw (e, drop-length rs)
emptied_on w gs rs (suc m) q h f =
    let l : q < length rs = omega arith in
    let s : suc q ≡ q + 1 = omega arith in
    let on : emptied_from m w (q + 1) ≡ emptied gs (q + 1) (drop (suc q) rs) = emptied_on w gs rs m (q + 1) (omega arith) f ∙ ap (λ (x : ℕ). emptied gs (q + 1) (drop x rs)) (sym s) in
    one_counted gs q (get_or rs q no_run) (left_of w q) (emptied_from m w (q + 1)) (emptied gs (q + 1) (drop (suc q) rs)) (f q l) on
    ∙ ap (λ (k : List Run). emptied gs q k) (sym (drop-cons rs q no_run l))

-- a good record none of whose runs offends is one that the theorems on the output speak of
pub accepted_record : (options : ℕ) {f : Form} {s : List ℕ} {d e : ℕ} → GoodIn f s d e → offender (document_in f s d) options (events_in f s d e) ≡ none →
    Accepted 64 options (document_in f s d) (events_in f s d e)
accepted_record options {f} {s} {d} g none_offends =
    let whole = g.whole in
    let l : length (document_in f s d) ≡ d = length_document f s d (omega arith) in
    record { events = rw l g.sound_events; shapes = none_offends }

module _ {profile : Profile} {f : Form} {s : List ℕ} {d e options n groups tried : ℕ} {w : List ℕ}
    (m : Matched profile f s d e options n groups tried w) where
  pub emptied_same : emptied_from n w 0 ≡
      emptied (outcome profile options (document_in f s d) (events_in f s d e)).groups 0 (runs_of (document_in f s d) (events_in f s d e))
  emptied_same =
      let count = m.count in
      emptied_on w (outcome profile options (document_in f s d) (events_in f s d e)).groups (runs_of (document_in f s d) (events_in f s d e)) n 0 (omega arith)
      (λ j h. left_of_run profile options (document_in f s d) (events_in f s d e) m.room m.count m.few m.made j (omega arith))

  events_long : length (events_in f s d e) ≡ e
  unfolding events_in
  events_long = length_events f.width e s (8 + f.front + d)

  -- twice the emptied runs are no more than the events
  pub emptied_within : 2 * emptied_from n w 0 ≤ e
  emptied_within =
      let a = emptied_few profile options (document_in f s d) (events_in f s d e) 64 (accepted_record options m.good m.none_offends) in
      omega (arith, emptied_same, events_long)

  -- document 01's formula
  pub size_same : e - 2 * emptied_from n w 0 + 8 * groups ≡ length (output profile options (document_in f s d) (events_in f s d e))
  unfolding result_size
  size_same =
      let a : length (output profile options (document_in f s d) (events_in f s d e)) ≡ result_size profile options (document_in f s d) (events_in f s d e) =
      size_of_output profile options (document_in f s d) (events_in f s d e) 64 (accepted_record options m.good m.none_offends) in
      let b : groups ≡ length (outcome profile options (document_in f s d) (events_in f s d e)).groups = m.made.made in
      omega (arith, emptied_same, events_long)
