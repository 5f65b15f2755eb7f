-- What the load pass promises. It asks for a good record and enough memory.
-- Assumes nothing.
use Rattle.std.specs.Prelude.{ℕ, ◌≤◌, ◌≡◌, refl, List, map, length, Option, Some, None, Result, Ok, Err}
use Rattle.std.proofs.Math.Option.{none, some}
use Rattle.std.proofs.Common.{ap, arith}
use Rattle.record.specs.Event.{document_in, events_in}
use Rattle.record.specs.declared.event.Event.{Event}
use Rattle.record.specs.declared.form.Form.{Form}
use Rattle.runs.specs.Runs.{offender, runs_of}
use Rattle.runs.specs.Rule.{Profile}
use Rattle.runs.specs.Pieces.{standing}
use Rattle.loading.specs.declared.pass.Offender.{Offender}
use Rattle.loading.specs.Held.{Holds}

-- no run breaks the shape rule, and the first n slots hold the runs, flanking as a profile has it
pub record Ready (profile : Profile) (doc : List ℕ) (es : List Event) (options n : ℕ) (w' : List ℕ) : Type 0 where
  pub none_offends : offender doc options es ≡ none
  pub count : n ≡ length (runs_of doc es)
  pub few : n ≤ 1024
  pub holds : Holds w' (map (standing profile options) (runs_of doc es))

-- an offender, by the number of its enter event
abbrev pub at_event : ℕ → Offender
at_event k = record { event = k }

-- the answer, and the memory w' that w has become
pub record Loads (profile : Profile) (f : Form) (s : List ℕ) (d e options : ℕ) (w : List ℕ) (r : Result ℕ Offender) (w' : List ℕ) : Type 0 where
  pub offends : (k : ℕ) → r ≡ Err (at_event k) → offender (document_in f s d) options (events_in f s d e) ≡ some k
  pub runs : (n : ℕ) → r ≡ Ok n → Ready profile (document_in f s d) (events_in f s d e) options n w'
  pub same_length : length w' ≡ length w

-- of a pass that may have no ranges: where it has an answer it has loaded, and where it has none there are no ranges
pub record Passes (profile : Profile) (marks : List ℕ) (f : Form) (s : List ℕ) (d e options : ℕ) (w : List ℕ) (r : Option (Result ℕ Offender)) (w' : List ℕ) : Type 0 where
  pub done : (l : Result ℕ Offender) → r ≡ Some l → Loads profile f s d e options w l w'
  pub undone : r ≡ None → length marks ≡ 0

-- the answer is fixed: any two that the promise allows are equal
pub one_answer : (profile : Profile) (f : Form) (s : List ℕ) (d e options : ℕ) (w w' w'' : List ℕ) (r q : Result ℕ Offender) → Loads profile f s d e options w r w' →
    Loads profile f s d e options w q w'' → r ≡ q
one_answer profile f s d e options w w' w'' (Ok n) (Ok m) a b =
    let x : n ≡ length (runs_of (document_in f s d) (events_in f s d e)) = (a.runs n refl).count in
    let y : m ≡ length (runs_of (document_in f s d) (events_in f s d e)) = (b.runs m refl).count in
    cc
one_answer profile f s d e options w w' w'' (Ok n) (Err q) a b =
    let x : offender (document_in f s d) options (events_in f s d e) ≡ none = (a.runs n refl).none_offends in
    let y : offender (document_in f s d) options (events_in f s d e) ≡ some q.event = b.offends q.event refl in
    let z : ◌≡◌ {A = ℕ} 0 1 = cc in
    absurd (omega arith)
one_answer profile f s d e options w w' w'' (Err q) (Ok m) a b =
    let x : offender (document_in f s d) options (events_in f s d e) ≡ some q.event = a.offends q.event refl in
    let y : offender (document_in f s d) options (events_in f s d e) ≡ none = (b.runs m refl).none_offends in
    let z : ◌≡◌ {A = ℕ} 0 1 = cc in
    absurd (omega arith)
one_answer profile f s d e options w w' w'' (Err p) (Err q) a b =
    let x : offender (document_in f s d) options (events_in f s d e) ≡ some p.event = a.offends p.event refl in
    let y : offender (document_in f s d) options (events_in f s d e) ≡ some q.event = b.offends q.event refl in
    let z : p.event ≡ q.event = cc in
    ap (λ (k : ℕ). Err (at_event k)) z
