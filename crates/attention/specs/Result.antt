-- What stands between the matcher and the answer: a good record whose groups are in the memory, and what is written of it.
-- Assumes nothing.
use Rattle.std.specs.Prelude.{ℕ, zero, suc, ◌+◌, ◌≤◌, ◌≡◌, List, eqb, length, Result, Ok, Err}
use Rattle.std.proofs.Math.Option.{none}
use Rattle.record.specs.Choice.{choose}
use Rattle.record.specs.Event.{document_in, events_in}
use Rattle.record.specs.declared.form.Form.{Form}
use Rattle.record.specs.Good.{GoodIn}
use Rattle.record.specs.Outcome.{Outcome, accepted, refused, sized}
use Rattle.record.specs.Promise.{Answered}
use Rattle.record.specs.declared.check.Refusal.{Refusal}
use Rattle.runs.specs.Runs.{offender, runs_of}
use Rattle.runs.specs.Rule.{Profile}
use Rattle.runs.specs.Pieces.{outcome}
use Rattle.runs.specs.Output.{output}
use Rattle.slots.specs.Layout.{Room, left_of}
use Rattle.matcher.specs.Promise.{GroupsOf}

-- of m runs from the run q on, those that have no marker left
unfoldable pub emptied_from : ℕ → List ℕ → ℕ → ℕ
emptied_from zero w q = 0
emptied_from (suc m) w q =
    let rest = emptied_from m w (q + 1) in
    choose (eqb (left_of w q) 0) (rest + 1) rest

-- a good record none of whose runs offends, with the plain rule's groups in the memory
pub record Matched (profile : Profile) (f : Form) (s : List ℕ) (d e options n groups tried : ℕ) (w : List ℕ) : Type 0 where
  pub good : GoodIn f s d e
  pub none_offends : offender (document_in f s d) options (events_in f s d e) ≡ none
  pub count : n ≡ length (runs_of (document_in f s d) (events_in f s d e))
  pub few : n ≤ 1024
  pub room : Room w
  pub made : GroupsOf (outcome profile options (document_in f s d) (events_in f s d e)) n groups tried w

-- what the result comes to, of the output's length
abbrev pub result_of : Profile → Form → List ℕ → ℕ → ℕ → ℕ → ℕ → Outcome
result_of profile f s d e options outs = sized f (output profile options (document_in f s d) (events_in f s d e)) outs

-- what is answered of it: how many events are written, or the refusal
abbrev pub count_written : Outcome → Result ℕ Refusal
count_written (accepted es) = Ok (length es)
count_written (refused x) = Err x

-- the answer, and the output afterwards
abbrev pub Ended : Profile → Form → List ℕ → ℕ → ℕ → ℕ → List ℕ → Result ℕ Refusal → List ℕ → Type 0
Ended profile f s d e options out r out' = Answered f (result_of profile f s d e options (length out)) count_written out r out'
