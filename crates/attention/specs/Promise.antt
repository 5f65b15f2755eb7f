-- What the public call promises, in any profile; its contract says in which.
-- Assumes nothing.
use Rattle.std.specs.Prelude.{ℕ, List, length, Result, Ok, Err}
use Rattle.record.specs.Handed.{form_of, options_of}
use Rattle.record.specs.Event.{document_in, events_in}
use Rattle.record.specs.Check.{admitted}
use Rattle.record.specs.Rows.{document_count_in, event_count_in}
use Rattle.record.specs.Outcome.{Outcome, accepted, refused, settled, outcome}
use Rattle.record.specs.declared.check.Refusal.{Refusal}
use Rattle.record.specs.declared.event.Event.{Event}
use Rattle.record.specs.declared.form.Handed.{Handed}
use Rattle.record.specs.declared.form.Form.{Form}
use Rattle.record.specs.Promise.{Answered, Writes}
use Rattle.runs.specs.Rule.{Profile}
use Rattle.runs.specs.Pieces.{outcome as matching}
use Rattle.attention.specs.Attention.{attention}
use Rattle.attention.specs.declared.call.Resolved.{Resolved}

-- what a call answers: what it tells of a record that it resolves, or a refusal
abbrev pub Answer : Type 0
Answer = Result Resolved Refusal

abbrev pub resolved : ℕ → ℕ → ℕ → Answer
resolved events groups tried = Ok (record { events = events; groups = groups; tried = tried })

-- what a call comes to, of the record as it is handed over and the lengths of the output and of the work memory
unfoldable pub outcome_of : Profile → Handed → List ℕ → ℕ → ℕ → Outcome
outcome_of profile h s outs works =
    outcome (form_of h) (admitted h s works) (λ d e. attention profile (options_of h s) (document_in (form_of h) s d) (events_in (form_of h) s d e)) outs

-- what it then answers, of the document and the events: the events written, the groups of the plain rule, and "exactly the candidates that
-- rule counts as tried"
abbrev pub answer_at : Profile → ℕ → List ℕ → List Event → Outcome → Answer
answer_at profile options doc es (accepted rs) = resolved (length rs) (length (matching profile options doc es).groups) (matching profile options doc es).tried
answer_at profile options doc es (refused r) = Err r

-- the same of the record
abbrev pub answer_of : Profile → Handed → List ℕ → Outcome → Answer
answer_of profile h s =
    answer_at profile (options_of h s) (document_in (form_of h) s (document_count_in (form_of h) s))
    (events_in (form_of h) s (document_count_in (form_of h) s) (event_count_in (form_of h) s))

-- the answer and the output, of a good record of a form, with the counts d and e
abbrev pub Made : Profile → Form → List ℕ → ℕ → ℕ → ℕ → List ℕ → Answer → List ℕ → Type 0
Made profile f s d e options out r out' =
    Answered f (settled f d (attention profile options (document_in f s d) (events_in f s d e)) (length out))
    (answer_at profile options (document_in f s d) (events_in f s d e)) out r out'

-- the whole promise, that of every call that writes: r is answered, and out' and work' are what the two buffers then hold
abbrev pub Promise : Profile → Handed → List ℕ → List ℕ → List ℕ → Answer → List ℕ → List ℕ → Type 0
Promise profile h s out work r out' work' = Writes (form_of h) (outcome_of profile h s) (answer_of profile h s) out work r out' work'

-- document 01's numbers of an answer: "A refusal returns its number and place, all else zero"
pub record Numbers : Type 0 where
  pub number : ℕ
  pub place : ℕ
  pub events : ℕ
  pub groups : ℕ
  pub tried : ℕ

abbrev pub numbers_of : Answer → Numbers
numbers_of (Ok a) = record { number = 0; place = 0; events = a.events; groups = a.groups; tried = a.tried }
numbers_of (Err r) = record { number = r.number; place = r.place; events = 0; groups = 0; tried = 0 }
