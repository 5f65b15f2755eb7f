-- What the public call promises.
-- Assumes nothing.
use Rattle.std.specs.Prelude.{ℕ, List, length, Result, Ok, Err}
use Rattle.record.specs.Handed.{form_of}
use Rattle.record.specs.Event.{events_in}
use Rattle.record.specs.Check.{admitted}
use Rattle.record.specs.declared.check.Refusal.{Refusal}
use Rattle.record.specs.declared.form.Handed.{Handed}
use Rattle.record.specs.Promise.{SectionNumbers, Writes}
use Rattle.record.specs.Outcome.{Outcome, accepted, refused, outcome}
use Rattle.heading.specs.Headings.{headings}

-- the answer that an outcome gets: how many events are written, or the refusal
abbrev pub answer_of : Outcome → Result ℕ Refusal
answer_of (accepted es) = Ok (length es)
answer_of (refused r) = Err r

-- what the call comes to: of the record as it is handed over, and the lengths of the output and of the work memory
unfoldable pub outcome_of : Handed → List ℕ → ℕ → ℕ → Outcome
outcome_of h s outs works = outcome (form_of h) (admitted h s works) (λ d e. headings (events_in (form_of h) s d e)) outs

-- the whole promise, that of every call that writes: r is answered, and out' and work' are what the two buffers hold then
abbrev pub Promise : Handed → List ℕ → List ℕ → List ℕ → Result ℕ Refusal → List ℕ → List ℕ → Type 0
Promise h s out work r out' work' = Writes (form_of h) (outcome_of h s) answer_of out work r out' work'

-- document 01's numbers of an answer: "A refusal returns its number and place, all else zero"
abbrev pub numbers_of : Result ℕ Refusal → SectionNumbers
numbers_of (Ok n) = record { number = 0; place = 0; events = n }
numbers_of (Err r) = record { number = r.number; place = r.place; events = 0 }
