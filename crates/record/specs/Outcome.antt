-- What a call that writes a section comes to: document 01's numbers 6, 7 and 8 on top of the check, and what the output then holds. Said once,
-- over whatever a resolver makes of a good record, and over the record's form.
-- Assumes nothing.
use Rattle.std.specs.Prelude.{ℕ, ◌+◌, ◌*◌, List, [], ◌++◌, length, drop, ltb, Ok, Err}
use Rattle.record.specs.Choice.{choose}
use Rattle.record.specs.Check.{Reading}
use Rattle.record.specs.Form.{place_in}
use Rattle.record.specs.Partners.{section_in}
use Rattle.record.specs.declared.event.Event.{Event}
use Rattle.record.specs.declared.form.Form.{Form}
use Rattle.record.specs.declared.check.Refusal.{Refusal}

-- what a resolver makes of a good record: the number of the enter event that offends against its shape rule, or the events of its result
pub data Resolution : Type 0 where
  offends : ℕ → Resolution
  gives : List Event → Resolution

-- what a call comes to: the events of the section that it writes, or a refusal
pub data Outcome : Type 0 where
  accepted : List Event → Outcome
  refused : Refusal → Outcome

abbrev pub refusing : ℕ → ℕ → Outcome
refusing number place = refused (record { number = number; place = place })

-- "result over 8,000 events" (amendment D18), "output shorter than 4 + 8 × result"; form 2: "a result needs 4 + 12 × its events". `outs` is the output's
-- length
unfoldable pub sized : Form → List Event → ℕ → Outcome
sized f es outs =
    choose (ltb 8000 (length es)) (refusing 7 0)
    (choose (ltb outs (4 + f.width * length es)) (refusing 8 0)
    (accepted es))

-- "the resolver's own shape rule is broken": the place is that of the enter event, after a document of d bytes
abbrev pub settled : Form → ℕ → Resolution → ℕ → Outcome
settled f d (offends k) outs = refusing 6 (place_in f d k)
settled f d (gives es) outs = sized f es outs

-- the check first; a good record is what `resolve` makes of it, of its two counts
abbrev pub outcome : Form → Reading → (ℕ → ℕ → Resolution) → ℕ → Outcome
outcome f (Err r) resolve outs = refused r
outcome f (Ok c) resolve outs = settled f c.document (resolve c.document c.events) outs

-- what an output holds that begins with bs and is else as it was
unfoldable pub onto : List ℕ → List ℕ → List ℕ
onto bs out = bs ++ drop (length bs) out

-- the bytes that a call writes: a section in the record's form, or none after a refusal
abbrev pub bytes_written : Form → Outcome → List ℕ
bytes_written f (accepted es) = section_in f es
bytes_written f (refused r) = []
