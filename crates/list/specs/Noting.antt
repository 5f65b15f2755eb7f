-- What the first pass promises.
-- Assumes nothing.
use Rattle.std.specs.Prelude.{ℕ, ◌≤◌, ◌<◌, ◌≡◌, false, List, [], ◌∷◌, length, take, Result, Ok, Err}
use Rattle.record.specs.declared.event.Event.{Event}
use Rattle.record.specs.declared.listed.Offender.{Offender}
use Rattle.list.specs.Walk.{offenders_in, notes, added}

-- what it answers: how many events the notes add, or the first of the offending items
abbrev pub finding : List ℕ → List ℕ → Result ℕ Offender
finding [] ns = Ok (added ns)
finding (k ∷ ks) ns = Err (record { event = k })

-- r is answered and work' is what the work memory then holds: without an offence its first bytes are the notes
pub record Noted (document : List ℕ) (es : List Event) (r : Result ℕ Offender) (work' : List ℕ) : Type 0 where
  pub answer : r ≡ finding (offenders_in document 0 false es) (notes document false [] es)
  pub kept : (n : ℕ) → r ≡ Ok n → (take (length es) work' ≡ notes document false [] es) × (n ≤ length es)
  pub early : (k : ℕ) → r ≡ Err (record { event = k }) → k < length es
