-- Where the plain rule and the chained matcher stand after each run. Document 01: "Closers are taken in order; .. a closer with markers left is
-- tried again", and the chains are "as the plain rule has them on finishing that closer". A closer that takes no opener is passed, as is a run that
-- cannot close: after either the next run is taken.
-- Assumes nothing.
use Rattle.std.specs.Prelude.{ℕ, zero, suc, ◌+◌, ◌<◌, ◌≡◌, List, [], Result, Ok, Err}
use Rattle.runs.specs.Rule.{Rule}
use Rattle.runs.specs.Plain.{Standing, Outcome, miss, rounds, total}
use Rattle.chains.specs.Walk.{seek, passed, raised}
use Rattle.matcher.specs.Closer.{Finish, finish}
use Rattle.matcher.specs.Along.{closer_by, closed_at, groups_at, too_many}
use Rattle.matcher.specs.declared.closers.Groups.{Groups}
use Rattle.matcher.specs.declared.closers.TooMany.{TooMany}

-- the plain rule up to the run i: the runs before it in order, each tried as a closer until it takes no opener
unfoldable pub plain_up_to : Rule → List Standing → ℕ → Finish
plain_up_to rule rs zero = record { groups = []; tried = 0; runs = rs; next = 0 }
plain_up_to rule rs (suc i) =
    let f = plain_up_to rule rs i in
    finish (total f.runs + 1) rule f.runs i (i + 1) f.groups f.tried

-- the rounds of the plain rule that are left from there
abbrev pub rounds_left : Rule → Finish → Outcome
rounds_left rule f = rounds (total f.runs + 1) rule f.runs f.next f.groups f.tried

-- where a chained matcher stands that began on the memory w₀ with n runs: its memory, the height of its open runs, the run to go on from, and how
-- many groups it made and candidates it tried. A run that takes no opener is passed as `onward` passes it, and a closer that takes one is a step of
-- `along`: that step passes what comes before the closer, and has tried the closer until it takes none
pub data Stands (rule : Rule) (n : ℕ) (w₀ : List ℕ) : List ℕ → ℕ → ℕ → ℕ → ℕ → Type 0 where
  at_the_first : Stands rule n w₀ w₀ 0 0 0 0
  after_passing : {w : List ℕ} {height i made tried u : ℕ} → Stands rule n w₀ w height i made tried → i < n → seek rule w i 0 ≡ miss u →
      Stands rule n w₀ (passed w height i) (raised w height i) (i + 1) made (tried + u)
  after_a_closer : {w w' : List ℕ} {height i made tried next height' made' tried' : ℕ} → Stands rule n w₀ w height i made tried → i < n →
      (Ok (closed_at next height' made' tried'), w') ≡ closer_by rule w height i n made tried → Stands rule n w₀ w' height' next made' tried'

-- a memory after the run before i
pub record StandsAt (rule : Rule) (n : ℕ) (w₀ : List ℕ) (i : ℕ) : Type 0 where
  pub memory : List ℕ
  pub height : ℕ
  pub made : ℕ
  pub tried : ℕ
  pub stands : Stands rule n w₀ memory height i made tried

-- the way of `along` from where it stands to its answer and last memory: step by step, and after each it stands so again. At its end all runs are
-- passed and the answer is what was made and tried, or there was no room for a match
pub data Leads (rule : Rule) (n : ℕ) (w₀ : List ℕ) : List ℕ → ℕ → ℕ → ℕ → ℕ → Result Groups TooMany × List ℕ → Type 0 where
  at_the_last : {w : List ℕ} {height made tried : ℕ} → Stands rule n w₀ w height n made tried →
      Leads rule n w₀ w height n made tried (Ok (groups_at made tried), w)
  no_room : {w w' : List ℕ} {height i made tried : ℕ} → Stands rule n w₀ w height i made tried → i < n →
      (Err too_many, w') ≡ closer_by rule w height i n made tried → Leads rule n w₀ w height i made tried (Err too_many, w')
  by_a_closer : {w w' : List ℕ} {height i made tried next height' made' tried' : ℕ} {answer : Result Groups TooMany × List ℕ} →
      Stands rule n w₀ w height i made tried → i < n → (Ok (closed_at next height' made' tried'), w') ≡ closer_by rule w height i n made tried →
      Leads rule n w₀ w' height' next made' tried' answer → Leads rule n w₀ w height i made tried answer
