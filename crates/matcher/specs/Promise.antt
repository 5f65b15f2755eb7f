-- What the step that handles one closer promises, and what all of the matcher does.
-- Document 01: "After each closer the chains .. list exactly the runs up to it with markers left that can still open, latest first, as the
-- plain rule has them on finishing that closer; the step that handles one closer promises this at its exit."
-- Assumes nothing.
use Rattle.std.specs.Prelude.{ℕ, ◌+◌, ◌*◌, ◌<◌, ◌≤◌, ◌≡◌, List, length, Result, Ok, Err}
use Rattle.runs.specs.Rule.{Rule}
use Rattle.runs.specs.Plain.{Standing, Group, Outcome, plain}
use Rattle.matcher.specs.declared.closers.Closed.{Closed}
use Rattle.matcher.specs.declared.closers.TooMany.{TooMany}
use Rattle.matcher.specs.declared.closers.Groups.{Groups}
use Rattle.matcher.specs.Chains.{Reads}
use Rattle.matcher.specs.Groups.{Grouped}
use Rattle.matcher.specs.State.{Fresh, Ready, InOrder}
use Rattle.matcher.specs.Closer.{Finish, closer_from}
use Rattle.matcher.specs.Along.{closer_by, chained}

-- what the step asks, of the memory alone: it is in order, there is a run to go on from, and there is room for the groups; and so few were tried that
-- the count does not run over. It names no list of runs, and does not say of any slot that it is emptied, can't open or has another marker or
-- container
pub record Begun (w : List ℕ) (height n from groups tried : ℕ) : Type 0 where
  pub order : InOrder w height n from
  pub more : from < n
  pub room : groups ≤ 1000
  pub few : tried ≤ (groups + from) * 1048576

-- the closer is finished as the plain rule finishes it, and the memory is ready for the next: its chains list exactly the runs up to it
pub record ClosedAs (f : Finish) (n from next height groups tried : ℕ) (w : List ℕ) : Type 0 where
  pub at : next ≡ f.next
  pub made : groups ≡ length f.groups
  pub count : tried ≡ f.tried
  pub ready : Ready w height f.runs f.groups n f.next
  pub onward : from < f.next
  pub few : tried ≤ (groups + next) * 1048576

abbrev pub Handled : Rule → List Standing → List Group → ℕ → ℕ → ℕ → Result Closed TooMany → List ℕ → Type 0
Handled rule rs gs n from t (Ok c) w = ClosedAs (closer_from rule rs from gs t) n from c.next c.height c.groups c.tried w
Handled rule rs gs n from t (Err e) w = 1000 < length (closer_from rule rs from gs t).groups

-- this, for all runs and groups that the memory had, if it had any; and, on all memory that is as asked, step and memory are what going along the
-- chains comes to
pub record Handles (rule : Rule) (w : List ℕ) (height n from groups tried : ℕ) (step : Result Closed TooMany) (w' : List ℕ) : Type 0 where
  pub of : (rs : List Standing) (gs : List Group) → Ready w height rs gs n from → length gs ≡ groups → Handled rule rs gs n from tried step w'
  pub along : (step, w') ≡ closer_by rule w height from n groups tried

-- the memory has some runs, and is as before the first match
pub record Loaded (w : List ℕ) (n : ℕ) : Type 0 where
  pub runs : List Standing
  pub fresh : Fresh w runs n

-- the groups of the plain rule, in match order, are in the memory, with what is left of each run
pub record GroupsOf (out : Outcome) (n groups tried : ℕ) (w : List ℕ) : Type 0 where
  pub made : groups ≡ length out.groups
  pub count : tried ≡ out.tried
  pub grouped : Grouped w out.groups n
  pub reads : Reads w out.runs n
  pub fits : length out.groups ≤ 1000

abbrev pub Answered : Rule → List Standing → ℕ → Result Groups TooMany → List ℕ → Type 0
Answered rule rs n (Ok g) w = GroupsOf (plain rule rs) n g.groups g.tried w
Answered rule rs n (Err e) w = 1000 < length (plain rule rs).groups

-- this, for all runs that the memory had; and answer and memory are what the chained matcher comes to
pub record Answers (rule : Rule) (w : List ℕ) (n : ℕ) (found : Result Groups TooMany) (w' : List ℕ) : Type 0 where
  pub of : (rs : List Standing) → Fresh w rs n → Answered rule rs n found w'
  pub along : (found, w') ≡ chained rule w n
