-- What the small calls that fill a slot promise each other: a slot written, a run put into it, and that no other slot changed.
-- Assumes nothing.
use Rattle.std.specs.Prelude.{ℕ, ◌+◌, ◌≤◌, ◌<◌, ◌≡◌, Bool, true, List, ◌∷◌, length, get_or, Option, Some, None, ⊤}
use Rattle.record.specs.Bytes.{u32_at}
use Rattle.record.specs.Event.{document_in, event_at}
use Rattle.record.specs.declared.event.Event.{Event}
use Rattle.record.specs.declared.form.Form.{Form}
use Rattle.runs.specs.Runs.{is_marker, innermost_of, run_of}
use Rattle.runs.specs.Rule.{Profile}
use Rattle.runs.specs.Plain.{Standing}
use Rattle.runs.specs.Chains.{container_number}
use Rattle.runs.specs.Pieces.{standing}
use Rattle.slots.specs.Layout.{Room, whole_of, left_of, marker_of, opens_of, closes_of, chain_of, first_group_of, latest_group_of, link_of}
use Rattle.loading.specs.Held.{Slotted}

-- a container as a number: that of its enter event plus 1, or 0 for none
abbrev pub numbered : Option ℕ → ℕ
numbered None = 0
numbered (Some k) = k + 1

-- what slots held before and hold still
pub record Keeps (w : List ℕ) (n : ℕ) (w' : List ℕ) : Type 0 where
  pub others : (j : ℕ) → j < 1024 → (j ≡ n → ⊥) → (r : Standing) → Slotted w j r → Slotted w' j r

-- the slot n written
pub record Filled (w : List ℕ) (n size marker : ℕ) (opens closes : Bool) (chain : ℕ) (w' : List ℕ) : Type 0 where
  pub whole : whole_of w' n ≡ size
  pub left : left_of w' n ≡ size
  pub marker_byte : marker_of w' n ≡ marker
  pub can_open : opens_of w' n ≡ opens
  pub can_close : closes_of w' n ≡ closes
  pub chain_number : chain_of w' n ≡ chain
  pub first_group : first_group_of w' n ≡ 0
  pub latest_group : latest_group_of w' n ≡ 0
  pub link : link_of w' n ≡ 0
  pub kept : Keeps w n w'

-- that the event at a place enters a run, and where it is to go
pub record Settling (f : Form) (s : List ℕ) (d at container : ℕ) (w : List ℕ) (n : ℕ) : Type 0 where
  pub document : 4 + f.front + d ≤ length s
  pub small : d ≤ 16384
  pub events : at + f.width + 8 ≤ length s
  pub later : u32_at s (at + 4) < u32_at s (at + f.width + 4)
  pub inside : u32_at s (at + f.width + 4) ≤ d
  pub known : container ≤ 2048
  pub slot : n < 1024
  pub room : Room w

-- the slot n holds the run that the event at a place enters, flanking as a profile has it, whichever number the event has and whatever is open
-- there
pub record Settled (profile : Profile) (f : Form) (s : List ℕ) (d options at container : ℕ) (w : List ℕ) (n : ℕ) (w' : List ℕ) : Type 0 where
  pub own : (es : List Event) (i : ℕ) (held : List ℕ) → container_number (innermost_of held) ≡ container →
      is_marker (get_or (document_in f s d) (u32_at s (at + 4)) 0) ≡ true →
      Slotted w' n (standing profile options (run_of (document_in f s d) (event_at s at) (event_at s (at + f.width) ∷ es) i held))
  pub kept : Keeps w n w'

-- either that is done, or there is no answer, for want of the ranges
pub record SettledOr (marks : List ℕ) (r : Option ⊤) (Done : Type 0) : Type 0 where
  pub done : r ≡ Some tt → Done
  pub undone : r ≡ None → length marks ≡ 0
