-- What the step that handles one closer does not take: a run off the chains, even if it has markers left, can open and has the closer's marker and
-- container. So a step that searched all earlier runs would not keep the promise.
-- These are the statements; proofs/OffChains.antt proves each under the name in small letters.
-- Assumes nothing.
use Rattle.std.specs.Prelude.{ℕ, ◌+◌, ◌*◌, ◌<◌, ◌≤◌, ◌≡◌, List, Ok}
use Rattle.runs.specs.Rule.{Rule}
use Rattle.slots.specs.Layout.{Room, link_of, head_of, chain_of}
use Rattle.chains.specs.Walk.{passed, raised}
use Rattle.matcher.specs.State.{InOrder}
use Rattle.matcher.specs.Along.{closer_by, closed_at}
use Rattle.matcher.specs.Promise.{Begun}

-- memory whose chains are empty and in which no run is open is in order at any run: all that is asked of the slots is that links fall and numbers
-- are in range
abbrev pub EmptyIsInOrder : Type 0
EmptyIsInOrder =
    (w : List ℕ) (n from : ℕ) → Room w → n ≤ 1024 → from ≤ n → ((j : ℕ) → j < n → link_of w j ≤ j) → ((j : ℕ) → j < n → chain_of w j < 6147) →
    ((k : ℕ) → k < 6147 → head_of w k ≡ 0) → InOrder w 0 n from

-- so the step may be taken there: it asks no more
abbrev pub EmptyMayBegin : Type 0
EmptyMayBegin =
    (w : List ℕ) (n from groups tried : ℕ) → Room w → n ≤ 1024 → from < n → ((j : ℕ) → j < n → link_of w j ≤ j) →
    ((j : ℕ) → j < n → chain_of w j < 6147) → ((k : ℕ) → k < 6147 → head_of w k ≡ 0) → groups ≤ 1000 → tried ≤ (groups + from) * 1048576 →
    Begun w 0 n from groups tried

-- and at a run whose chain is empty the step makes no group, whatever the slots of earlier runs hold: the run is passed
abbrev pub EmptyTakesNone : Type 0
EmptyTakesNone =
    (rule : Rule) (w : List ℕ) (height from groups tried : ℕ) → head_of w (chain_of w from) ≡ 0 →
    closer_by rule w height from (from + 1) groups tried ≡ (Ok (closed_at (from + 1) (raised w height from) groups tried), passed w height from)
