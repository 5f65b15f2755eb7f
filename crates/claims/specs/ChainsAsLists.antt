-- The chains as lists. Document 01: "After each closer the chains, one per marker and container, list exactly the runs up to it with markers left
-- that can still open, latest first". What a memory lists is read from the head of a chain by its links; what it has to list goes by the runs alone.
-- Assumes nothing.
use Rattle.std.specs.Prelude.{ℕ, zero, suc, ◌+◌, ◌-◌, ◌*◌, ◌<◌, ◌≡◌, Bool, true, List, [], ◌∷◌, eqb}
use Rattle.std.proofs.Math.Option.{Option, none, some}
use Rattle.record.specs.Choice.{choose, and}
use Rattle.runs.specs.Runs.{is_marker}
use Rattle.runs.specs.Plain.{Standing, at, opener, same_container}
use Rattle.runs.specs.Chains.{container_number, marker_number, chain_number}
use Rattle.slots.specs.Layout.{link_of, head_of}

-- a container: none, or an enter event by its number, of which a record has 2,048 at most
pub data Container : Option ℕ → Type 0 where
  nothing_open : Container none
  entered : (number : ℕ) → number < 2048 → Container (some number)

-- the chain of a marker and container by its number: that of the runs which have them
abbrev pub chain_for : ℕ → Option ℕ → ℕ
chain_for marker container = 3 * container_number container + marker_number marker

abbrev pub ChainOfARun : Type 0
ChainOfARun = (r : Standing) → chain_number r ≡ chain_for r.marker r.container

-- the runs that a memory lists from p on, by their links: p is a run's number plus 1, or 0 at the end. At most k of them
unfoldable pub linked : ℕ → List ℕ → ℕ → List ℕ
linked zero w p = []
linked (suc k) w p =
    let rest = linked k w (link_of w (p - 1)) in
    choose (eqb p 0) [] ((p - 1) ∷ rest)

-- a chain from its head; links fall, so that no chain is longer than its head
abbrev pub chain : List ℕ → ℕ → Option ℕ → List ℕ
chain w marker container = linked (head_of w (chain_for marker container)) w (head_of w (chain_for marker container))

-- whether a run has this marker and container, has markers left and can still open
unfoldable pub still_opens : ℕ → Option ℕ → Standing → Bool
still_opens marker container r = and (opener r) (and (eqb r.marker marker) (same_container r.container container))

-- the runs before the run i that are so, "latest first"
unfoldable pub still_open : List Standing → ℕ → Option ℕ → ℕ → List ℕ
still_open rs marker container zero = []
still_open rs marker container (suc j) =
    let rest = still_open rs marker container j in
    choose (still_opens marker container (at rs j)) (j ∷ rest) rest

-- the chains, "one per marker and container", list exactly the runs before the run i "with markers left that can still open, latest first"
abbrev pub ChainsList : List ℕ → List Standing → ℕ → Type 0
ChainsList w rs i =
    (marker : ℕ) (container : Option ℕ) → is_marker marker ≡ true → Container container → chain w marker container ≡ still_open rs marker container i
