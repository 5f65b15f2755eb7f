-- What work memory holds of a record's runs after the load pass. The fields are those of the map of work memory; what they hold is said by the
-- runs as the plain rule begins with them.
-- Assumes nothing.
use Rattle.std.specs.Prelude.{ℕ, ◌≤◌, ◌<◌, ◌≡◌, true, List, eqb, length}
use Rattle.record.specs.Choice.{and}
use Rattle.runs.specs.Runs.{is_marker}
use Rattle.runs.specs.Plain.{Standing, at, same_container}
use Rattle.runs.specs.Chains.{chain_number}
use Rattle.runs.proofs.OneChain.{same_chain}
use Rattle.slots.specs.Layout.{whole_of, left_of, marker_of, opens_of, closes_of, chain_of, first_group_of, latest_group_of, link_of}

-- the slot n holds this run, which is in no group yet and on no chain
pub record Slotted (w : List ℕ) (n : ℕ) (r : Standing) : Type 0 where
  pub marked : is_marker r.marker ≡ true
  pub whole : whole_of w n ≡ r.whole
  pub left : left_of w n ≡ r.left
  pub marker : marker_of w n ≡ r.marker
  pub opens : opens_of w n ≡ r.opens
  pub closes : closes_of w n ≡ r.closes
  pub chain : chain_of w n ≡ chain_number r
  pub chain_known : chain_of w n < 6147
  pub first_group : first_group_of w n ≡ 0
  pub latest_group : latest_group_of w n ≡ 0
  pub link : link_of w n ≡ 0

-- the slots hold these runs, in their order
pub record Holds (w : List ℕ) (rs : List Standing) : Type 0 where
  pub few : length rs ≤ 1024
  pub slots : (j : ℕ) → j < length rs → Slotted w j (at rs j)

-- two slots have one chain just where their runs have one marker and one container
pub slots_together : (w : List ℕ) (rs : List Standing) (i j : ℕ) → Holds w rs → i < length rs → j < length rs →
    eqb (chain_of w i) (chain_of w j) ≡ and (eqb (at rs i).marker (at rs j).marker) (same_container (at rs i).container (at rs j).container)
slots_together w rs i j h a b =
    let x : Slotted w i (at rs i) = h.slots i a in
    let y : Slotted w j (at rs j) = h.slots j b in
    rw (x.chain, y.chain) (same_chain (at rs i) (at rs j) x.marked y.marked)
