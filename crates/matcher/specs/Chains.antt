-- What lent work memory says of a list of runs: each run's slot, and the chains.
-- Document 01: "After each closer the chains, one per marker and container, list exactly the runs up to it with markers left that can still
-- open, latest first, as the plain rule has them on finishing that closer".
-- Here it is said as the memory has it, link by link: the head of a chain is the latest such run, and the link of each is the latest such run before
-- it. crates/claims/specs/ChainsAsLists.antt has the lists themselves.
-- Assumes nothing.
use Rattle.std.specs.Prelude.{ℕ, zero, suc, ◌+◌, ◌<◌, ◌≡◌, Bool, true, List, eqb, length}
use Rattle.record.specs.Choice.{choose, and}
use Rattle.runs.specs.Runs.{is_marker}
use Rattle.runs.specs.Plain.{Standing, at, opener}
use Rattle.runs.specs.Chains.{chain_number}
use Rattle.slots.specs.Layout.{whole_of, left_of, marker_of, opens_of, closes_of, chain_of, link_of, head_of, open_at}

-- slot by slot the memory has the runs of a list. Whether a run opens is asked only while it has markers left: after that nothing looks
pub record Reads (w : List ℕ) (rs : List Standing) (n : ℕ) : Type 0 where
  pub len : length rs ≡ n
  pub whole : (j : ℕ) → j < n → whole_of w j ≡ (at rs j).whole
  pub left : (j : ℕ) → j < n → left_of w j ≡ (at rs j).left
  pub marker : (j : ℕ) → j < n → marker_of w j ≡ (at rs j).marker
  pub opens : (j : ℕ) → j < n → 0 < left_of w j → opens_of w j ≡ (at rs j).opens
  pub closes : (j : ℕ) → j < n → closes_of w j ≡ (at rs j).closes
  pub chain : (j : ℕ) → j < n → chain_of w j ≡ chain_number (at rs j)
  pub known : (j : ℕ) → j < n → is_marker (at rs j).marker ≡ true

-- "with markers left that can still open", on the chain k
unfoldable pub on : List Standing → ℕ → ℕ → Bool
on rs k j = and (opener (at rs j)) (eqb (chain_number (at rs j)) k)

-- the latest run below a number that is on the chain k: its number plus 1, or 0
unfoldable pub latest : List Standing → ℕ → ℕ → ℕ
latest rs k zero = 0
latest rs k (suc j) = choose (on rs k j) (j + 1) (latest rs k j)

-- how many runs below a number have markers left and can open
unfoldable pub openers : List Standing → ℕ → ℕ
openers rs zero = 0
openers rs (suc j) = choose (opener (at rs j)) (openers rs j + 1) (openers rs j)

-- the chains list exactly the runs below i with markers left that can still open, latest first; the open runs are all of these, in order
pub record Listed (w : List ℕ) (height : ℕ) (rs : List Standing) (i : ℕ) : Type 0 where
  pub heads : (k : ℕ) → k < 6147 → head_of w k ≡ latest rs k i
  pub links : (j : ℕ) → j < i → opener (at rs j) ≡ true → link_of w j ≡ latest rs (chain_number (at rs j)) j
  pub high : height ≡ openers rs i
  pub stack : (j : ℕ) → j < i → opener (at rs j) ≡ true → open_at w (openers rs j) ≡ j
