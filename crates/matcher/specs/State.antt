-- What holds of lent work memory before the first match, and between two closers; and what the step that handles a closer asks of it, which is less.
-- Assumes nothing.
use Rattle.std.specs.Prelude.{ℕ, ◌+◌, ◌<◌, ◌≤◌, ◌≡◌, List}
use Rattle.runs.specs.Plain.{Standing, Group}
use Rattle.slots.specs.Layout.{Room, left_of, link_of, head_of, chain_of, open_at, first_group_of, latest_group_of}
use Rattle.chains.specs.Walk.{Sound}
use Rattle.matcher.specs.Chains.{Reads, Listed}
use Rattle.matcher.specs.Groups.{Grouped}

-- before the first match: the runs stand in their slots, all chains are empty, and no run has a group
pub record Fresh (w : List ℕ) (rs : List Standing) (n : ℕ) : Type 0 where
  pub room : Room w
  pub few : n ≤ 1024
  pub reads : Reads w rs n
  pub chains : (j : ℕ) → j < n → chain_of w j < 6147
  pub falls : (j : ℕ) → j < n → link_of w j ≤ j
  pub heads : (k : ℕ) → k < 6147 → head_of w k ≡ 0
  pub first : (j : ℕ) → j < n → first_group_of w j ≡ 0
  pub latest : (j : ℕ) → j < n → latest_group_of w j ≡ 0

-- between two closers: the runs stand in their slots as the plain rule has them, the chains list those before the run i that can still open,
-- and the groups made so far are there
pub record Ready (w : List ℕ) (height : ℕ) (rs : List Standing) (gs : List Group) (n i : ℕ) : Type 0 where
  pub room : Room w
  pub few : n ≤ 1024
  pub within : i ≤ n
  pub falls : (j : ℕ) → j < n → link_of w j ≤ j
  pub chains : (j : ℕ) → j < n → chain_of w j < 6147
  pub reads : Reads w rs n
  pub listed : Listed w height rs i
  pub grouped : Grouped w gs n

-- p, which is a run's number plus 1, names a run of the chain k that stands among the open runs, below a height
pub record OpenOn (w : List ℕ) (k height p : ℕ) : Type 0 where
  pub place : ℕ
  pub below : place < height
  pub stands : open_at w place + 1 ≡ p
  pub chain : chain_of w (open_at w place) ≡ k

-- at the run `from` of n, of the memory alone: links fall and numbers are in range; the open runs are earlier runs, in order, with markers left; and
-- what a head, or the link of an open run, names is an open run of that chain, for a link one further down. It does not say that an open run is on its
-- chain or can open; and of runs that are not open it says no more than that numbers are in range
pub record InOrder (w : List ℕ) (height n from : ℕ) : Type 0 where
  pub sound : Sound w height n from
  pub earlier : (x : ℕ) → x < height → open_at w x < from
  pub rise : (x y : ℕ) → x < y → y < height → open_at w x < open_at w y
  pub left : (x : ℕ) → x < height → 0 < left_of w (open_at w x)
  pub heads : (k : ℕ) → k < 6147 → 0 < head_of w k → OpenOn w k height (head_of w k)
  pub links : (x : ℕ) → x < height → 0 < link_of w (open_at w x) → OpenOn w (chain_of w (open_at w x)) x (link_of w (open_at w x))
