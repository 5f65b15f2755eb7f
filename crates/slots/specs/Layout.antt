-- Where a resolver of attention keeps what in lent work memory: fixed slots with chain numbers, and the open runs as a stack with a height.
--
--     from     to       what                        one of them
--          0   16,384   a slot to each of 1,024     16 bytes: whole size (2), markers left (2), marker (1), can open (1), can close (1),
--                       runs, in the record's       none (1), number of its chain (2), link: the next older run on its chain (2), its first
--                       order                       group as a closer (2), its latest group as an opener (2)
--     16,384   28,678   the head of each of 6,147   2 bytes: the latest run on the chain
--                       chains
--     28,678   30,726   the open runs, the oldest   2 bytes: the run
--                       first; how many is a
--                       number beside them
--     30,726   38,726   the first 1,000 groups,     8 bytes: opener (2), closer (2), taken (2), the opener's earlier group (2)
--                       in match order
--
-- A link, a head, and the three places that name a group hold the number plus 1, or 0 for none. The chain of a run is one of three to each
-- container: 3 × (number of the container's enter event plus 1, or 0 for none), plus 0 for `*`, 1 for `_` and 2 for `~`. Of 2,048 events
-- the last 2,047 plus 1 gives 3 × 2,048 + 2 at most. Sizes are 16,384 at most, so that two bytes hold them.
-- Assumes nothing.
use Rattle.std.specs.Prelude.{ℕ, ◌+◌, ◌*◌, ◌≤◌, List, Bool, true, false, not, eqb, length, get_or, set}
use Rattle.slots.specs.Words.{get16, put16}

-- the memory is long enough
abbrev pub Room : List ℕ → Type 0
Room w = 38726 ≤ length w

-- a run's slot
abbrev pub whole_of : List ℕ → ℕ → ℕ
whole_of w i = get16 w (i * 16)

abbrev pub left_of : List ℕ → ℕ → ℕ
left_of w i = get16 w (i * 16 + 2)

abbrev pub marker_of : List ℕ → ℕ → ℕ
marker_of w i = get_or w (i * 16 + 4) 0

abbrev pub opens_of : List ℕ → ℕ → Bool
opens_of w i = not (eqb (get_or w (i * 16 + 5) 0) 0)

abbrev pub closes_of : List ℕ → ℕ → Bool
closes_of w i = not (eqb (get_or w (i * 16 + 6) 0) 0)

abbrev pub chain_of : List ℕ → ℕ → ℕ
chain_of w i = get16 w (i * 16 + 8)

abbrev pub link_of : List ℕ → ℕ → ℕ
link_of w i = get16 w (i * 16 + 10)

abbrev pub first_group_of : List ℕ → ℕ → ℕ
first_group_of w i = get16 w (i * 16 + 12)

abbrev pub latest_group_of : List ℕ → ℕ → ℕ
latest_group_of w i = get16 w (i * 16 + 14)

-- the head of a chain, and the open run at a height
abbrev pub head_of : List ℕ → ℕ → ℕ
head_of w k = get16 w (16384 + k * 2)

abbrev pub open_at : List ℕ → ℕ → ℕ
open_at w h = get16 w (28678 + h * 2)

-- a group
abbrev pub group_opener : List ℕ → ℕ → ℕ
group_opener w g = get16 w (30726 + g * 8)

abbrev pub group_closer : List ℕ → ℕ → ℕ
group_closer w g = get16 w (30726 + g * 8 + 2)

abbrev pub group_taken : List ℕ → ℕ → ℕ
group_taken w g = get16 w (30726 + g * 8 + 4)

abbrev pub group_earlier : List ℕ → ℕ → ℕ
group_earlier w g = get16 w (30726 + g * 8 + 6)

-- the same places written
abbrev pub with_whole : List ℕ → ℕ → ℕ → List ℕ
with_whole w i v = put16 w (i * 16) v

abbrev pub with_left : List ℕ → ℕ → ℕ → List ℕ
with_left w i v = put16 w (i * 16 + 2) v

abbrev pub with_marker : List ℕ → ℕ → ℕ → List ℕ
with_marker w i v = set w (i * 16 + 4) v

-- a flag is a byte, 0 or 1
abbrev pub bit : Bool → ℕ
bit true = 1
bit false = 0

abbrev pub with_opens : List ℕ → ℕ → ℕ → List ℕ
with_opens w i v = set w (i * 16 + 5) v

abbrev pub with_closes : List ℕ → ℕ → ℕ → List ℕ
with_closes w i v = set w (i * 16 + 6) v

abbrev pub with_chain : List ℕ → ℕ → ℕ → List ℕ
with_chain w i v = put16 w (i * 16 + 8) v

abbrev pub with_link : List ℕ → ℕ → ℕ → List ℕ
with_link w i v = put16 w (i * 16 + 10) v

abbrev pub with_first_group : List ℕ → ℕ → ℕ → List ℕ
with_first_group w i v = put16 w (i * 16 + 12) v

abbrev pub with_latest_group : List ℕ → ℕ → ℕ → List ℕ
with_latest_group w i v = put16 w (i * 16 + 14) v

abbrev pub with_head : List ℕ → ℕ → ℕ → List ℕ
with_head w k v = put16 w (16384 + k * 2) v

abbrev pub with_open_at : List ℕ → ℕ → ℕ → List ℕ
with_open_at w h v = put16 w (28678 + h * 2) v

abbrev pub with_group_opener : List ℕ → ℕ → ℕ → List ℕ
with_group_opener w g v = put16 w (30726 + g * 8) v

abbrev pub with_group_closer : List ℕ → ℕ → ℕ → List ℕ
with_group_closer w g v = put16 w (30726 + g * 8 + 2) v

abbrev pub with_group_taken : List ℕ → ℕ → ℕ → List ℕ
with_group_taken w g v = put16 w (30726 + g * 8 + 4) v

abbrev pub with_group_earlier : List ℕ → ℕ → ℕ → List ℕ
with_group_earlier w g v = put16 w (30726 + g * 8 + 6) v

-- a group written whole: opener, closer, taken, the opener's earlier group plus 1
abbrev pub with_group : List ℕ → ℕ → ℕ → ℕ → ℕ → ℕ → List ℕ
with_group w g o c k e = with_group_earlier (with_group_taken (with_group_closer (with_group_opener w g o) g c) g k) g e
