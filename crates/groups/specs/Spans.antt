-- The span and the text of a group, as byte ranges: the span goes from the first byte of its opening piece to the last of its closing piece,
-- the text is what stands between these two. Document 01, section "Attention": "The opener gives its last bytes, the closer its first." Of two
-- matches of one opener the later one's piece stands further left, of two matches of one closer further right.
-- `Held` says that these are the pieces that runs' Pieces has. `Apart` says of two groups that they do not cross.
-- Assumes nothing.
use Rattle.std.specs.Prelude.{ℕ, suc, ◌+◌, ◌-◌, ◌≤◌, ◌<◌, ◌≡◌, List, ◌∷◌, ◌++◌, length, take}
use Rattle.runs.specs.Runs.{Run}
use Rattle.runs.specs.Plain.{Group, group_at}
use Rattle.runs.specs.Pieces.{Piece, piece, closed, opened, closing_pieces, opening_pieces}
use Rattle.groups.specs.Places.{run_at}

-- the runs of the group i
abbrev pub opener_of : List Run → List Group → ℕ → Run
opener_of rs gs i = run_at rs (group_at gs i).opener

abbrev pub closer_of : List Run → List Group → ℕ → Run
closer_of rs gs i = run_at rs (group_at gs i).closer

-- its opening piece stands before those that its opener gave to earlier groups
unfoldable pub span_from : List Run → List Group → ℕ → ℕ
span_from rs gs i = (opener_of rs gs i).start + (opener_of rs gs i).size - opened (take (suc i) gs) (group_at gs i).opener

unfoldable pub text_from : List Run → List Group → ℕ → ℕ
text_from rs gs i = (opener_of rs gs i).start + (opener_of rs gs i).size - opened (take i gs) (group_at gs i).opener

-- its closing piece stands after those that its closer gave to earlier groups
unfoldable pub text_to : List Run → List Group → ℕ → ℕ
text_to rs gs i = (closer_of rs gs i).start + closed (take i gs) (group_at gs i).closer

unfoldable pub span_to : List Run → List Group → ℕ → ℕ
span_to rs gs i = (closer_of rs gs i).start + closed (take (suc i) gs) (group_at gs i).closer

-- a piece is one of these
pub record Among (p : Piece) (ps : List Piece) : Type 0 where
  pub before : List Piece
  pub behind : List Piece
  pub split : ps ≡ before ++ (p ∷ behind)

-- the group i has these two pieces, with some text, or none, between them
pub record Held (rs : List Run) (gs : List Group) (i : ℕ) : Type 0 where
  pub opening : Among (piece (opener_of rs gs i).marker (group_at gs i).taken (span_from rs gs i) (text_from rs gs i)) (opening_pieces gs (group_at gs i).opener (opener_of rs gs i))
  pub closing : Among (piece (closer_of rs gs i).marker (group_at gs i).taken (text_to rs gs i) (span_to rs gs i)) (closing_pieces gs (group_at gs i).closer (closer_of rs gs i))
  pub opening_size : span_from rs gs i + (group_at gs i).taken ≡ text_from rs gs i
  pub closing_size : text_to rs gs i + (group_at gs i).taken ≡ span_to rs gs i
  pub in_order : text_from rs gs i ≤ text_to rs gs i

-- two groups do not cross: the span of one lies before the other's, or within the other's text
pub data Apart (rs : List Run) (gs : List Group) (i j : ℕ) : Type 0 where
  before : span_to rs gs i ≤ span_from rs gs j → Apart rs gs i j
  behind : span_to rs gs j ≤ span_from rs gs i → Apart rs gs i j
  inside : text_from rs gs j ≤ span_from rs gs i → span_to rs gs i ≤ text_to rs gs j → Apart rs gs i j
  around : text_from rs gs i ≤ span_from rs gs j → span_to rs gs j ≤ text_to rs gs i → Apart rs gs i j

-- Demand 3: "No two groups cross". Their spans are disjoint, or one lies within the other's text.
abbrev pub NeverCross : List Run → List Group → Type 0
NeverCross rs gs = (i j : ℕ) → (i ≡ j → ⊥) → i < length gs → j < length gs → Apart rs gs i j

-- the same of run numbers, of two groups of which i was matched first: it lies before the other, or the other goes around it
pub data Ordered (gs : List Group) (i j : ℕ) : Type 0 where
  earlier : (group_at gs i).closer ≤ (group_at gs j).opener → Ordered gs i j
  nested : (group_at gs j).opener ≤ (group_at gs i).opener → (group_at gs i).closer ≤ (group_at gs j).closer → Ordered gs i j
