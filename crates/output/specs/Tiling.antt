-- The pieces of the runs: how they lie side by side, and which bytes they hold. Document 01, section "Attention": "The opener gives its last
-- bytes, the closer its first."
-- Assumes nothing.
use Rattle.std.specs.Prelude.{ℕ, ◌+◌, ◌≤◌, ◌<◌, ◌≡◌, List, [], ◌∷◌, ◌++◌, leb, ltb}
use Rattle.record.specs.Choice.{choose, and}
use Rattle.runs.specs.Runs.{Run}
use Rattle.runs.specs.Plain.{Group}
use Rattle.runs.specs.Pieces.{Piece, closing_pieces, opening_pieces, left_from, left_to, remains}

-- the leftover of the run q, as a piece of name 0, Data
unfoldable pub leftover_piece : List Group → ℕ → Run → List Piece
leftover_piece gs q r = choose (remains gs q r) (record { name = 0; from = left_from gs q r; to = left_to gs q r } ∷ []) []

-- all pieces of the run q, in the order of document 01: "its closing pieces in match order .., then the leftover .., then its opening pieces"
unfoldable pub pieces_of : List Group → ℕ → Run → List Piece
pieces_of gs q r = closing_pieces gs q r ++ (leftover_piece gs q r ++ opening_pieces gs q r)

-- the pieces of some runs, the first of which has number q
unfoldable pub all_pieces : List Group → ℕ → List Run → List Piece
all_pieces gs q [] = []
all_pieces gs q (r ∷ rs) = pieces_of gs q r ++ all_pieces gs (q + 1) rs

-- pieces that lie side by side from one place up to another, in rising order, without gaps, and none of them empty
pub data Tiles : ℕ → List Piece → ℕ → Type 0 where
  none : {at : ℕ} → Tiles at [] at
  next : {at end : ℕ} {p : Piece} {ps : List Piece} → p.from ≡ at → at < p.to → Tiles p.to ps end → Tiles at (p ∷ ps) end

-- how many of some pieces hold the byte at a place
unfoldable pub holding : ℕ → List Piece → ℕ
holding at [] = 0
holding at (p ∷ ps) = choose (and (leb p.from at) (ltb at p.to)) (1 + holding at ps) (holding at ps)

-- how the groups divide the run q: closing pieces first, from its start, then the leftover, then opening pieces up to its end
pub record Divided (gs : List Group) (q : ℕ) (r : Run) : Type 0 where
  pub first : Tiles r.start (closing_pieces gs q r) (left_from gs q r)
  pub middle : Tiles (left_from gs q r) (leftover_piece gs q r) (left_to gs q r)
  pub last : Tiles (left_to gs q r) (opening_pieces gs q r) (r.start + r.size)
  pub whole : Tiles r.start (pieces_of gs q r) (r.start + r.size)

-- the byte at a place is a marker of one of some runs
pub data Marker (at : ℕ) : List Run → Type 0 where
  here : {r : Run} {rs : List Run} → r.start ≤ at → at < r.start + r.size → Marker at (r ∷ rs)
  there : {r : Run} {rs : List Run} → Marker at rs → Marker at (r ∷ rs)
