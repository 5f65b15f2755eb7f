-- How the content of a heading's line parts its pieces: statements, which proofs/Parting.antt proves for every line that is a heading. The pieces
-- of the content are those of the line that stand from its first byte to its last, and what is before and behind them is what §4.2 takes off.
-- Assumes nothing.
use Rattle.std.specs.Prelude.{ℕ, ◌≡◌, true, ◌⊎◌, List, [], ◌∷◌, ◌++◌, length, take, drop}
use Rattle.atx.specs.Heading.{is_heading, piece, split}
use Rattle.atx.specs.Content.{content, content_from, content_to}
use Rattle.atx.specs.declared.Piece.{Piece}

-- spaces and tabs, or nothing
pub data Blank : List Piece → Type 0 where
  none : Blank []
  some : {n : ℕ} → Blank (piece 14 n ∷ [])

-- the opening sequence, which may be indented, and spaces and tabs
pub data Opened : List Piece → Type 0 where
  bare : {n : ℕ} {ps : List Piece} → Blank ps → Opened (piece 12 n ∷ ps)
  indented : {i n : ℕ} {ps : List Piece} → Blank ps → Opened (piece 14 i ∷ piece 12 n ∷ ps)

-- a closing sequence, behind spaces and tabs
pub data Closed : List Piece → Type 0 where
  closing : {b n : ℕ} {ps : List Piece} → Blank ps → Closed (piece 14 b ∷ piece 12 n ∷ ps)

-- Data or a run of `#`
abbrev pub DataOrRun : ℕ → Type 0
DataOrRun name = (name ≡ 0) ⊎ (name ≡ 12)

-- a line with content, which begins and ends with Data or a run of `#`, and ends with Data where no closing sequence is behind it
pub record Filled (l : List ℕ) : Type 0 where
  pub parts : split l ≡ split (take (content_from l) l) ++ (split (content l) ++ split (drop (content_to l) l))
  pub there : take (length (content l)) (drop (content_from l) l) ≡ content l
  pub opened : Opened (split (take (content_from l) l))
  pub begin : Piece
  pub onward : List Piece
  pub begins : split (content l) ≡ begin ∷ onward
  pub begins_with : DataOrRun begin.name
  pub end : Piece
  pub before : List Piece
  pub ends : split (content l) ≡ before ++ (end ∷ [])
  pub ends_with : DataOrRun end.name
  pub behind : (Blank (split (drop (content_to l) l)) × (end.name ≡ 0)) ⊎ Closed (split (drop (content_to l) l))

-- a line without: nothing but the opening sequence, or that and a closing one
pub record Empty (l : List ℕ) : Type 0 where
  pub front : List Piece
  pub back : List Piece
  pub parts : split l ≡ front ++ back
  pub opened : Opened front
  pub behind : (back ≡ []) ⊎ ((n : ℕ) × (ps : List Piece) × (back ≡ piece 12 n ∷ ps) × Blank ps)

-- each line that is a heading is one of the two, by its content
pub record Parted (l : List ℕ) : Type 0 where
  pub filled : (content l ≡ [] → ⊥) → Filled l
  pub empty : content l ≡ [] → Empty l

abbrev pub PartedByContent : Type 0
PartedByContent = (options column : ℕ) (l : List ℕ) → is_heading l options column ≡ true → Parted l
