-- The characters beside a place of a document.
-- Assumes nothing.
use Rattle.std.specs.Prelude.{ℕ, zero, suc, ◌-◌, cond, List, ltb, length, take, drop, Option, None, Some}
use Rattle.characters.specs.Utf8.{character_of}

-- what stands beside a place: nothing, since the document begins or ends there; a character; or bytes that are no well-formed UTF-8
pub data Neighbour : Type 0 where
  Edge : Neighbour
  Character : ℕ → Neighbour
  Malformed : Neighbour

abbrev pub or_else : Option ℕ → Option ℕ → Option ℕ
or_else (Some c) other = Some c
or_else None other = other

-- the character that begins at a place: some of the bytes from there on are its form, whatever stands behind them. A form has one to four bytes, and none
-- is the beginning of another.
unfoldable pub character_from : List ℕ → ℕ → Option ℕ
character_from doc at =
    let rest = drop at doc in
    or_else (character_of (take 1 rest)) (or_else (character_of (take 2 rest)) (or_else (character_of (take 3 rest)) (character_of (take 4 rest))))

-- the character that ends exactly at a place: the last bytes up to there are its form, whatever stands before them. None is the end of another.
unfoldable pub character_up_to : List ℕ → ℕ → Option ℕ
character_up_to doc at =
    let front = take at doc in
    or_else (character_of (drop (at - 1) front))
    (or_else (character_of (drop (at - 2) front)) (or_else (character_of (drop (at - 3) front)) (character_of (drop (at - 4) front))))

-- "A malformed or cut UTF-8 sequence" is a neighbour too, and no character
abbrev pub found : Option ℕ → Neighbour
found (Some c) = Character c
found None = Malformed

-- what stands before a place and after it: nothing at the document's edges
unfoldable pub neighbour_before : List ℕ → ℕ → Neighbour
neighbour_before doc zero = Edge
neighbour_before doc (suc at) = cond (ltb at (length doc)) (found (character_up_to doc (suc at))) Edge

unfoldable pub neighbour_after : List ℕ → ℕ → Neighbour
neighbour_after doc at = cond (ltb at (length doc)) (found (character_from doc at)) Edge
