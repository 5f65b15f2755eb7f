-- What holds of UTF-8 and of the characters beside a place, said by the encoder alone, and what stands beside a place by one byte. proofs/Decoding.antt,
-- proofs/Places.antt and proofs/Neighbours.antt prove these, each under its name in small letters.
-- Assumes nothing.
use Rattle.std.specs.Prelude.{ℕ, suc, ◌<◌, ◌≤◌, ◌≡◌, true, List, ◌++◌, length, get_or, take, drop, Some}
use Rattle.characters.specs.Utf8.{character_of, is_character, utf8}
use Rattle.characters.specs.Beside.{character_from, character_up_to, neighbour_before, neighbour_after}
use Rattle.characters.specs.Beside.{Neighbour, Edge, Character, Malformed}

-- these bytes are the form of this character
pub record Form (bs : List ℕ) (c : ℕ) : Type 0 where
  pub character : is_character c ≡ true
  pub bytes : utf8 c ≡ bs

-- what is found in some bytes is a character whose form they are: encoding it gives the bytes back
abbrev pub DecodedIsForm : Type 0
DecodedIsForm = (bs : List ℕ) (c : ℕ) → character_of bs ≡ Some c → Form bs c

-- and a character is found in its form
abbrev pub FormIsDecoded : Type 0
FormIsDecoded = (bs : List ℕ) (c : ℕ) → Form bs c → character_of bs ≡ Some c

-- so bytes are the form of one character at most
abbrev pub OneCharacter : Type 0
OneCharacter = (bs : List ℕ) (c d : ℕ) → Form bs c → Form bs d → c ≡ d

-- the character that begins at a place: its form stands there, whatever stands behind it
pub record Begins (doc : List ℕ) (at c : ℕ) : Type 0 where
  pub character : is_character c ≡ true
  pub behind : List ℕ
  pub stands : drop at doc ≡ utf8 c ++ behind

abbrev pub FoundBegins : Type 0
FoundBegins = (doc : List ℕ) (at c : ℕ) → character_from doc at ≡ Some c → Begins doc at c

abbrev pub BeginsFound : Type 0
BeginsFound = (doc : List ℕ) (at c : ℕ) → Begins doc at c → character_from doc at ≡ Some c

-- the character that ends exactly at a place: its form stands up to there, whatever stands before it
pub record Ends (doc : List ℕ) (at c : ℕ) : Type 0 where
  pub character : is_character c ≡ true
  pub before : List ℕ
  pub stands : take at doc ≡ before ++ utf8 c

abbrev pub FoundEnds : Type 0
FoundEnds = (doc : List ℕ) (at c : ℕ) → character_up_to doc at ≡ Some c → Ends doc at c

-- this one of a place of the document: of a place far past its end the last four bytes are none
abbrev pub EndsFound : Type 0
EndsFound = (doc : List ℕ) (at c : ℕ) → at ≤ length doc → Ends doc at c → character_up_to doc at ≡ Some c

-- nothing stands before the document's beginning
abbrev pub EdgeFirst : Type 0
EdgeFirst = (doc : List ℕ) → neighbour_before doc 0 ≡ Edge

-- the document's end has nothing after it, and a place past the end has nothing before it either
abbrev pub EdgeAfter : Type 0
EdgeAfter = (doc : List ℕ) (at : ℕ) → length doc ≤ at → neighbour_after doc at ≡ Edge

abbrev pub EdgeBefore : Type 0
EdgeBefore = (doc : List ℕ) (at : ℕ) → length doc ≤ at → neighbour_before doc (suc at) ≡ Edge

-- a byte below 128 is the character beside it
abbrev pub AsciiAfter : Type 0
AsciiAfter = (doc : List ℕ) (at : ℕ) → at < length doc → get_or doc at 0 < 128 → neighbour_after doc at ≡ Character (get_or doc at 0)

abbrev pub AsciiBefore : Type 0
AsciiBefore = (doc : List ℕ) (at : ℕ) → at < length doc → get_or doc at 0 < 128 → neighbour_before doc (suc at) ≡ Character (get_or doc at 0)

-- past ASCII: no character, or one from 128 up
pub data Past : Neighbour → Type 0 where
  malformed : Past Malformed
  character : (c : ℕ) → 128 ≤ c → Past (Character c)

-- which is what stands beside any other byte
abbrev pub PastAfter : Type 0
PastAfter = (doc : List ℕ) (at : ℕ) → at < length doc → 128 ≤ get_or doc at 0 → Past (neighbour_after doc at)

abbrev pub PastBefore : Type 0
PastBefore = (doc : List ℕ) (at : ℕ) → at < length doc → 128 ≤ get_or doc at 0 → Past (neighbour_before doc (suc at))

-- inside the document: a character stands after a place just where one begins, and before it just where one ends
abbrev pub CharacterAfter : Type 0
CharacterAfter =
    (doc : List ℕ) (at c : ℕ) → at < length doc → (neighbour_after doc at ≡ Character c → Begins doc at c) × (Begins doc at c → neighbour_after doc at ≡ Character c)

abbrev pub CharacterBefore : Type 0
CharacterBefore =
    (doc : List ℕ) (at c : ℕ) → at < length doc →
    (neighbour_before doc (suc at) ≡ Character c → Ends doc (suc at) c) × (Ends doc (suc at) c → neighbour_before doc (suc at) ≡ Character c)

-- and where none begins, or none ends, what stands there is malformed
abbrev pub MalformedAfter : Type 0
MalformedAfter = (doc : List ℕ) (at : ℕ) → at < length doc → ((c : ℕ) → Begins doc at c → ⊥) → neighbour_after doc at ≡ Malformed

abbrev pub MalformedBefore : Type 0
MalformedBefore = (doc : List ℕ) (at : ℕ) → at < length doc → ((c : ℕ) → Ends doc (suc at) c → ⊥) → neighbour_before doc (suc at) ≡ Malformed
