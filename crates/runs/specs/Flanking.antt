-- Which runs can open and which can close: CommonMark 0.31 §6.2, and apart from it the crate's clause on neighbouring markers, an amendment
-- that a profile switches on. Taking `beside_marker` out of the two functions that mention it gives the standard's rule, over these classes and
-- these neighbours.
-- Assumes nothing.
use Rattle.std.specs.Prelude.{ℕ, Bool, true, false, not, ◌&&◌, ◌||◌, eqb}
use Rattle.record.specs.Choice.{choose}
use Rattle.classes.specs.Class.{class_of}
use Rattle.classes.specs.declared.Class.{Class}
use Rattle.classes.specs.declared.Class.TheVariants.{Other, Whitespace, Punctuation}
use Rattle.characters.specs.Beside.{Neighbour, Edge, Character, Malformed}

abbrev pub is_whitespace : Class → Bool
is_whitespace Other = false
is_whitespace Whitespace = true
is_whitespace Punctuation = false

abbrev pub is_punctuation : Class → Bool
is_punctuation Other = false
is_punctuation Whitespace = false
is_punctuation Punctuation = true

-- the class of what stands beside a run: "the beginning and the end of the line count as Unicode whitespace". In document 01 they are those
-- of the document; a line's own are its line feeds, which are whitespace too. Amendment D19: where a line begins behind the mark of a block
-- quote, that mark is what stands before a run there (`standard_before` in specs/Runs.antt is the standard's). "A malformed or cut UTF-8 sequence
-- next to a run is other": the standard speaks of characters alone.
unfoldable pub class_beside : Neighbour → Class
class_beside Edge = Whitespace
class_beside (Character c) = class_of c
class_beside Malformed = Other

-- "A left-flanking delimiter run is a delimiter run that is (1) not followed by Unicode whitespace, and either (2a) not followed by a Unicode
-- punctuation character, or (2b) followed by a Unicode punctuation character and preceded by Unicode whitespace or a Unicode punctuation
-- character."
unfoldable pub left_flanking : Class → Class → Bool
left_flanking before after =
    not (is_whitespace after)
    && (not (is_punctuation after) || (is_punctuation after && (is_whitespace before || is_punctuation before)))

-- "A right-flanking delimiter run is a delimiter run that is (1) not preceded by Unicode whitespace, and either (2a) not preceded by a Unicode
-- punctuation character, or (2b) preceded by a Unicode punctuation character and followed by Unicode whitespace or a Unicode punctuation
-- character."
unfoldable pub right_flanking : Class → Class → Bool
right_flanking before after =
    not (is_whitespace before)
    && (not (is_punctuation before) || (is_punctuation before && (is_whitespace after || is_punctuation after)))

-- Amendment D4: "the marker isn't `~` and the next byte is `*`, `_`, or (option 2) `~`". `strike` says whether option 2 is on. Such a byte is a
-- character by itself, and no part of another.
unfoldable pub beside_marker : Bool → ℕ → Neighbour → Bool
beside_marker strike marker Edge = false
beside_marker strike marker (Character c) = not (eqb marker 126) && (eqb c 42 || (eqb c 95 || (eqb c 126 && strike)))
beside_marker strike marker Malformed = false

-- left- and right-flanking, as a profile has them: `amended` says whether amendment D4 holds
unfoldable pub flanks_left : Bool → Bool → ℕ → Neighbour → Neighbour → Bool
flanks_left amended strike marker before after =
    left_flanking (class_beside before) (class_beside after) || (amended && beside_marker strike marker after)

unfoldable pub flanks_right : Bool → Bool → ℕ → Neighbour → Neighbour → Bool
flanks_right amended strike marker before after =
    right_flanking (class_beside before) (class_beside after) || (amended && beside_marker strike marker before)

-- Rule 1: "A single * character can open emphasis iff (if and only if) it is part of a left-flanking delimiter run." Rule 5 says the same of
-- a double ** and strong emphasis. `~` opens as `*` does.
abbrev pub star_opens : Bool → Bool → Bool
star_opens left right = left

-- Rule 2: "A single _ character can open emphasis iff it is part of a left-flanking delimiter run and either (a) not part of a right-flanking
-- delimiter run or (b) part of a right-flanking delimiter run preceded by a Unicode punctuation character." Rule 6 says the same of a double
-- __ and strong emphasis.
abbrev pub line_opens : Bool → Bool → Class → Bool
line_opens left right before = left && (not right || (right && is_punctuation before))

-- Rule 3: "A single * character can close emphasis iff it is part of a right-flanking delimiter run." Rule 7 says the same of a double **
-- and strong emphasis. `~` closes as `*` does.
abbrev pub star_closes : Bool → Bool → Bool
star_closes left right = right

-- Rule 4: "A single _ character can close emphasis iff it is part of a right-flanking delimiter run and either (a) not part of a left-flanking
-- delimiter run or (b) part of a left-flanking delimiter run followed by a Unicode punctuation character." Rule 8 says the same of a double
-- __ and strong emphasis.
abbrev pub line_closes : Bool → Bool → Class → Bool
line_closes left right after = right && (not left || (left && is_punctuation after))

-- whether a run of this marker, between these neighbours, can open
unfoldable pub can_open : Bool → Bool → ℕ → Neighbour → Neighbour → Bool
can_open amended strike marker before after =
    let left = flanks_left amended strike marker before after in
    let right = flanks_right amended strike marker before after in
    choose (eqb marker 95) (line_opens left right (class_beside before)) (star_opens left right)

-- whether it can close
unfoldable pub can_close : Bool → Bool → ℕ → Neighbour → Neighbour → Bool
can_close amended strike marker before after =
    let left = flanks_left amended strike marker before after in
    let right = flanks_right amended strike marker before after in
    choose (eqb marker 95) (line_closes left right (class_beside after)) (star_closes left right)
