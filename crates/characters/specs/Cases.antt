-- Bytes beside a place, computed: whole characters of one to four bytes, and what is none.
-- Assumes nothing.
use Rattle.std.specs.Prelude.{ℕ, ◌+◌, ◌-◌, ◌*◌, ◌%◌, ◌≡◌, refl, List, [], ◌∷◌, map, true, false, length}
use Rattle.characters.specs.Ranges.{member}
use Rattle.characters.specs.Tables.{punctuation_ranges, space_ranges}
use Rattle.characters.specs.Utf8.{well_formed_rows, fits, fits_one, well_formed, value_of, character_of, utf8}
use Rattle.characters.specs.Beside.{character_from, character_up_to, neighbour_before, neighbour_after}
use Rattle.characters.specs.Beside.{Neighbour, Edge, Character, Malformed}

-- some bytes, a place among them, and what stands before it and after it
pub record Row : Type 0 where
  pub bytes : List ℕ
  pub at : ℕ
  pub before : Neighbour
  pub after : Neighbour

abbrev row : List ℕ → ℕ → Neighbour → Neighbour → Row
row bytes at before after = record { bytes = bytes; at = at; before = before; after = after }

-- `C2 C2 A0 *`: the no-break space ends at the run, whatever stands before it; and `C2 A0 A0` behind a run begins with one. Then « and é, 「 and an emoji of four
-- bytes; the bounds of each row of table 3-7: the last character of two bytes and the first of three, the last of three and the first of four, the last of all and
-- the last before the surrogates, F3 BF BF BF and F1 80 80 80, EC BF BF and the first behind the surrogates, F0 BF BF BF and F4 80 80 80. Then what is malformed:
-- `*` in two bytes, in three and in four; a surrogate; 110000; a form that is cut by the run or by the end; a follower alone; a form that begins before the place and
-- ends behind it; a follower behind a whole form. Then the edges.
unfoldable pub rows : List Row
rows =
    row (194 ∷ 194 ∷ 160 ∷ 42 ∷ []) 3 (Character 160) (Character 42)
    ∷ row (42 ∷ 194 ∷ 160 ∷ 160 ∷ []) 1 (Character 42) (Character 160)
    ∷ row (194 ∷ 171 ∷ 195 ∷ 169 ∷ []) 2 (Character 171) (Character 233)
    ∷ row (227 ∷ 128 ∷ 140 ∷ 240 ∷ 159 ∷ 152 ∷ 128 ∷ []) 3 (Character 12300) (Character 128512)
    ∷ row (223 ∷ 191 ∷ 224 ∷ 160 ∷ 128 ∷ []) 2 (Character 2047) (Character 2048)
    ∷ row (239 ∷ 191 ∷ 191 ∷ 240 ∷ 144 ∷ 128 ∷ 128 ∷ []) 3 (Character 65535) (Character 65536)
    ∷ row (244 ∷ 143 ∷ 191 ∷ 191 ∷ 237 ∷ 159 ∷ 191 ∷ []) 4 (Character 1114111) (Character 55295)
    ∷ row (243 ∷ 191 ∷ 191 ∷ 191 ∷ 241 ∷ 128 ∷ 128 ∷ 128 ∷ []) 4 (Character 1048575) (Character 262144)
    ∷ row (236 ∷ 191 ∷ 191 ∷ 238 ∷ 128 ∷ 128 ∷ []) 3 (Character 53247) (Character 57344)
    ∷ row (240 ∷ 191 ∷ 191 ∷ 191 ∷ 244 ∷ 128 ∷ 128 ∷ 128 ∷ []) 4 (Character 262143) (Character 1048576)
    ∷ row (192 ∷ 170 ∷ 192 ∷ 170 ∷ []) 2 Malformed Malformed
    ∷ row (224 ∷ 128 ∷ 170 ∷ 224 ∷ 128 ∷ 170 ∷ []) 3 Malformed Malformed
    ∷ row (240 ∷ 128 ∷ 128 ∷ 170 ∷ 240 ∷ 128 ∷ 128 ∷ 170 ∷ []) 4 Malformed Malformed
    ∷ row (237 ∷ 160 ∷ 128 ∷ 237 ∷ 191 ∷ 191 ∷ []) 3 Malformed Malformed
    ∷ row (244 ∷ 144 ∷ 128 ∷ 128 ∷ 245 ∷ 128 ∷ 128 ∷ 128 ∷ []) 4 Malformed Malformed
    ∷ row (227 ∷ 128 ∷ 42 ∷ 227 ∷ 128 ∷ []) 2 Malformed (Character 42)
    ∷ row (227 ∷ 128 ∷ 42 ∷ 227 ∷ 128 ∷ []) 3 (Character 42) Malformed
    ∷ row (128 ∷ 42 ∷ 128 ∷ []) 1 Malformed (Character 42)
    ∷ row (128 ∷ 42 ∷ 128 ∷ []) 2 (Character 42) Malformed
    ∷ row (227 ∷ 128 ∷ 140 ∷ []) 2 Malformed Malformed
    ∷ row (195 ∷ 169 ∷ 169 ∷ []) 3 Malformed Edge
    ∷ row (97 ∷ []) 0 Edge (Character 97)
    ∷ row (97 ∷ []) 1 (Character 97) Edge
    ∷ row [] 0 Edge Edge
    ∷ []

pub befores : map (λ (r : Row). neighbour_before r.bytes r.at) rows ≡ map (λ (r : Row). r.before) rows
unfolding rows neighbour_before character_up_to character_of well_formed well_formed_rows fits_one fits value_of
befores = refl

pub afters : map (λ (r : Row). neighbour_after r.bytes r.at) rows ≡ map (λ (r : Row). r.after) rows
unfolding rows neighbour_after character_from character_of well_formed well_formed_rows fits_one fits value_of
afters = refl

-- the forms of `*`, é, 「 and an emoji
pub forms : map utf8 (42 ∷ 233 ∷ 12300 ∷ 128512 ∷ []) ≡ (42 ∷ []) ∷ (195 ∷ 169 ∷ []) ∷ (227 ∷ 128 ∷ 140 ∷ []) ∷ (240 ∷ 159 ∷ 152 ∷ 128 ∷ []) ∷ []
unfolding utf8
forms = refl

-- of the first, a middle and the last range of punctuation: what stands right before it, its first and its last, and what stands right behind; and each range of
-- spaces, with 6158, which was one in earlier versions
pub punctuation_bounds : map (member punctuation_ranges) (32 ∷ 33 ∷ 47 ∷ 48 ∷ 43123 ∷ 43124 ∷ 43127 ∷ 43128 ∷ 129939 ∷ 129940 ∷ 130031 ∷ 130032 ∷ [])
    ≡ false ∷ true ∷ true ∷ false ∷ false ∷ true ∷ true ∷ false ∷ false ∷ true ∷ true ∷ false ∷ []
unfolding member punctuation_ranges
punctuation_bounds = refl

pub space_bounds : map (member space_ranges) (31 ∷ 32 ∷ 33 ∷ 159 ∷ 160 ∷ 161 ∷ 5760 ∷ 6158 ∷ 8191 ∷ 8192 ∷ 8202 ∷ 8203 ∷ 8239 ∷ 8287 ∷ 12287 ∷ 12288 ∷ 12289 ∷ [])
    ≡ false ∷ true ∷ false ∷ false ∷ true ∷ false ∷ true ∷ false ∷ false ∷ true ∷ true ∷ false ∷ true ∷ true ∷ false ∷ true ∷ false ∷ []
unfolding member space_ranges
space_bounds = refl

-- how many characters lie in some ranges, and how many ranges there are: as specs/Tables.antt says of its two
unfoldable pub counted : List ℕ → ℕ
counted [] = 0
counted (first ∷ []) = 0
counted (first ∷ last ∷ t) = (last + 1 - first) + counted t

pub counts : (counted punctuation_ranges ≡ 9369) × (length punctuation_ranges ≡ 698) × (counted space_ranges ≡ 17) × (length space_ranges ≡ 14)
unfolding counted punctuation_ranges space_ranges
counts = (refl, refl, refl, refl)

-- a checksum of each table, which crates/characters/tables takes from Unicode's file: the bounds as the digits of one number in base 1,114,112, by 2,147,483,647.
-- A range that is moved in the definition and in the code alike, so that the counts hold, shows here
unfoldable pub checksum : ℕ → List ℕ → ℕ
checksum sum [] = sum
checksum sum (bound ∷ t) = checksum ((sum * 1114112 + bound) % 2147483647) t

pub checksums : (checksum 0 punctuation_ranges ≡ 580437807) × (checksum 0 space_ranges ≡ 923714379)
unfolding checksum punctuation_ranges space_ranges
checksums = (refl, refl)

-- how many forms a row of table 3-7 has, and all rows: one for each of the 1,112,064 characters, so that none is left out
unfoldable pub forms_of : List ℕ → ℕ
forms_of [] = 1
forms_of (least ∷ []) = 0
forms_of (least ∷ most ∷ row) = (most + 1 - least) * forms_of row

unfoldable pub forms_in : List (List ℕ) → ℕ
forms_in [] = 0
forms_in (row ∷ rows) = forms_of row + forms_in rows

pub all_forms : forms_in well_formed_rows ≡ 1112064
unfolding forms_in forms_of well_formed_rows
all_forms = refl
