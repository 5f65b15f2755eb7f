-- UTF-8 as Unicode has it: which bytes are the form of a character, and of which one.
-- Assumes nothing.
use Rattle.std.specs.Prelude.{ℕ, ◌+◌, ◌-◌, ◌*◌, ◌/◌, ◌%◌, Bool, true, false, cond, ◌&&◌, ◌||◌, List, [], ◌∷◌, leb, ltb, Option, None, Some}
use Rattle.characters.specs.Ranges.{within}

-- Unicode 16.0, table 3-7, "Well-Formed UTF-8 Byte Sequences", row by row: the least and the most that each byte may be. In the table's words, a row to
-- a line: 00..7F; C2..DF 80..BF; E0 A0..BF 80..BF; E1..EC 80..BF 80..BF; ED 80..9F 80..BF; EE..EF 80..BF 80..BF; F0 90..BF 80..BF 80..BF;
-- F1..F3 80..BF 80..BF 80..BF; F4 80..8F 80..BF 80..BF. So no form is longer than it has to be, and none is there for a surrogate or past 10FFFF.
unfoldable pub well_formed_rows : List (List ℕ)
well_formed_rows =
    (0 ∷ 127 ∷ [])
    ∷ (194 ∷ 223 ∷ 128 ∷ 191 ∷ [])
    ∷ (224 ∷ 224 ∷ 160 ∷ 191 ∷ 128 ∷ 191 ∷ [])
    ∷ (225 ∷ 236 ∷ 128 ∷ 191 ∷ 128 ∷ 191 ∷ [])
    ∷ (237 ∷ 237 ∷ 128 ∷ 159 ∷ 128 ∷ 191 ∷ [])
    ∷ (238 ∷ 239 ∷ 128 ∷ 191 ∷ 128 ∷ 191 ∷ [])
    ∷ (240 ∷ 240 ∷ 144 ∷ 191 ∷ 128 ∷ 191 ∷ 128 ∷ 191 ∷ [])
    ∷ (241 ∷ 243 ∷ 128 ∷ 191 ∷ 128 ∷ 191 ∷ 128 ∷ 191 ∷ [])
    ∷ (244 ∷ 244 ∷ 128 ∷ 143 ∷ 128 ∷ 191 ∷ 128 ∷ 191 ∷ [])
    ∷ []

-- each byte is within its bounds, and there are as many as the row has
unfoldable pub fits : List ℕ → List ℕ → Bool
fits [] [] = true
fits [] (b ∷ bs) = false
fits (least ∷ []) bs = false
fits (least ∷ most ∷ row) [] = false
fits (least ∷ most ∷ row) (b ∷ bs) = within least most b && fits row bs

unfoldable pub fits_one : List (List ℕ) → List ℕ → Bool
fits_one [] bs = false
fits_one (row ∷ rows) bs = fits row bs || fits_one rows bs

unfoldable pub well_formed : List ℕ → Bool
well_formed bs = fits_one well_formed_rows bs

-- Table 3-6, "UTF-8 Bit Distribution": 0xxxxxxx; 110yyyyy 10xxxxxx; 1110zzzz 10yyyyyy 10xxxxxx; 11110uuu 10uuzzzz 10yyyyyy 10xxxxxx. What the bits make.
unfoldable pub value_of : List ℕ → ℕ
value_of [] = 0
value_of (a ∷ []) = a
value_of (a ∷ b ∷ []) = (a - 192) * 64 + (b - 128)
value_of (a ∷ b ∷ d ∷ []) = (a - 224) * 4096 + (b - 128) * 64 + (d - 128)
value_of (a ∷ b ∷ d ∷ e ∷ []) = (a - 240) * 262144 + (b - 128) * 4096 + (d - 128) * 64 + (e - 128)
value_of (a ∷ b ∷ d ∷ e ∷ f ∷ bs) = 0

-- the character whose form these bytes are, if they are one's
unfoldable pub character_of : List ℕ → Option ℕ
character_of bs = cond (well_formed bs) (Some (value_of bs)) None

-- The other way round. A character, D76's "Unicode scalar value": "any Unicode code point except high-surrogate and low-surrogate code points", which is 0 to
-- D7FF and E000 to 10FFFF
unfoldable pub is_character : ℕ → Bool
is_character c = leb c 55295 || within 57344 1114111 c

-- its form, by table 3-6
unfoldable pub utf8 : ℕ → List ℕ
utf8 c =
    cond (ltb c 128) (c ∷ [])
    (cond (ltb c 2048) ((192 + c / 64) ∷ (128 + c % 64) ∷ [])
    (cond (ltb c 65536)
    ((224 + c / 4096) ∷ (128 + c / 64 % 64) ∷ (128 + c % 64) ∷ [])
    ((240 + c / 262144) ∷ (128 + c / 4096 % 64) ∷ (128 + c / 64 % 64) ∷ (128 + c % 64) ∷ [])))
