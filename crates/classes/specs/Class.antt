-- The class of a character beside a run of markers: CommonMark 0.31's, and document 01's amendments to it. Each amendment has its number in
-- docs/DIFFERENCES.md; a character for which none holds has the class that the standard gives it.
-- ASCII characters stand by themselves, as document 01 and the standard list them, and are looked up in a table of 128; what the standard says of all
-- characters, by Unicode's categories, is the same on them (specs/Laws.antt).
-- Assumes nothing.
use Rattle.std.specs.Prelude.{ℕ, Bool, cond, ◌||◌, leb, eqb}
use Rattle.characters.specs.Ranges.{within, member}
use Rattle.characters.specs.Tables.{punctuation_ranges, space_ranges}
use Rattle.classes.specs.declared.Class.{Class}
use Rattle.classes.specs.declared.Class.TheVariants.{Other, Whitespace, Punctuation}

-- §2.1: "A Unicode whitespace character is a character in the Unicode Zs general category, or a tab (U+0009), line feed (U+000A), form feed
-- (U+000C), or carriage return (U+000D)." Zs has one ASCII character, the space. Vertical tab is not named (D6, below).
unfoldable pub whitespace : ℕ → Bool
whitespace c = eqb c 32 || (eqb c 9 || (eqb c 10 || (eqb c 12 || eqb c 13)))

-- §2.1: "An ASCII punctuation character is !, ", #, $, %, &, ', (, ), *, +, ,, -, ., / (U+0021–2F), :, ;, <, =, >, ?, @ (U+003A–0040), [, \, ],
-- ^, _, ` (U+005B–0060), {, |, }, or ~ (U+007B–007E)." They are the ASCII characters of the Unicode categories P and S.
unfoldable pub punctuation : ℕ → Bool
punctuation c = within 33 47 c || (within 58 64 c || (within 91 96 c || within 123 126 c))

-- §2.3: "the Unicode character U+0000 must be replaced with the REPLACEMENT CHARACTER (U+FFFD)", which is of category S
abbrev pub replaced : ℕ → Bool
replaced c = eqb c 0

-- what the standard says of an ASCII character
unfoldable pub ascii_class : ℕ → Class
ascii_class c = cond (whitespace c) Whitespace (cond (punctuation c || replaced c) Punctuation Other)

-- and of one past ASCII: "a character in the Unicode Zs general category"; "A Unicode punctuation character is a character in the Unicode P (punctuation) or
-- S (symbol) general categories."
unfoldable pub wide_class : ℕ → Class
wide_class c = cond (member space_ranges c) Whitespace (cond (member punctuation_ranges c) Punctuation Other)

unfoldable pub standard_class : ℕ → Class
standard_class c = cond (leb 128 c) (wide_class c) (ascii_class c)

-- Amendments: D1, a carriage return (no document that has one is read); D3, the zero byte. They are other. specs/Cases.antt has a character for each.
unfoldable pub amended : ℕ → Bool
amended c = eqb c 13 || eqb c 0

unfoldable pub class_of : ℕ → Class
class_of c = cond (amended c) Other (standard_class c)

-- D6: the crate's whitespace, which is `char::is_whitespace` of Rust: beyond the standard's it has vertical tab, next line (U+0085), and the separators of
-- lines and of paragraphs (U+2028, U+2029), none of which is of the category Zs
unfoldable pub crate_whitespace : ℕ → Bool
crate_whitespace c = (eqb c 11 || (eqb c 133 || (eqb c 8232 || eqb c 8233))) || (whitespace c || member space_ranges c)

-- the class that a byte had while neighbours were bytes, written out as it was: a carriage return, each byte from 128 up and the zero byte were other. It stands
-- for what is said of that time alone.
unfoldable pub class_by_bytes : ℕ → Class
class_by_bytes c =
    cond (eqb c 13 || (leb 128 c || eqb c 0)) Other
    (cond (eqb c 32 || (eqb c 9 || (eqb c 10 || (eqb c 12 || eqb c 13)))) Whitespace
    (cond (within 33 47 c || (within 58 64 c || (within 91 96 c || within 123 126 c))) Punctuation Other))
