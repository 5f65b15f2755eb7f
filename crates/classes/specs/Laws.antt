-- What holds of the classes. proofs/Ascii.antt proves these, each under its name in small letters.
-- Assumes nothing.
use Rattle.std.specs.Prelude.{ℕ, ◌<◌, ◌≡◌, Bool, cond, ◌||◌, eqb}
use Rattle.characters.specs.Ranges.{member}
use Rattle.characters.specs.Tables.{punctuation_ranges, space_ranges}
use Rattle.classes.specs.Class.{replaced, standard_class, class_of, class_by_bytes}
use Rattle.classes.specs.declared.Class.{Class}
use Rattle.classes.specs.declared.Class.TheVariants.{Other, Whitespace, Punctuation}

-- §2.1's two sentences on all characters, by Unicode's categories, with no ASCII character set apart
abbrev pub unicode_whitespace : ℕ → Bool
unicode_whitespace c = member space_ranges c || (eqb c 9 || (eqb c 10 || (eqb c 12 || eqb c 13)))

abbrev pub unicode_punctuation : ℕ → Bool
unicode_punctuation c = member punctuation_ranges c

-- the standard's class is by these, of every character: on ASCII the lists and the categories agree
abbrev pub ByCategories : Type 0
ByCategories = (c : ℕ) → standard_class c ≡ cond (unicode_whitespace c) Whitespace (cond (unicode_punctuation c || replaced c) Punctuation Other)

-- an ASCII character has the class that its byte had
abbrev pub AsciiAsByBytes : Type 0
AsciiAsByBytes = (c : ℕ) → c < 128 → class_of c ≡ class_by_bytes c

-- "category Zs with tab, line feed, form feed; punctuation is category P or S, as 0.31 has it; all else is other"
abbrev pub asked : ℕ → Class
asked c = cond (member space_ranges c || (eqb c 9 || (eqb c 10 || eqb c 12))) Whitespace (cond (member punctuation_ranges c) Punctuation Other)

-- which is the class of every character, with the amendments
abbrev pub AsAsked : Type 0
AsAsked = (c : ℕ) → class_of c ≡ asked c
