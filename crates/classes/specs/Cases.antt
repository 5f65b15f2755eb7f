-- Each amendment to the classes on a character for which it holds, and on one for which it does not: the standard's class, and the one here. And the
-- characters of other classes than a reader may expect.
-- Assumes nothing.
use Rattle.std.specs.Prelude.{◌≡◌, refl, true, [], ◌∷◌, map}
use Rattle.characters.specs.Ranges.{member}
use Rattle.characters.specs.Tables.{punctuation_ranges, space_ranges}
use Rattle.classes.specs.Class.{whitespace, crate_whitespace, punctuation, ascii_class, wide_class, standard_class, amended, class_of}
use Rattle.classes.specs.declared.Class.TheVariants.{Other, Whitespace, Punctuation}

-- D1: a carriage return; a line feed
on_returns : (standard_class 13 ≡ Whitespace) × (class_of 13 ≡ Other) × (standard_class 10 ≡ Whitespace) × (class_of 10 ≡ Whitespace)
unfolding class_of amended standard_class ascii_class whitespace punctuation
on_returns = (refl, refl, refl, refl)

-- D3: the zero byte; the characters 1 and 33
on_zero : (standard_class 0 ≡ Punctuation)
    × (class_of 0 ≡ Other)
    × (standard_class 1 ≡ Other)
    × (class_of 1 ≡ Other)
    × (standard_class 33 ≡ Punctuation)
    × (class_of 33 ≡ Punctuation)
unfolding class_of amended standard_class ascii_class whitespace punctuation
on_zero = (refl, refl, refl, refl, refl, refl)

-- D6: vertical tab, next line, and the separators of lines and of paragraphs are whitespace in the crate, and other in the standard and here; a form feed, a
-- no-break space and an ideographic space are whitespace in all three
on_crate_whitespace : (map crate_whitespace (11 ∷ 133 ∷ 8232 ∷ 8233 ∷ []) ≡ true ∷ true ∷ true ∷ true ∷ [])
    × (map standard_class (11 ∷ 133 ∷ 8232 ∷ 8233 ∷ []) ≡ Other ∷ Other ∷ Other ∷ Other ∷ [])
    × (map class_of (11 ∷ 133 ∷ 8232 ∷ 8233 ∷ []) ≡ Other ∷ Other ∷ Other ∷ Other ∷ [])
    × (map crate_whitespace (12 ∷ 160 ∷ 12288 ∷ []) ≡ true ∷ true ∷ true ∷ [])
    × (map standard_class (12 ∷ 160 ∷ 12288 ∷ []) ≡ Whitespace ∷ Whitespace ∷ Whitespace ∷ [])
    × (map class_of (12 ∷ 160 ∷ 12288 ∷ []) ≡ Whitespace ∷ Whitespace ∷ Whitespace ∷ [])
unfolding crate_whitespace class_of amended standard_class ascii_class wide_class whitespace punctuation member space_ranges punctuation_ranges
on_crate_whitespace = (refl, refl, refl, refl, refl, refl)

-- « and », 「 and 」, an em dash, the Greek question mark, the euro sign and an emoji are punctuation, the last two as symbols; é, a kanji, a Greek letter, a zero
-- width space and a byte order mark are other
on_characters : (map class_of (171 ∷ 187 ∷ 12300 ∷ 12301 ∷ 8212 ∷ 894 ∷ 8364 ∷ 128512 ∷ []) ≡ Punctuation ∷ Punctuation ∷ Punctuation ∷ Punctuation ∷ Punctuation ∷ Punctuation ∷ Punctuation ∷ Punctuation ∷ [])
    × (map class_of (233 ∷ 28450 ∷ 945 ∷ 8203 ∷ 65279 ∷ []) ≡ Other ∷ Other ∷ Other ∷ Other ∷ Other ∷ [])
unfolding class_of amended standard_class ascii_class wide_class whitespace punctuation member space_ranges punctuation_ranges
on_characters = (refl, refl)
