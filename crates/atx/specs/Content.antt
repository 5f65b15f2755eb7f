-- The content of an ATX heading, over the bytes of its line alone: its raw contents, stripped. CommonMark 0.31 §4.2: "An ATX heading consists of a
-- string of characters, parsed as inline content, between an opening sequence of 1–6 unescaped `#` characters and an optional closing sequence of any
-- number of unescaped `#` characters." That the line is a heading, and how far it may be indented, is not asked here. No `#` that is taken off is
-- escaped: a space or tab, or nothing, is before the first of them. `claims` holds what the heading reader and the heading resolver make of a line
-- together against it.
-- Assumes nothing.
use Rattle.std.specs.Prelude.{ℕ, ◌+◌, ◌-◌, ◌≡◌, refl, Bool, List, [], ◌∷◌, reverse, length, drop}
use Rattle.record.specs.Choice.{choose}
use Rattle.scan.specs.Run.{or, space_or_tab, hash, leading, first}

-- some bytes without those of a kind at their front; and without those at their end
unfoldable pub strip_front : (ℕ → Bool) → List ℕ → List ℕ
strip_front kind l = drop (leading kind l) l

unfoldable pub strip_end : (ℕ → Bool) → List ℕ → List ℕ
strip_end kind l = reverse (strip_front kind (reverse l))

-- what follows the opening sequence, which may be indented
unfoldable pub behind_opening : List ℕ → List ℕ
behind_opening l = strip_front hash (strip_front space_or_tab l)

-- "The optional closing sequence of #s must be preceded by spaces or tabs and may be followed by spaces or tabs only."
unfoldable pub without_closing : List ℕ → List ℕ
without_closing l =
    let before = strip_end hash (strip_end space_or_tab l) in
    choose (space_or_tab (first (reverse before))) before l

-- "The raw contents of the heading are stripped of leading and trailing space or tabs before being parsed as inline content."
unfoldable pub content : List ℕ → List ℕ
content l = strip_front space_or_tab (strip_end space_or_tab (without_closing (behind_opening l)))

-- where it begins, with the first thing other than space or tab behind the opening sequence; and where it ends
unfoldable pub content_from : List ℕ → ℕ
content_from l = length l - length (strip_front space_or_tab (behind_opening l))

unfoldable pub content_to : List ℕ → ℕ
content_to l = content_from l + length (content l)

-- `# #a` reads `#a` from 2 to 4; `# a # #` reads `a #` from 2 to 5; `# ## #` reads `##`; `# #` and `#` read nothing; `# a#` reads `a#`; ` #\ta #\t`
-- reads `a` from 3 to 4; `# \#` reads `\#`; `# a ##` reads `a`
on_lines : (content (35 ∷ 32 ∷ 35 ∷ 97 ∷ []) ≡ 35 ∷ 97 ∷ [])
    × (content_from (35 ∷ 32 ∷ 35 ∷ 97 ∷ []) ≡ 2)
    × (content_to (35 ∷ 32 ∷ 35 ∷ 97 ∷ []) ≡ 4)
    × (content (35 ∷ 32 ∷ 97 ∷ 32 ∷ 35 ∷ 32 ∷ 35 ∷ []) ≡ 97 ∷ 32 ∷ 35 ∷ [])
    × (content_to (35 ∷ 32 ∷ 97 ∷ 32 ∷ 35 ∷ 32 ∷ 35 ∷ []) ≡ 5)
    × (content (35 ∷ 32 ∷ 35 ∷ 35 ∷ 32 ∷ 35 ∷ []) ≡ 35 ∷ 35 ∷ [])
    × (content (35 ∷ 32 ∷ 35 ∷ []) ≡ [])
    × (content (35 ∷ []) ≡ [])
    × (content (35 ∷ 32 ∷ 97 ∷ 35 ∷ []) ≡ 97 ∷ 35 ∷ [])
    × (content (32 ∷ 35 ∷ 9 ∷ 97 ∷ 32 ∷ 35 ∷ 9 ∷ []) ≡ 97 ∷ [])
    × (content_from (32 ∷ 35 ∷ 9 ∷ 97 ∷ 32 ∷ 35 ∷ 9 ∷ []) ≡ 3)
    × (content (35 ∷ 32 ∷ 92 ∷ 35 ∷ []) ≡ 92 ∷ 35 ∷ [])
    × (content (35 ∷ 32 ∷ 97 ∷ 32 ∷ 35 ∷ 35 ∷ []) ≡ 97 ∷ [])
unfolding content_to content_from content without_closing behind_opening strip_end strip_front leading space_or_tab hash or choose
on_lines = (refl, refl, refl, refl, refl, refl, refl, refl, refl, refl, refl, refl, refl)
