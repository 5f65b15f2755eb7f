-- Spaces and tabs counted in columns. CommonMark 0.31 §2.2: "Tabs in lines are not expanded to spaces. However, in contexts where spaces help to define
-- block structure, tabs behave as if they were replaced by spaces with a tab stop of 4 characters."
-- Assumes nothing.
use Rattle.std.specs.Prelude.{ℕ, ◌+◌, ◌-◌, ◌%◌, ◌≤◌, ◌<◌, ◌≡◌, refl, Bool, true, false, ◌⊎◌, List, [], ◌∷◌, ◌++◌, length, get_or, take, drop, leb, eqb}
use Rattle.record.specs.Choice.{choose}
use Rattle.record.specs.Options.{option_on}
use Rattle.scan.specs.Run.{or, space_or_tab, every}
use Rattle.scan.specs.declared.columns.Reach.{Reach}

-- a tab at column c is as wide as the spaces up to the next stop, of which there is one every 4 columns
abbrev pub to_stop : ℕ → ℕ
to_stop c = 4 - c % 4

-- a space or a tab at column c: how many columns wide it is
unfoldable pub width : ℕ → ℕ → ℕ
width c b = choose (eqb b 9) (to_stop c) 1

-- the columns of the spaces and tabs in front, the first of which stands at column c
unfoldable pub columns : ℕ → List ℕ → ℕ
columns c [] = 0
columns c (b ∷ l) = choose (space_or_tab b) (width c b + columns (c + width c b) l) 0

abbrev pub nothing : Reach
nothing = record { bytes = 0; columns = 0; left = 0 }

-- what is taken behind n bytes of k columns, together with these
abbrev pub behind : ℕ → ℕ → Reach → Reach
behind n k r = record { bytes = n + r.bytes; columns = k + r.columns; left = r.left }

-- A space or tab of w columns where fewer may be taken. Document 01: "the bytes taken without a cut tab, and that tab's columns left over. A tab is cut only
-- if some of it is taken"
unfoldable pub cut : ℕ → ℕ → Reach
cut max w = choose (eqb max 0) nothing (record { bytes = 0; columns = max; left = w - max })

-- what is taken, up to `max` columns, of the spaces and tabs in front, the first of which stands at column c
unfoldable pub reach : ℕ → ℕ → List ℕ → Reach
reach max c [] = nothing
reach max c (b ∷ l) =
    choose (space_or_tab b)
    (choose (leb (width c b) max) (behind 1 (width c b) (reach (max - width c b) (c + width c b) l))
    (cut max (width c b)))
    nothing

-- all of them: as many columns as there are
unfoldable pub reach_all : ℕ → List ℕ → Reach
reach_all c l = reach (columns c l) c l

-- The columns laid out one by one. A tab is 4 wide at column 0, 1 at column 3; ` \t` and `\t` end at the same stop; of two tabs at column 1 up to 3, 2 and 5
-- columns: whole, cut with 1 left, cut with 2 left
on_columns : (columns 0 (9 ∷ 97 ∷ []) ≡ 4)
    × (columns 3 (9 ∷ 97 ∷ []) ≡ 1)
    × (columns 0 (32 ∷ 9 ∷ 97 ∷ []) ≡ 4)
    × (columns 2 (32 ∷ 32 ∷ 32 ∷ []) ≡ 3)
    × (reach 3 1 (9 ∷ 9 ∷ []) ≡ record { bytes = 1; columns = 3; left = 0 })
    × (reach 2 1 (9 ∷ 9 ∷ []) ≡ record { bytes = 0; columns = 2; left = 1 })
    × (reach 5 1 (9 ∷ 9 ∷ []) ≡ record { bytes = 1; columns = 5; left = 2 })
    × (reach 1 0 (32 ∷ 9 ∷ []) ≡ record { bytes = 1; columns = 1; left = 0 })
    × (reach 0 0 (9 ∷ []) ≡ nothing)
    × (reach_all 2 (9 ∷ 32 ∷ 9 ∷ 97 ∷ 32 ∷ []) ≡ record { bytes = 3; columns = 6; left = 0 })
unfolding columns reach reach_all cut width choose space_or_tab or
on_columns = (refl, refl, refl, refl, refl, refl, refl, refl, refl, refl)

-- Said a second time, by places: no more bytes than there are, each of them a space or a tab; no more columns than the maximum, and than there are; and as
-- many as one of these. Where no tab is cut, the bytes have these columns; else the next byte is a tab, of which some columns are taken, up to the maximum, and
-- some are left. Proved: proofs/InColumns.antt
pub record ReachTo (max c : ℕ) (l : List ℕ) (r : Reach) : Type 0 where
  pub within : r.bytes ≤ length l
  pub before : (p : ℕ) → p < r.bytes → space_or_tab (get_or l p 0) ≡ true
  pub at_most : r.columns ≤ max
  pub there : r.columns ≤ columns c l
  pub reached : (r.columns ≡ max) ⊎ (r.columns ≡ columns c l)
  pub whole : r.left ≡ 0 → r.columns ≡ columns c (take r.bytes l)
  pub tab_cut : 0 < r.left → (get_or l r.bytes 0 ≡ 9) × (r.bytes < length l)
  pub parted : 0 < r.left →
      (columns c (take r.bytes l) < r.columns) × (r.columns + r.left ≡ columns c (take r.bytes l) + to_stop (c + columns c (take r.bytes l)))

abbrev pub ReachCounted : Type 0
ReachCounted = (max c : ℕ) (l : List ℕ) → ReachTo max c l (reach max c l)

-- and nothing else is so: by places alone it is said which bytes, which columns and which are left. Proved in `tabs`, proofs/OneReach.antt
abbrev pub ReachOnly : Type 0
ReachOnly = (max c : ℕ) (l : List ℕ) (r : Reach) → ReachTo max c l r → r ≡ reach max c l

-- a tab is 1 to 4 columns wide and ends on a stop, and from inside it there are the columns left to go
pub record TabWidth (c : ℕ) : Type 0 where
  pub least : 1 ≤ to_stop c
  pub most : to_stop c ≤ 4
  pub to_a_stop : (c + to_stop c) % 4 ≡ 0
  pub inside : (k : ℕ) → k < to_stop c → to_stop (c + k) ≡ to_stop c - k

abbrev pub TabWidths : Type 0
TabWidths = (c : ℕ) → TabWidth c

-- a run that ends in a tab ends on a stop
abbrev pub EndsOnStop : Type 0
EndsOnStop = (c : ℕ) (l : List ℕ) → every space_or_tab l ≡ true → (c + columns c (l ++ (9 ∷ []))) % 4 ≡ 0

-- stops stand every four columns: four columns further on all is as it was. Proved: proofs/InColumns.antt, as the two above and the next; of each reader in `lines`
-- and `atx`
abbrev pub EveryFour : Type 0
EveryFour = (max c : ℕ) (l : List ℕ) → (reach max (c + 4) l ≡ reach max c l) × (columns (c + 4) l ≡ columns c l)

-- Going on: what is read at one go is read as well in two, the first up to a maximum, and the second from where that stopped, at the column where it stopped:
-- from a cut tab on, of which the columns left over are still to come (a tab there is as wide as these). So both come to the same columns, whatever the maximum of the first was; and where the
-- second may take some, to the same bytes and the same columns left
pub record GoesOn (c : ℕ) (l : List ℕ) (m : ℕ) (first : Reach) : Type 0 where
  pub left_over : 0 < first.left → to_stop (c + first.columns) ≡ first.left
  pub all : columns c l ≡ first.columns + columns (c + first.columns) (drop first.bytes l)
  pub more : (n : ℕ) → 1 ≤ n → reach (m + n) c l ≡ behind first.bytes first.columns (reach n (c + first.columns) (drop first.bytes l))

abbrev pub GoingOn : Type 0
GoingOn = (m c : ℕ) (l : List ℕ) → GoesOn c l m (reach m c l)

-- §5.2, rule 4: "up to three spaces of indentation"; §4.2: "The opening `#` character may be preceded by up to three spaces of indentation."
abbrev pub up_to_three : ℕ → List ℕ → Reach
up_to_three c l = reach 3 c l

-- Document 01: "Indentation is at most 3, or free without option 32."
-- Amendment D20: the standard's rule holds with option 32; without it, all spaces and tabs in front are indentation.
unfoldable pub indentation : ℕ → ℕ → List ℕ → Reach
indentation options c l = choose (option_on options 32) (up_to_three c l) (reach_all c l)

-- what is said of any reach, of the indentation: up to three columns with option 32, all of them without it
abbrev pub IndentationCounted : Type 0
IndentationCounted =
    (options c : ℕ) (l : List ℕ) →
    (option_on options 32 ≡ true → ReachTo 3 c l (indentation options c l))
    × (option_on options 32 ≡ false → ReachTo (columns c l) c l (indentation options c l))

-- the standard's "up to three spaces of indentation": whether what stands in front, from column c on, is no more
abbrev pub standard_indented : ℕ → List ℕ → Bool
standard_indented c l = leb (columns c l) 3

-- D20: of four spaces the standard takes 3 as indentation, whatever the options, and so they are before a mark too many; here all 4 are taken
-- without option 32. Of two, both take 2. So it is with tabs: one at column 0 is 4 columns, one at column 1 is 3.
on_free_indentation : (standard_indented 0 (32 ∷ 32 ∷ 32 ∷ 32 ∷ 45 ∷ []) ≡ false)
    × ((indentation 48 0 (32 ∷ 32 ∷ 32 ∷ 32 ∷ 45 ∷ [])).bytes ≡ 3)
    × ((indentation 16 0 (32 ∷ 32 ∷ 32 ∷ 32 ∷ 45 ∷ [])).bytes ≡ 4)
    × (standard_indented 0 (32 ∷ 32 ∷ 45 ∷ []) ≡ true)
    × ((indentation 48 0 (32 ∷ 32 ∷ 45 ∷ [])).bytes ≡ 2)
    × ((indentation 16 0 (32 ∷ 32 ∷ 45 ∷ [])).bytes ≡ 2)
    × (standard_indented 0 (9 ∷ 45 ∷ []) ≡ false)
    × (indentation 48 0 (9 ∷ 45 ∷ []) ≡ record { bytes = 0; columns = 3; left = 1 })
    × (indentation 16 0 (9 ∷ 45 ∷ []) ≡ record { bytes = 1; columns = 4; left = 0 })
    × (standard_indented 1 (9 ∷ 45 ∷ []) ≡ true)
    × (indentation 48 1 (9 ∷ 45 ∷ []) ≡ record { bytes = 1; columns = 3; left = 0 })
unfolding columns reach reach_all cut width choose space_or_tab or indentation option_on
on_free_indentation = (refl, refl, refl, refl, refl, refl, refl, refl, refl, refl, refl)
