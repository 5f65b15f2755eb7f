-- The definition at work: document 01's `# a#`, whose text is 2 to 4; two words; `#` runs before, in and behind a text; records that no reader makes; and
-- a heading of another shape.
-- Assumes nothing.
use Rattle.std.specs.Prelude.{ℕ, ◌≡◌, refl, List, [], ◌∷◌, ◌++◌}
use Rattle.record.specs.Choice.{choose, and}
use Rattle.record.specs.Event.{enter, exit}
use Rattle.record.specs.Outcome.{offends, gives}
use Rattle.record.specs.declared.event.Event.{Event}
use Rattle.heading.specs.Headings.{is_of, before_first, through_last, inner_of, leaf, leaves, starts_with, headed, shaped, through_opening, is_data_or_run, before_text, to_last, before_closing, without_closing, text_events, through_text, with_text, resolved_from, offending, earliest, headings}

pair : ℕ → ℕ → ℕ → List Event
pair name from to = enter name from ∷ exit name to ∷ []

-- a text, with one Data pair in it
titled : ℕ → ℕ → List Event
titled from to = enter 13 from ∷ enter 0 from ∷ exit 0 to ∷ exit 13 to ∷ []

-- `# a#`
glued :
    headings (enter 11 0 ∷ enter 12 0 ∷ exit 12 1 ∷ enter 14 1 ∷ exit 14 2 ∷ enter 0 2 ∷ exit 0 4 ∷ exit 11 4 ∷ [])
    ≡ gives (enter 11 0 ∷ enter 12 0 ∷ exit 12 1 ∷ enter 14 1 ∷ exit 14 2 ∷ enter 13 2 ∷ enter 0 2 ∷ exit 0 4 ∷ exit 13 4 ∷ exit 11 4 ∷ [])
unfolding is_of before_first through_last inner_of leaf leaves starts_with headed shaped through_opening is_data_or_run before_text to_last before_closing without_closing text_events through_text with_text resolved_from offending earliest headings choose and
glued = refl

-- the text rule alone: the inner events of ` # a b # `, where the space between the words goes; `# #a`; `# a # #`; `# ## #`, whose `#` run becomes
-- Data; `# # #`
with_text_lem :
    (with_text (pair 14 0 1 ++ pair 12 1 2 ++ pair 14 2 3 ++ pair 0 3 4 ++ pair 14 4 5 ++ pair 0 5 6 ++ pair 14 6 7 ++ pair 12 7 8 ++ pair 14 8 9)
    ≡ pair 14 0 1 ++ pair 12 1 2 ++ pair 14 2 3 ++ titled 3 6 ++ pair 14 6 7 ++ pair 12 7 8 ++ pair 14 8 9)
    × (with_text (pair 12 0 1 ++ pair 14 1 2 ++ pair 12 2 3 ++ pair 0 3 4) ≡ pair 12 0 1 ++ pair 14 1 2 ++ titled 2 4)
    × (with_text (pair 12 0 1 ++ pair 14 1 2 ++ pair 0 2 3 ++ pair 14 3 4 ++ pair 12 4 5 ++ pair 14 5 6 ++ pair 12 6 7)
    ≡ pair 12 0 1 ++ pair 14 1 2 ++ titled 2 5 ++ pair 14 5 6 ++ pair 12 6 7)
    × (with_text (pair 12 0 1 ++ pair 14 1 2 ++ pair 12 2 4 ++ pair 14 4 5 ++ pair 12 5 6) ≡ pair 12 0 1 ++ pair 14 1 2 ++ titled 2 4 ++ pair 14 4 5 ++ pair 12 5 6)
    × (with_text (pair 12 0 1 ++ pair 14 1 2 ++ pair 12 2 3 ++ pair 14 3 4 ++ pair 12 4 5) ≡ pair 12 0 1 ++ pair 14 1 2 ++ titled 2 3 ++ pair 14 3 4 ++ pair 12 4 5)
unfolding pair titled before_first through_last starts_with through_opening is_data_or_run before_text to_last before_closing without_closing text_events through_text with_text choose
with_text_lem = (refl, refl, refl, refl, refl)

-- no text is left of `#`, `# `, `# #` and `# # `: unchanged
without_text :
    (with_text (pair 12 0 1) ≡ pair 12 0 1)
    × (with_text (pair 12 0 1 ++ pair 14 1 2) ≡ pair 12 0 1 ++ pair 14 1 2)
    × (with_text (pair 12 0 1 ++ pair 14 1 2 ++ pair 12 2 3) ≡ pair 12 0 1 ++ pair 14 1 2 ++ pair 12 2 3)
    × (with_text (pair 12 0 1 ++ pair 14 1 2 ++ pair 12 2 3 ++ pair 14 3 4) ≡ pair 12 0 1 ++ pair 14 1 2 ++ pair 12 2 3 ++ pair 14 3 4)
unfolding pair titled before_first through_last starts_with through_opening is_data_or_run before_text to_last before_closing without_closing text_events through_text with_text choose
without_text = (refl, refl, refl, refl)

-- names and their order alone count, in records that no reader makes too: a `#` run right behind Data closes, though no space is between, and though it
-- has no bytes; of two the last one closes; all of several 14s in a row stay out
by_names :
    (with_text (pair 12 0 1 ++ pair 0 1 2 ++ pair 12 2 2) ≡ pair 12 0 1 ++ titled 1 2 ++ pair 12 2 2)
    × (with_text (pair 12 0 1 ++ pair 0 1 2 ++ pair 12 2 3 ++ pair 12 3 4) ≡ pair 12 0 1 ++ titled 1 3 ++ pair 12 3 4)
    × (with_text (pair 12 0 1 ++ pair 14 1 2 ++ pair 14 2 3 ++ pair 0 3 4 ++ pair 14 4 5 ++ pair 14 5 6 ++ pair 12 6 7 ++ pair 14 7 8 ++ pair 14 8 9)
    ≡ pair 12 0 1 ++ pair 14 1 2 ++ pair 14 2 3 ++ titled 3 4 ++ pair 14 4 5 ++ pair 14 5 6 ++ pair 12 6 7 ++ pair 14 7 8 ++ pair 14 8 9)
unfolding pair titled before_first through_last starts_with through_opening is_data_or_run before_text to_last before_closing without_closing text_events through_text with_text choose
by_names = (refl, refl, refl)

-- nor do bytes count: a text without bytes is one, it begins where its first pair is entered and ends where its last is left, whatever gaps are beside
-- it, and behind the opening run the next `#` run may close or be text
by_places :
    (with_text (pair 12 0 1 ++ pair 0 1 1) ≡ pair 12 0 1 ++ titled 1 1)
    × (with_text (pair 12 0 1 ++ pair 14 2 3 ++ pair 0 5 6 ++ pair 14 8 9 ++ pair 12 11 12) ≡ pair 12 0 1 ++ pair 14 2 3 ++ titled 5 6 ++ pair 14 8 9 ++ pair 12 11 12)
    × (with_text (pair 12 0 1 ++ pair 12 1 2) ≡ pair 12 0 1 ++ pair 12 1 2)
    × (with_text (pair 12 0 1 ++ pair 12 1 2 ++ pair 12 2 3) ≡ pair 12 0 1 ++ titled 1 2 ++ pair 12 2 3)
    × (with_text (pair 12 0 0 ++ pair 12 0 0 ++ pair 0 1 1) ≡ pair 12 0 0 ++ titled 0 1)
unfolding pair titled before_first through_last starts_with through_opening is_data_or_run before_text to_last before_closing without_closing text_events through_text with_text choose
by_places = (refl, refl, refl, refl, refl)

-- a heading with nothing in it offends, by its own number
empty_heading : headings (pair 0 0 1 ++ pair 11 1 1) ≡ offends 2
unfolding pair is_of before_first through_last inner_of leaf leaves starts_with headed shaped resolved_from offending earliest headings choose and
empty_heading = refl
