-- Document 01's cases on heading lines, by computation: the numbers and events that the definitions give; and the departures on a heading's
-- indentation, where the standard's rule is computed beside.
-- Assumes nothing.
use Rattle.std.specs.Prelude.{ℕ, ◌≡◌, refl, true, false, List, [], ◌∷◌, replicate}
use Rattle.record.specs.Choice.{choose, and}
use Rattle.record.specs.Options.{option_on}
use Rattle.record.specs.Check.{first_return}
use Rattle.record.specs.Event.{enter, exit}
use Rattle.record.specs.Outcome.{sized}
use Rattle.scan.specs.Run.{or, space_or_tab, filled, hash, leading, blanks}
use Rattle.scan.specs.Columns.{columns, width, cut, reach, reach_all, indentation, standard_indented}
use Rattle.scan.specs.Line.{no_feed, end_of, line_of, checked_line, reading}
use Rattle.atx.specs.Heading.{broken_off, opening, is_heading, piece_of, pieces, split, events_from, heading_events, headed_in, headed_of}
use Rattle.atx.specs.Heading.{numbers_of as headingNumbers}

-- number, place, found, events
headed : List ℕ → ℕ → ℕ → ℕ → List ℕ
headed s options column outs = let n = headingNumbers (headed_of s options column outs).answer in n.number ∷ n.place ∷ n.found ∷ n.events ∷ []

-- `# #a`: a `#` run followed directly by Data
run_then_data : heading_events (35 ∷ 32 ∷ 35 ∷ 97 ∷ []) ≡
    enter 11 0 ∷ enter 12 0 ∷ exit 12 1 ∷ enter 14 1 ∷ exit 14 2 ∷ enter 12 2 ∷ exit 12 3 ∷ enter 0 3 ∷ exit 0 4 ∷ exit 11 4 ∷ []
unfolding heading_events events_from split pieces piece_of blanks leading space_or_tab filled hash or choose
run_then_data = refl

-- `#` and the end; seven; `#a`; without option 8; one byte of output too few; none for a line that is no heading; a column over the limit
on_headings : (headed (35 ∷ 10 ∷ 97 ∷ []) 63 0 36 ≡ 0 ∷ 0 ∷ 1 ∷ 4 ∷ [])
    × (headed (replicate 7 35) 63 0 999 ≡ 0 ∷ 0 ∷ 0 ∷ 0 ∷ [])
    × (headed (35 ∷ 97 ∷ []) 63 0 999 ≡ 0 ∷ 0 ∷ 0 ∷ 0 ∷ [])
    × (headed (35 ∷ []) 55 0 999 ≡ 0 ∷ 0 ∷ 0 ∷ 0 ∷ [])
    × (headed (35 ∷ []) 8 0 35 ≡ 8 ∷ 0 ∷ 0 ∷ 0 ∷ [])
    × (headed (97 ∷ []) 8 0 0 ≡ 0 ∷ 0 ∷ 0 ∷ 0 ∷ [])
    × (headed (35 ∷ []) 8 16384 36 ≡ 0 ∷ 0 ∷ 1 ∷ 4 ∷ [])
    × (headed (35 ∷ []) 8 16385 36 ≡ 2 ∷ 0 ∷ 0 ∷ 0 ∷ [])
unfolding headed headed_of headed_in sized heading_events events_from split pieces piece_of is_heading opening broken_off indentation reach_all reach columns cut width option_on blanks leading space_or_tab filled hash or and choose checked_line reading line_of end_of no_feed first_return
on_headings = (refl, refl, refl, refl, refl, refl, refl, refl)

-- Tabs: `\t#` is no heading at columns 0 and 4, and is one at 1, 2 and 3, where the tab is 3, 2 and 1 columns wide. D20: `    #` is none in the standard, and is one without
-- option 32. `  #` is one in all
on_indentation : (standard_indented 0 (9 ∷ 35 ∷ []) ≡ false)
    × (is_heading (9 ∷ 35 ∷ []) 40 0 ≡ false)
    × (standard_indented 1 (9 ∷ 35 ∷ []) ≡ true)
    × (is_heading (9 ∷ 35 ∷ []) 40 1 ≡ true)
    × (is_heading (9 ∷ 35 ∷ []) 40 2 ≡ true)
    × (is_heading (9 ∷ 35 ∷ []) 40 3 ≡ true)
    × (is_heading (9 ∷ 35 ∷ []) 40 4 ≡ false)
    × (is_heading (9 ∷ 35 ∷ []) 8 0 ≡ true)
    × (standard_indented 0 (32 ∷ 32 ∷ 32 ∷ 32 ∷ 35 ∷ []) ≡ false)
    × (is_heading (32 ∷ 32 ∷ 32 ∷ 32 ∷ 35 ∷ []) 8 0 ≡ true)
    × (is_heading (32 ∷ 32 ∷ 32 ∷ 32 ∷ 35 ∷ []) 40 0 ≡ false)
    × (standard_indented 0 (32 ∷ 32 ∷ 35 ∷ []) ≡ true)
    × (is_heading (32 ∷ 32 ∷ 35 ∷ []) 8 0 ≡ true)
    × (is_heading (32 ∷ 32 ∷ 35 ∷ []) 40 0 ≡ true)
unfolding columns is_heading opening broken_off indentation reach_all reach cut width option_on leading space_or_tab hash or and choose
on_indentation = (refl, refl, refl, refl, refl, refl, refl, refl, refl, refl, refl, refl, refl, refl)
