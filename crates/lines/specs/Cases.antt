-- Document 01's cases on lines, by computation: the numbers and values that the definitions give; and the departures on lines, where the
-- standard's rule is computed beside.
-- Assumes nothing.
use Rattle.std.specs.Prelude.{ℕ, ◌≡◌, refl, Bool, true, false, List, [], ◌∷◌, replicate}
use Rattle.record.specs.Choice.{choose, and}
use Rattle.record.specs.Options.{option_on}
use Rattle.record.specs.Check.{first_return}
use Rattle.scan.specs.Run.{or, space_or_tab, digit, leading, every, count, blank}
use Rattle.scan.specs.Columns.{columns, width, cut, reach, reach_all, indentation, standard_indented}
use Rattle.scan.specs.Line.{no_feed, end_of, line_of, checked_line, reading}
use Rattle.lines.specs.Spaces.{spaces_in, spaces_of}
use Rattle.lines.specs.Item.{break_mark, is_mark, mark_or_blank, marks_only, thematic_break, bullet_mark, ordered_mark, starts_with_one, may_start, ordered_of, marker_of, padding, filled_start, start_after, start_from, start_at, start_in, start_of, container}
use Rattle.lines.specs.Going.{blank_going, filled_going, going_in, going_of}
use Rattle.lines.specs.Standard.{number_from, standard_starts_with_one}
use Rattle.lines.specs.declared.container.Kind.TheVariants.{Bullet}
use Rattle.lines.specs.Spaces.{numbers_of as spacesNumbers}
use Rattle.lines.specs.Item.{numbers_of as itemNumbers}
use Rattle.lines.specs.Going.{numbers_of as goingNumbers}

-- number, place, found, taken, left: of a line that starts at a column
spaces : List ℕ → ℕ → ℕ → ℕ → ℕ → List ℕ
spaces s options column min max =
    let n = spacesNumbers (spaces_of s options column min max) in n.number ∷ n.place ∷ n.found ∷ n.taken ∷ n.left ∷ []

-- number, place, found, taken, left, size, flag, mark
start : List ℕ → ℕ → ℕ → Bool → List ℕ
start s options column interrupting =
    let n = itemNumbers (start_of s options column interrupting) in
    n.number ∷ n.place ∷ n.found ∷ n.taken ∷ n.left ∷ n.size ∷ n.blank ∷ n.mark ∷ []

-- number, place, found, taken, left, flag
going : List ℕ → ℕ → ℕ → ℕ → Bool → List ℕ
going s options column size blank =
    let n = goingNumbers (going_of s options column (container (Bullet 45) size blank)) in
    n.number ∷ n.place ∷ n.found ∷ n.taken ∷ n.left ∷ n.blank ∷ []

-- at most 2 of 3 taken; too few; min over max; a line feed first; 2 before 4, of the options and of the column; 4 past the line feed; 3 before 4
on_spaces : (spaces (32 ∷ 32 ∷ 32 ∷ 97 ∷ []) 0 0 1 2 ≡ 0 ∷ 0 ∷ 1 ∷ 2 ∷ 0 ∷ [])
    × (spaces (32 ∷ 97 ∷ []) 63 0 2 9 ≡ 0 ∷ 0 ∷ 0 ∷ 0 ∷ 0 ∷ [])
    × (spaces (32 ∷ 32 ∷ []) 0 0 2 1 ≡ 0 ∷ 0 ∷ 0 ∷ 0 ∷ 0 ∷ [])
    × (spaces (10 ∷ 32 ∷ []) 0 0 0 9 ≡ 0 ∷ 0 ∷ 1 ∷ 0 ∷ 0 ∷ [])
    × (spaces (13 ∷ []) 64 0 0 9 ≡ 2 ∷ 0 ∷ 0 ∷ 0 ∷ 0 ∷ [])
    × (spaces (13 ∷ []) 0 16385 0 9 ≡ 2 ∷ 0 ∷ 0 ∷ 0 ∷ 0 ∷ [])
    × (spaces (9 ∷ []) 0 16384 0 9 ≡ 0 ∷ 0 ∷ 1 ∷ 1 ∷ 0 ∷ [])
    × (spaces (32 ∷ 10 ∷ 13 ∷ []) 0 0 0 9 ≡ 4 ∷ 2 ∷ 0 ∷ 0 ∷ 0 ∷ [])
    × (spaces (13 ∷ replicate 16384 32) 0 0 0 9 ≡ 3 ∷ 16384 ∷ 0 ∷ 0 ∷ 0 ∷ [])
unfolding spaces spaces_of spaces_in checked_line reading line_of end_of no_feed reach cut width leading space_or_tab or choose first_return
on_spaces = (refl, refl, refl, refl, refl, refl, refl, refl, refl)

-- ten digits; `    - a` with and without 32; `2. a` interrupting; `1) a` interrupting; `- - -`; `+ + +`;
-- a blank start, and one that interrupts; without option 16
on_starts : (start (49 ∷ 50 ∷ 51 ∷ 52 ∷ 53 ∷ 54 ∷ 55 ∷ 56 ∷ 57 ∷ 48 ∷ 46 ∷ 32 ∷ 97 ∷ []) 59 0 false ≡ 0 ∷ 0 ∷ 0 ∷ 0 ∷ 0 ∷ 0 ∷ 0 ∷ 0 ∷ [])
    × (start (32 ∷ 32 ∷ 32 ∷ 32 ∷ 45 ∷ 32 ∷ 97 ∷ []) 59 0 false ≡ 0 ∷ 0 ∷ 0 ∷ 0 ∷ 0 ∷ 0 ∷ 0 ∷ 0 ∷ [])
    × (start (32 ∷ 32 ∷ 32 ∷ 32 ∷ 45 ∷ 32 ∷ 97 ∷ []) 16 0 false ≡ 0 ∷ 0 ∷ 1 ∷ 6 ∷ 0 ∷ 6 ∷ 0 ∷ 45 ∷ [])
    × (start (50 ∷ 46 ∷ 32 ∷ 97 ∷ []) 59 0 true ≡ 0 ∷ 0 ∷ 0 ∷ 0 ∷ 0 ∷ 0 ∷ 0 ∷ 0 ∷ [])
    × (start (49 ∷ 41 ∷ 32 ∷ 97 ∷ []) 59 0 true ≡ 0 ∷ 0 ∷ 1 ∷ 3 ∷ 0 ∷ 3 ∷ 0 ∷ 41 ∷ [])
    × (start (45 ∷ 32 ∷ 45 ∷ 32 ∷ 45 ∷ []) 59 0 false ≡ 0 ∷ 0 ∷ 0 ∷ 0 ∷ 0 ∷ 0 ∷ 0 ∷ 0 ∷ [])
    × (start (43 ∷ 32 ∷ 43 ∷ 32 ∷ 43 ∷ []) 59 0 false ≡ 0 ∷ 0 ∷ 1 ∷ 2 ∷ 0 ∷ 2 ∷ 0 ∷ 43 ∷ [])
    × (start (45 ∷ 32 ∷ 32 ∷ 10 ∷ 97 ∷ []) 59 0 false ≡ 0 ∷ 0 ∷ 1 ∷ 1 ∷ 0 ∷ 2 ∷ 1 ∷ 45 ∷ [])
    × (start (45 ∷ []) 59 0 true ≡ 0 ∷ 0 ∷ 0 ∷ 0 ∷ 0 ∷ 0 ∷ 0 ∷ 0 ∷ [])
    × (start (45 ∷ 32 ∷ 97 ∷ []) 47 0 false ≡ 0 ∷ 0 ∷ 0 ∷ 0 ∷ 0 ∷ 0 ∷ 0 ∷ 0 ∷ [])
unfolding start start_of start_in start_at start_from start_after filled_start padding marker_of ordered_of may_start starts_with_one ordered_mark bullet_mark thematic_break marks_only mark_or_blank is_mark break_mark blank indentation reach_all reach columns cut width option_on every count leading digit space_or_tab or and choose checked_line reading line_of end_of no_feed first_return
on_starts = (refl, refl, refl, refl, refl, refl, refl, refl, refl, refl)

-- a blank line with the flag set and clear; a filled line that goes on, has too few, has none; size 0
on_goings : (going (32 ∷ 10 ∷ []) 0 0 2 true ≡ 0 ∷ 0 ∷ 0 ∷ 0 ∷ 0 ∷ 1 ∷ [])
    × (going (32 ∷ 32 ∷ 32 ∷ []) 0 0 2 false ≡ 0 ∷ 0 ∷ 1 ∷ 2 ∷ 0 ∷ 0 ∷ [])
    × (going (32 ∷ 32 ∷ 32 ∷ 97 ∷ []) 0 0 2 true ≡ 0 ∷ 0 ∷ 1 ∷ 2 ∷ 0 ∷ 0 ∷ [])
    × (going (32 ∷ 97 ∷ []) 0 0 2 true ≡ 0 ∷ 0 ∷ 0 ∷ 0 ∷ 0 ∷ 0 ∷ [])
    × (going (97 ∷ []) 0 0 0 false ≡ 0 ∷ 0 ∷ 0 ∷ 0 ∷ 0 ∷ 0 ∷ [])
    × (going (32 ∷ 97 ∷ []) 0 0 0 false ≡ 0 ∷ 0 ∷ 1 ∷ 0 ∷ 0 ∷ 0 ∷ [])
    × (going (13 ∷ []) 0 0 0 true ≡ 4 ∷ 0 ∷ 0 ∷ 0 ∷ 0 ∷ 0 ∷ [])
unfolding going going_of going_in blank_going filled_going blank every reach columns cut width leading space_or_tab or and choose checked_line reading line_of end_of no_feed first_return
on_goings = (refl, refl, refl, refl, refl, refl, refl)

-- Tabs, space-or-tab: `\t` up to 1 column leaves 3, up to 3 leaves 1; ` \t` up to 1 cuts nothing, and neither does `\t` up to 0; of `\t` two are there, and no
-- more than 2 leaves 2; at column 3 it is one column, and two are too few; of `\t\t` three are there, and both bytes are taken
on_tabs : (spaces (9 ∷ []) 0 0 0 1 ≡ 0 ∷ 0 ∷ 1 ∷ 0 ∷ 3 ∷ [])
    × (spaces (9 ∷ []) 0 0 0 3 ≡ 0 ∷ 0 ∷ 1 ∷ 0 ∷ 1 ∷ [])
    × (spaces (32 ∷ 9 ∷ []) 0 0 0 1 ≡ 0 ∷ 0 ∷ 1 ∷ 1 ∷ 0 ∷ [])
    × (spaces (9 ∷ []) 0 0 0 0 ≡ 0 ∷ 0 ∷ 1 ∷ 0 ∷ 0 ∷ [])
    × (spaces (9 ∷ []) 0 0 2 2 ≡ 0 ∷ 0 ∷ 1 ∷ 0 ∷ 2 ∷ [])
    × (spaces (9 ∷ []) 0 3 1 9 ≡ 0 ∷ 0 ∷ 1 ∷ 1 ∷ 0 ∷ [])
    × (spaces (9 ∷ []) 0 3 2 9 ≡ 0 ∷ 0 ∷ 0 ∷ 0 ∷ 0 ∷ [])
    × (spaces (9 ∷ 9 ∷ []) 0 0 3 9 ≡ 0 ∷ 0 ∷ 1 ∷ 2 ∷ 0 ∷ [])
unfolding spaces spaces_of spaces_in checked_line reading line_of end_of no_feed reach cut width leading space_or_tab or choose first_return
on_tabs = (refl, refl, refl, refl, refl, refl, refl, refl)

-- List item start: `-\ta` has size 4; `-\t\ta` takes 1 byte, leaves 2 columns, size 2; `-\ta` at column 2 takes 2, leaves none, size 2; `  - a` at column
-- 5 has size 4; `\t- a` is no item at column 0, and is one at 1, 2 and 3; `-\t` is a blank start, of size 2, and takes 1 byte. `-\t\ta` leaves 1 at column 1
-- and 3 at column 3; behind an indentation and behind an ordered marker stops are where they are, `\t-\ta` at column 1 and `1.\ta`; four columns that begin
-- with a tab are all taken, `-\t a` and at column 3 `-\ta`; and at column 6 as at 2
on_tabbed_items : (start (45 ∷ 9 ∷ 97 ∷ []) 59 0 false ≡ 0 ∷ 0 ∷ 1 ∷ 2 ∷ 0 ∷ 4 ∷ 0 ∷ 45 ∷ [])
    × (start (45 ∷ 9 ∷ 9 ∷ 97 ∷ []) 59 0 false ≡ 0 ∷ 0 ∷ 1 ∷ 1 ∷ 2 ∷ 2 ∷ 0 ∷ 45 ∷ [])
    × (start (45 ∷ 9 ∷ 97 ∷ []) 59 2 false ≡ 0 ∷ 0 ∷ 1 ∷ 2 ∷ 0 ∷ 2 ∷ 0 ∷ 45 ∷ [])
    × (start (32 ∷ 32 ∷ 45 ∷ 32 ∷ 97 ∷ []) 59 5 false ≡ 0 ∷ 0 ∷ 1 ∷ 4 ∷ 0 ∷ 4 ∷ 0 ∷ 45 ∷ [])
    × (start (9 ∷ 45 ∷ 32 ∷ 97 ∷ []) 59 0 false ≡ 0 ∷ 0 ∷ 0 ∷ 0 ∷ 0 ∷ 0 ∷ 0 ∷ 0 ∷ [])
    × (start (9 ∷ 45 ∷ 32 ∷ 97 ∷ []) 59 1 false ≡ 0 ∷ 0 ∷ 1 ∷ 3 ∷ 0 ∷ 5 ∷ 0 ∷ 45 ∷ [])
    × (start (9 ∷ 45 ∷ 32 ∷ 97 ∷ []) 59 2 false ≡ 0 ∷ 0 ∷ 1 ∷ 3 ∷ 0 ∷ 4 ∷ 0 ∷ 45 ∷ [])
    × (start (9 ∷ 45 ∷ 32 ∷ 97 ∷ []) 59 3 false ≡ 0 ∷ 0 ∷ 1 ∷ 3 ∷ 0 ∷ 3 ∷ 0 ∷ 45 ∷ [])
    × (start (45 ∷ 9 ∷ []) 59 0 false ≡ 0 ∷ 0 ∷ 1 ∷ 1 ∷ 0 ∷ 2 ∷ 1 ∷ 45 ∷ [])
    × (start (45 ∷ 9 ∷ 9 ∷ 97 ∷ []) 59 1 false ≡ 0 ∷ 0 ∷ 1 ∷ 1 ∷ 1 ∷ 2 ∷ 0 ∷ 45 ∷ [])
    × (start (45 ∷ 9 ∷ 9 ∷ 97 ∷ []) 59 3 false ≡ 0 ∷ 0 ∷ 1 ∷ 1 ∷ 3 ∷ 2 ∷ 0 ∷ 45 ∷ [])
    × (start (9 ∷ 45 ∷ 9 ∷ 97 ∷ []) 59 1 false ≡ 0 ∷ 0 ∷ 1 ∷ 3 ∷ 0 ∷ 7 ∷ 0 ∷ 45 ∷ [])
    × (start (49 ∷ 46 ∷ 9 ∷ 97 ∷ []) 59 0 false ≡ 0 ∷ 0 ∷ 1 ∷ 3 ∷ 0 ∷ 4 ∷ 0 ∷ 46 ∷ [])
    × (start (45 ∷ 9 ∷ 32 ∷ 97 ∷ []) 59 0 false ≡ 0 ∷ 0 ∷ 1 ∷ 3 ∷ 0 ∷ 5 ∷ 0 ∷ 45 ∷ [])
    × (start (45 ∷ 9 ∷ 97 ∷ []) 59 3 false ≡ 0 ∷ 0 ∷ 1 ∷ 2 ∷ 0 ∷ 5 ∷ 0 ∷ 45 ∷ [])
    × (start (45 ∷ 9 ∷ 97 ∷ []) 59 6 false ≡ 0 ∷ 0 ∷ 1 ∷ 2 ∷ 0 ∷ 2 ∷ 0 ∷ 45 ∷ [])
unfolding start start_of start_in start_at start_from start_after filled_start padding marker_of ordered_of may_start starts_with_one ordered_mark bullet_mark thematic_break marks_only mark_or_blank is_mark break_mark blank indentation reach_all reach columns cut width option_on every count leading digit space_or_tab or and choose checked_line reading line_of end_of no_feed first_return
on_tabbed_items = (refl, refl, refl, refl, refl, refl, refl, refl, refl, refl, refl, refl, refl, refl, refl, refl)

-- Continuation: `\t` with size 2, blank, takes 0 bytes and leaves 2; filled, `\ta` does the same; with size 0 it takes nothing and cuts nothing; `\ta` with
-- size 2 at column 3 has one column, too few. At column 1 with size 1 both leave 2; at column 3 the tab is one column, and is taken whole
on_tabbed_goings : (going (9 ∷ []) 0 0 2 false ≡ 0 ∷ 0 ∷ 1 ∷ 0 ∷ 2 ∷ 0 ∷ [])
    × (going (9 ∷ 97 ∷ []) 0 0 2 false ≡ 0 ∷ 0 ∷ 1 ∷ 0 ∷ 2 ∷ 0 ∷ [])
    × (going (9 ∷ 97 ∷ []) 0 0 0 false ≡ 0 ∷ 0 ∷ 1 ∷ 0 ∷ 0 ∷ 0 ∷ [])
    × (going (9 ∷ 97 ∷ []) 0 3 2 false ≡ 0 ∷ 0 ∷ 0 ∷ 0 ∷ 0 ∷ 0 ∷ [])
    × (going (9 ∷ []) 0 1 1 false ≡ 0 ∷ 0 ∷ 1 ∷ 0 ∷ 2 ∷ 0 ∷ [])
    × (going (9 ∷ 97 ∷ []) 0 1 1 false ≡ 0 ∷ 0 ∷ 1 ∷ 0 ∷ 2 ∷ 0 ∷ [])
    × (going (9 ∷ []) 0 3 2 false ≡ 0 ∷ 0 ∷ 1 ∷ 1 ∷ 0 ∷ 0 ∷ [])
    × (going (9 ∷ 97 ∷ []) 0 3 1 false ≡ 0 ∷ 0 ∷ 1 ∷ 1 ∷ 0 ∷ 0 ∷ [])
unfolding going going_of going_in blank_going filled_going blank every reach columns cut width leading space_or_tab or and choose checked_line reading line_of end_of no_feed first_return
on_tabbed_goings = (refl, refl, refl, refl, refl, refl, refl, refl)

-- D9: `01. a` starts with 1 in the standard and not here, so that it does not interrupt; `1. a` starts with 1 in both, `2. a` in neither
on_numbers : (standard_starts_with_one (48 ∷ 49 ∷ 46 ∷ 32 ∷ 97 ∷ []) ≡ true)
    × (starts_with_one (48 ∷ 49 ∷ 46 ∷ 32 ∷ 97 ∷ []) ≡ false)
    × (start (48 ∷ 49 ∷ 46 ∷ 32 ∷ 97 ∷ []) 59 0 true ≡ 0 ∷ 0 ∷ 0 ∷ 0 ∷ 0 ∷ 0 ∷ 0 ∷ 0 ∷ [])
    × (standard_starts_with_one (49 ∷ 46 ∷ 32 ∷ 97 ∷ []) ≡ true)
    × (starts_with_one (49 ∷ 46 ∷ 32 ∷ 97 ∷ []) ≡ true)
    × (standard_starts_with_one (50 ∷ 46 ∷ 32 ∷ 97 ∷ []) ≡ false)
    × (starts_with_one (50 ∷ 46 ∷ 32 ∷ 97 ∷ []) ≡ false)
unfolding number_from standard_starts_with_one start start_of start_in start_at start_from start_after filled_start padding marker_of ordered_of may_start starts_with_one ordered_mark bullet_mark thematic_break marks_only mark_or_blank is_mark break_mark blank indentation reach_all reach columns cut width option_on every count leading digit space_or_tab or and choose checked_line reading line_of end_of no_feed first_return
on_numbers = (refl, refl, refl, refl, refl, refl, refl)

-- D20: `    - a` is no item in the standard, and is one without option 32; with it, it is none. `   - a` is one in all three
on_free_indentation : (standard_indented 0 (32 ∷ 32 ∷ 32 ∷ 32 ∷ 45 ∷ 32 ∷ 97 ∷ []) ≡ false)
    × (start (32 ∷ 32 ∷ 32 ∷ 32 ∷ 45 ∷ 32 ∷ 97 ∷ []) 16 0 false ≡ 0 ∷ 0 ∷ 1 ∷ 6 ∷ 0 ∷ 6 ∷ 0 ∷ 45 ∷ [])
    × (start (32 ∷ 32 ∷ 32 ∷ 32 ∷ 45 ∷ 32 ∷ 97 ∷ []) 48 0 false ≡ 0 ∷ 0 ∷ 0 ∷ 0 ∷ 0 ∷ 0 ∷ 0 ∷ 0 ∷ [])
    × (standard_indented 0 (32 ∷ 32 ∷ 32 ∷ 45 ∷ 32 ∷ 97 ∷ []) ≡ true)
    × (start (32 ∷ 32 ∷ 32 ∷ 45 ∷ 32 ∷ 97 ∷ []) 16 0 false ≡ 0 ∷ 0 ∷ 1 ∷ 5 ∷ 0 ∷ 5 ∷ 0 ∷ 45 ∷ [])
    × (start (32 ∷ 32 ∷ 32 ∷ 45 ∷ 32 ∷ 97 ∷ []) 48 0 false ≡ 0 ∷ 0 ∷ 1 ∷ 5 ∷ 0 ∷ 5 ∷ 0 ∷ 45 ∷ [])
unfolding columns start start_of start_in start_at start_from start_after filled_start padding marker_of ordered_of may_start starts_with_one ordered_mark bullet_mark thematic_break marks_only mark_or_blank is_mark break_mark blank indentation reach_all reach cut width option_on every count leading digit space_or_tab or and choose checked_line reading line_of end_of no_feed first_return
on_free_indentation = (refl, refl, refl, refl, refl, refl)
