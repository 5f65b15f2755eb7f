-- Document 01, "Table, proved (12), options 59": one list under one statement, computed. An entry is a text, what is asked of it, and the answer
-- that the document gives.
-- Assumes nothing.
use Rattle.std.specs.Prelude.{ℕ, ◌≡◌, refl, false, List, [], ◌∷◌, map, eqb}
use Prim.Native.String.{String}
use Rattle.record.specs.Choice.{choose, and}
use Rattle.record.specs.Options.{option_on}
use Rattle.record.specs.Check.{first_return}
use Rattle.record.specs.Event.{enter, exit}
use Rattle.record.specs.Stack.{after}
use Rattle.record.specs.Outcome.{Resolution, offends, gives}
use Rattle.record.specs.declared.event.Event.{Event}
use Rattle.characters.specs.Utf8.{well_formed_rows, fits, fits_one, well_formed, value_of, character_of}
use Rattle.characters.specs.Beside.{character_from, character_up_to, neighbour_before, neighbour_after}
use Rattle.classes.specs.Class.{class_of, standard_class, ascii_class, amended, whitespace, punctuation}
use Rattle.runs.specs.Texts.{bytes}
use Rattle.runs.specs.Runs.{byte_at, enters_run, runs_from, runs_of, is_marker, allowed, left_at_once, all_are, run_between, shaped, offender_from, offender}
use Rattle.runs.specs.Flanking.{class_beside, left_flanking, right_flanking, beside_marker, flanks_left, flanks_right, can_open, can_close}
use Rattle.runs.specs.Rule.{threes, tildes, rule_over, crate}
use Rattle.runs.specs.Plain.{opener, closer, same_container, candidate, takes, back, look, forth, amount, alter, matched, rounds, total, plain}
use Rattle.runs.specs.Pieces.{standing, outcome, group_name, closings, openings, closed, opened, remains}
use Rattle.runs.specs.Output.{closing_events, opening_events, leftover_events, run_events, replaced, output}
use Rattle.runs.specs.Cases.{stretch_of, name_of, split_from, split}
use Rattle.attention.specs.Attention.{attention}
use Rattle.scan.specs.Run.{or, space_or_tab, filled, digit, hash, leading, every, count, blank, blanks}
use Rattle.scan.specs.Columns.{columns, width, cut, reach, reach_all, indentation}
use Rattle.scan.specs.Line.{no_feed, end_of, line_of, checked_line, reading}
use Rattle.lines.specs.Item.{break_mark, is_mark, mark_or_blank, marks_only, thematic_break, bullet_mark, ordered_mark, starts_with_one, may_start, ordered_of, marker_of, padding, filled_start, start_after, start_from, start_at, start_in, start_of, numbers_of}
use Rattle.atx.specs.Heading.{broken_off, opening, is_heading, piece_of, pieces, events_from, heading_events}
use Rattle.atx.specs.Heading.{split as splitHeading}
use Rattle.heading.specs.Headings.{is_of, before_first, through_last, inner_of, leaf, leaves, starts_with, headed, shaped as shapedHeading, through_opening, is_data_or_run, before_text, to_last, before_closing, without_closing, text_events, through_text, with_text, resolved_from, offending, earliest, headings}

-- what is asked of a text: the groups of its runs, the size of the list item that starts on it, or the text of the heading that it is
pub data Question : Type 0 where
  groups_of : Question
  size_of : Question
  text_of : Question

-- events by which the answer shows, or a number: the size
pub data Reply : Type 0 where
  these : List Event → Reply
  number : ℕ → Reply

-- of some events those of groups (emphasis, strong, strikethrough) and of Data, which a leftover is
unfoldable pub groups_and_data : List Event → List Event
groups_and_data [] = []
groups_and_data (e ∷ es) =
    let rest = groups_and_data es in
    choose (or (eqb e.name 0) (or (eqb e.name 2) (or (eqb e.name 5) (eqb e.name 8)))) (e ∷ rest) rest

-- of some events those of heading texts
unfoldable pub heading_texts : List Event → List Event
heading_texts [] = []
heading_texts (e ∷ es) =
    let rest = heading_texts es in
    choose (eqb e.name 13) (e ∷ rest) rest

-- what a resolver makes, read so; a record that it refuses shows nothing
abbrev pub shown_by : (List Event → List Event) → Resolution → List Event
shown_by pick (gives es) = pick es
shown_by pick (offends k) = []

-- what the definitions answer, with options 59: of a text the record that a tokenizer makes of it, of a line the readers
unfoldable pub reply : Question → String → Reply
reply groups_of s = these (shown_by groups_and_data (attention crate 59 (bytes s) (split (bytes s))))
reply size_of s = number (numbers_of (start_of (bytes s) 59 0 false)).size
reply text_of s = these (choose (is_heading (bytes s) 59 0) (shown_by heading_texts (headings (heading_events (bytes s)))) [])

pub record Case : Type 0 where
  pub text : String
  pub asked : Question
  pub answer : Reply

abbrev pub case : String → Question → Reply → Case
case s q a = record { text = s; asked = q; answer = a }

-- `**a*` leftover at 0, emphasis 1; `*a**` leftover at 3; `***a***` strong inside emphasis; `a**b*c` none; `a***b***c` two groups; `a_b_c` none;
-- `~~~a~~~` none; `*a _b* c_` one group; `123456789. a` size 11; `-    a` (4 spaces) size 5; `-     a` (5) size 2; `# a#` text 2 to 4
unfoldable pub table : List Case
table =
    case "**a*" groups_of (these (enter 0 0 ∷ exit 0 1 ∷ enter 2 1 ∷ enter 0 2 ∷ exit 0 3 ∷ exit 2 4 ∷ []))
    ∷ case "*a**" groups_of (these (enter 2 0 ∷ enter 0 1 ∷ exit 0 2 ∷ exit 2 3 ∷ enter 0 3 ∷ exit 0 4 ∷ []))
    ∷ case "***a***" groups_of (these (enter 2 0 ∷ enter 5 1 ∷ enter 0 3 ∷ exit 0 4 ∷ exit 5 6 ∷ exit 2 7 ∷ []))
    ∷ case "a**b*c" groups_of (these (enter 0 0 ∷ exit 0 1 ∷ enter 0 1 ∷ exit 0 3 ∷ enter 0 3 ∷ exit 0 4 ∷ enter 0 4 ∷ exit 0 5 ∷ enter 0 5 ∷ exit 0 6 ∷ []))
    ∷ case "a***b***c" groups_of (these (enter 0 0 ∷ exit 0 1 ∷ enter 2 1 ∷ enter 5 2 ∷ enter 0 4 ∷ exit 0 5 ∷ exit 5 7 ∷ exit 2 8 ∷ enter 0 8 ∷ exit 0 9 ∷ []))
    ∷ case "a_b_c" groups_of (these (enter 0 0 ∷ exit 0 1 ∷ enter 0 1 ∷ exit 0 2 ∷ enter 0 2 ∷ exit 0 3 ∷ enter 0 3 ∷ exit 0 4 ∷ enter 0 4 ∷ exit 0 5 ∷ []))
    ∷ case "~~~a~~~" groups_of (these (enter 0 0 ∷ exit 0 3 ∷ enter 0 3 ∷ exit 0 4 ∷ enter 0 4 ∷ exit 0 7 ∷ []))
    ∷ case "*a _b* c_" groups_of (these (enter 2 0 ∷ enter 0 1 ∷ exit 0 3 ∷ enter 0 3 ∷ exit 0 4 ∷ enter 0 4 ∷ exit 0 5 ∷ exit 2 6 ∷ enter 0 6 ∷ exit 0 8 ∷ enter 0 8 ∷ exit 0 9 ∷ []))
    ∷ case "123456789. a" size_of (number 11)
    ∷ case "-    a" size_of (number 5)
    ∷ case "-     a" size_of (number 2)
    ∷ case "# a#" text_of (these (enter 13 2 ∷ exit 13 4 ∷ []))
    ∷ []

pub twelve_cases : map (λ (c : Case). reply c.asked c.text) table ≡ map (λ (c : Case). c.answer) table
unfolding table reply groups_and_data heading_texts attention offender offender_from shaped run_between left_at_once all_are allowed bytes split split_from stretch_of name_of choose and after class_of standard_class ascii_class amended whitespace punctuation option_on byte_at neighbour_before neighbour_after character_from character_up_to character_of well_formed well_formed_rows fits_one fits value_of enters_run runs_from runs_of is_marker class_beside left_flanking right_flanking beside_marker flanks_left flanks_right can_open can_close threes tildes rule_over opener closer same_container candidate takes back look forth amount alter matched rounds total plain standing outcome group_name closings openings closed opened remains closing_events opening_events leftover_events run_events replaced output start_of start_in start_at start_from start_after filled_start padding marker_of ordered_of may_start starts_with_one ordered_mark bullet_mark thematic_break marks_only mark_or_blank is_mark break_mark blank blanks indentation reach_all reach columns cut width every count leading digit hash filled space_or_tab or checked_line reading line_of end_of no_feed first_return broken_off opening is_heading piece_of pieces splitHeading events_from heading_events is_of before_first through_last inner_of leaf leaves starts_with headed shapedHeading through_opening is_data_or_run before_text to_last before_closing without_closing text_events through_text with_text resolved_from offending earliest headings
twelve_cases = refl

-- "So `# #` is empty, `# ## #` reads `##`, `# a # #` reads `a #`"; and `# #a` reads `#a`: from the bytes of a line to the resolver's events
pub four_headings :
    (headings (heading_events (bytes "# #")) ≡ gives (enter 11 0 ∷ enter 12 0 ∷ exit 12 1 ∷ enter 14 1 ∷ exit 14 2 ∷ enter 12 2 ∷ exit 12 3 ∷ exit 11 3 ∷ []))
    × (headings (heading_events (bytes "# ## #"))
    ≡ gives (enter 11 0 ∷ enter 12 0 ∷ exit 12 1 ∷ enter 14 1 ∷ exit 14 2 ∷ enter 13 2 ∷ enter 0 2 ∷ exit 0 4 ∷ exit 13 4 ∷ enter 14 4 ∷ exit 14 5 ∷ enter 12 5 ∷ exit 12 6 ∷ exit 11 6 ∷ []))
    × (headings (heading_events (bytes "# a # #"))
    ≡ gives (enter 11 0 ∷ enter 12 0 ∷ exit 12 1 ∷ enter 14 1 ∷ exit 14 2 ∷ enter 13 2 ∷ enter 0 2 ∷ exit 0 5 ∷ exit 13 5 ∷ enter 14 5 ∷ exit 14 6 ∷ enter 12 6 ∷ exit 12 7 ∷ exit 11 7 ∷ []))
    × (headings (heading_events (bytes "# #a"))
    ≡ gives (enter 11 0 ∷ enter 12 0 ∷ exit 12 1 ∷ enter 14 1 ∷ exit 14 2 ∷ enter 13 2 ∷ enter 0 2 ∷ exit 0 4 ∷ exit 13 4 ∷ exit 11 4 ∷ []))
unfolding bytes choose and hash filled space_or_tab or leading blanks piece_of pieces splitHeading events_from heading_events is_of before_first through_last inner_of leaf leaves starts_with headed shapedHeading through_opening is_data_or_run before_text to_last before_closing without_closing text_events through_text with_text resolved_from offending earliest headings
four_headings = (refl, refl, refl, refl)
