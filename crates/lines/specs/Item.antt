-- List item start. CommonMark 0.31 §5.2, rules 1 to 4, and §4.1; what is counted there in spaces is counted in columns (§2.2).
-- Assumes nothing.
use Rattle.std.specs.Prelude.{ℕ, ◌+◌, Bool, true, false, not, ◌≡◌, refl, List, [], ◌∷◌, get_or, drop, leb, eqb, Option, Some, None, Result, Ok, Err}
use Rattle.record.specs.Choice.{choose, and}
use Rattle.record.specs.Options.{option_on}
use Rattle.record.specs.declared.check.Refusal.{Refusal}
use Rattle.scan.specs.Run.{or, space_or_tab, digit, leading, every, count, first, blank}
use Rattle.scan.specs.Columns.{width, columns, cut, reach, reach_all, indentation}
use Rattle.scan.specs.Line.{line_of, checked_line, reading, flag}
use Rattle.scan.specs.declared.columns.Reach.{Reach}
use Rattle.lines.specs.declared.container.Kind.{Kind}
use Rattle.lines.specs.declared.container.Kind.TheVariants.{Bullet, Ordered}
use Rattle.lines.specs.declared.container.Container.{Container}
use Rattle.lines.specs.declared.item.Marker.{Marker}
use Rattle.lines.specs.declared.item.Item.{Item}

-- a list marker and how many bytes it has
abbrev pub marked : Kind → ℕ → Option Marker
marked kind width = Some (record { kind = kind; width = width })

-- what is found: the bytes taken, the columns left of a cut tab, and the container that opens
abbrev pub starts : ℕ → ℕ → Container → Option Item
starts taken left container = Some (record { taken = taken; left = left; container = container })

-- what is answered: the item, the finding "not a list item", or a refusal
abbrev pub Start : Type 0
Start = Result (Option Item) Refusal

-- §4.1: "matching `-`, `_`, or `*` characters"
unfoldable pub break_mark : ℕ → Bool
break_mark b = or (eqb b 42) (or (eqb b 45) (eqb b 95))

unfoldable pub is_mark : ℕ → ℕ → Bool
is_mark mark b = eqb b mark

unfoldable pub mark_or_blank : ℕ → ℕ → Bool
mark_or_blank mark b = or (is_mark mark b) (space_or_tab b)

-- "a sequence of three or more matching .. characters, each followed optionally by any number of spaces or tabs": three or more of that
-- mark, else only spaces and tabs
unfoldable pub marks_only : ℕ → List ℕ → Bool
marks_only mark l = and (leb 3 (count (is_mark mark) l)) (every (mark_or_blank mark) l)

-- §4.1: what follows the indentation "forms a thematic break"
unfoldable pub thematic_break : List ℕ → Bool
thematic_break l = and (break_mark (first l)) (marks_only (first l) l)

-- §5.2: "A bullet list marker is a `-`, `+`, or `*` character."
unfoldable pub bullet_mark : ℕ → Bool
bullet_mark b = or (eqb b 42) (or (eqb b 43) (eqb b 45))

-- ".. followed by either a `.` character or a `)` character"
unfoldable pub ordered_mark : ℕ → Bool
ordered_mark b = or (eqb b 46) (eqb b 41)

-- §5.2: "When the first list item in a list interrupts a paragraph", and is ordered, its number must be 1.
-- Amendment D9: the digits are exactly `1`; in the standard `01` starts with 1 as well (`standard_starts_with_one` in specs/Standard.antt).
unfoldable pub starts_with_one : List ℕ → Bool
starts_with_one l = and (eqb (leading digit l) 1) (eqb (first l) 49)

-- whether the digits in front may stand there
unfoldable pub may_start : Bool → List ℕ → Bool
may_start interrupting l = or (not interrupting) (starts_with_one l)

-- "An ordered list marker is a sequence of 1–9 arabic digits (0-9), followed by either a `.` character or a `)` character."
unfoldable pub ordered_of : Bool → List ℕ → Option Marker
ordered_of interrupting l =
    choose
    (and (leb 1 (leading digit l))
    (and (leb (leading digit l) 9)
    (and (ordered_mark (get_or l (leading digit l) 0))
    (may_start interrupting l))))
    (marked (Ordered (get_or l (leading digit l) 0)) (leading digit l + 1))
    None

-- the list marker in front, and its width. §5.2: "If any line is a thematic break then that line is not a list item."
unfoldable pub marker_of : Bool → List ℕ → Option Marker
marker_of interrupting l =
    choose (bullet_mark (first l))
    (choose (thematic_break l) None (marked (Bullet (first l)) 1))
    (ordered_of interrupting l)

abbrev pub container : Kind → ℕ → Bool → Container
container kind size blank = record { kind = kind; size = size; blank = blank }

-- rules 1 and 2: "followed by 1 ≤ N ≤ 4 spaces of indentation", all of which are the item's; where an indented code block follows, 5 or
-- more, one is
unfoldable pub padding : ℕ → ℕ
padding n = choose (leb n 4) n 1

-- what is taken up to the marker's end: the indentation and a marker of so many bytes, each of one column
abbrev pub up_to_marker : Reach → ℕ → Reach
up_to_marker indent width = record { bytes = indent.bytes + width; columns = indent.columns + width; left = 0 }

-- with a filled rest, of which so much is taken: rule 1, further lines are indented by "W + N spaces"; rule 4, and by what the marker is indented
abbrev pub item_with : Kind → Reach → Reach → Option Item
item_with kind before r = starts (before.bytes + r.bytes) r.left (container kind (before.columns + r.columns) false)

-- A filled rest, at column c, after what is taken up to the marker's end. Its spaces and tabs have N columns, of which the item takes its padding; a tab
-- may be cut there
unfoldable pub filled_start : Kind → Reach → ℕ → List ℕ → Option Item
filled_start kind before c rest =
    choose (eqb (columns c rest) 0) None (item_with kind before (reach (padding (columns c rest)) c rest))

-- rule 3, a blank start: "preceding subsequent lines of Ls by W + 1 spaces of indentation"; and it may not interrupt a paragraph. The item ends with its
-- marker: of what is behind it nothing is taken, and no tab is cut
unfoldable pub start_after : Bool → Kind → Reach → ℕ → List ℕ → Option Item
start_after interrupting kind before c rest =
    choose (blank rest)
    (choose interrupting None (starts before.bytes 0 (container kind (before.columns + 1) true)))
    (filled_start kind before c rest)

-- l is what follows the indentation, on a line that starts at a column
unfoldable pub start_from : Bool → ℕ → Reach → Option Marker → List ℕ → Option Item
start_from interrupting column indent None l = None
start_from interrupting column indent (Some m) l =
    start_after interrupting m.kind (up_to_marker indent m.width) (column + (indent.columns + m.width)) (drop m.width l)

unfoldable pub start_at : Bool → ℕ → Reach → List ℕ → Option Item
start_at interrupting column indent l = start_from interrupting column indent (marker_of interrupting l) l

-- on a line. Document 01: "None without option 16." Amendment D20: the indentation is free without option 32; the standard's is `standard_indented` in
-- scan. Where the indentation cuts a tab, what follows begins with it, and is no marker
unfoldable pub start_in : List ℕ → ℕ → ℕ → Bool → Option Item
start_in l options column interrupting =
    let indent = indentation options column l in
    choose (option_on options 16) (start_at interrupting column indent (drop indent.bytes l)) None

-- `\t-\ta` at column 1: the tabs have 3 columns each, from column 1 to 4 and from 5 to 8, and the item 7
behind_a_tab : start_in (9 ∷ 45 ∷ 9 ∷ 97 ∷ []) 59 1 false ≡ starts 3 0 (container (Bullet 45) 7 false)
unfolding start_in start_at start_from start_after filled_start padding marker_of bullet_mark thematic_break marks_only mark_or_blank is_mark break_mark blank indentation reach_all reach columns cut width option_on every count space_or_tab or and choose
behind_a_tab = refl

unfoldable pub start_of : List ℕ → ℕ → ℕ → Bool → Start
start_of s options column interrupting = reading (checked_line s options column) Err (Ok (start_in (line_of s) options column interrupting))

-- the mark: the marker's byte, `.` or `)` where it is ordered
abbrev pub mark_of : Kind → ℕ
mark_of (Bullet mark) = mark
mark_of (Ordered mark) = mark

-- "Answered: bytes taken .., size, flag, mark.", and the columns left of a cut tab
pub record Numbers : Type 0 where
  pub number : ℕ
  pub place : ℕ
  pub found : ℕ
  pub taken : ℕ
  pub left : ℕ
  pub size : ℕ
  pub blank : ℕ
  pub mark : ℕ

abbrev pub numbers_of : Start → Numbers
numbers_of (Ok (Some i)) =
    record { number = 0; place = 0; found = 1; taken = i.taken; left = i.left; size = i.container.size; blank = flag i.container.blank; mark = mark_of i.container.kind }
numbers_of (Ok None) = record { number = 0; place = 0; found = 0; taken = 0; left = 0; size = 0; blank = 0; mark = 0 }
numbers_of (Err r) = record { number = r.number; place = r.place; found = 0; taken = 0; left = 0; size = 0; blank = 0; mark = 0 }
