-- The heading reader. CommonMark 0.31 §4.2: the opening sequence; what the `#` runs behind it become is the heading resolver's.
-- Assumes nothing.
use Rattle.std.specs.Prelude.{ℕ, zero, suc, ◌+◌, ◌≡◌, refl, Bool, true, List, [], ◌∷◌, ◌++◌, length, drop, leb, Err, None, Some, Option, Result, Ok}
use Rattle.record.specs.declared.check.Refusal.{Refusal}
use Rattle.record.specs.Choice.{choose, and}
use Rattle.record.specs.Options.{option_on}
use Rattle.record.specs.Event.{enter, exit, section_bytes}
use Rattle.record.specs.Form.{old}
use Rattle.record.specs.Outcome.{Outcome, accepted, refused, sized}
use Rattle.record.specs.declared.event.Event.{Event}
use Rattle.scan.specs.Run.{or, space_or_tab, filled, hash, leading, first, blanks}
use Rattle.scan.specs.Columns.{indentation}
use Rattle.scan.specs.Line.{line_of, checked_line, reading}
use Rattle.atx.specs.declared.Piece.{Piece}

-- "must be followed by spaces or tabs, or by the end of line"
unfoldable pub broken_off : List ℕ → Bool
broken_off [] = true
broken_off (b ∷ l) = space_or_tab b

-- "an opening sequence of 1–6 unescaped `#` characters"
unfoldable pub opening : List ℕ → Bool
opening l = and (leb 1 (leading hash l)) (and (leb (leading hash l) 6) (broken_off (drop (leading hash l) l)))

-- "Heading (option 8)", after the indentation, on a line that starts at a column. Amendment D20: the indentation is free without option 32; the
-- standard's is `standard_indented` in scan. Where the indentation cuts a tab, what follows begins with it, and does not open a heading
unfoldable pub is_heading : List ℕ → ℕ → ℕ → Bool
is_heading l options column = and (option_on options 8) (opening (drop (indentation options column l).bytes l))

abbrev pub piece : ℕ → ℕ → Piece
piece name size = record { name = name; size = size }

-- Document 01: the line "is split into space-or-tab, `#` runs that follow a break, and Data up to the next space or tab": the piece in
-- front of what is left, 14, 12 or 0 by its name
unfoldable pub piece_of : List ℕ → Piece
piece_of l =
    choose (space_or_tab (first l)) (piece 14 (blanks l))
    (choose (hash (first l)) (piece 12 (leading hash l))
    (piece 0 (leading filled l)))

-- at most n pieces; a line has at most as many as it has bytes
unfoldable pub pieces : ℕ → List ℕ → List Piece
pieces zero l = []
pieces (suc n) [] = []
pieces (suc n) (b ∷ l) = piece_of (b ∷ l) ∷ pieces n (drop (piece_of (b ∷ l)).size (b ∷ l))

-- of the indentation, the opening sequence and the rest alike: the first two are a 14 and a 12 as the rule above has them
unfoldable pub split : List ℕ → List Piece
split l = pieces (length l) l

-- an enter and an exit for each piece, the first of them at a place
unfoldable pub events_from : ℕ → List Piece → List Event
events_from at [] = []
events_from at (p ∷ ps) = enter p.name at ∷ exit p.name (at + p.size) ∷ events_from (at + p.size) ps

-- "its events section, from enter to exit of 11, not yet resolved, with line offsets as places"
unfoldable pub heading_events : List ℕ → List Event
heading_events l = enter 11 0 ∷ (events_from 0 (split l) ++ (exit 11 (length l) ∷ []))

-- ` # a#`: enter 11, 14 from 0 to 1, 12 from 1 to 2, 14 from 2 to 3, Data from 3 to 5, exit 11
heading_case : heading_events (32 ∷ 35 ∷ 32 ∷ 97 ∷ 35 ∷ []) ≡
    enter 11 0
    ∷ enter 14 0
    ∷ exit 14 1
    ∷ enter 12 1
    ∷ exit 12 2
    ∷ enter 14 2
    ∷ exit 14 3
    ∷ enter 0 3
    ∷ exit 0 5
    ∷ exit 11 5
    ∷ []
unfolding heading_events events_from split pieces piece_of blanks leading space_or_tab filled hash or choose
heading_case = refl

-- what is answered: how many events are written, the finding "not a heading", or a refusal
abbrev pub Headed : Type 0
Headed = Result (Option ℕ) Refusal

-- what is answered and what is written
pub record Reply : Type 0 where
  pub answer : Headed
  pub bytes : List ℕ

abbrev pub nothing : Headed → Reply
nothing answer = record { answer = answer; bytes = [] }

-- a section written, or a refusal and nothing written
abbrev pub headed : Outcome → Reply
headed (accepted es) = record { answer = Ok (Some (length es)); bytes = section_bytes es }
headed (refused r) = nothing (Err r)

-- on a line, with an output of `outs` bytes: numbers 7 and 8 as for every call that writes a section
unfoldable pub headed_in : List ℕ → ℕ → ℕ → ℕ → Reply
headed_in l options column outs = choose (is_heading l options column) (headed (sized old (heading_events l) outs)) (nothing (Ok None))

-- of the line, the options, the column and the output's length alone
unfoldable pub headed_of : List ℕ → ℕ → ℕ → ℕ → Reply
headed_of s options column outs = reading (checked_line s options column) (λ r. nothing (Err r)) (headed_in (line_of s) options column outs)

-- number, place and values of each answer
pub record Numbers : Type 0 where
  pub number : ℕ
  pub place : ℕ
  pub found : ℕ
  pub events : ℕ

abbrev pub numbers_of : Headed → Numbers
numbers_of (Ok (Some events)) = record { number = 0; place = 0; found = 1; events = events }
numbers_of (Ok None) = record { number = 0; place = 0; found = 0; events = 0 }
numbers_of (Err r) = record { number = r.number; place = r.place; found = 0; events = 0 }
