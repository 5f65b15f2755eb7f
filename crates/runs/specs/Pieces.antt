-- What the groups make of the runs: for each run its closing pieces, its leftover and its opening pieces, as byte ranges.
-- Document 01, section "Attention": "The opener gives its last bytes, the closer its first." "Output for each run: its closing pieces in match
-- order .., then the leftover .., then its opening pieces, last match first". CommonMark 0.31's appendix has a text node for each run, from which
-- "process emphasis" takes delimiters; what it says of them is quoted below, with §6.2's rules 11 and 12.
-- Assumes nothing.
use Rattle.std.specs.Prelude.{ℕ, ◌+◌, ◌-◌, Bool, List, [], ◌∷◌, ◌++◌, map, eqb, ltb}
use Rattle.record.specs.Choice.{choose}
use Rattle.record.specs.Options.{option_on}
use Rattle.record.specs.declared.event.Event.{Event}
use Rattle.runs.specs.Runs.{Run, runs_of}
use Rattle.runs.specs.Flanking.{can_open, can_close}
use Rattle.runs.specs.Rule.{Profile}
use Rattle.runs.specs.Plain.{Standing, Group, Outcome, plain}

-- a run before the first match, as a profile's flanking has it. Appendix: "whether the delimiter is a potential opener, a potential closer, or
-- both (which depends on what sort of characters precede and follow the delimiters)". Rules 1 to 8, and amendments D4 and D19:
-- specs/Flanking.antt
unfoldable pub standing : Profile → ℕ → Run → Standing
standing profile options r =
    record {
      marker = r.marker;
      container = r.container;
      whole = r.size;
      left = r.size;
      opens = can_open profile.amended (option_on options 2) r.marker r.before r.after;
      closes = can_close profile.amended (option_on options 2) r.marker r.before r.after;
    }

-- the plain rule on the runs of a record. Appendix: "When we hit the end of the input, we call the process emphasis procedure"; for the inlines of
-- a link it is called by itself, here a container does that
unfoldable pub outcome : Profile → ℕ → List ℕ → List Event → Outcome
outcome profile options doc es = plain (profile.rule options) (map (standing profile options) (runs_of doc es))

-- a piece of a run: its bytes from one place up to another, in a group of this name
pub record Piece : Type 0 where
  pub name : ℕ
  pub from : ℕ
  pub to : ℕ

-- "Taking 1 is emphasis, 2 strong, `~` always strikethrough." Appendix: "Figure out whether we have emphasis or strong emphasis"
unfoldable pub group_name : ℕ → ℕ → ℕ
group_name marker taken = choose (eqb marker 126) 8 (choose (eqb taken 1) 2 5)

abbrev pub piece : ℕ → ℕ → ℕ → ℕ → Piece
piece marker taken from to = record { name = group_name marker taken; from = from; to = to }

-- the closing pieces of the run q, in match order, the first of them at a place. With the opening pieces this is rule 11: "A literal `*` character
-- cannot occur at the beginning or end of `*`-delimited emphasis or `**`-delimited strong emphasis, unless it is backslash-escaped." Rule 12 says
-- the same of `_`. What is left of a run lies outside the groups that it closes, and outside those that it opens.
unfoldable pub closings : List Group → ℕ → ℕ → ℕ → List Piece
closings [] q marker at = []
closings (g ∷ gs) q marker at =
    let next = at + g.taken in
    let own = closings gs q marker next in
    let other = closings gs q marker at in
    choose (eqb g.closer q) (piece marker g.taken at next ∷ own) other

-- the opening pieces of the run q, last match first, the first match's before a place. Appendix: "Insert an emph or strong emph node accordingly,
-- after the text node corresponding to the opener."
unfoldable pub openings : List Group → ℕ → ℕ → ℕ → List Piece
openings [] q marker at = []
openings (g ∷ gs) q marker at =
    let next = at - g.taken in
    let own = openings gs q marker next in
    let other = openings gs q marker at in
    choose (eqb g.opener q) (own ++ (piece marker g.taken next at ∷ [])) other

-- how many markers the run q gave as a closer, and as an opener
unfoldable pub closed : List Group → ℕ → ℕ
closed [] q = 0
closed (g ∷ gs) q = choose (eqb g.closer q) (g.taken + closed gs q) (closed gs q)

unfoldable pub opened : List Group → ℕ → ℕ
opened [] q = 0
opened (g ∷ gs) q = choose (eqb g.opener q) (g.taken + opened gs q) (opened gs q)

-- what the groups leave of the run q: it stands between what it gave as a closer and what it gave as an opener
abbrev pub left_from : List Group → ℕ → Run → ℕ
left_from gs q r = r.start + closed gs q

abbrev pub left_to : List Group → ℕ → Run → ℕ
left_to gs q r = r.start + r.size - opened gs q

-- whether the run q has a leftover, and is not emptied
unfoldable pub remains : List Group → ℕ → Run → Bool
remains gs q r = ltb (left_from gs q r) (left_to gs q r)

abbrev pub closing_pieces : List Group → ℕ → Run → List Piece
closing_pieces gs q r = closings gs q r.marker r.start

abbrev pub opening_pieces : List Group → ℕ → Run → List Piece
opening_pieces gs q r = openings gs q r.marker (r.start + r.size)
