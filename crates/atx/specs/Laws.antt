-- What a user reads the promise through: statements about a heading's events, proved in proofs/Covering.antt and proofs/Breaks.antt for every
-- line.
-- Assumes nothing.
use Rattle.std.specs.Prelude.{ℕ, zero, suc, ◌+◌, ◌≤◌, ◌<◌, ◌≡◌, Bool, true, false, ◌⊎◌, List, [], ◌∷◌, length, get_or, ltb, eqb}
use Rattle.record.specs.Choice.{and}
use Rattle.record.specs.Options.{option_on}
use Rattle.record.specs.Event.{enter, exit}
use Rattle.record.specs.Stack.{nth}
use Rattle.record.specs.Sound.{sound}
use Rattle.record.specs.declared.event.Event.{Event}
use Rattle.scan.specs.Run.{space_or_tab, hash}
use Rattle.scan.specs.Columns.{columns, indentation}
use Rattle.atx.specs.Heading.{is_heading, split, events_from, heading_events, piece}
use Rattle.atx.specs.declared.Piece.{Piece}

-- pairs of events that follow each other without a gap, each at least a byte long, from one place to another
unfoldable pub gapless : ℕ → ℕ → List Event → Bool
gapless from to [] = eqb from to
gapless from to (e ∷ []) = false
gapless from to (e ∷ x ∷ es) = and (eqb e.place from) (and (ltb from x.place) (gapless x.place to es))

-- the section of a heading: sound and balanced, with at most two events open, and inside enter and exit of 11 the line from its first byte
-- to its end without gaps
pub record HeadingLaws (l : List ℕ) : Type 0 where
  pub balanced : sound 2 (length l) (heading_events l) ≡ true
  pub covers : gapless 0 (length l) (events_from 0 (split l)) ≡ true

-- document 01's heading shape: "beginning with at most one 14 and then a 12", whose length is the heading's level
pub record HeadingShape (l : List ℕ) (options column : ℕ) : Type 0 where
  pub level : ℕ
  pub one_to_six : (1 ≤ level) × (level ≤ 6)
  pub rest : List Piece
  pub begins : (split l ≡ piece 12 level ∷ rest) ⊎ (split l ≡ piece 14 (indentation options column l).bytes ∷ piece 12 level ∷ rest)

-- with option 32, what is indented by more than three columns is no heading
abbrev pub TooDeep : Type 0
TooDeep = (l : List ℕ) (options column : ℕ) → option_on options 32 ≡ true → 3 < columns column l → is_heading l options column ≡ false

-- stops stand every four columns: a line that starts four columns further on is answered alike
abbrev pub EveryFour : Type 0
EveryFour = (l : List ℕ) (options column : ℕ) → is_heading l options (column + 4) ≡ is_heading l options column

-- document 01: "`#` runs that follow a break". A break before a place: the line's beginning, or a space or tab
unfoldable pub after_break : List ℕ → ℕ → Bool
after_break l zero = true
after_break l (suc at) = space_or_tab (get_or l at 0)

-- of some events, the one after event k enters a 12 at `from`: the next leaves it, it is a whole run of `#`, and it follows a break: it stands at
-- the line's beginning, or right behind a 14
pub record HashRun (l : List ℕ) (es : List Event) (k from : ℕ) : Type 0 where
  pub to : ℕ
  pub left : nth es (suc (suc k)) ≡ exit 12 to
  pub some : from < to
  pub hashes : (i : ℕ) → from ≤ i → i < to → hash (get_or l i 0) ≡ true
  pub whole : hash (get_or l to 0) ≡ false
  pub broken : after_break l from ≡ true
  pub behind : (from ≡ 0) ⊎ (nth es k ≡ exit 14 from)

-- an event of a list that enters a 12 at a place
pub record Entered (es : List Event) (from : ℕ) : Type 0 where
  pub number : ℕ
  pub enters : nth es number ≡ enter 12 from

-- each 12 of a heading, whose event 0 enters the heading, is such a run; and each `#` that follows a break begins one
pub record HashRuns (l : List ℕ) : Type 0 where
  pub each : (k from : ℕ) → nth (heading_events l) (suc k) ≡ enter 12 from → HashRun l (heading_events l) k from
  pub all : (at : ℕ) → hash (get_or l at 0) ≡ true → after_break l at ≡ true → Entered (heading_events l) at
