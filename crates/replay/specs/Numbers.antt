-- The number that the list has for each call: "0 attention, 1 headings, 2 lists, on a record; 3 space_or_tab, 4 list_item, 5 continuation, 6 heading,
-- on a line".
-- Assumes nothing.
use Rattle.std.specs.Prelude.{ℕ, ◌≡◌, ◌≤◌, Result, MatchResult}
use Rattle.replay.specs.declared.call.Call.{Call}
use Rattle.replay.specs.declared.call.Call.TheVariants.{Attention, Headings, Lists, SpaceOrTab, ListItem, Continuation, Heading}
use Rattle.replay.specs.declared.call.UnknownCall.{UnknownCall}

abbrev pub number_of : Call → ℕ
number_of Attention = 0
number_of Headings = 1
number_of Lists = 2
number_of SpaceOrTab = 3
number_of ListItem = 4
number_of Continuation = 5
number_of Heading = 6

-- the call with this number, or an error with a number that no call has
abbrev pub Decodes : ℕ → Result Call UnknownCall → Type 0
Decodes n r = MatchResult r (λ call. number_of call ≡ n) (λ e. (e.0 ≡ n) × (7 ≤ n))
