-- The walk along the chains and a match, run on document 01's `*a _b* c_` as its runs stand in memory.
-- Assumes nothing.
use Rattle.std.specs.Prelude.{ℕ, ◌≡◌, refl, List, false, replicate}
use Rattle.record.specs.Choice.{choose, and}
use Rattle.runs.specs.declared.Next.TheVariants.{Match, Done}
use Rattle.runs.specs.Rule.{threes, tildes, rule_over, rule_for}
use Rattle.runs.specs.Plain.{amount}
use Rattle.slots.specs.Words.{get16, put16}
use Rattle.slots.specs.Layout.{with_whole, with_left, with_marker, with_opens, with_closes, with_chain}
use Rattle.chains.specs.Walk.{closing, opening, both_at, takes_at, down, seek, passed, raised, onward}
use Rattle.chains.specs.Step.{unchained, popped, cleared, leaves, lowered, joined, matched_at}

-- a run's slot: its number, size, marker, whether it opens and closes, its chain
unfoldable slot : List ℕ → ℕ → ℕ → ℕ → ℕ → ℕ → ℕ → List ℕ
slot w i size marker opens closes chain = with_chain (with_closes (with_opens (with_marker (with_left (with_whole w i size) i size) i marker) i opens) i closes) i chain

-- `*a _b* c_`
unfoldable crossing : List ℕ
crossing = slot (slot (slot (slot (replicate 38726 0) 0 1 42 1 0 0) 1 1 95 1 0 1) 2 1 42 0 1 0) 3 1 95 0 1 1

-- the `*` at 2 takes the one at 0 at its first try, with two runs open
finds_first : (onward 4 (rule_for false) crossing 0 0 0).0 ≡ Match 0 2 1
unfolding slot crossing choose and threes tildes rule_over get16 put16 closing opening both_at takes_at down seek passed raised onward
finds_first = refl

-- what the walk leaves there, and what the match makes of it: the `_` at 1 stood between and lost open, so that the one at 3 finds none
unfoldable walked : List ℕ × ℕ
walked = (onward 4 (rule_for false) crossing 0 0 0).1

unfoldable joined_up : List ℕ × ℕ
joined_up = matched_at walked.0 walked.1 0 2 0

finds_no_more : (onward 2 (rule_for false) joined_up.0 joined_up.1 2 0).0 ≡ Done 0
unfolding slot crossing walked joined_up choose and threes tildes rule_over amount get16 put16 closing opening both_at takes_at down seek passed raised onward unchained popped cleared leaves lowered joined matched_at
finds_no_more = refl
