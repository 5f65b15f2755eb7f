-- The heading reader as it was before tabs went to stops, in bytes and from column 0 (specs/BytesBefore.antt). No call goes by this. It stands here
-- for what is said of the reader: a line with no tab is read at column 0 as it was then, and one with tabs as if they were replaced by spaces (specs/HeadingAsIf.antt).
-- Assumes nothing.
use Rattle.std.specs.Prelude.{ℕ, ◌≡◌, Bool, true, List, drop, Err, None, Ok}
use Rattle.record.specs.Choice.{choose, and}
use Rattle.record.specs.Options.{option_on}
use Rattle.record.specs.Form.{old}
use Rattle.record.specs.Outcome.{sized}
use Rattle.scan.specs.Run.{every}
use Rattle.scan.specs.Line.{line_of, reading}
use Rattle.tabs.specs.BytesBefore.{checked_before, indentation_before, no_tab}
use Rattle.atx.specs.Heading.{opening, heading_events, Reply, nothing, headed, headed_of}

unfoldable pub is_heading_before : List ℕ → ℕ → Bool
is_heading_before l options = and (option_on options 8) (opening (drop (indentation_before options l) l))

unfoldable pub headed_before : List ℕ → ℕ → ℕ → Reply
headed_before s options outs =
    reading (checked_before s options) (λ r. nothing (Err r))
    (choose (is_heading_before (line_of s) options) (headed (sized old (heading_events (line_of s)) outs)) (nothing (Ok None)))

-- Document 01: "Lines with no tab and starting column 0 answer as they did when a tab was one byte." Proved: proofs/HeadingBefore.antt
abbrev pub WithoutTabs : Type 0
WithoutTabs = (s : List ℕ) (options outs : ℕ) → every no_tab (line_of s) ≡ true → headed_of s options 0 outs ≡ headed_before s options outs
