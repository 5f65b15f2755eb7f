-- Document 01's table of the numbers given back, as the heading reader uses it: rows 2, 3 and 4 as every line reader does, and 7 and 8.
-- Assumes nothing.
use Rattle.std.specs.Prelude.{ℕ, ◌+◌, ◌*◌, ◌<◌, ◌≡◌, true, List, length, None, Some, Ok}
use Rattle.record.specs.Choice.{choose}
use Rattle.scan.specs.Line.{line_of}
use Rattle.scan.specs.Rows.{Row}
use Rattle.atx.specs.Heading.{is_heading, heading_events, Headed}

-- with an output of `outs` bytes: "result over 8,000 events" (amendment D18: the standard sets no limit), "output shorter than 4 + 8 × result"
pub data WritingRow (s : List ℕ) (options column outs n p : ℕ) : Type 0 where
  reading : Row s options column n p → WritingRow s options column outs n p
  row_7 : is_heading (line_of s) options column ≡ true → 8000 < length (heading_events (line_of s)) → n ≡ 7 → p ≡ 0 → WritingRow s options column outs n p
  row_8 : is_heading (line_of s) options column ≡ true → outs < 4 + 8 * length (heading_events (line_of s)) → n ≡ 8 → p ≡ 0 → WritingRow s options column outs n p

-- what the heading reader finds where no row holds
abbrev pub heading_found : List ℕ → ℕ → ℕ → Headed
heading_found l options column = choose (is_heading l options column) (Ok (Some (length (heading_events l)))) (Ok None)
