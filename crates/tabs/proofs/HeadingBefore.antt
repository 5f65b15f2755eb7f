-- A line with no tab is read at column 0 as it was before tabs went to stops: the statement of specs/HeadingBefore.antt.
-- Assumes nothing.
use mathlib.Core.Path.{◌≡◌}
use mathlib.Core.Bool.{true}
use mathlib.Core.List.{List}
use Prim.Native.Nat.{ℕ}
use Rattle.scan.specs.Run.{every}
use Rattle.scan.specs.Line.{line_of}
use Rattle.tabs.specs.BytesBefore.{no_tab}
use Rattle.tabs.proofs.BytesBefore.{without_tabs, checked_as_before}
use Rattle.atx.specs.Heading.{is_heading, headed_in, headed_of}
use Rattle.tabs.specs.HeadingBefore.{is_heading_before, headed_before, WithoutTabs}

is_heading_before_lem : (l : List ℕ) (options : ℕ) → every no_tab l ≡ true → is_heading l options 0 ≡ is_heading_before l options
unfolding is_heading is_heading_before
is_heading_before_lem l options h = rw ((without_tabs 0 l h).indented options)

pub headed_before_lem : WithoutTabs
unfolding headed_of headed_in headed_before
headed_before_lem s options outs h = rw (checked_as_before s options, is_heading_before_lem (line_of s) options h)
