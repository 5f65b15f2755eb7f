-- §2.2, of the heading reader: "tabs behave as if they were replaced by spaces with a tab stop of 4 characters". A line that starts at a column is a heading
-- where it was one, before tabs went to stops (specs/HeadingBefore.antt), with its tabs replaced. Proved: proofs/HeadingAsIf.antt.
-- Assumes nothing.
use Rattle.std.specs.Prelude.{ℕ, ◌≡◌, List}
use Rattle.tabs.specs.Replaced.{replaced}
use Rattle.atx.specs.Heading.{is_heading}
use Rattle.tabs.specs.HeadingBefore.{is_heading_before}

abbrev pub TabsAsSpaces : Type 0
TabsAsSpaces = (c : ℕ) (l : List ℕ) (options : ℕ) → is_heading l options c ≡ is_heading_before (replaced c l) options
