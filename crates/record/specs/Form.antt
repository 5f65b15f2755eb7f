-- The forms of a record. Document 01: "First the document: count D, D bytes. Then the events: count E, E events of 8 bytes." Form 2
-- has "a first section of count 1 with the option byte, then the document, then events of 12 bytes"; docs/RULES.md says what of it stands.
-- Assumes nothing.
use Rattle.std.specs.Prelude.{ℕ, ◌+◌, ◌*◌, ◌≤◌, List}
use Rattle.record.specs.Bytes.{u32_at}
use Rattle.record.specs.declared.form.Form.{Form}

abbrev pub form : ℕ → ℕ → Form
form front width = record { front = front; width = width }

abbrev pub old : Form
old = form 0 8

abbrev pub second : Form
second = form 5 12

-- where event k stands, after a document of d bytes. Sums are written so that those of the old form compute to what document 01 has
abbrev pub place_in : Form → ℕ → ℕ → ℕ
place_in f d k = 8 + f.front + d + f.width * k

-- the number behind its eight bytes: in the second form, its partner's
abbrev pub mate_in : Form → List ℕ → ℕ → ℕ → ℕ
mate_in f s d k = u32_at s (place_in f d k + 8)

-- what is asked of any form: an event has its eight bytes, and no sum of places is near the end of the numbers
pub record Known (f : Form) : Type 0 where
  pub wide : 8 ≤ f.width
  pub slim : f.width ≤ 256
  pub near : f.front ≤ 256
