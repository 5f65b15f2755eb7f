-- How a record is handed over, and what comes of that: its form, and its options. Document 01's calls take an option number beside a record of the old
-- form; form 2 has "options read from the record".
-- Assumes nothing.
use Rattle.std.specs.Prelude.{ℕ, List, get_or}
use Rattle.record.specs.Form.{old, second}
use Rattle.record.specs.declared.form.Form.{Form}
use Rattle.record.specs.declared.form.Handed.{Handed}
use Rattle.record.specs.declared.form.Handed.TheVariants.{Old, Second}

abbrev pub form_of : Handed → Form
form_of (Old options) = old
form_of Second = second

-- "a first section of count 1 with the option byte": the byte behind that count
abbrev pub options_of : Handed → List ℕ → ℕ
options_of (Old options) s = options
options_of Second s = get_or s 4 0
