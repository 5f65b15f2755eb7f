-- The partners of events, and a section and a record of any form. Form 2 has "events of 12 bytes: the old 8 and the event number of the partner, 32-bit
-- little endian"; "Every resolver must leave the partners true in what it writes."
-- Assumes nothing.
use Rattle.std.specs.Prelude.{ℕ, ◌+◌, ◌-◌, Bool, List, [], ◌∷◌, ◌++◌, length, ltb, eqb}
use Rattle.record.specs.Choice.{choose, and}
use Rattle.record.specs.Bytes.{u32_bytes}
use Rattle.record.specs.Event.{bytes_of, section_bytes}
use Rattle.record.specs.Stack.{innermost_of, after}
use Rattle.record.specs.declared.event.Event.{Event}
use Rattle.record.specs.declared.form.Form.{Form}

-- each exit has an enter, and no enter is left open; n are open before these events. Names play no part
unfoldable pub balanced_from : ℕ → List Event → Bool
balanced_from n [] = eqb n 0
balanced_from n (e ∷ es) = choose (eqb e.kind 0) (balanced_from (n + 1) es) (and (ltb 0 n) (balanced_from (n - 1) es))

abbrev pub balanced : List Event → Bool
balanced es = balanced_from 0 es

-- the number of the exit that closes an enter, where n others have been opened and not closed since, and event i comes next
unfoldable pub closing : ℕ → List Event → ℕ → ℕ
closing n [] i = i
closing n (e ∷ es) i = choose (eqb e.kind 0) (closing (n + 1) es (i + 1)) (choose (eqb n 0) i (closing (n - 1) es (i + 1)))

-- the partner of each event, the first of which has number i, where the enters `held` are open: an enter's is the exit that closes it, an exit's
-- the innermost open enter
unfoldable pub partners_from : List Event → ℕ → List ℕ → List ℕ
partners_from [] i held = []
partners_from (e ∷ es) i held = choose (eqb e.kind 0) (closing 0 es (i + 1)) (innermost_of held) ∷ partners_from es (i + 1) (after e i held)

-- the numbers count in the list itself, from 0
abbrev pub partners : List Event → List ℕ
partners es = partners_from es 0 []

-- the bytes of events, each with a number behind its eight
unfoldable pub flat_with : List Event → List ℕ → List ℕ
flat_with [] ps = []
flat_with (e ∷ es) [] = []
flat_with (e ∷ es) (p ∷ ps) = bytes_of e ++ (u32_bytes p ++ flat_with es ps)

-- each with its partner's
unfoldable pub flat_linked : List Event → List ℕ
flat_linked es = flat_with es (partners es)

-- a section in a form: how many, then each; where events carry partner numbers, with these
unfoldable pub section_in : Form → List Event → List ℕ
section_in f es = choose (ltb f.width 12) (section_bytes es) (u32_bytes (length es) ++ flat_linked es)

-- "a first section of count 1 with the option byte": what stands before the document's count, where a form has room for it
unfoldable pub front_in : Form → ℕ → List ℕ
front_in f options = choose (ltb f.front 5) [] (u32_bytes 1 ++ (options ∷ []))

-- "a first section of count 1 with the option byte, then the document, then events of 12 bytes": a record in a form. In the old form the options stand
-- beside it, and it is `record_bytes`
unfoldable pub record_in : Form → ℕ → List ℕ → List Event → List ℕ
record_in f options document es = front_in f options ++ (u32_bytes (length document) ++ (document ++ section_in f es))
