-- Rows 6, 7 and 8 of document 01's table, of a call that writes a section, and its "given exactly when". Said once, over any resolver: over
-- what it makes of a good record, and over what it means for an enter event to offend against its shape rule.
-- Assumes nothing.
use Rattle.std.specs.Prelude.{ℕ, ◌+◌, ◌*◌, ◌≤◌, ◌<◌, ◌≡◌, List, length}
use Rattle.record.specs.Check.{admitted}
use Rattle.record.specs.Form.{place_in}
use Rattle.record.specs.Handed.{form_of}
use Rattle.record.specs.Order.{Least}
use Rattle.record.specs.Rows.{Row, document_count_in, event_count_in}
use Rattle.record.specs.Outcome.{Resolution, offends, gives, accepted, refusing, outcome}
use Rattle.record.specs.declared.event.Event.{Event}
use Rattle.record.specs.declared.form.Handed.{Handed}

-- a resolver judges by its shape rule: the enter event that it names offends, and no earlier one; where it gives a result none offends
pub record Judges (Offends : ℕ → Type 0) (made : Resolution) : Type 0 where
  pub earliest : (k : ℕ) → made ≡ offends k → Offends k × ((j : ℕ) → Offends j → k ≤ j)
  pub none : (es : List Event) → made ≡ gives es → (j : ℕ) → Offends j → ⊥

-- the rows that a resolver can give; `Offends` says which enter events break its shape rule, `made` is what it makes of the record, and `outs`
-- the output's length. Amendment D18: row 7, since the standard sets no limit
pub data WrittenRow (h : Handed) (s : List ℕ) (works : ℕ) (Offends : ℕ → Type 0) (made : Resolution) (outs n p : ℕ) : Type 0 where
  by_check : Row h s works n p → WrittenRow h s works Offends made outs n p
  row_6 : (k : ℕ) → Offends k → n ≡ 6 → p ≡ place_in (form_of h) (document_count_in (form_of h) s) k → WrittenRow h s works Offends made outs n p
  row_7 : (es : List Event) → made ≡ gives es → 8000 < length es → n ≡ 7 → p ≡ 0 → WrittenRow h s works Offends made outs n p
  row_8 : (es : List Event) → made ≡ gives es → outs < 4 + (form_of h).width * length es → n ≡ 8 → p ≡ 0 → WrittenRow h s works Offends made outs n p

-- "Given exactly when": proved in proofs/ExactlyWritten.antt, for every resolver that judges good records by its shape rule, and for every
-- record, however it is handed over, and pair of lengths
pub record ExactlyWritten (h : Handed) (s : List ℕ) (works : ℕ) (Offends : ℕ → Type 0) (resolve : ℕ → ℕ → Resolution) (outs : ℕ) : Type 0 where
  pub refused : (n p : ℕ) → outcome (form_of h) (admitted h s works) resolve outs ≡ refusing n p →
      Least (WrittenRow h s works Offends (resolve (document_count_in (form_of h) s) (event_count_in (form_of h) s)) outs) n p
  pub given : (n p : ℕ) → Least (WrittenRow h s works Offends (resolve (document_count_in (form_of h) s) (event_count_in (form_of h) s)) outs) n p →
      outcome (form_of h) (admitted h s works) resolve outs ≡ refusing n p
  pub good : (es : List Event) → outcome (form_of h) (admitted h s works) resolve outs ≡ accepted es →
      (resolve (document_count_in (form_of h) s) (event_count_in (form_of h) s) ≡ gives es)
      × ((n p : ℕ) → WrittenRow h s works Offends (resolve (document_count_in (form_of h) s) (event_count_in (form_of h) s)) outs n p → ⊥)
  pub written : (es : List Event) → resolve (document_count_in (form_of h) s) (event_count_in (form_of h) s) ≡ gives es →
      ((n p : ℕ) → WrittenRow h s works Offends (resolve (document_count_in (form_of h) s) (event_count_in (form_of h) s)) outs n p → ⊥) →
      outcome (form_of h) (admitted h s works) resolve outs ≡ accepted es
