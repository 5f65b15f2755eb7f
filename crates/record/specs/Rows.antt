-- Document 01's table of the numbers given back, rows 1 to 5, said a second time: each row in the table's words, with its place, and not as a
-- cascade. Of several that hold the least is given: specs/Order.antt says which that is.
-- Assumes nothing.
use Rattle.std.specs.Prelude.{ℕ, zero, suc, ◌+◌, ◌*◌, ◌≤◌, ◌<◌, ◌≡◌, false, List, [], ◌∷◌, length, get_or}
use Rattle.record.specs.Bytes.{u32_at}
use Rattle.record.specs.Form.{place_in, mate_in}
use Rattle.record.specs.Handed.{form_of}
use Rattle.record.specs.declared.form.Form.{Form}
use Rattle.record.specs.Event.{stored_at, event_at}
use Rattle.record.specs.Stack.{innermost_of, none, after}
use Rattle.record.specs.Check.{refuse, admitted, accept}
use Rattle.record.specs.Order.{Least}
use Rattle.record.specs.declared.form.Handed.{Handed}
use Rattle.record.specs.declared.form.Handed.TheVariants.{Old, Second}

-- D and E, wherever the record has them
abbrev pub document_count_in : Form → List ℕ → ℕ
document_count_in f s = u32_at s f.front

abbrev pub event_count_in : Form → List ℕ → ℕ
event_count_in f s = u32_at s (4 + f.front + document_count_in f s)

-- the two sections: where the count stands, its limit, and the bytes of an entry. The events' count is there if the document ends in the record
pub data Section (f : Form) (s : List ℕ) (at limit width : ℕ) : Type 0 where
  the_document : at ≡ f.front → limit ≡ 16384 → width ≡ 1 → Section f s at limit width
  the_events : 4 + f.front + document_count_in f s ≤ length s → at ≡ 4 + f.front + document_count_in f s → limit ≡ 2048 → width ≡ f.width → Section f s at limit width

-- 3: "a count doesn't fit, is over its limit or runs past the record; bytes follow the last section": "that count, first byte after"
pub data Misfits (f : Form) (s : List ℕ) (p : ℕ) : Type 0 where
  no_room : {limit width : ℕ} → Section f s p limit width → length s < p + 4 → Misfits f s p
  over : {limit width : ℕ} → Section f s p limit width → p + 4 ≤ length s → limit < u32_at s p → Misfits f s p
  past : {limit width : ℕ} → Section f s p limit width → p + 4 ≤ length s → length s < p + 4 + width * u32_at s p → Misfits f s p
  follow : p ≡ place_in f (document_count_in f s) (event_count_in f s) → p < length s → Misfits f s p

-- 4: "a carriage return in the document": "its offset"
pub record Returns (f : Form) (s : List ℕ) (p : ℕ) : Type 0 where
  pub from : 4 + f.front ≤ p
  pub to : p < 4 + f.front + document_count_in f s
  pub there : get_or s p 0 ≡ 13

-- the names open before event k, and the place of the event before it
unfoldable pub open_names : Form → List ℕ → ℕ → ℕ → List ℕ
open_names f s d zero = []
open_names f s d (suc k) = after (event_at s (place_in f d k)) (event_at s (place_in f d k)).name (open_names f s d k)

-- and their numbers
unfoldable pub open_numbers : Form → List ℕ → ℕ → ℕ → List ℕ
open_numbers f s d zero = []
open_numbers f s d (suc k) = after (event_at s (place_in f d k)) k (open_numbers f s d k)

unfoldable pub place_before : Form → List ℕ → ℕ → ℕ → ℕ
place_before f s d zero = 0
place_before f s d (suc k) = (event_at s (place_in f d k)).place

-- 5: "bad kind, name or zero bytes; place over D or below the event before; exit without its enter (same name, innermost); depth over 64"
pub data Broken (f : Form) (s : List ℕ) (d k : ℕ) : Type 0 where
  bad_kind : 1 < (event_at s (place_in f d k)).kind → Broken f s d k
  bad_name : 24 < (event_at s (place_in f d k)).name → Broken f s d k
  bad_zeros : ((stored_at s (place_in f d k)).zeros ≡ 0 → ⊥) → Broken f s d k
  past_document : d < (event_at s (place_in f d k)).place → Broken f s d k
  below_last : (event_at s (place_in f d k)).place < place_before f s d k → Broken f s d k
  no_enter : (event_at s (place_in f d k)).kind ≡ 1 → ((held : List ℕ) → open_names f s d k ≡ (event_at s (place_in f d k)).name ∷ held → ⊥) → Broken f s d k
  too_deep : (event_at s (place_in f d k)).kind ≡ 0 → 64 ≤ length (open_names f s d k) → Broken f s d k
  untrue_exit : 12 ≤ f.width → (event_at s (place_in f d k)).kind ≡ 1 → (mate_in f s d k ≡ innermost_of (open_numbers f s d k) → ⊥) → Broken f s d k
  untrue_enter : 12 ≤ f.width → (event_at s (place_in f d k)).kind ≡ 1 → (mate_in f s d (innermost_of (open_numbers f s d k)) ≡ k → ⊥) → Broken f s d k

-- "that event, or the record's end" where "events [are] left open"
pub data Unsound (f : Form) (s : List ℕ) (p : ℕ) : Type 0 where
  an_event : (k : ℕ) → k < event_count_in f s → Broken f s (document_count_in f s) k → p ≡ place_in f (document_count_in f s) k → Unsound f s p
  left_open : none (open_names f s (document_count_in f s) (event_count_in f s)) ≡ false → p ≡ length s → Unsound f s p

-- the rows of what follows the front
pub data Inner (f : Form) (s : List ℕ) (n p : ℕ) : Type 0 where
  in_3 : Misfits f s p → n ≡ 3 → Inner f s n p
  in_4 : Returns f s p → n ≡ 4 → Inner f s n p
  in_5 : Unsound f s p → n ≡ 5 → Inner f s n p

-- the rows of what comes before it: beside the old form, "options over 63"
pub data OptionsRow (options n p : ℕ) : Type 0 where
  row_2 : 63 < options → n ≡ 2 → p ≡ 0 → OptionsRow options n p

-- and form 2's first section: "2 also for a count other than 1 or a byte over 63"; 3 where its count doesn't fit, or runs past the record
pub data FirstSectionRow (s : List ℕ) (n p : ℕ) : Type 0 where
  other_count : 4 ≤ length s → (u32_at s 0 ≡ 1 → ⊥) → n ≡ 2 → p ≡ 0 → FirstSectionRow s n p
  over_options : 5 ≤ length s → 63 < get_or s 4 0 → n ≡ 2 → p ≡ 0 → FirstSectionRow s n p
  no_count : length s < 4 → n ≡ 3 → p ≡ 0 → FirstSectionRow s n p
  runs_past : length s < 4 + u32_at s 0 → n ≡ 3 → p ≡ 0 → FirstSectionRow s n p

abbrev pub FrontRow : Handed → List ℕ → ℕ → ℕ → Type 0
FrontRow (Old options) s n p = OptionsRow options n p
FrontRow Second s n p = FirstSectionRow s n p

-- the rows of the table that a check of a record can give. Amendment D18: the limits in 3 and 5, since the standard sets none
pub data Row (h : Handed) (s : List ℕ) (works n p : ℕ) : Type 0 where
  row_1 : works < 65536 → n ≡ 1 → p ≡ 0 → Row h s works n p
  front : FrontRow h s n p → Row h s works n p
  inner : Inner (form_of h) s n p → Row h s works n p

-- "Given exactly when": proved in proofs/Exactly.antt, for every record, however it is handed over, and every length of work memory
pub record Exactly (h : Handed) (s : List ℕ) (works : ℕ) : Type 0 where
  pub refused : (n p : ℕ) → admitted h s works ≡ refuse n p → Least (Row h s works) n p
  pub given : (n p : ℕ) → Least (Row h s works) n p → admitted h s works ≡ refuse n p
  pub good : (d e : ℕ) → admitted h s works ≡ accept d e →
      (d ≡ document_count_in (form_of h) s) × (e ≡ event_count_in (form_of h) s) × ((n p : ℕ) → Row h s works n p → ⊥)
  pub accepted : ((n p : ℕ) → Row h s works n p → ⊥) → admitted h s works ≡ accept (document_count_in (form_of h) s) (event_count_in (form_of h) s)
