-- Events put into a section one after the other, by a pen, in either form: "Every resolver must leave the partners true in what it writes."
-- Assumes nothing.
use Rattle.std.specs.Prelude.{ℕ, ◌+◌, ◌*◌, ◌≤◌, ◌<◌, ◌≡◌, true, ◌⊎◌, List, ◌++◌, length, get_or, take, drop}
use Rattle.record.specs.Bytes.{u32_bytes, Wrote}
use Rattle.record.specs.Event.{bytes_of, flat}
use Rattle.record.specs.Outcome.{onto}
use Rattle.record.specs.Partners.{balanced, flat_linked, section_in}
use Rattle.record.specs.Stack.{open_at, nth}
use Rattle.record.specs.declared.event.Event.{Event}
use Rattle.record.specs.declared.form.Form.{Form}
use Rattle.partners.specs.Laws.{partner_of}
use Rattle.partners.specs.declared.Pen.{Pen}

-- these bytes stand at a place of d
pub record Holds (d : List ℕ) (at : ℕ) (xs : List ℕ) : Type 0 where
  pub each : (j : ℕ) → j < length xs → get_or d (at + j) 0 ≡ get_or xs j 0

-- the first i of the events es stand side by side from byte 4 of d on, and else d is b
pub record Beside (b : List ℕ) (es : List Event) (i : ℕ) (d : List ℕ) (p : Pen) : Type 0 where
  pub room : 4 + 8 * length es ≤ length b
  pub place : p.at ≡ 4 + 8 * i
  pub wrote : Wrote b 4 (flat (take i es)) d

-- The first i of the events es stand twelve bytes apart. Those whose partner is among them have its number; the numbers of the enters that are open stand
-- in the partner fields of the last events, where the section will end, the innermost first. Outside of the section d is b.
pub record Apart (b : List ℕ) (es : List Event) (i : ℕ) (d : List ℕ) (p : Pen) : Type 0 where
  pub room : 4 + 12 * length es ≤ length b
  pub place : p.at ≡ 4 + 12 * i
  pub count : p.number ≡ i
  pub top : p.held + 12 * length (open_at es i) ≡ 12 + 12 * length es
  pub outside : (j : ℕ) → (j < 4) ⊎ (4 + 12 * length es ≤ j) → get_or d j 0 ≡ get_or b j 0
  pub stand : (k : ℕ) → k < i → Holds d (4 + 12 * k) (bytes_of (nth es k))
  pub linked : (k : ℕ) → k < i → partner_of es k < i → Holds d (12 + 12 * k) (u32_bytes (partner_of es k))
  pub kept : (j : ℕ) → j < length (open_at es i) → Holds d (p.held + 12 * j) (u32_bytes (get_or (open_at es i) j 0))

-- The pen p stands behind the first i of the events es, which are being put into b and have made it d so far. A width under 12 means side by side; from 12 on
-- events are twelve bytes apart.
pub record At (w : ℕ) (b : List ℕ) (es : List Event) (i : ℕ) (d : List ℕ) (p : Pen) : Type 0 where
  pub balance : balanced es ≡ true
  pub few : length es ≤ 8000
  pub within : i ≤ length es
  pub width : p.width ≡ w
  pub size : length d ≡ length b
  pub narrow : w < 12 → Beside b es i d p
  pub wide : 12 ≤ w → Apart b es i d p

-- d is ready for these events: they are the next of some balanced ones that are being put
pub record Fits (d : List ℕ) (p : Pen) (fs : List Event) : Type 0 where
  pub w : ℕ
  pub b : List ℕ
  pub es : List Event
  pub i : ℕ
  pub rest : List Event
  pub at : At w b es i d p
  pub next : drop i es ≡ fs ++ rest

-- These events are put, whatever they are the next of, and have made d d'. What `At` leaves open is open here too: where events are twelve bytes apart, the
-- fields of enters that are open and the section's bytes behind; side by side, the pen's last two numbers. Where all are put, none of it is left.
pub record Put (d : List ℕ) (p : Pen) (fs : List Event) (d' : List ℕ) (p' : Pen) : Type 0 where
  pub goes : (w : ℕ) (b : List ℕ) (es : List Event) (i : ℕ) (rest : List Event) → At w b es i d p → drop i es ≡ fs ++ rest → At w b es (i + length fs) d' p'
  pub same : length d' ≡ length d

-- b with these events from byte 4 on, in a form of this width, and else as it was
pub record Filled (w : ℕ) (b : List ℕ) (es : List Event) (d : List ℕ) : Type 0 where
  pub narrow : w < 12 → Wrote b 4 (flat es) d
  pub wide : 12 ≤ w → Wrote b 4 (flat_linked es) d

-- "Each section follows its count": the count at the front of an output and then its events make the section in a form, and behind it the output is as it was
abbrev pub FilledIsSection : Type 0
FilledIsSection =
    (f : Form) (es : List Event) (out b d : List ℕ) → 8 ≤ f.width → 4 + f.width * length es ≤ length out → Wrote out 0 (u32_bytes (length es)) b →
    Filled f.width b es d → d ≡ onto (section_in f es) out
