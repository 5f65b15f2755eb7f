-- What public calls promise. `read` has its promise here; every call that writes a section has the other, once for all. What follows from them
-- alone, that any two results are equal and that nothing a buffer held shows, is said of the exported calls (crates/claims).
-- Assumes nothing.
use Rattle.std.specs.Prelude.{ℕ, ◌≡◌, List, length, replicate, Ok, Err}
use Rattle.record.specs.Check.{Reading, admitted}
use Rattle.record.specs.Outcome.{Outcome, bytes_written, onto}
use Rattle.record.specs.declared.form.Form.{Form}
use Rattle.record.specs.declared.form.Handed.{Handed}

-- document 01's numbers of an answer of `read`: "A refusal returns its number and place, all else zero"
pub record ReadNumbers : Type 0 where
  pub number : ℕ
  pub place : ℕ
  pub document : ℕ
  pub events : ℕ

abbrev pub numbers_of : Reading → ReadNumbers
numbers_of (Ok c) = record { number = 0; place = 0; document = c.document; events = c.events }
numbers_of (Err r) = record { number = r.number; place = r.place; document = 0; events = 0 }

-- and those of an answer that tells of a section only how many events it has
pub record SectionNumbers : Type 0 where
  pub number : ℕ
  pub place : ℕ
  pub events : ℕ

-- `read` answers r, and work' is what the work memory then holds: the answer is one of the record, the options and the memory's length alone
pub record Read (h : Handed) (s work : List ℕ) (r : Reading) (work' : List ℕ) : Type 0 where
  pub answer : r ≡ admitted h s (length work)
  pub wiped : work' ≡ replicate (length work) 0

-- a call's answer and output, where it comes to o on a record of form f: r is answered, which is `answers` of o, and out' is what its output then holds. The inner
-- promise of a call that writes: nothing is said of the work memory
pub record Answered {A : Type 0} (f : Form) (o : Outcome) (answers : Outcome → A) (out : List ℕ) (r : A) (out' : List ℕ) : Type 0 where
  pub answer : r ≡ answers o
  pub output : out' ≡ onto (bytes_written f o) out

-- a call on a record of form f that writes answers r, and out' and work' are what its output and work memory then hold. What it comes to is a definition of the two
-- lengths, `comes` (the record, the options and other arguments are in it), and `answers` is its answer type's reading of that
pub record Writes {A : Type 0} (f : Form) (comes : ℕ → ℕ → Outcome) (answers : Outcome → A) (out work : List ℕ) (r : A) (out' work' : List ℕ) : Type 0 where
  pub answer : r ≡ answers (comes (length out) (length work))
  pub output : out' ≡ onto (bytes_written f (comes (length out) (length work))) out
  pub wiped : work' ≡ replicate (length work) 0
