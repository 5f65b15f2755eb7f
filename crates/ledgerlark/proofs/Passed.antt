-- A promise passed on: what the call below promises, and the numbers of its answer, are the exported call's promise.
-- Assumes nothing.
use Prim.Native.Nat.{ℕ}
use mathlib.Core.Path.{◌≡◌, ap, ◌∙◌}
use mathlib.Core.Bool.{Bool}
use mathlib.Core.List.{List}
use Rattle.atx.specs.Heading.{Headed}
use Rattle.record.specs.Check.{Reading}
use Rattle.record.specs.Outcome.{Outcome}
use Rattle.record.specs.Promise.{Read, Writes}
use Rattle.record.specs.declared.form.Form.{Form}
use Rattle.record.specs.declared.form.Handed.{Handed}
use Rattle.atx.specs.Promise.{HeadedBy}
use Rattle.lines.specs.Going.{going_of}
use Rattle.lines.specs.declared.container.Kind.{Kind}
use Rattle.ledgerlark.specs.Answers.{lark_reading2, lark_headed, kind_of, ReadBy, HeadedAs}
use Rattle.ledgerlark.specs.declared.resolve.LarkReading2.{LarkReading2}
use Rattle.ledgerlark.specs.declared.resolve.LarkResolved.{LarkResolved}
use Rattle.ledgerlark.specs.declared.line.LarkHeaded.{LarkHeaded}

pub read_on : {A : Type 0} (h : Handed) (s : List ℕ) (numbers : Reading → A) (work : List ℕ) (a : Reading) (r : A) (work' : List ℕ) →
    Read h s work a work' → r ≡ numbers a → ReadBy h s numbers work r work'
read_on h s numbers work a r work' p e = record { answer = e ∙ ap numbers p.answer; wiped = p.wiped }

-- the options that are filled in are those that were read
pub with_options : (options n : ℕ) (a : Reading) (r : LarkReading2) → options ≡ n → r ≡ lark_reading2 options a → r ≡ lark_reading2 n a
with_options options n a r o e = e ∙ ap (λ (m : ℕ). lark_reading2 m a) o

pub written_on : {A : Type 0} (f : Form) (comes : ℕ → ℕ → Outcome) (answers : Outcome → A) (numbers : A → LarkResolved) (out work : List ℕ) (a : A) (r : LarkResolved)
    (out' work' : List ℕ) → Writes f comes answers out work a out' work' → r ≡ numbers a →
    Writes f comes (λ (o : Outcome). numbers (answers o)) out work r out' work'
written_on f comes answers numbers out work a r out' work' p e = record { answer = e ∙ ap numbers p.answer; output = p.output; wiped = p.wiped }

pub headed_on : (s : List ℕ) (options column : ℕ) (out : List ℕ) (a : Headed) (r : LarkHeaded) (out' : List ℕ) →
    HeadedBy s options column out a out' → r ≡ lark_headed a → HeadedAs s options column out r out'
headed_on s options column out a r out' p e = record { answer = e ∙ ap lark_headed p.answer; output = p.output }

-- the container that is passed on has the kind that its mark stands for
pub held_kind : (s : List ℕ) (options column size : ℕ) (blank : Bool) (kind : Kind) (mark : ℕ) → kind ≡ kind_of mark →
    going_of s options column (record { kind = kind; size = size; blank = blank })
    ≡ going_of s options column (record { kind = kind_of mark; size = size; blank = blank })
held_kind s options column size blank kind mark e = ap (λ (k : Kind). going_of s options column (record { kind = k; size = size; blank = blank })) e
