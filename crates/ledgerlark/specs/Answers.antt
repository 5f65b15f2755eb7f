-- What the exported calls promise: document 01's numbers of each answer, and the promise of the call below.
-- Assumes nothing.
use Rattle.std.specs.Prelude.{ℕ, ◌%◌, ◌≡◌, Bool, not, List, length, replicate, eqb, Result, Ok, Err}
use Rattle.record.specs.Choice.{choose}
use Rattle.record.specs.Check.{Reading, admitted}
use Rattle.record.specs.Handed.{form_of, options_of}
use Rattle.record.specs.Outcome.{Outcome, onto}
use Rattle.record.specs.Promise as read
use Rattle.record.specs.Promise.{Writes}
use Rattle.record.specs.declared.check.Refusal.{Refusal}
use Rattle.record.specs.declared.form.Handed.{Handed}
use Rattle.record.specs.declared.form.Handed.TheVariants.{Old, Second}
use Rattle.runs.specs.Rule.{Profile}
use Rattle.attention.specs.Promise as attention
use Rattle.heading.specs.Promise as heading
use Rattle.list.specs.Promise as list
use Rattle.lines.specs.Spaces as spaces
use Rattle.lines.specs.Spaces.{spaces_of, Spaces}
use Rattle.lines.specs.Item as item
use Rattle.lines.specs.Item.{start_of, Start}
use Rattle.lines.specs.Going as going
use Rattle.lines.specs.Going.{going_of}
use Rattle.atx.specs.Heading as atx
use Rattle.atx.specs.Heading.{headed_of, Headed}
use Rattle.lines.specs.declared.container.Kind.{Kind}
use Rattle.lines.specs.declared.container.Kind.TheVariants.{Bullet, Ordered}
use Rattle.lines.specs.declared.container.Container.{Container}
use Rattle.lines.specs.declared.going.Going.{Going}
use Rattle.ledgerlark.specs.declared.resolve.LarkReading.{LarkReading}
use Rattle.ledgerlark.specs.declared.resolve.LarkReading2.{LarkReading2}
use Rattle.ledgerlark.specs.declared.resolve.LarkResolved.{LarkResolved}
use Rattle.ledgerlark.specs.declared.line.LarkSpaces.{LarkSpaces}
use Rattle.ledgerlark.specs.declared.line.LarkItem.{LarkItem}
use Rattle.ledgerlark.specs.declared.line.LarkGoing.{LarkGoing}
use Rattle.ledgerlark.specs.declared.line.LarkHeaded.{LarkHeaded}

-- the structs that C sees, filled with the numbers of an answer

abbrev pub lark_reading : Reading → LarkReading
lark_reading r =
    record { number = (read.numbers_of r).number; place = (read.numbers_of r).place; document = (read.numbers_of r).document; events = (read.numbers_of r).events }

-- form 2 has the options beside the counts, "read from the record"; a refusal has none
abbrev pub lark_reading2 : ℕ → Reading → LarkReading2
lark_reading2 options (Ok c) = record { number = 0; place = 0; options = options; document = c.document; events = c.events }
lark_reading2 options (Err x) = record { number = x.number; place = x.place; options = 0; document = 0; events = 0 }

abbrev pub lark_attention : attention.Answer → LarkResolved
lark_attention r =
    record {
      number = (attention.numbers_of r).number;
      place = (attention.numbers_of r).place;
      events = (attention.numbers_of r).events;
      groups = (attention.numbers_of r).groups;
      tried = (attention.numbers_of r).tried;
    }

-- headings and lists have neither groups nor candidates
abbrev pub lark_headings : Result ℕ Refusal → LarkResolved
lark_headings r =
    record { number = (heading.numbers_of r).number; place = (heading.numbers_of r).place; events = (heading.numbers_of r).events; groups = 0; tried = 0 }

abbrev pub lark_lists : Result ℕ Refusal → LarkResolved
lark_lists r = record { number = (list.numbers_of r).number; place = (list.numbers_of r).place; events = (list.numbers_of r).events; groups = 0; tried = 0 }

abbrev pub lark_spaces : Spaces → LarkSpaces
lark_spaces r =
    record {
      number = (spaces.numbers_of r).number;
      place = (spaces.numbers_of r).place;
      found = (spaces.numbers_of r).found;
      taken = (spaces.numbers_of r).taken;
      left = (spaces.numbers_of r).left;
    }

abbrev pub lark_item : Start → LarkItem
lark_item r =
    record {
      number = (item.numbers_of r).number;
      place = (item.numbers_of r).place;
      found = (item.numbers_of r).found;
      taken = (item.numbers_of r).taken;
      left = (item.numbers_of r).left;
      size = (item.numbers_of r).size;
      blank = (item.numbers_of r).blank;
      mark = (item.numbers_of r).mark;
    }

abbrev pub lark_going : Result Going Refusal → LarkGoing
lark_going r =
    record {
      number = (going.numbers_of r).number;
      place = (going.numbers_of r).place;
      found = (going.numbers_of r).found;
      taken = (going.numbers_of r).taken;
      left = (going.numbers_of r).left;
      blank = (going.numbers_of r).blank;
    }

abbrev pub lark_headed : Headed → LarkHeaded
lark_headed r =
    record { number = (atx.numbers_of r).number; place = (atx.numbers_of r).place; found = (atx.numbers_of r).found; events = (atx.numbers_of r).events }

-- what goes in: any flag but 0 counts as set; `.` and `)` make an ordered container, any other number a bulleted one

abbrev pub flagged : ℕ → Bool
flagged n = not (eqb n 0)

unfoldable pub kind_of : ℕ → Kind
kind_of mark = choose (eqb mark 46) (Ordered 46) (choose (eqb mark 41) (Ordered 41) (Bullet (mark % 256)))

abbrev pub container_of : ℕ → ℕ → ℕ → Container
container_of size blank mark = record { kind = kind_of mark; size = size; blank = flagged blank }

-- the promises: the answer, the output and the work memory

-- a call that reads, over any form: `numbers` fills its struct
pub record ReadBy {A : Type 0} (h : Handed) (s : List ℕ) (numbers : Reading → A) (work : List ℕ) (r : A) (work' : List ℕ) : Type 0 where
  pub answer : r ≡ numbers (admitted h s (length work))
  pub wiped : work' ≡ replicate (length work) 0

abbrev pub ReadAs : List ℕ → ℕ → List ℕ → LarkReading → List ℕ → Type 0
ReadAs s options = ReadBy (Old options) s lark_reading

abbrev pub Read2As : List ℕ → List ℕ → LarkReading2 → List ℕ → Type 0
Read2As s = ReadBy Second s (lark_reading2 (options_of Second s))

-- the calls that write, over any form: however the record is handed over. Attention is over any profile too; the contract of a call says which
abbrev pub AttentionBy : Profile → Handed → List ℕ → List ℕ → List ℕ → LarkResolved → List ℕ → List ℕ → Type 0
AttentionBy profile h s out work r out' work' =
    Writes (form_of h) (attention.outcome_of profile h s) (λ (o : Outcome). lark_attention (attention.answer_of profile h s o)) out work r out' work'

abbrev pub HeadingsBy : Handed → List ℕ → List ℕ → List ℕ → LarkResolved → List ℕ → List ℕ → Type 0
HeadingsBy h s out work r out' work' =
    Writes (form_of h) (heading.outcome_of h s) (λ (o : Outcome). lark_headings (heading.answer_of o)) out work r out' work'

abbrev pub ListsBy : Handed → List ℕ → List ℕ → List ℕ → LarkResolved → List ℕ → List ℕ → Type 0
ListsBy h s out work r out' work' = Writes (form_of h) (list.outcome_of h s) (λ (o : Outcome). lark_lists (list.answer_of o)) out work r out' work'

-- the old form's calls, with options beside the record
abbrev pub AttentionAs : Profile → List ℕ → ℕ → List ℕ → List ℕ → LarkResolved → List ℕ → List ℕ → Type 0
AttentionAs profile s options = AttentionBy profile (Old options) s

abbrev pub HeadingsAs : List ℕ → ℕ → List ℕ → List ℕ → LarkResolved → List ℕ → List ℕ → Type 0
HeadingsAs s options = HeadingsBy (Old options) s

abbrev pub ListsAs : List ℕ → ℕ → List ℕ → List ℕ → LarkResolved → List ℕ → List ℕ → Type 0
ListsAs s options = ListsBy (Old options) s

-- and form 2's
abbrev pub Attention2As : Profile → List ℕ → List ℕ → List ℕ → LarkResolved → List ℕ → List ℕ → Type 0
Attention2As profile = AttentionBy profile Second

abbrev pub Headings2As : List ℕ → List ℕ → List ℕ → LarkResolved → List ℕ → List ℕ → Type 0
Headings2As = HeadingsBy Second

abbrev pub Lists2As : List ℕ → List ℕ → List ℕ → LarkResolved → List ℕ → List ℕ → Type 0
Lists2As = ListsBy Second

abbrev pub SpacesAs : List ℕ → ℕ → ℕ → ℕ → ℕ → LarkSpaces → Type 0
SpacesAs s options column min max r = r ≡ lark_spaces (spaces_of s options column min max)

abbrev pub ItemAs : List ℕ → ℕ → ℕ → ℕ → LarkItem → Type 0
ItemAs s options column interrupting r = r ≡ lark_item (start_of s options column (flagged interrupting))

abbrev pub GoingAs : List ℕ → ℕ → ℕ → ℕ → ℕ → ℕ → LarkGoing → Type 0
GoingAs s options column size blank mark r = r ≡ lark_going (going_of s options column (container_of size blank mark))

pub record HeadedAs (s : List ℕ) (options column : ℕ) (out : List ℕ) (r : LarkHeaded) (out' : List ℕ) : Type 0 where
  pub answer : r ≡ lark_headed (headed_of s options column (length out)).answer
  pub output : out' ≡ onto (headed_of s options column (length out)).bytes out
