-- The calls of the two forms are one. A document and events, with options, are a record in the old form and a record in form 2. Of these the calls that
-- end in 2 answer what those without answer, but for places, which shift, and they write the same events, with partners added. It is said of every
-- document and all events that a record can be written of, good or not; crates/partners/specs/EitherForm.antt has it of what the calls come to.
-- proofs/EitherForm.antt proves it.
-- Assumes nothing.
use Rattle.std.specs.Prelude.{ℕ, ◌+◌, ◌*◌, ◌≡◌, List, ◌⊎◌, length}
use Rattle.record.specs.Check.{refuse}
use Rattle.record.specs.Form.{old, second}
use Rattle.record.specs.Outcome.{onto}
use Rattle.record.specs.Partners.{section_in, record_in}
use Rattle.record.specs.declared.event.Event.{Event}
use Rattle.partners.specs.EitherForm.{Writable, Alike}
use Rattle.runs.specs.Rule.{Profile}
use Rattle.ledgerlark.specs.Answers.{ReadAs, Read2As, AttentionAs, Attention2As, HeadingsAs, Headings2As, ListsAs, Lists2As}
use Rattle.ledgerlark.specs.declared.resolve.LarkReading.{LarkReading}
use Rattle.ledgerlark.specs.declared.resolve.LarkReading2.{LarkReading2}
use Rattle.ledgerlark.specs.declared.resolve.LarkResolved.{LarkResolved}
use Rattle.claims.specs.Records.{read_refusal, read2_refusal, refusal, resolved}

-- what the readers answer of options, a document of d bytes and e events: the same counts, to which form 2 adds the options that it carries, or the same
-- number, at the places of the same thing
pub data SameReading (options d e : ℕ) : LarkReading → LarkReading2 → Type 0 where
  both_good :
      SameReading options d e (record { number = 0; place = 0; document = d; events = e })
      (record { number = 0; place = 0; options = options; document = d; events = e })
  both_refused : (n p₁ p₂ : ℕ) → Alike d e (refuse n p₁) (refuse n p₂) → SameReading options d e (read_refusal n p₁) (read2_refusal n p₂)

abbrev pub ReadInBoth : Type 0
ReadInBoth =
    (options : ℕ) (document : List ℕ) (es : List Event) (work₁ work₂ : List ℕ) (r₁ : LarkReading) (r₂ : LarkReading2) (work₁' work₂' : List ℕ) →
    Writable document es → length work₁ ≡ length work₂ → ReadAs (record_in old options document es) options work₁ r₁ work₁' →
    Read2As (record_in second options document es) work₂ r₂ work₂' → SameReading options (length document) (length es) r₁ r₂

-- what the resolvers answer: a refusal by the check, by the shape of event k, for more than 8,000 events; or as many events, groups and candidates
pub data SameAnswer (d e : ℕ) : LarkResolved → LarkResolved → Type 0 where
  both_resolved : (events groups tried : ℕ) → SameAnswer d e (resolved events groups tried) (resolved events groups tried)
  by_check : (n p₁ p₂ : ℕ) → Alike d e (refuse n p₁) (refuse n p₂) → SameAnswer d e (refusal n p₁) (refusal n p₂)
  by_shape : (k : ℕ) → SameAnswer d e (refusal 6 (8 + d + 8 * k)) (refusal 6 (13 + d + 12 * k))
  too_many : SameAnswer d e (refusal 7 0) (refusal 7 0)

-- the same events are written, each time as a section of the form
pub record SameEvents (out₁ out₂ out₁' out₂' : List ℕ) : Type 0 where
  pub events : List Event
  pub in_old : out₁' ≡ onto (section_in old events) out₁
  pub in_second : out₂' ≡ onto (section_in second events) out₂

-- number 8 alone goes by the width: with 4 + 12 × its events, a section of form 2 may not fit where one of the old form does. Where it is given in one form,
-- the other gives it too or accepts
pub record SameInBoth (d e : ℕ) (out₁ out₂ : List ℕ) (r₁ r₂ : LarkResolved) (out₁' out₂' : List ℕ) : Type 0 where
  pub answers : (r₁.number ≡ 8 → ⊥) → (r₂.number ≡ 8 → ⊥) → SameAnswer d e r₁ r₂
  pub no_room_in_old : r₁.number ≡ 8 → (r₂.number ≡ 8) ⊎ (r₂.number ≡ 0)
  pub no_room_in_second : r₂.number ≡ 8 → (r₁.number ≡ 8) ⊎ (r₁.number ≡ 0)
  pub written : r₁.number ≡ 0 → r₂.number ≡ 0 → SameEvents out₁ out₂ out₁' out₂'

-- of one of the three resolvers: `As` and `As2` are the promises of its calls
abbrev pub ResolvedInBoth : (List ℕ → ℕ → List ℕ → List ℕ → LarkResolved → List ℕ → List ℕ → Type 0) →
    (List ℕ → List ℕ → List ℕ → LarkResolved → List ℕ → List ℕ → Type 0) → Type 0
ResolvedInBoth As As2 =
    (options : ℕ) (document : List ℕ) (es : List Event) (out₁ out₂ work₁ work₂ : List ℕ) (r₁ r₂ : LarkResolved) (out₁' out₂' work₁' work₂' : List ℕ) →
    Writable document es → length work₁ ≡ length work₂ → As (record_in old options document es) options out₁ work₁ r₁ out₁' work₁' →
    As2 (record_in second options document es) out₂ work₂ r₂ out₂' work₂' → SameInBoth (length document) (length es) out₁ out₂ r₁ r₂ out₁' out₂'

abbrev pub AttentionInBoth : Type 0
AttentionInBoth = (profile : Profile) → ResolvedInBoth (AttentionAs profile) (Attention2As profile)

abbrev pub HeadingsInBoth : Type 0
HeadingsInBoth = ResolvedInBoth HeadingsAs Headings2As

abbrev pub ListsInBoth : Type 0
ListsInBoth = ResolvedInBoth ListsAs Lists2As
