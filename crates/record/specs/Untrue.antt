-- Partner numbers that are untrue, said by the bytes of two records, apart from the check and its table. Document 02: "5 also, at a pair's exit, .. when either
-- partner number of the pair is untrue". Of a good record some partner numbers are changed, and nothing else: then the first exit is refused whose own number
-- or whose enter's number is not what it was. proofs/Untrue.antt proves it.
-- Assumes nothing.
use Rattle.std.specs.Prelude.{ℕ, ◌+◌, ◌*◌, ◌<◌, ◌≡◌, List, length, get_or}
use Rattle.record.specs.Bytes.{u32_at}
use Rattle.record.specs.Check.{refuse, admitted, accept}
use Rattle.record.specs.declared.form.Handed.TheVariants.{Second}

-- behind a document of d bytes: the kind of event k, and the number that it carries behind its eight bytes
abbrev pub kind_of : ℕ → List ℕ → ℕ → ℕ
kind_of d s k = get_or s (13 + d + 12 * k) 0

abbrev pub number_of : ℕ → List ℕ → ℕ → ℕ
number_of d s k = u32_at s (13 + d + 12 * k + 8)

-- s is a record t, of e events, with other partner numbers
pub record Renumbered (d e : ℕ) (t s : List ℕ) : Type 0 where
  pub as_long : length s ≡ length t
  pub else_same : (i : ℕ) → ((k j : ℕ) → k < e → j < 4 → i ≡ 13 + d + 12 * k + 8 + j → ⊥) → get_or s i 0 ≡ get_or t i 0

-- in s event k carries the number that it has in t, and so does its partner, which is the event of that number
abbrev pub PairKept : ℕ → List ℕ → List ℕ → ℕ → Type 0
PairKept d t s k = (number_of d s k ≡ number_of d t k) × (number_of d s (number_of d t k) ≡ number_of d t (number_of d t k))

-- k is the first exit of which this is not so. An exit is an event whose kind is not 0: the record t is good
pub record FirstUntrue (d e : ℕ) (t s : List ℕ) (k : ℕ) : Type 0 where
  pub inside : k < e
  pub exits : kind_of d t k ≡ 0 → ⊥
  pub untrue : PairKept d t s k → ⊥
  pub earlier : (j : ℕ) → j < k → (kind_of d t j ≡ 0 → ⊥) → PairKept d t s j

abbrev pub UntrueIsRefused : Type 0
UntrueIsRefused =
    (t s : List ℕ) (works d e k : ℕ) → admitted Second t works ≡ accept d e → Renumbered d e t s → FirstUntrue d e t s k →
    admitted Second s works ≡ refuse 5 (13 + d + 12 * k)
