-- The standard's rules with the amendments say what document 01's sentences say: the statements of specs/Paragraph.antt.
-- Assumes nothing.
use Prim.Native.Nat.{ℕ, ◌+◌, ◌%◌}
use mathlib.Core.Path.{◌≡◌, refl, sym, ap, ◌∙◌}
use mathlib.Core.Bool.{Bool, true, false, not, ◌&&◌, ◌||◌, true≢false}
use native.Mathlib.Omega.{arith}
use lib.Dec.{eqb}
use Rattle.record.specs.Options.{option_on}
use borrow.Author.Tests.{eqb-true, eqb-false}
use Rattle.classes.specs.Class.{class_of, standard_class, ascii_class, amended, whitespace, punctuation}
use Rattle.classes.specs.declared.Class.{Class}
use Rattle.classes.specs.declared.Class.TheVariants.{Other, Whitespace, Punctuation}
use Rattle.characters.specs.Beside.{Neighbour, Edge, Character, Malformed}
use Rattle.runs.specs.Flanking.{is_whitespace, is_punctuation, class_beside, beside_marker, left_flanking, right_flanking, flanks_left, flanks_right, can_open, can_close}
use Rattle.runs.specs.Rule.{threes, tildes, rule_over}
use Rattle.runs.specs.Paragraph.{is_other, first_open, first_close, opens, closes, skips, OpenAsWritten, CloseAsWritten, TakenAsWritten}

-- the standard's sentence and the paper's are one: "not whitespace, and not punctuation or ..." leaves other, or punctuation
flanks_first : (before after : Class) (m : Bool) →
    left_flanking before after || (true && m) ≡ is_other after || ((is_punctuation after && not (is_other before)) || m)
unfolding left_flanking
flanks_first before Other m = refl
flanks_first before Whitespace m = refl
flanks_first Other Punctuation m = refl
flanks_first Whitespace Punctuation m = refl
flanks_first Punctuation Punctuation m = refl

-- rule 2's "preceded by punctuation" and the paper's "before isn't other" are one where whitespace before means that the run can't close
preceded : (first close : Bool) (before : Class) → (before ≡ Whitespace → close ≡ false) →
    first && (not close || (close && is_punctuation before)) ≡ first && (not (is_other before) || not close)
preceded first true Other h = refl
preceded first true Whitespace h = absurd (true≢false (h refl))
preceded first true Punctuation h = refl
preceded first false Other h = refl
preceded first false Whitespace h = refl
preceded first false Punctuation h = refl

-- a whitespace character is none that isn't one
another : (b x : ℕ) → class_of b ≡ Whitespace → is_whitespace (class_of x) ≡ false → eqb b x ≡ false
another b x h f = go (eqb b x) refl
  where
    go : (z : Bool) → eqb b x ≡ z → eqb b x ≡ false
    go false e = e
    go true e =
        let same : b ≡ x = eqb-true b x e in
        absurd (true≢false (sym (ap is_whitespace h) ∙ ap (λ (y : ℕ). is_whitespace (class_of y)) same ∙ f))

pub never : (m : Bool) → m && false ≡ false
never true = refl
never false = refl

-- a marker is punctuation, so what is whitespace is no marker
blank_unmarked : (strike : Bool) (marker : ℕ) (n : Neighbour) → class_beside n ≡ Whitespace → beside_marker strike marker n ≡ false
unfolding beside_marker class_beside class_of standard_class ascii_class amended whitespace punctuation
blank_unmarked strike marker Edge h = refl
blank_unmarked strike marker (Character c) h =
    rw (another c 42 h refl, another c 95 h refl, another c 126 h refl) (never (not (eqb marker 126)))
blank_unmarked strike marker Malformed h = refl

-- where whitespace stands before, the first results say that the run can't close
pub blank_shut : (strike : Bool) (marker : ℕ) (before after : Neighbour) → class_beside before ≡ Whitespace → first_close strike marker before after ≡ false
unfolding first_open
blank_shut strike marker before after h = rw (h, blank_unmarked strike marker before h)

-- left-flanking with the amendment is the paper's first result for opening, and right-flanking its first result for closing
left_first : (strike : Bool) (marker : ℕ) (before after : Neighbour) → flanks_left true strike marker before after ≡ first_open strike marker before after
unfolding flanks_left first_open
left_first strike marker before after = flanks_first (class_beside before) (class_beside after) (beside_marker strike marker after)

right_first : (strike : Bool) (marker : ℕ) (before after : Neighbour) → flanks_right true strike marker before after ≡ first_close strike marker before after
unfolding flanks_right first_open left_flanking right_flanking
right_first strike marker before after = flanks_first (class_beside after) (class_beside before) (beside_marker strike marker before)

pub open_as_written : OpenAsWritten
unfolding can_open opens
open_as_written strike marker before after =
    rw (
      left_first strike marker before after,
      right_first strike marker before after,
      preceded (first_open strike marker before after) (first_close strike marker before after) (class_beside before) (blank_shut strike marker before after),
    )

pub close_as_written : CloseAsWritten
unfolding can_close closes
close_as_written strike marker before after =
    rw (
      left_first strike marker before after,
      right_first strike marker before after,
      preceded (first_close strike marker before after) (first_open strike marker before after) (class_beside after) (blank_shut strike marker after before),
    )

-- a sum and one of its parts that are multiples of 3 leave a multiple of 3
pub threes_as_written : (both : Bool) (opener closer : ℕ) →
    threes both opener closer ≡ both && (not (eqb (closer % 3) 0) && eqb ((opener + closer) % 3) 0)
unfolding threes
threes_as_written both o c =
    ap (λ (x : Bool). both && x) (go (eqb (o % 3) 0) (eqb (c % 3) 0) (eqb ((o + c) % 3) 0) refl refl refl)
  where
    go : (x y z : Bool) → eqb (o % 3) 0 ≡ x → eqb (c % 3) 0 ≡ y → eqb ((o + c) % 3) 0 ≡ z → z && not (x && y) ≡ not y && z
    go true true true e f g = refl
    go true true false e f g = refl
    go true false true e f g = refl
    go true false false e f g = refl
    go false true true e f g =
        let p = eqb-false (o % 3) 0 e in
        let q = eqb-true (c % 3) 0 f in
        let r = eqb-true ((o + c) % 3) 0 g in
        absurd (p (omega arith))
    go false true false e f g = refl
    go false false true e f g = refl
    go false false false e f g = refl

neither : (a b : Bool) → not a && not b ≡ not (a || b)
neither true b = refl
neither false b = refl

pub taken_as_written : TakenAsWritten
unfolding rule_over skips tildes
taken_as_written options marker o c =
    rw (threes_as_written (o.both || c.both) o.left c.left)
    (neither
    ((o.both || c.both) && (not (eqb (c.left % 3) 0) && eqb ((o.left + c.left) % 3) 0))
    (tildes (option_on options 4) marker o.left c.left))
