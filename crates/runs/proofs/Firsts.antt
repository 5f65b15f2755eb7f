-- Document 01's paragraph over the classes of two characters, as the code asks it; and the characters that stand in for neighbours.
-- Assumes nothing.
use Prim.Native.Nat.{ℕ}
use mathlib.Core.Path.{◌≡◌, refl, sym, ◌∙◌}
use mathlib.Core.Bool.{Bool, true, not}
use lib.Dec.{eqb}
use Rattle.classes.specs.Class.{class_of, standard_class, ascii_class, amended, whitespace, punctuation}
use Rattle.classes.specs.declared.Class.{Class}
use Rattle.characters.specs.Beside.{Neighbour, Edge, Character, Malformed}
use Rattle.characters.specs.StandIn.{stand_in}
use Rattle.runs.specs.Flanking.{class_beside, beside_marker, flanks_left, flanks_right, can_open, can_close}
use Rattle.runs.specs.Paragraph.{first_open, first_by, opens_by, opens, closes}
use Rattle.runs.proofs.AsWritten.{open_as_written, close_as_written, never}

-- by the classes of two neighbours that is document 01's paragraph, and closing is opening with before and after exchanged
module _ (strike : Bool) (marker : ℕ) (before after : Neighbour) where
  pub opens_by_classes : opens_by strike marker (class_beside before) before (class_beside after) after ≡ can_open true strike marker before after
  unfolding opens_by first_by opens first_open
  opens_by_classes = sym (open_as_written strike marker before after)

  pub closes_by_classes : opens_by strike marker (class_beside after) after (class_beside before) before ≡ can_close true strike marker before after
  unfolding opens_by first_by closes first_open
  closes_by_classes = sym (close_as_written strike marker before after)

-- both at once, from what was looked up of two characters
pub flanked : (strike : Bool) (marker before after : ℕ) (left right : Class) (open_flag close_flag : Bool) → left ≡ class_of before → right ≡ class_of after →
    open_flag ≡ opens_by strike marker left (Character before) right (Character after) →
    close_flag ≡ opens_by strike marker right (Character after) left (Character before) →
    (open_flag ≡ can_open true strike marker (Character before) (Character after)) × (close_flag ≡ can_close true strike marker (Character before) (Character after))
unfolding class_beside
flanked strike marker before after left right o c l r p q = (
  rw (l, r) at p ∙ opens_by_classes strike marker (Character before) (Character after),
  rw (l, r) at q ∙ closes_by_classes strike marker (Character before) (Character after),
)

-- the character that stands for a neighbour has its class, and is a marker where it is: neither the line feed nor the zero byte is one
stand_class : (n : Neighbour) → class_beside n ≡ class_beside (Character (stand_in n))
unfolding class_beside class_of standard_class ascii_class amended whitespace punctuation
stand_class Edge = refl
stand_class (Character c) = refl
stand_class Malformed = refl

stand_beside : (strike : Bool) (marker : ℕ) (n : Neighbour) → beside_marker strike marker n ≡ beside_marker strike marker (Character (stand_in n))
unfolding beside_marker
stand_beside strike marker Edge = sym (never (not (eqb marker 126)))
stand_beside strike marker (Character c) = refl
stand_beside strike marker Malformed = sym (never (not (eqb marker 126)))

module _ (amended strike : Bool) (marker : ℕ) (before after : Neighbour) where
  pub stand_opens : can_open amended strike marker before after ≡ can_open amended strike marker (Character (stand_in before)) (Character (stand_in after))
  unfolding can_open flanks_left flanks_right
  stand_opens = rw (stand_class before, stand_class after, stand_beside strike marker before, stand_beside strike marker after)

  pub stand_closes : can_close amended strike marker before after ≡ can_close amended strike marker (Character (stand_in before)) (Character (stand_in after))
  unfolding can_close flanks_left flanks_right
  stand_closes = rw (stand_class before, stand_class after, stand_beside strike marker before, stand_beside strike marker after)
