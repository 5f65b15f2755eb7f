-- The shape rule against its definition: the ways on and out of the loop over leaf pairs, and how a heading begins.
-- Assumes nothing.
use Rattle.std.proofs.Common.{◌≡◌, true, false, List, [], ◌∷◌, drop}
use Rattle.record.specs.Choice.{choose, and}
use Rattle.record.specs.declared.event.Event.{Event}
use Rattle.heading.specs.Headings.{leaf, leaves, starts_with, headed}

module _ (es xs : List Event) (e : Event) (c : es ≡ e ∷ xs) where
  pub leaf_alone : xs ≡ [] → leaves es ≡ false
  unfolding leaves
  leaf_alone z = rw (c, z)

  module _ (f : Event) (ys : List Event) (z : xs ≡ f ∷ ys) where
    pub leaf_other : leaf e f ≡ false → leaves es ≡ false
    unfolding leaves and
    leaf_other q = rw (c, z, q)

    pub leaf_turn : leaf e f ≡ true → leaves es ≡ leaves ys
    unfolding leaves and
    leaf_turn q = rw (c, z, q)

pub leaves_none : (es : List Event) → es ≡ [] → leaves es ≡ true
unfolding leaves
leaves_none es z = rw z

pub headed_second : (es rest : List Event) → starts_with 14 es ≡ true → rest ≡ drop 2 es → starts_with 12 rest ≡ headed es
unfolding headed choose
headed_second es rest q r = rw (q, r)

pub headed_first : (es : List Event) → starts_with 14 es ≡ false → starts_with 12 es ≡ headed es
unfolding headed choose
headed_first es q = rw q
