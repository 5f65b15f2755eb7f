-- Document 01's number 6 for headings, as its table has it: "the resolver's own shape rule is broken", at the "enter event of the earliest
-- offending .. heading". The shape is said once more, as what a heading may look like and not as a test.
-- Assumes nothing.
use Rattle.std.specs.Prelude.{ℕ, suc, ◌<◌, ◌≡◌, ◌⊎◌, List, [], ◌∷◌, ◌++◌, length, drop}
use Rattle.record.specs.Event.{enter, exit}
use Rattle.record.specs.Stack.{nth}
use Rattle.record.specs.declared.event.Event.{Event}

-- "leaf pairs of 0, 12, 14"
abbrev pub LeafName : ℕ → Type 0
LeafName name = (name ≡ 0) ⊎ (name ≡ 12) ⊎ (name ≡ 14)

pub data Pairs : List Event → Type 0 where
  none : Pairs []
  pair : {name p q : ℕ} {es : List Event} → LeafName name → Pairs es → Pairs (enter name p ∷ exit name q ∷ es)

-- "beginning with at most one 14 and then a 12"
pub data Shape : List Event → Type 0 where
  bare : {p q : ℕ} {es : List Event} → Pairs es → Shape (enter 12 p ∷ exit 12 q ∷ es)
  spaced : {p q p' q' : ℕ} {es : List Event} → Pairs es → Shape (enter 14 p ∷ exit 14 q ∷ enter 12 p' ∷ exit 12 q' ∷ es)

-- what follows a heading's enter: inner events of that shape, and then its exit
pub record Follows (es : List Event) : Type 0 where
  pub inner : List Event
  pub place : ℕ
  pub rest : List Event
  pub split : es ≡ inner ++ (exit 11 place ∷ rest)
  pub shape : Shape inner

-- event k enters a heading, and is followed by something else
pub record Broken (es : List Event) (k : ℕ) : Type 0 where
  pub within : k < length es
  pub enters : (nth es k).kind ≡ 0
  pub heading : (nth es k).name ≡ 11
  pub unlike : Follows (drop (suc k) es) → ⊥

-- event k is the earliest that does
pub record Earliest (es : List Event) (k : ℕ) : Type 0 where
  pub broken : Broken es k
  pub first : (j : ℕ) → j < k → Broken es j → ⊥
