-- What is added. A list's enter stands right before an item's enter and at its place, a list's exit right after an item's exit and at its
-- place; all else is the record's events, in their order. So removing what was added gives the record's events back, and, since lists
-- nest (proofs/Nesting.antt), every list wraps at least one item. proofs/Added.antt shows it of every result.
-- Assumes nothing.
use Rattle.std.specs.Prelude.{ℕ, ◌+◌, ◌-◌, ◌≡◌, ◌⊎◌, List, [], ◌∷◌, eqb}
use Rattle.record.specs.Choice.{choose}
use Rattle.record.specs.Event.{enter, exit}
use Rattle.record.specs.declared.event.Event.{Event}
use Rattle.list.specs.Tree.{Row, written}
use Rattle.list.specs.Lists.{is_item}

-- out is es with lists added
pub data Listing : List Event → List Event → Type 0 where
  all_kept : Listing [] []
  keeps : {x : Event} {es out : List Event} → Listing es out → Listing (x ∷ es) (x ∷ out)
  begins : {list place : ℕ} {es out : List Event} → (list ≡ 19) ⊎ (list ≡ 20) → Listing es out →
      Listing (enter 15 place ∷ es) (enter list place ∷ enter 15 place ∷ out)
  ends : {list place : ℕ} {es out : List Event} → (list ≡ 19) ⊎ (list ≡ 20) → Listing es out →
      Listing (exit 15 place ∷ es) (exit 15 place ∷ exit list place ∷ out)

-- "the same number of open items": how many items are open after some events, where n are before them
unfoldable pub open_items : ℕ → List Event → ℕ
open_items n [] = n
open_items n (x ∷ es) = choose (is_item x.name) (choose (eqb x.kind 0) (open_items (n + 1) es) (open_items (n - 1) es)) (open_items n es)

-- after whole pairs as many items are open as before them. So at an item's enter and at its neighbour's, between which stand the first item
-- itself and whole pairs, the number is the same: what document 01 asks follows from the event tree. proofs/Reading.antt
abbrev pub SameNumberOpen : Type 0
SameNumberOpen = (n : ℕ) (row : Row) (es : List Event) → open_items n (written row es) ≡ open_items n es
