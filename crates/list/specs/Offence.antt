-- Document 01's number 6 for lists, as its table has it: what an item looks like, and which items offend. The shape is said once more, as what
-- an item may look like and not as a test.
-- Assumes nothing.
use Rattle.std.specs.Prelude.{ℕ, ◌+◌, ◌≡◌, Bool, true, false, ◌⊎◌, List, [], length, get_or}
use Rattle.record.specs.declared.event.Event.{Event}
use Rattle.list.specs.Tree.{Row, none, pair, written, tree_of}
use Rattle.list.specs.Lists.{is_item}

-- "one byte of `*+-.)`"
pub data Mark : ℕ → Type 0 where
  star : Mark 42
  plus : Mark 43
  minus : Mark 45
  point : Mark 46
  bracket : Mark 41

-- "then 17 over one byte .., then at most one 14 pair", leaf pairs both, and no more
pub data Marker (document : List ℕ) : Row → Type 0 where
  bare : {from to : ℕ} → to ≡ from + 1 → Mark (get_or document from 0) → Marker document (pair 17 from to none none)
  spaced : {from to a b : ℕ} → to ≡ from + 1 → Mark (get_or document from 0) → Marker document (pair 17 from to none (pair 14 a b none none))

-- "16 holding an optional 18 pair", a leaf pair
pub data Prefix (document : List ℕ) : Row → Type 0 where
  unvalued : {row : Row} → Marker document row → Prefix document row
  valued : {a b : ℕ} {row : Row} → Marker document row → Prefix document (pair 18 a b none row)

-- "an item begins with at most one 14 pair, then 16": what follows is free
pub data Begins (document : List ℕ) : Row → Type 0 where
  at_once : {a b : ℕ} {held next : Row} → Prefix document held → Begins document (pair 16 a b held next)
  indented : {x y a b : ℕ} {held next : Row} → Prefix document held → Begins document (pair 14 x y none (pair 16 a b held next))

-- event k enters an item, among the events of a row of which the first is event i: `held` is the row that the item holds, and `close` says
-- whether it enters "at the event right after an item's exit". `behind` says so of the row's own first event.
pub data ItemAt : ℕ → Bool → Row → ℕ → Row → Bool → Type 0 where
  here : {i from to : ℕ} {behind : Bool} {held next : Row} → ItemAt i behind (pair 15 from to held next) i held behind
  inside : {i name from to k : ℕ} {behind close : Bool} {held next item : Row} → ItemAt (i + 1) false held k item close →
      ItemAt i behind (pair name from to held next) k item close
  further : {i name from to k : ℕ} {behind close : Bool} {held next item : Row} →
      ItemAt (i + 1 + length (written held []) + 1) (is_item name) next k item close → ItemAt i behind (pair name from to held next) k item close

-- event k enters an item that offends: it stands right behind another, or it does not begin as an item does
pub record OffendsIn (document : List ℕ) (i : ℕ) (behind : Bool) (row : Row) (k : ℕ) : Type 0 where
  pub held : Row
  pub close : Bool
  pub item : ItemAt i behind row k held close
  pub broken : (close ≡ true) ⊎ (Begins document held → ⊥)

abbrev pub Offends : List ℕ → List Event → ℕ → Type 0
Offends document es k = OffendsIn document 0 false (tree_of es) k
