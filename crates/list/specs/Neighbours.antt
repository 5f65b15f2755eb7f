-- Which items join, in document 01's words, over the numbers of a record's events: "Neighbouring items join when they have the same mark and the
-- same number of open items, and only whole 14, 21, 22 and 23 holding no item stand between." No tree is read here, and no flag is carried along
-- from one event to the next.
-- Assumes nothing.
use Rattle.std.specs.Prelude.{ℕ, ◌+◌, ◌<◌, ◌≡◌, ◌⊎◌, List, [], ◌∷◌, length, get_or, take, drop, eqb}
use Rattle.record.specs.Choice.{choose}
use Rattle.record.specs.Stack.{nth}
use Rattle.record.specs.declared.event.Event.{Event}
use Rattle.list.specs.Listing.{open_items}

-- event k is an enter, or an exit, of this name
pub record Stands (es : List Event) (kind name k : ℕ) : Type 0 where
  pub within : k < length es
  pub its_kind : (nth es k).kind ≡ kind
  pub its_name : (nth es k).name ≡ name

abbrev pub Enters : List Event → ℕ → ℕ → Type 0
Enters es name k = Stands es 0 name k

abbrev pub Exits : List Event → ℕ → ℕ → Type 0
Exits es name k = Stands es 1 name k

-- nothing but whole pairs stands from event a up to event c, which is not among them
pub data Whole (es : List Event) : ℕ → ℕ → Type 0 where
  no_more : {a : ℕ} → Whole es a a
  one_more : {name a b c : ℕ} → Enters es name a → Whole es (a + 1) b → Exits es name b → Whole es (b + 1) c → Whole es a c

-- events a and b are a pair: they have one name, and nothing but whole pairs stands between
pub record Pair (es : List Event) (name a b : ℕ) : Type 0 where
  pub enters : Enters es name a
  pub held : Whole es (a + 1) b
  pub exits : Exits es name b

-- an item is a pair named 15
abbrev pub Item : List Event → ℕ → ℕ → Type 0
Item es a b = Pair es 15 a b

-- "17 over one byte": the byte under the first 17 of some events
unfoldable pub first_mark : List ℕ → List Event → ℕ
first_mark document [] = 0
first_mark document (x ∷ es) = choose (eqb x.name 17) (get_or document x.place 0) (first_mark document es)

-- the mark of the item that event k enters, whose prefix holds a 17 by the shape rule
abbrev pub mark_at : List ℕ → List Event → ℕ → ℕ
mark_at document es k = first_mark document (drop k es)

-- how many items are open before event k
abbrev pub items_open : List Event → ℕ → ℕ
items_open es k = open_items 0 (take k es)

-- "whole 14, 21, 22 and 23"
pub data MayStand : ℕ → Type 0 where
  space : MayStand 14
  ending : MayStand 21
  blank : MayStand 22
  quote : MayStand 23

-- "holding no item"
abbrev pub HoldsNoItem : List Event → ℕ → ℕ → Type 0
HoldsNoItem es a b = (k : ℕ) → a < k → k < b → (nth es k).name ≡ 15 → ⊥

pub record Passed (es : List Event) (a b : ℕ) : Type 0 where
  pub name : ℕ
  pub pair : Pair es name a b
  pub may : MayStand name
  pub no_item_lem : HoldsNoItem es a b

-- "only .. stand between": from event a up to event c, which is not among them
pub data Between (es : List Event) : ℕ → ℕ → Type 0 where
  nothing : {a : ℕ} → Between es a a
  passing : {a b c : ℕ} → Passed es a b → Between es (b + 1) c → Between es a c

-- the items that events i and k enter join, the one of event i being the earlier
pub record Joined (document : List ℕ) (es : List Event) (i k : ℕ) : Type 0 where
  pub exit_of : ℕ
  pub earlier : Item es i exit_of
  pub later_exit : ℕ
  pub later : Item es k later_exit
  pub between : Between es (exit_of + 1) k
  pub same_mark : mark_at document es i ≡ mark_at document es k
  pub same_open : items_open es i ≡ items_open es k

-- a chain of items, from that of event i to that of event k, each of which joins the next
pub data Chain (document : List ℕ) (es : List Event) : ℕ → ℕ → Type 0 where
  itself : {i : ℕ} → Chain document es i i
  onward : {i j k : ℕ} → Joined document es i j → Chain document es j k → Chain document es i k

-- one of two items is linked to the other by a chain
abbrev pub Linked : List ℕ → List Event → ℕ → ℕ → Type 0
Linked document es i k = Chain document es i k ⊎ Chain document es k i

-- no item joins it from before, or it joins none behind it: where a chain that is longest begins, and where it ends
abbrev pub First : List ℕ → List Event → ℕ → Type 0
First document es k = (i : ℕ) → Joined document es i k → ⊥

abbrev pub Last : List ℕ → List Event → ℕ → Type 0
Last document es i = (k : ℕ) → Joined document es i k → ⊥
