-- The same, read off the events one by one: what the inner functions promise. proofs/Trees.antt shows that over the events of a tree it is
-- what specs/Lists.antt has.
-- Assumes nothing.
use Rattle.std.specs.Prelude.{ℕ, zero, suc, ◌+◌, ◌-◌, ◌≤◌, ◌<◌, Option, Some, None, Bool, true, false, List, [], ◌∷◌, length, get_or, eqb}
use Rattle.record.specs.Choice.{choose, and}
use Rattle.record.specs.Event.{event, enter, exit}
use Rattle.record.specs.Stack.{nth, outer}
use Rattle.record.specs.declared.event.Event.{Event}
use Rattle.list.specs.Item.{known}
use Rattle.list.specs.Lists.{is_item, between, list_name}

abbrev pub tail : List Event → List Event
tail [] = []
tail (x ∷ es) = es

abbrev pub head : List Event → Event
head [] = event 0 0 0
head (x ∷ es) = x

-- every place that some events name is one of the document, or its end
pub record Placed (document : List ℕ) (es : List Event) : Type 0 where
  pub within : (k : ℕ) → k < length es → (nth es k).place ≤ length document

-- whether an event has this kind and name
abbrev pub has : Event → ℕ → ℕ → Bool
has x kind name = and (eqb x.kind kind) (eqb x.name name)

-- and whether the first of some events has
abbrev pub first : ℕ → ℕ → List Event → Bool
first kind name [] = false
first kind name (x ∷ es) = has x kind name

unfoldable pub first_leaf : ℕ → List Event → Bool
first_leaf name es = and (first 0 name es) (first 1 name (tail es))

unfoldable pub behind_leaf : ℕ → List Event → List Event
behind_leaf name es = choose (first_leaf name es) (tail (tail es)) es

-- a mark as the code has it, where these definitions have a number: none for 0
abbrev pub marked : ℕ → Option ℕ
marked zero = None
marked (suc m) = Some (suc m)

-- the mark that a pair at the front lies over, if it is over one byte
unfoldable pub mark_over : List ℕ → List Event → ℕ
mark_over document es = choose (eqb (head (tail es)).place ((head es).place + 1)) (known (get_or document (head es).place 0)) 0

-- the mark of an item, from the event behind its enter on; or 0 where its shape is broken
unfoldable pub marker_in : List ℕ → List Event → ℕ
marker_in document es =
    choose (first_leaf 17 es)
    (choose (first 1 16 (behind_leaf 14 (tail (tail es)))) (mark_over document es) 0)
    0

unfoldable pub prefix_in : List ℕ → List Event → ℕ
prefix_in document es = choose (first 0 16 es) (marker_in document (behind_leaf 18 (tail es))) 0

unfoldable pub mark_in : List ℕ → List Event → ℕ
mark_in document es = prefix_in document (behind_leaf 14 es)

-- whether a pair of this name may be passed where so many are open
unfoldable pub passing : ℕ → ℕ → Bool
passing depth name = choose (eqb depth 0) (between name) true

-- the mark of the neighbouring item, where `depth` pairs are open, each of which may stand between
unfoldable pub nearest : List ℕ → ℕ → List Event → ℕ
nearest document depth [] = 0
nearest document depth (x ∷ es) =
    choose (eqb x.kind 0)
    (choose (is_item x.name)
    (choose (eqb depth 0) (mark_in document es) 0)
    (choose (passing depth x.name) (nearest document (depth + 1) es) 0))
    (choose (eqb depth 0) 0 (nearest document (depth - 1) es))

-- the numbers of the offending items
abbrev pub is_exit : Event → Bool
is_exit x = and (eqb x.kind 1) (is_item x.name)

abbrev pub is_enter : Event → Bool
is_enter x = and (eqb x.kind 0) (is_item x.name)

unfoldable pub offenders_in : List ℕ → ℕ → Bool → List Event → List ℕ
offenders_in document i behind [] = []
offenders_in document i behind (x ∷ es) =
    choose (and (is_enter x) (choose behind true (eqb (mark_in document es) 0)))
    (i ∷ offenders_in document (i + 1) (is_exit x) es)
    (offenders_in document (i + 1) (is_exit x) es)

-- for each event the name of the list that begins right before it or ends right after it, or 0; `marks` are those of the open items, the
-- innermost first, and `joined` says that the next item joins the last one left
abbrev pub top : List ℕ → ℕ
top [] = 0
top (m ∷ ms) = m

abbrev pub note : Bool → ℕ → ℕ
note true mark = 0
note false mark = list_name mark

unfoldable pub notes : List ℕ → Bool → List ℕ → List Event → List ℕ
notes document joined marks [] = []
notes document joined marks (x ∷ es) =
    choose (is_item x.name)
    (choose (eqb x.kind 0)
    (note joined (mark_in document es) ∷ notes document false (mark_in document es ∷ marks) es)
    (note (eqb (nearest document 0 es) (top marks)) (top marks) ∷ notes document (eqb (nearest document 0 es) (top marks)) (outer marks) es))
    (0 ∷ notes document joined marks es)

-- an event with what its note adds, and then others
unfoldable pub noted : ℕ → Event → List Event → List Event
noted n x es = choose (eqb n 0) (x ∷ es) (choose (eqb x.kind 0) (enter n x.place ∷ x ∷ es) (x ∷ exit n x.place ∷ es))

-- the events with what their notes add
unfoldable pub spliced : List ℕ → List Event → List Event
spliced ns [] = []
spliced [] (x ∷ es) = x ∷ es
spliced (n ∷ ns) (x ∷ es) = noted n x (spliced ns es)

-- how many notes add an event
abbrev pub adds : ℕ → ℕ
adds n = choose (eqb n 0) 0 1

unfoldable pub added : List ℕ → ℕ
added [] = 0
added (n ∷ ns) = adds n + added ns
