-- What the list resolver makes of a good record: the earliest item that offends against the shape rule, or the events with a list round
-- each longest chain of items. Both are read off the event tree. Gathered.antt says the result a second time, off the events alone.
-- Assumes nothing.
use Rattle.std.specs.Prelude.{ℕ, ◌+◌, Bool, true, false, List, [], ◌∷◌, length, eqb}
use Rattle.record.specs.Choice.{choose, and}
use Rattle.record.specs.Event.{enter, exit}
use Rattle.record.specs.Outcome.{Resolution, offends, gives}
use Rattle.record.specs.declared.event.Event.{Event}
use Rattle.list.specs.Tree.{Row, none, pair, written, tree_of}
use Rattle.list.specs.Item.{mark_of}

-- an item is a pair named 15
abbrev pub is_item : ℕ → Bool
is_item name = eqb name 15

-- "no item enters at the event right after an item's exit (the later offends)": `behind` says that the event before the row is an item's
-- exit. An item offends if it stands so, or if its shape is broken.
-- Amendment D12: of `- <?\n-` the crate's tokenizer makes an item that stands so, and the crate takes it; the standard has one list of two items.
unfoldable pub offending : List ℕ → Bool → ℕ → Row → Bool
offending document behind name inside = and (is_item name) (choose behind true (eqb (mark_of document inside) 0))

-- the numbers of the enter events of the offending items, the earliest first, where the row's first event has number i; and then others
unfoldable pub offenders : List ℕ → ℕ → Bool → Row → List ℕ → List ℕ
offenders document i behind none others = others
offenders document i behind (pair name from to inside next) others =
    let later : List ℕ = offenders document (i + 1) false inside
    (offenders document (i + 1 + length (written inside []) + 1) (is_item name) next others) in
    choose (offending document behind name inside) (i ∷ later) later

-- "only whole 14, 21, 22 and 23 holding no item stand between"
unfoldable pub between : ℕ → Bool
between name = choose (eqb name 14) true (choose (eqb name 21) true (choose (eqb name 22) true (eqb name 23)))

-- whether a row holds no item, at any depth
unfoldable pub no_item : Row → Bool
no_item none = true
no_item (pair name from to inside next) = and (choose (is_item name) false true) (and (no_item inside) (no_item next))

-- the mark of the neighbouring item: the first item of the siblings that follow, with nothing but such pairs before it; 0 if there is none
unfoldable pub neighbour : List ℕ → Row → ℕ
neighbour document none = 0
neighbour document (pair name from to inside next) =
    choose (is_item name) (mark_of document inside)
    (choose (and (between name) (no_item inside)) (neighbour document next)
    0)

-- CommonMark 0.31 §5.3: "Two list markers are of the same type if (a) they are bullet list markers using the same character (-, +, or *) or
-- (b) they are ordered list numbers with the same delimiter (either . or ))." Document 01: "Neighbouring items join when they have the same
-- mark": whether an item of this mark and the first item of the siblings that follow do
unfoldable pub joins : List ℕ → ℕ → Row → Bool
joins document mark next = eqb (neighbour document next) mark

-- "19 for `.` and `)`, else 20"
unfoldable pub list_name : ℕ → ℕ
list_name mark = choose (eqb mark 46) 19 (choose (eqb mark 41) 19 20)

-- "A list goes round each longest chain .. at its first and last item's places": the events of a row with its lists, and then others. An
-- item that is not joined to the one before is the first of its chain, and the list's enter stands right before its enter; one that does
-- not join the one after is the last, and the list's exit stands right after its exit. `joined` says that the first item of the row
-- joins the item before it.
unfoldable pub listed : List ℕ → Bool → Row → List Event → List Event
listed document joined none es = es
listed document joined (pair name from to inside next) es =
    choose (is_item name)
    (let mark : ℕ = mark_of document inside in
    let on : Bool = joins document mark next in
    let later : List Event = listed document on next es in
    let item : List Event = enter name from ∷ listed document false inside
    (exit name to ∷ choose on later (exit (list_name mark) to ∷ later)) in
    choose joined item (enter (list_name mark) from ∷ item))
    (enter name from ∷ listed document false inside (exit name to ∷ listed document joined next es))

-- the earliest offending item, or the result
abbrev pub settling : List ℕ → List Event → Resolution
settling [] es = gives es
settling (k ∷ ks) es = offends k

unfoldable pub lists : List ℕ → List Event → Resolution
lists document es = settling (offenders document 0 false (tree_of es) []) (listed document false (tree_of es) [])
