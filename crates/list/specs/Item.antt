-- The shape of a list item, of which it is judged by the row that it holds. Document 01: "an item begins with at most one 14 pair, then
-- 16 holding an optional 18 pair, then 17 over one byte of `*+-.)`, then at most one 14 pair, all of these but 16 being leaf pairs".
-- Assumes nothing.
use Rattle.std.specs.Prelude.{ℕ, ◌+◌, Bool, true, false, List, get_or, eqb}
use Rattle.record.specs.Choice.{choose, and}
use Rattle.list.specs.Tree.{Row, none, pair}

-- the row behind its first pair, where that is a leaf pair of this name: "at most one", "an optional"
unfoldable pub past_leaf : ℕ → Row → Row
past_leaf name none = none
past_leaf name (pair n from to none next) = choose (eqb n name) next (pair n from to none next)
past_leaf name (pair n from to (pair m a b i k) next) = pair n from to (pair m a b i k) next

abbrev pub is_none : Row → Bool
is_none none = true
is_none (pair n from to inside next) = false

-- "one byte of `*+-.)`": the byte if it is one, else 0
unfoldable pub known : ℕ → ℕ
known b =
    choose (eqb b 42) b
    (choose (eqb b 43) b
    (choose (eqb b 45) b
    (choose (eqb b 46) b
    (choose (eqb b 41) b 0))))

-- "17 over one byte .., then at most one 14 pair", and no more: the mark, or 0 where the row is another
unfoldable pub marker_of : List ℕ → Row → ℕ
marker_of document none = 0
marker_of document (pair n from to none next) =
    choose (and (eqb n 17) (and (eqb to (from + 1)) (is_none (past_leaf 14 next)))) (known (get_or document from 0)) 0
marker_of document (pair n from to (pair m a b i k) next) = 0

-- "16 holding an optional 18 pair, then ..": what follows the 16 is free
unfoldable pub prefix_of : List ℕ → Row → ℕ
prefix_of document none = 0
prefix_of document (pair n from to inside next) = choose (eqb n 16) (marker_of document (past_leaf 18 inside)) 0

-- the mark of an item that holds this row: a byte of `*+-.)`, or 0 where its shape is broken
unfoldable pub mark_of : List ℕ → Row → ℕ
mark_of document inside = prefix_of document (past_leaf 14 inside)
