-- The open events, as a list, the innermost first. Document 01: "The open events are a fixed stack of 64 names held beside a depth."
-- Assumes nothing.
use Rattle.std.specs.Prelude.{ℕ, zero, suc, ◌+◌, Bool, true, false, List, [], ◌∷◌, length, get_or, take, ltb, eqb}
use Rattle.record.specs.Choice.{choose}
use Rattle.record.specs.declared.event.Event.{Event}
use Rattle.record.specs.declared.stack.Open.{Open}

-- the first n entries of an array, the last of them first
abbrev pub up_to : ℕ → List ℕ → List ℕ
up_to zero a = []
up_to (suc n) a = get_or a n 0 ∷ up_to n a

-- the names that an Open holds
abbrev pub open_of : Open → List ℕ
open_of o = up_to o.depth o.names

-- whether the innermost open event has this name
abbrev pub innermost : ℕ → List ℕ → Bool
innermost name [] = false
innermost name (top ∷ held) = eqb top name

-- the innermost
abbrev pub innermost_of : List ℕ → ℕ
innermost_of [] = 0
innermost_of (top ∷ held) = top

abbrev pub none : List ℕ → Bool
none [] = true
none (top ∷ held) = false

-- all but the innermost
abbrev pub outer : List ℕ → List ℕ
outer [] = []
outer (top ∷ held) = held

-- "exit without its enter (same name, innermost); depth over 64": whether an event may stand where these names are open, of which there
-- may be `deep`.
-- Amendment D16: of `---\n#\n>`, with frontmatter, the crate's tokenizer makes an exit that stands before its enter; here it is refused. The
-- standard has no events.
unfoldable pub fits_open : ℕ → Event → List ℕ → Bool
fits_open deep e held = choose (eqb e.kind 0) (ltb (length held) deep) (innermost e.name held)

-- what is open after an event: an enter adds x (its name, or its number), an exit takes the innermost away
unfoldable pub after : Event → ℕ → List ℕ → List ℕ
after e x held = choose (eqb e.kind 0) (x ∷ held) (outer held)

-- the numbers of the enter events that are open after some events, the first of which has number i, where `held` are open before them
unfoldable pub open_after : List Event → ℕ → List ℕ → List ℕ
open_after [] i held = held
open_after (e ∷ es) i held = open_after es (i + 1) (after e i held)

-- the enter events that are open before event k of a whole list
abbrev pub open_at : List Event → ℕ → List ℕ
open_at es k = open_after (take k es) 0 []

-- event k of a list
abbrev pub nth : List Event → ℕ → Event
nth es k = get_or es k (record { kind = 0; name = 0; place = 0 })
