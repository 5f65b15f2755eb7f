-- When a list of events is sound. A record's events are, with at most 64 open; what a resolver writes is too, but for the depth.
-- Assumes nothing.
use Rattle.std.specs.Prelude.{ℕ, ◌≤◌, Bool, List, [], ◌∷◌, length, leb}
use Rattle.record.specs.Choice.{and}
use Rattle.record.specs.Stack.{none, fits_open, after, open_at}
use Rattle.record.specs.declared.event.Event.{Event}

-- document 01's number 5, of one event by itself: "bad kind, name ..; place over D or below the event before", which is `last`.
-- Amendments D13 and D15: of `- <?\n\na`, and of `_[^]()` with footnotes, the crate's tokenizer makes an event whose place is below the one
-- before; here it is refused. The standard has no events.
unfoldable pub placed : Event → ℕ → ℕ → Bool
placed e d last = and (leb e.kind 1) (and (leb e.name 24) (and (leb e.place d) (leb last e.place)))

-- events that come where the names `held` are open and the event before has the place `last`: each is good by itself and fits what is open,
-- and none is left open
unfoldable pub sound_from : ℕ → ℕ → ℕ → List ℕ → List Event → Bool
sound_from deep d last held [] = none held
sound_from deep d last held (e ∷ es) =
    and (placed e d last) (and (fits_open deep e held) (sound_from deep d e.place (after e e.name held) es))

-- a whole section of events over a document of d bytes
abbrev pub sound : ℕ → ℕ → List Event → Bool
sound deep d es = sound_from deep d 0 [] es

-- "Depth of open events": at most `deep` are open at once. With it a list that is sound with any room is sound with room for `deep`, and only with
-- it (proofs/Depth.antt)
abbrev pub OpenAtMost : ℕ → List Event → Type 0
OpenAtMost deep es = (k : ℕ) → k ≤ length es → length (open_at es k) ≤ deep
