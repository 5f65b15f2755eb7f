-- What the heading resolver makes of a list of events: document 01's section "Heading and list resolvers", its sentences on headings.
-- The shape rule makes a heading flat, so that its inner events are those up to the next exit of a heading.
-- Assumes nothing.
use Rattle.std.specs.Prelude.{ℕ, zero, suc, ◌+◌, ◌-◌, Bool, true, false, not, List, [], ◌∷◌, ◌++◌, reverse, length, take, drop, eqb}
use Rattle.record.specs.Choice.{choose, and}
use Rattle.record.specs.Event.{enter, exit}
use Rattle.record.specs.Stack.{nth}
use Rattle.record.specs.Outcome.{Resolution, offends, gives}
use Rattle.record.specs.declared.event.Event.{Event}

-- whether an event has this kind (0 enter, 1 exit) and this name
unfoldable pub is_of : ℕ → ℕ → Event → Bool
is_of kind name e = and (eqb e.kind kind) (eqb e.name name)

-- how many events stand before the first that is such; all, where there is none
unfoldable pub before_first : (Event → Bool) → List Event → ℕ
before_first is [] = 0
before_first is (e ∷ es) = choose (is e) 0 (suc (before_first is es))

-- how many stand up to the last that is such, it included; none, where there is none
unfoldable pub through_last : (Event → Bool) → List Event → ℕ
through_last is es = length es - before_first is (reverse es)

-- a heading's inner events, of the events after its enter: those before its exit
unfoldable pub inner_of : List Event → List Event
inner_of es = take (before_first (is_of 1 11) es) es

-- "leaf pairs of 0, 12, 14": an enter of one of these names, and at once its exit
unfoldable pub leaf : Event → Event → Bool
leaf e f =
    and (eqb e.kind 0)
    (and (is_of 1 e.name f)
    (choose (eqb e.name 0) true (choose (eqb e.name 12) true (eqb e.name 14))))

-- "only leaf pairs"
unfoldable pub leaves : List Event → Bool
leaves [] = true
leaves (e ∷ []) = false
leaves (e ∷ f ∷ es) = and (leaf e f) (leaves es)

unfoldable pub starts_with : ℕ → List Event → Bool
starts_with name [] = false
starts_with name (e ∷ es) = eqb e.name name

-- "beginning with at most one 14 and then a 12"
unfoldable pub headed : List Event → Bool
headed es = choose (starts_with 14 es) (starts_with 12 (drop 2 es)) (starts_with 12 es)

-- "in 11 only leaf pairs of 0, 12, 14, beginning with at most one 14 and then a 12"
unfoldable pub shaped : List Event → Bool
shaped inner = and (headed inner) (leaves inner)

-- The text rule, of a heading's inner events. CommonMark 0.31 §4.2: "a string of characters, parsed as inline content, between an opening sequence of
-- 1–6 unescaped `#` characters and an optional closing sequence of any number of unescaped `#` characters"; "The raw contents of the heading are
-- stripped of leading and trailing space or tabs". The rule goes by names in their order, in records that no line makes too (`by_names` in
-- specs/Cases.antt); that it is the standard's on those of a line is proved in `claims`. specs/Text.antt says it a second time, as what such events look like.

-- "after the opening run": how many events stand up to its end, with the 14 that may be in front of it
unfoldable pub through_opening : List Event → ℕ
through_opening inner = choose (starts_with 14 inner) 4 2

-- "Data or `#` run"
unfoldable pub is_data_or_run : Event → Bool
is_data_or_run e = choose (eqb e.name 0) true (eqb e.name 12)

-- "Text (13) goes from the first Data or `#` run after the opening run": how many events stand before it
unfoldable pub before_text : List Event → ℕ
before_text inner = through_opening inner + before_first is_data_or_run (drop (through_opening inner) inner)

-- "to the last Data or `#` run": some events up to that
unfoldable pub to_last : List Event → List Event
to_last es = take (through_last is_data_or_run es) es

-- "but a `#` run that is the last thing other than space or tab is the closing run and stays out": how many of some events stand before it, where
-- nothing stands behind it
unfoldable pub before_closing : List Event → ℕ
before_closing es = choose (starts_with 12 (reverse es)) (length es - 2) (length es)

unfoldable pub without_closing : List Event → List Event
without_closing es = take (before_closing es) es

-- the events of the text, and how many stand up to its end
unfoldable pub text_events : List Event → List Event
text_events inner = to_last (without_closing (to_last (drop (before_text inner) inner)))

unfoldable pub through_text : List Event → ℕ
through_text inner = before_text inner + length (text_events inner)

-- "One Data pair is left inside the text."
abbrev pub text_round : ℕ → ℕ → List Event
text_round from to = enter 13 from ∷ enter 0 from ∷ exit 0 to ∷ exit 13 to ∷ []

-- the text in place of its events. "No text left: unchanged."
unfoldable pub with_text : List Event → List Event
with_text inner =
    choose (eqb (before_text inner) (through_text inner))
    inner
    (take (before_text inner) inner
    ++ (text_round (nth inner (before_text inner)).place (nth inner (through_text inner - 1)).place ++ drop (through_text inner) inner))

-- the events of the result: each heading's inner events get their text, all others stay; the first k events are inner events that have got it
unfoldable pub resolved_from : ℕ → List Event → List Event
resolved_from k [] = []
resolved_from zero (e ∷ es) =
    choose (is_of 0 11 e)
    (e ∷ with_text (inner_of es) ++ resolved_from (before_first (is_of 1 11) es) es)
    (e ∷ resolved_from 0 es)
resolved_from (suc k) (e ∷ es) = resolved_from k es

-- whether an event, before these others, enters a heading that breaks the shape rule
unfoldable pub offending : Event → List Event → Bool
offending e es = and (is_of 0 11 e) (not (shaped (inner_of es)))

-- the number of the earliest that does, where the first of these events has number i; else `good`
unfoldable pub earliest : ℕ → List Event → Resolution → Resolution
earliest i [] good = good
earliest i (e ∷ es) good = choose (offending e es) (offends i) (earliest (i + 1) es good)

unfoldable pub headings : List Event → Resolution
headings es = earliest 0 es (gives (resolved_from 0 es))
