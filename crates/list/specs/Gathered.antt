-- The result, said a second time, in document 01's words over event numbers: "A list goes round each longest chain, 19 for `.` and `)`, else 20,
-- at its first and last item's places." For each event of the record it says what stands right before it and right behind it in the result.
-- Assumes nothing.
use Rattle.std.specs.Prelude.{ℕ, ◌+◌, ◌≤◌, ◌<◌, ◌≡◌, true, ◌⊎◌, List, [], ◌∷◌, ◌++◌, length, drop}
use Rattle.record.specs.Event.{enter, exit}
use Rattle.record.specs.Outcome.{gives}
use Rattle.record.specs.Sound.{sound}
use Rattle.record.specs.Stack.{nth}
use Rattle.record.specs.declared.event.Event.{Event}
use Rattle.list.specs.Lists.{lists}
use Rattle.list.specs.Neighbours.{Whole, Pair, Item, mark_at, Joined, Linked, First, Last}

-- "19 for `.` and `)`, else 20": of a mark and a list's name
pub data Named : ℕ → ℕ → Type 0 where
  by_point : Named 46 19
  by_bracket : Named 41 19
  by_other : {mark : ℕ} → (mark ≡ 46 → ⊥) → (mark ≡ 41 → ⊥) → Named mark 20

-- right before event k: a list's enter if the event enters the first item of a chain; nothing if it enters one that another joins from before,
-- and nothing if it enters no item
pub data Before (document : List ℕ) (es : List Event) (k : ℕ) : List Event → Type 0 where
  begins : {far name : ℕ} → Item es k far → First document es k → Named (mark_at document es k) name →
      Before document es k (enter name (nth es k).place ∷ [])
  joined : {i : ℕ} → Joined document es i k → Before document es k []
  enters_none : ((far : ℕ) → Item es k far → ⊥) → Before document es k []

-- right behind event k: a list's exit if the event is the exit of the last item of a chain; nothing if it is the exit of one that joins another,
-- and nothing if it is no item's exit
pub data Behind (document : List ℕ) (es : List Event) (k : ℕ) : List Event → Type 0 where
  ends : {i name : ℕ} → Item es i k → Last document es i → Named (mark_at document es i) name →
      Behind document es k (exit name (nth es k).place ∷ [])
  joins : {i j : ℕ} → Item es i k → Joined document es i j → Behind document es k []
  exits_none : ((i : ℕ) → Item es i k → ⊥) → Behind document es k []

-- what is written from event k on: every event, in its order, with what stands before and behind it
pub data Gathered (document : List ℕ) (es : List Event) : ℕ → List Event → Type 0 where
  finished : {k : ℕ} → length es ≤ k → Gathered document es k []
  with_event : {k : ℕ} {before behind out : List Event} → k < length es → Before document es k before → Behind document es k behind →
      Gathered document es (k + 1) out → Gathered document es k (before ++ (nth es k ∷ (behind ++ out)))

-- Theorem: every result is so. proofs/Gathering.antt
abbrev pub ResultGathered : Type 0
ResultGathered =
    (deep d : ℕ) (document : List ℕ) (es out : List Event) → sound deep d es ≡ true → lists document es ≡ gives out → Gathered document es 0 out

-- Theorem: and nothing else is. proofs/Once.antt
abbrev pub GatheredOnce : Type 0
GatheredOnce = (document : List ℕ) (es out other : List Event) → Gathered document es 0 out → Gathered document es 0 other → out ≡ other

-- event k of the record is event m of the result: with what stands right before it, the result from there on is what is written from event k on
pub record Comes (document : List ℕ) (es out : List Event) (k m : ℕ) : Type 0 where
  pub within : m < length out
  pub before : List Event
  pub stands : Before document es k before
  pub onward : Gathered document es k (before ++ drop m out)

-- Theorem: every event of the record comes, as it was, and as one event alone. proofs/Coming.antt
abbrev pub EveryEventComes : Type 0
EveryEventComes =
    (document : List ℕ) (es out : List Event) → Gathered document es 0 out → (k : ℕ) → k < length es →
    (m : ℕ) × Comes document es out k m × (nth out m ≡ nth es k) × ((l : ℕ) → Comes document es out k l → m ≡ l)

-- event m of the result stands in the pair of its events from and to, and in no pair inside of that
pub record StandsIn (out : List Event) (name from to m : ℕ) : Type 0 where
  pub around : Pair out name from to
  pub held : Whole out (from + 1) m
  pub to_come : m < to

-- events m and l of the result stand in one list
pub record InOneList (out : List Event) (m l : ℕ) : Type 0 where
  pub name : ℕ
  pub from : ℕ
  pub to : ℕ
  pub is_list : (name ≡ 19) ⊎ (name ≡ 20)
  pub one : StandsIn out name from to m
  pub other : StandsIn out name from to l

-- two items of the record stand in one list of the result exactly where a chain links them
abbrev pub OneListWhereLinked : List ℕ → List Event → List Event → Type 0
OneListWhereLinked document es out =
    (i k i_exit k_exit m l : ℕ) → Item es i i_exit → Item es k k_exit → Comes document es out i m → Comes document es out k l →
    (InOneList out m l → Linked document es i k) × (Linked document es i k → InOneList out m l)

-- Theorem: so it is in every result. proofs/Linked.antt
abbrev pub ResultLinked : Type 0
ResultLinked =
    (deep d : ℕ) (document : List ℕ) (es out : List Event) → sound deep d es ≡ true → lists document es ≡ gives out → OneListWhereLinked document es out
