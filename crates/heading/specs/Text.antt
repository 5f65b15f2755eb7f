-- The text rule a second time: not as a search, but as what a heading's inner events look like, part by part, and what they become; and what a record's
-- events become. `ResultAsSaid` says that both are one, and proofs/ResultAsSaid.antt proves it.
-- Assumes nothing.
use Rattle.std.specs.Prelude.{ℕ, ◌≡◌, true, ◌⊎◌, List, [], ◌∷◌, ◌++◌}
use Rattle.record.specs.Event.{enter, exit}
use Rattle.record.specs.Sound.{sound}
use Rattle.record.specs.Outcome.{gives}
use Rattle.record.specs.declared.event.Event.{Event}
use Rattle.heading.specs.Headings.{headings}
use Rattle.heading.specs.Shape.{LeafName}

-- "space or tab": pairs of 14, any number of them
pub data Blanks : List Event → Type 0 where
  none : Blanks []
  blank : {p q : ℕ} {es : List Event} → Blanks es → Blanks (enter 14 p ∷ exit 14 q ∷ es)

-- what stands before a text: "the opening run", with the 14 that may be in front of it, and spaces and tabs
pub data Before : List Event → Type 0 where
  bare : {p q : ℕ} {es : List Event} → Blanks es → Before (enter 12 p ∷ exit 12 q ∷ es)
  indented : {p q p' q' : ℕ} {es : List Event} → Blanks es → Before (enter 14 p ∷ exit 14 q ∷ enter 12 p' ∷ exit 12 q' ∷ es)

-- "Data or `#` run"
abbrev pub DataOrRun : ℕ → Type 0
DataOrRun name = (name ≡ 0) ⊎ (name ≡ 12)

-- "to the last Data or `#` run": pairs of any of the three names up to one of these two, which is called `last` and is left at `to`
pub data Ending (last to : ℕ) : List Event → Type 0 where
  here : {p : ℕ} → DataOrRun last → Ending last to (enter last p ∷ exit last to ∷ [])
  further : {name p q : ℕ} {es : List Event} → LeafName name → Ending last to es → Ending last to (enter name p ∷ exit name q ∷ es)

-- "a `#` run that is the last thing other than space or tab is the closing run and stays out": what stands behind a text that ends with a pair
-- called `last`. Without a closing run that is Data
pub data Behind : ℕ → List Event → Type 0 where
  unclosed : {last : ℕ} {es : List Event} → last ≡ 0 → Blanks es → Behind last es
  closing : (last p q : ℕ) (es fs : List Event) → Blanks es → Blanks fs → Behind last (es ++ (enter 12 p ∷ exit 12 q ∷ fs))

-- inner events, and what they become: a text "from the first Data or `#` run" that is entered at `from`, in which "one Data pair is left"; or, where
-- nothing is there but the opening run and perhaps a closing one, "unchanged"
pub data Texted : List Event → List Event → Type 0 where
  text : (xs es zs : List Event) (name from q last to : ℕ) → Before xs → DataOrRun name → Ending last to (enter name from ∷ exit name q ∷ es) → Behind last zs →
      Texted (xs ++ ((enter name from ∷ exit name q ∷ es) ++ zs)) (xs ++ ((enter 13 from ∷ enter 0 from ∷ exit 0 to ∷ exit 13 to ∷ []) ++ zs))
  closed : (xs zs : List Event) (p q : ℕ) → Before xs → Blanks zs →
      Texted (xs ++ (enter 12 p ∷ exit 12 q ∷ zs)) (xs ++ (enter 12 p ∷ exit 12 q ∷ zs))
  empty : (xs : List Event) → Before xs → Texted xs xs

-- the events of a record, and what they become: the inner events of each heading as above, and all others as they are
pub data WithTexts : List Event → List Event → Type 0 where
  done : WithTexts [] []
  other : {e : Event} {es rs : List Event} → (e.kind ≡ 0 → e.name ≡ 11 → ⊥) → WithTexts es rs → WithTexts (e ∷ es) (e ∷ rs)
  heading : (p q : ℕ) (inner result es rs : List Event) → Texted inner result → WithTexts es rs →
      WithTexts (enter 11 p ∷ (inner ++ (exit 11 q ∷ es))) (enter 11 p ∷ (result ++ (exit 11 q ∷ rs)))

-- of a sound list of events that is what the resolver makes, and nothing else is
pub record ResultAsSaid : Type 0 where
  pub said : (es rs : List Event) (deep d : ℕ) → sound deep d es ≡ true → headings es ≡ gives rs → WithTexts es rs
  pub alone : (es rs : List Event) → WithTexts es rs → headings es ≡ gives rs
