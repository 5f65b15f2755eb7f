-- Groups and containers. Document 01, section "Attention": "Container: the innermost event open at the run, or none"; an opener is looked for
-- "with equal marker and container". So a group never crosses a pair of events that is no run: the pair lies wholly inside the group's text,
-- wholly outside its span, or wholly around it, by the numbers of the events (what stands for a run in the output stands at its enter) and by
-- their places.
-- Assumes nothing.
use Rattle.std.specs.Prelude.{ℕ, ◌≤◌, ◌<◌, ◌≡◌, false, List, ◌∷◌, length}
use Rattle.record.specs.Stack.{nth, open_at, outer}
use Rattle.record.specs.declared.event.Event.{Event}
use Rattle.runs.specs.Runs.{Run, enters_run}
use Rattle.runs.specs.Plain.{Group}
use Rattle.groups.specs.Spans.{opener_of, closer_of, span_from, text_from, text_to, span_to}

-- an exit and its enter: the innermost that is open where the exit stands
pub record Pair (es : List Event) (a b : ℕ) : Type 0 where
  pub within : b < length es
  pub exits : (nth es b).kind ≡ 1
  pub innermost : open_at es b ≡ a ∷ outer (open_at es b)

-- in these events every enter has an exit, every exit its enter, and neither has two
pub record Paired (es : List Event) : Type 0 where
  pub exit_of : (a : ℕ) → a < length es → (nth es a).kind ≡ 0 → (b : ℕ) × Pair es a b
  pub enter_of : (b : ℕ) → b < length es → (nth es b).kind ≡ 1 → (a : ℕ) × Pair es a b
  pub one_exit : (a b c : ℕ) → Pair es a b → Pair es a c → b ≡ c
  pub one_enter : (a b c : ℕ) → Pair es a c → Pair es b c → a ≡ b

-- where a pair of events stands beside the group i
pub data Clear (es : List Event) (rs : List Run) (gs : List Group) (i a b : ℕ) : Type 0 where
  inside : (opener_of rs gs i).number < a → b < (closer_of rs gs i).number →
      text_from rs gs i ≤ (nth es a).place → (nth es b).place ≤ text_to rs gs i → Clear es rs gs i a b
  before : b < (opener_of rs gs i).number → (nth es b).place ≤ span_from rs gs i → Clear es rs gs i a b
  behind : (closer_of rs gs i).number < a → span_to rs gs i ≤ (nth es a).place → Clear es rs gs i a b
  around : a < (opener_of rs gs i).number → (closer_of rs gs i).number < b →
      (nth es a).place ≤ span_from rs gs i → span_to rs gs i ≤ (nth es b).place → Clear es rs gs i a b

-- Demand 3: "no group crosses a container". For every pair of the record that is no run ..
abbrev pub NeverCrosses : List Event → List Run → List Group → Type 0
NeverCrosses es rs gs = (i a b : ℕ) → i < length gs → Pair es a b → enters_run (nth es a) ≡ false → Clear es rs gs i a b

-- opener and closer have one container
abbrev pub OneContainer : List Run → List Group → Type 0
OneContainer rs gs = (i : ℕ) → i < length gs → (opener_of rs gs i).container ≡ (closer_of rs gs i).container
