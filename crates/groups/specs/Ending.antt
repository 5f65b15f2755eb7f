-- The plain rule ends. `plain` allows one match more than there are markers; every match takes one or two from two runs, so it stops before
-- that, because from its last closer on no closer finds an opener; and more allowed matches would give the same.
-- Assumes nothing.
use Rattle.std.specs.Prelude.{ℕ, ◌+◌, ◌*◌, ◌≤◌, ◌<◌, ◌≡◌, List, [], length}
use Rattle.record.specs.Stack.{nth}
use Rattle.record.specs.declared.event.Event.{Event}
use Rattle.runs.specs.declared.Next.TheVariants.{Done}
use Rattle.runs.specs.Rule.{Rule}
use Rattle.runs.specs.Plain.{Standing, Outcome, next, rounds, total, plain}
use Rattle.groups.specs.Matches.{Matches}

-- an outcome after which there is no match more; its groups took two markers or more each
pub record Ended (rule : Rule) (rs₀ : List Standing) (out : Outcome) : Type 0 where
  pub last : ℕ
  pub tried : ℕ
  pub matches : Matches rule rs₀ out.groups out.runs last
  pub done : next rule out.runs last ≡ Done tried
  pub few : total out.runs + 2 * length out.groups ≤ total rs₀

-- more matches allowed change nothing
abbrev pub Enough : Rule → List Standing → Type 0
Enough rule rs = (k : ℕ) → total rs < k → rounds k rule rs 0 [] 0 ≡ plain rule rs

-- no event enters or leaves a run
abbrev pub Runless : List Event → Type 0
Runless es = (k : ℕ) → k < length es → (nth es k).name ≡ 1 → ⊥
