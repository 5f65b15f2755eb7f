-- How groups come about: match after match. Document 01, section "Attention": "each looks back for the nearest earlier run that has markers
-- left and can open, with equal marker and container". What is true of one match, over any rule; and a list of groups as the matches that
-- made it, each found in the runs as the matches before it left them.
-- Assumes nothing.
use Rattle.std.specs.Prelude.{ℕ, ◌≤◌, ◌<◌, ◌≡◌, true, List, [], ◌∷◌, ◌++◌, map, length}
use Rattle.record.specs.declared.event.Event.{Event}
use Rattle.runs.specs.Runs.{runs_of}
use Rattle.runs.specs.Rule.{Rule, Profile}
use Rattle.runs.specs.Plain.{Standing, Group, Outcome, at, takes, taken_by, matched, group}
use Rattle.runs.specs.Pieces.{standing}

-- a closer c, at or after the run `from`, takes the opener o among these runs
pub record Found (rule : Rule) (rs : List Standing) (from o c : ℕ) : Type 0 where
  pub earlier : o < c
  pub onward : from ≤ c
  pub within : c < length rs
  pub opens : (at rs o).opens ≡ true
  pub closes : (at rs c).closes ≡ true
  pub opener_left : 0 < (at rs o).left
  pub closer_left : 0 < (at rs c).left
  pub same_marker : (at rs o).marker ≡ (at rs c).marker
  pub same_container_lem : (at rs o).container ≡ (at rs c).container
  pub taken : takes rule (at rs o) (at rs c) ≡ true

-- the groups gs, in match order, make of the runs rs₀ the runs rs, and the last of them was closed by the run c, which is 0 before the first
pub data Matches (rule : Rule) (rs₀ : List Standing) : List Group → List Standing → ℕ → Type 0 where
  start : Matches rule rs₀ [] rs₀ 0
  then : {gs : List Group} {rs : List Standing} {from : ℕ} (o c : ℕ) → Matches rule rs₀ gs rs from → Found rule rs from o c →
      Matches rule rs₀ (gs ++ (group o c (taken_by rs o c) ∷ [])) (matched rs o c) c

-- an outcome whose groups came about by matches
pub record Matched (rule : Rule) (rs₀ : List Standing) (out : Outcome) : Type 0 where
  pub last : ℕ
  pub matches : Matches rule rs₀ out.groups out.runs last

-- the runs of a record, as they stand before the first match
abbrev pub begin : Profile → ℕ → List ℕ → List Event → List Standing
begin profile options doc es = map (standing profile options) (runs_of doc es)
