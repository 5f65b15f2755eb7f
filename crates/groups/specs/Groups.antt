-- What is true of each group, over any rule: how it was made, and what it joins. Document 01, section "Attention": "Closers are taken in order;
-- each looks back for the nearest earlier run that has markers left and can open, with equal marker and container"; "A match takes 2 from
-- each if both have at least 2, else 1".
-- Assumes nothing.
use Rattle.std.specs.Prelude.{ℕ, ◌≤◌, ◌<◌, ◌≡◌, true, List, ◌⊎◌, length, take}
use Rattle.runs.specs.Rule.{Rule}
use Rattle.runs.specs.Plain.{Standing, Group, at, group_at, taken_by}
use Rattle.groups.specs.Matches.{Found, Matches}

-- how the group i was made: the groups before it left the runs so, and there its closer took its opener, by the rule
pub record Made (rule : Rule) (rs₀ : List Standing) (gs : List Group) (i : ℕ) : Type 0 where
  pub runs : List Standing
  pub from : ℕ
  pub before : Matches rule rs₀ (take i gs) runs from
  pub found : Found rule runs from (group_at gs i).opener (group_at gs i).closer
  pub taken : (group_at gs i).taken ≡ taken_by runs (group_at gs i).opener (group_at gs i).closer

-- 2 of each if both have at least 2, else 1 of each; and both had so much
pub data Amount (a b : ℕ) : ℕ → Type 0 where
  both : 2 ≤ a → 2 ≤ b → Amount a b 2
  single : 1 ≤ a → 1 ≤ b → (a ≡ 1) ⊎ (b ≡ 1) → Amount a b 1

-- what a group joins, in words of the runs before the first match
pub record Joined (rs₀ : List Standing) (g : Group) : Type 0 where
  pub earlier : g.opener < g.closer
  pub within : g.closer < length rs₀
  pub can_open : (at rs₀ g.opener).opens ≡ true
  pub can_close : (at rs₀ g.closer).closes ≡ true
  pub one_marker : (at rs₀ g.opener).marker ≡ (at rs₀ g.closer).marker
  pub one_container : (at rs₀ g.opener).container ≡ (at rs₀ g.closer).container
  pub one_or_two : (g.taken ≡ 1) ⊎ (g.taken ≡ 2)

-- "Closers are taken in order": in match order they do not fall
abbrev pub Rising : List Group → Type 0
Rising gs = (i j : ℕ) → i < j → j < length gs → (group_at gs i).closer ≤ (group_at gs j).closer
