-- Groups of tildes, under any rule that has the tilde rule. GFM: "Strikethrough text is any text wrapped in a matching pair of one or two
-- tildes". Document 01 skips an opener where "`~`, and the sizes differ, exceed 2, or are 1 without option 4": so a group of tildes takes the
-- whole of two runs of one size, which is 1 or 2, and 1 only with option 4.
-- Assumes nothing.
use Rattle.std.specs.Prelude.{◌≤◌, ◌≡◌, Bool, true, List}
use Rattle.runs.specs.Plain.{Standing, Group, at}

-- a group of tildes, in words of the runs before the first match; `one` says whether option 4 is on
pub record Strikes (one : Bool) (rs₀ : List Standing) (g : Group) : Type 0 where
  pub opener_all : (at rs₀ g.opener).left ≡ g.taken
  pub closer_all : (at rs₀ g.closer).left ≡ g.taken
  pub at_most_two : g.taken ≤ 2
  pub one_allowed : g.taken ≡ 1 → one ≡ true
