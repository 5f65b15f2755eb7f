-- What is true of the groups that attention makes of a record, on one page, over any profile and so over any rule of eligibility. The words are
-- those of the other files here; proofs/Theorems.antt proves each.
-- Assumes nothing.
use Rattle.std.specs.Prelude.{ℕ, ◌+◌, ◌≤◌, ◌<◌, ◌≡◌, refl, Bool, true, false, List, [], length}
use Rattle.record.specs.Options.{option_on}
use Rattle.record.specs.Sound.{sound}
use Rattle.record.specs.declared.event.Event.{Event}
use Rattle.runs.specs.Runs.{runs_of}
use Rattle.runs.specs.Rule.{Side, Rule, Profile, rule_over, crate, standard}
use Rattle.runs.specs.Plain.{Standing, Group, at, side_of, candidate, group_at, plain}
use Rattle.runs.specs.Pieces.{outcome, closed, opened}
use Rattle.runs.specs.Output.{output}
use Rattle.groups.specs.Matches.{Matches, begin}
use Rattle.groups.specs.Accounts.{Accounts}
use Rattle.groups.specs.Groups.{Made, Amount, Joined, Rising}
use Rattle.groups.specs.Tildes.{Strikes}
use Rattle.groups.specs.Places.{run_at}
use Rattle.groups.specs.Spans.{Held, NeverCross}
use Rattle.groups.specs.Containers.{Paired, NeverCrosses, OneContainer}
use Rattle.groups.specs.Ending.{Ended, Enough, Runless}

-- the groups of a record, in match order
abbrev pub groups_of : Profile → ℕ → List ℕ → List Event → List Group
groups_of profile options doc es = (outcome profile options doc es).groups

-- said of every record, whatever the profile and the options
abbrev pub Always : (Profile → ℕ → List ℕ → List Event → Type 0) → Type 0
Always P = (profile : Profile) (options : ℕ) (doc : List ℕ) (es : List Event) → P profile options doc es

-- what each run had is what it has left, what it gave as a closer and what it gave as an opener; so it gave not more than it had
abbrev pub AccountsHold : Type 0
AccountsHold = Always (λ profile options doc es. Accounts (begin profile options doc es) (groups_of profile options doc es) (outcome profile options doc es).runs)

abbrev pub NoneOverspent : Type 0
NoneOverspent =
    Always (λ profile options doc es.
    (q : ℕ) → closed (groups_of profile options doc es) q + opened (groups_of profile options doc es) q ≤ (run_at (runs_of doc es) q).size)

-- each group was made by a closer that took its opener, by the rule, from the runs as the groups before left them
abbrev pub EachMade : Type 0
EachMade =
    Always (λ profile options doc es.
    (i : ℕ) → i < length (groups_of profile options doc es) → Made (profile.rule options) (begin profile options doc es) (groups_of profile options doc es) i)

-- and took 2 from each if both had at least 2, else 1
abbrev pub EachTook : Type 0
EachTook =
    (rule : Rule) (rs₀ : List Standing) (gs : List Group) (i : ℕ) (w : Made rule rs₀ gs i) →
    Amount (at w.runs (group_at gs i).opener).left (at w.runs (group_at gs i).closer).left (group_at gs i).taken

-- whether a run "can both open and close": the standard goes by what it can do at first, the plain rule by what it can do as it stands. Wherever a
-- candidate is tried they agree, of the opener and of the closer: after any matches, a candidate that is tried by a run at or behind their last closer
abbrev pub BothAsAtFirst : Type 0
BothAsAtFirst =
    (rule : Rule) (rs₀ : List Standing) (gs : List Group) (rs : List Standing) (last : ℕ) → Matches rule rs₀ gs rs last →
    (o c : ℕ) → last ≤ c → candidate (at rs o) (at rs c) ≡ true →
    ((side_of (at rs o)).both ≡ (side_of (at rs₀ o)).both) × ((side_of (at rs c)).both ≡ (side_of (at rs₀ c)).both)

-- opener before closer, one marker and one container on both sides, 1 or 2 taken
abbrev pub EachJoined : Type 0
EachJoined =
    Always (λ profile options doc es.
    (i : ℕ) → i < length (groups_of profile options doc es) → Joined (begin profile options doc es) (group_at (groups_of profile options doc es) i))

-- closers in match order do not fall
abbrev pub ClosersInOrder : Type 0
ClosersInOrder = Always (λ profile options doc es. Rising (groups_of profile options doc es))

-- a profile that has the tilde rule, whichever sizes its rule of three goes by; the crate's and the standard's are two of them
abbrev pub with_tildes : Bool → (Side → ℕ) → Profile
with_tildes amended size_of = record { amended = amended; rule = λ options. rule_over size_of (option_on options 4) }

pub crate_has_tildes : crate ≡ with_tildes true (λ s. s.left)
crate_has_tildes = refl

pub standard_has_tildes : standard ≡ with_tildes false (λ s. s.whole)
standard_has_tildes = refl

-- groups of tildes are always as the tilde rule says
abbrev pub TildesAsTheRuleSays : Type 0
TildesAsTheRuleSays =
    (amended : Bool) (size_of : Side → ℕ) (options : ℕ) (doc : List ℕ) (es : List Event) (i : ℕ) → i < length (groups_of (with_tildes amended size_of) options doc es) →
    (at (begin (with_tildes amended size_of) options doc es) (group_at (groups_of (with_tildes amended size_of) options doc es) i).closer).marker ≡ 126 →
    Strikes (option_on options 4) (begin (with_tildes amended size_of) options doc es) (group_at (groups_of (with_tildes amended size_of) options doc es) i)

-- in a sound record each group has its two pieces, and two groups never cross
abbrev pub EachHeld : Type 0
EachHeld =
    Always (λ profile options doc es.
    (deep d : ℕ) → sound deep d es ≡ true → (i : ℕ) → i < length (groups_of profile options doc es) → Held (runs_of doc es) (groups_of profile options doc es) i)

abbrev pub GroupsNeverCross : Type 0
GroupsNeverCross =
    Always (λ profile options doc es.
    (deep d : ℕ) → sound deep d es ≡ true → NeverCross (runs_of doc es) (groups_of profile options doc es))

-- a sound record is made of pairs; a group never crosses a pair that is no run; opener and closer have one container
abbrev pub EventsArePaired : Type 0
EventsArePaired = (deep d : ℕ) (es : List Event) → sound deep d es ≡ true → Paired es

abbrev pub ContainersNeverCrossed : Type 0
ContainersNeverCrossed =
    Always (λ profile options doc es.
    (deep d : ℕ) → sound deep d es ≡ true → NeverCrosses es (runs_of doc es) (groups_of profile options doc es))

abbrev pub ContainerIsOne : Type 0
ContainerIsOne = Always (λ profile options doc es. OneContainer (runs_of doc es) (groups_of profile options doc es))

-- the plain rule ends
abbrev pub PlainRuleEnds : Type 0
PlainRuleEnds = (rule : Rule) (rs : List Standing) → Ended rule rs (plain rule rs) × Enough rule rs

-- a record that has no runs has no groups and comes out as it is
abbrev pub NothingWithoutRuns : Type 0
NothingWithoutRuns =
    Always (λ profile options doc es. Runless es → (groups_of profile options doc es ≡ []) × (output profile options doc es ≡ es))
