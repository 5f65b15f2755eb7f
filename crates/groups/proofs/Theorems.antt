-- The theorems of specs/Theorems.antt, each from the file that has its proof.
-- Assumes nothing.
use Rattle.groups.specs.Theorems.{groups_of, with_tildes, AccountsHold, NoneOverspent, EachMade, EachTook, BothAsAtFirst, EachJoined, ClosersInOrder, TildesAsTheRuleSays, EachHeld, GroupsNeverCross, EventsArePaired, ContainersNeverCrossed, ContainerIsOne, PlainRuleEnds, NothingWithoutRuns}
use Rattle.record.specs.Options.{option_on}
use Rattle.groups.specs.Matches.{begin}
use Rattle.groups.proofs.Matches.{outcome_matched}
use Rattle.groups.proofs.Accounts.{outcome_account, spent_within}
use Rattle.groups.proofs.Groups.{made, took, rising}
use Rattle.groups.proofs.AtFirst.{at_first}
use Rattle.groups.proofs.Crossing.{outcome_joined, never_cross}
use Rattle.groups.proofs.Spans.{held}
use Rattle.groups.proofs.Tildes.{strikes}
use Rattle.groups.proofs.Paired.{paired}
use Rattle.groups.proofs.Containers.{one_container, never_crosses}
use Rattle.groups.proofs.Ending.{plain_enough, plain_ended, no_groups, output_nothing}

pub accounts_hold : AccountsHold
accounts_hold = outcome_account

pub none_overspent : NoneOverspent
none_overspent = spent_within

pub each_made : EachMade
each_made profile options doc es = made (outcome_matched profile options doc es).matches

pub each_took : EachTook
each_took rule rs₀ gs i w = took w

pub both_as_at_first : BothAsAtFirst
both_as_at_first = at_first

pub each_joined : EachJoined
each_joined = outcome_joined

pub closers_in_order : ClosersInOrder
closers_in_order profile options doc es = rising (outcome_matched profile options doc es).matches

pub tildes_as_the_rule_says : TildesAsTheRuleSays
tildes_as_the_rule_says amended size_of options doc es =
    strikes size_of (option_on options 4) (begin (with_tildes amended size_of) options doc es) (groups_of (with_tildes amended size_of) options doc es)
    (made (outcome_matched (with_tildes amended size_of) options doc es).matches)

pub each_held : EachHeld
each_held = held

pub groups_never_cross : GroupsNeverCross
groups_never_cross = never_cross

pub events_are_paired : EventsArePaired
events_are_paired = paired

pub containers_never_crossed : ContainersNeverCrossed
containers_never_crossed = never_crosses

pub container_is_one : ContainerIsOne
container_is_one = one_container

pub plain_rule_ends : PlainRuleEnds
plain_rule_ends rule rs = (plain_ended rule rs, plain_enough rule rs)

pub nothing_without_runs : NothingWithoutRuns
nothing_without_runs profile options doc es n = (no_groups profile options doc es n, output_nothing profile options doc es n)
