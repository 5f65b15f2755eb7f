-- Demand 3 on one page: "For every accepted record, the chained matcher, which looks only at runs of the closer's marker and container that can
-- still open, forms the same groups in the same order as the plain rule of demand 2. It reports exactly the candidates that rule counts as
-- tried, and after each closer its chains hold exactly the runs up to it that can still open. No two groups cross, and no group crosses a
-- container. Each marker byte of a run lies in exactly one piece of a group or one leftover piece of data."
--
-- The plain rule (`plain`, `plain_up_to` for the runs before a run, `closer_from` for one closer) stands over the list of all earlier runs and knows of
-- no chain. The chained matcher is a definition too: `onward` (crates/chains/specs/Walk.antt) finds the next match, reading run by run onward only that
-- run's own slot and, at a closer, its chain from the head; `chained` (crates/matcher/specs/Along.antt) goes on by it closer by closer. Three contracts
-- say that this is what is done: `next_match` (crates/chains/src/walk.rt) is equal to `onward`, and `handle_closer` and `find_groups`
-- (crates/matcher/src/closers.rt) to `closer_by` and `chained`, each in answer and memory. That only chains are looked at is in the first two: their
-- premises say of no slot that it is emptied, can't open or has another marker or container, and what is off the chains is not taken
-- (crates/matcher/specs/OffChains.antt); src/steps.rt ties this page to the three. That `find_groups`, which begins with empty chains, and the call
-- above it go by the other two is seen in their bodies: on memory that is as they require, a search over all runs would come to the same. What the promises of those two, `Handles` and `Answers`, say is
-- drawn out here.
--
-- First the call: what it reports and writes, and that nothing crosses. Then the matcher, from the memory that a record's runs are loaded into: its
-- groups and its count; its chains after each closer, as lists of runs (ChainsAsLists.antt), wherever it and the plain rule stand (Positions.antt), and
-- that this is the way to its answer; and what it finds along them. These are the statements; proofs/Matcher.antt proves each under the name in small
-- letters.
-- Assumes nothing.
use Rattle.std.specs.Prelude.{ℕ, ◌+◌, ◌<◌, ◌≤◌, ◌≡◌, List, length, Result, Ok, Err}
use Rattle.record.specs.Handed.{form_of, options_of}
use Rattle.record.specs.Partners.{section_in}
use Rattle.record.specs.Rows.{document_count_in, event_count_in}
use Rattle.record.specs.Outcome.{onto}
use Rattle.record.specs.declared.form.Handed.{Handed}
use Rattle.runs.specs.Runs.{runs_of}
use Rattle.runs.specs.Plain.{Standing, Group, forth, plain}
use Rattle.runs.specs.Rule.{Rule, Profile}
use Rattle.runs.specs.Pieces.{outcome}
use Rattle.runs.specs.Output.{output}
use Rattle.groups.specs.Theorems.{groups_of}
use Rattle.groups.specs.Matches.{begin}
use Rattle.groups.specs.Spans.{Held, NeverCross}
use Rattle.groups.specs.Containers.{NeverCrosses, OneContainer}
use Rattle.output.specs.Accepted.{Accepted}
use Rattle.output.specs.Tiling.{all_pieces, holding, Marker}
use Rattle.attention.specs.Start.{Cleared}
use Rattle.ledgerlark.specs.Answers.{AttentionBy}
use Rattle.ledgerlark.specs.declared.resolve.LarkResolved.{LarkResolved}
use Rattle.slots.specs.Layout.{Room}
use Rattle.loading.specs.Promise.{Loads}
use Rattle.matcher.specs.Promise.{Answers, Handles}
use Rattle.matcher.specs.Closer.{closer_from}
use Rattle.matcher.specs.Along.{closer_by, chained, closed_at, groups_at, too_many}
use Rattle.matcher.specs.Groups.{Grouped}
use Rattle.matcher.specs.State.{Fresh, Ready}
use Rattle.chains.specs.Walk.{onward}
use Rattle.claims.specs.Records.{doc_of, all_events}
use Rattle.matcher.specs.declared.closers.Groups.{Groups}
use Rattle.matcher.specs.declared.closers.TooMany.{TooMany}
use Rattle.claims.specs.ChainsAsLists.{ChainsList}
use Rattle.claims.specs.Positions.{plain_up_to, rounds_left, Stands, StandsAt, Leads}

-- the groups that the plain rule makes of a record
abbrev pub plain_groups : Profile → Handed → List ℕ → List Group
plain_groups profile h s = groups_of profile (options_of h s) (doc_of h s) (all_events h s)

-- the call: with number 0 it reports how many groups the plain rule makes and how many candidates that rule counts, and writes the events that these
-- groups make; and the record is one that the theorems on groups speak of
pub record AsThePlainRule (profile : Profile) (h : Handed) (s : List ℕ) (out : List ℕ) (r : LarkResolved) (out' : List ℕ) : Type 0 where
  pub record_good : Accepted 64 (options_of h s) (doc_of h s) (all_events h s)
  pub groups : r.groups ≡ length (plain_groups profile h s)
  pub tried : r.tried ≡ (outcome profile (options_of h s) (doc_of h s) (all_events h s)).tried
  pub events : r.events ≡ length (output profile (options_of h s) (doc_of h s) (all_events h s))
  pub written : out' ≡ onto (section_in (form_of h) (output profile (options_of h s) (doc_of h s) (all_events h s))) out

abbrev pub AcceptedAsThePlainRule : Type 0
AcceptedAsThePlainRule =
    (profile : Profile) (h : Handed) (s : List ℕ) (out work : List ℕ) (r : LarkResolved) (out' work' : List ℕ) →
    AttentionBy profile h s out work r out' work' → r.number ≡ 0 → AsThePlainRule profile h s out r out'

-- of an accepted record: no two groups cross; no group crosses a container, that is any pair of the record that is no run, and both its runs stand in
-- one; each group is where its pieces are; and each marker byte of a run lies in exactly one piece of a group or one leftover, which hold no
-- other byte
pub record Nests (profile : Profile) (h : Handed) (s : List ℕ) : Type 0 where
  pub groups_never_cross : NeverCross (runs_of (doc_of h s) (all_events h s)) (plain_groups profile h s)
  pub containers_never_crossed : NeverCrosses (all_events h s) (runs_of (doc_of h s) (all_events h s)) (plain_groups profile h s)
  pub container_is_one : OneContainer (runs_of (doc_of h s) (all_events h s)) (plain_groups profile h s)
  pub each_held : (i : ℕ) → i < length (plain_groups profile h s) → Held (runs_of (doc_of h s) (all_events h s)) (plain_groups profile h s) i
  pub each_marker_once : (at : ℕ) → Marker at (runs_of (doc_of h s) (all_events h s)) →
      holding at (all_pieces (plain_groups profile h s) 0 (runs_of (doc_of h s) (all_events h s))) ≡ 1
  pub only_markers : (at : ℕ) → 0 < holding at (all_pieces (plain_groups profile h s) 0 (runs_of (doc_of h s) (all_events h s))) →
      Marker at (runs_of (doc_of h s) (all_events h s))

abbrev pub AcceptedNests : Type 0
AcceptedNests =
    (profile : Profile) (h : Handed) (s : List ℕ) (out work : List ℕ) (r : LarkResolved) (out' work' : List ℕ) →
    AttentionBy profile h s out work r out' work' → r.number ≡ 0 → Nests profile h s

-- the chained matcher forms the same groups in the same order, and tries exactly as many candidates: whatever runs the memory held before the first
-- match, after it the memory holds the plain rule's groups of them in match order
abbrev pub GroupsAreThePlainRule's : Type 0
GroupsAreThePlainRule's =
    (rule : Rule) (w : List ℕ) (n made tried : ℕ) (w' : List ℕ) → Answers rule w n (Ok (groups_at made tried)) w' →
    ((Ok (groups_at made tried), w') ≡ chained rule w n)
    × ((rs : List Standing) → Fresh w rs n →
    (made ≡ length (plain rule rs).groups) × (tried ≡ (plain rule rs).tried) × Grouped w' (plain rule rs).groups n)

-- of a record: `Loads` is what the pass that loads the runs promises (crates/loading), `Cleared` what clearing the heads of the chains does
-- (crates/attention). After both the memory is as before the first match, for the runs of this record: here the statements on chains begin
abbrev pub AcceptedBegins : Type 0
AcceptedBegins =
    (profile : Profile) (h : Handed) (s : List ℕ) (n : ℕ) (w w₁ w₂ : List ℕ) → Room w → Loads profile (form_of h) s (document_count_in (form_of h) s) (event_count_in (form_of h) s) (options_of h s) w (Ok n) w₁ →
    Cleared w₁ 6147 w₂ → Fresh w₂ (begin profile (options_of h s) (doc_of h s) (all_events h s)) n

-- so the groups that the memory then holds are those that are reported and written
abbrev pub AcceptedGroups : Type 0
AcceptedGroups =
    (profile : Profile) (h : Handed) (s : List ℕ) (n made tried : ℕ) (w w' : List ℕ) → Fresh w (begin profile (options_of h s) (doc_of h s) (all_events h s)) n →
    Answers (profile.rule (options_of h s)) w n (Ok (groups_at made tried)) w' →
    (made ≡ length (plain_groups profile h s)) × (tried ≡ (outcome profile (options_of h s) (doc_of h s) (all_events h s)).tried) × Grouped w' (plain_groups profile h s) n

-- and there is room for them: of a record that the call accepts, the matcher does not come to more groups than a result can hold
abbrev pub AcceptedHasRoom : Type 0
AcceptedHasRoom =
    (profile : Profile) (h : Handed) (s : List ℕ) (out work : List ℕ) (r : LarkResolved) (out' work' : List ℕ) →
    AttentionBy profile h s out work r out' work' → r.number ≡ 0 → (n : ℕ) (found : Result Groups TooMany) (w w' : List ℕ) →
    Fresh w (begin profile (options_of h s) (doc_of h s) (all_events h s)) n → Answers (profile.rule (options_of h s)) w n found w' → (found ≡ Err too_many → ⊥)

-- where the matcher stands after a run, as Positions.antt has it, the plain rule stands too: it has made as many groups, which the memory holds, and
-- has tried as many candidates; and what it makes of the first runs is what the rounds that are left make of the runs as they stand then
abbrev pub StandsByThePlainRule : Type 0
StandsByThePlainRule =
    (rule : Rule) (n : ℕ) (w₀ : List ℕ) (rs₀ : List Standing) (w : List ℕ) (height i made tried : ℕ) →
    Fresh w₀ rs₀ n → Stands rule n w₀ w height i made tried →
    (made ≡ length (plain_up_to rule rs₀ i).groups) × (tried ≡ (plain_up_to rule rs₀ i).tried) × Grouped w (plain_up_to rule rs₀ i).groups n
    × (plain rule rs₀ ≡ rounds_left rule (plain_up_to rule rs₀ i))

-- "After each closer the chains, one per marker and container, list exactly the runs up to it with markers left that can still open, latest first,
-- as the plain rule has them on finishing that closer". The run i stands behind the closer, which took an opener or was passed
abbrev pub ChainsAfterEach : Type 0
ChainsAfterEach =
    (rule : Rule) (n : ℕ) (w₀ : List ℕ) (rs₀ : List Standing) (w : List ℕ) (height i made tried : ℕ) →
    Fresh w₀ rs₀ n → Stands rule n w₀ w height i made tried → ChainsList w (plain_up_to rule rs₀ i).runs i

-- and there is such a place behind each run, from the first to the last, wherever all groups have room
abbrev pub StandsAfterEach : Type 0
StandsAfterEach =
    (rule : Rule) (n : ℕ) (w₀ : List ℕ) (rs₀ : List Standing) (made tried : ℕ) (w' : List ℕ) →
    Fresh w₀ rs₀ n → Answers rule w₀ n (Ok (groups_at made tried)) w' → (i : ℕ) → i ≤ n → StandsAt rule n w₀ i

-- "the step that handles one closer promises this at its exit": it is a step of `along`, so from such a place it comes to such a place; and of
-- whatever runs and groups the memory has, the chains then list those up to the closer as the plain rule has them on finishing it
abbrev pub PromisedAtTheExit : Type 0
PromisedAtTheExit =
    (rule : Rule) (w : List ℕ) (height n i made tried next height' made' tried' : ℕ) (w' : List ℕ) →
    Handles rule w height n i made tried (Ok (closed_at next height' made' tried')) w' →
    ((Ok (closed_at next height' made' tried'), w') ≡ closer_by rule w height i n made tried)
    × ((rs : List Standing) (gs : List Group) → Ready w height rs gs n i → length gs ≡ made →
    (next ≡ (closer_from rule rs i gs tried).next) × ChainsList w' (closer_from rule rs i gs tried).runs next)

-- these are the memories that `chained` goes through, which `find_groups` is equal to in answer and last memory: from each such place, the first
-- among them, its steps lead over such places alone to the last
abbrev pub AnswersThroughThese : Type 0
AnswersThroughThese =
    (rule : Rule) (n : ℕ) (w₀ : List ℕ) (rs₀ : List Standing) (w : List ℕ) (height i made tried : ℕ) (found : Result Groups TooMany) (w' : List ℕ) →
    Fresh w₀ rs₀ n → Answers rule w₀ n found w' → Stands rule n w₀ w height i made tried → Leads rule n w₀ w height i made tried (found, w')

-- "the call that finds the next match": from such a place, what `onward` finds along the chains, and how many it tries, is what the plain rule finds
-- among all earlier runs
abbrev pub ChainsFindTheSame : Type 0
ChainsFindTheSame =
    (rule : Rule) (n : ℕ) (w₀ : List ℕ) (rs₀ : List Standing) (w : List ℕ) (height i made tried m t : ℕ) →
    Fresh w₀ rs₀ n → Stands rule n w₀ w height i made tried → i + m ≤ n →
    (onward m rule w height i t).0 ≡ forth rule m (plain_up_to rule rs₀ i).runs i t
