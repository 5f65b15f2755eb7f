-- The chained matcher as a definition: the next match along the chains, taken, and the next, until a closer is finished; and so closer by closer.
-- It reads what `onward` reads, that is each run's own slot and at a closer its chain from the head, and writes what passing a run and taking a match
-- write. Being equal to it fixes answer and memory, not what was looked at. The step that handles one closer is equal to `closer_by` on all memory that
-- is in order (`InOrder`), whatever the slots off the chains hold, and there a search over all runs comes to something else (OffChains.antt). All
-- closers together are asked of memory whose chains are empty and are equal to `chained`; these chains are the matcher's own, and a search over all
-- runs would come to the same.
-- Assumes nothing.
use Rattle.std.specs.Prelude.{ℕ, zero, suc, ◌+◌, ◌-◌, List, eqb, ltb, Result, Ok, Err}
use Rattle.record.specs.Choice.{choose}
use Rattle.runs.specs.Rule.{Rule}
use Rattle.runs.specs.declared.Next.{Next}
use Rattle.runs.specs.declared.Next.TheVariants.{Match, Done}
use Rattle.chains.specs.Walk.{onward}
use Rattle.chains.specs.Step.{matched_at}
use Rattle.matcher.specs.declared.closers.Closed.{Closed}
use Rattle.matcher.specs.declared.closers.TooMany.{TooMany}
use Rattle.matcher.specs.declared.closers.Groups.{Groups}

-- where a closer leaves things, what all matches come to, and that there are more groups than a result can hold
abbrev pub closed_at : ℕ → ℕ → ℕ → ℕ → Closed
closed_at next height groups tried = record { next = next; height = height; groups = groups; tried = tried }

abbrev pub groups_at : ℕ → ℕ → Groups
groups_at groups tried = record { groups = groups; tried = tried }

abbrev pub too_many : TooMany
too_many = record {}

-- a walk has found nothing, or a match
abbrev pub walked : {A : Type 0} → Next × (List ℕ × ℕ) → (ℕ → List ℕ → ℕ → A) → (ℕ → ℕ → ℕ → List ℕ → ℕ → A) → A
walked (Done u, (w, h)) done found = done u w h
walked (Match o c u, (w, h)) done found = found o c u w h

-- one closer to its end, at most k matches: from the run `at` up to the run `until`, where `made` groups are made and `count` candidates tried; once
-- a closer is found only that closer is tried again
unfoldable pub closer_along : ℕ → Rule → List ℕ → ℕ → ℕ → ℕ → ℕ → ℕ → Result Closed TooMany × List ℕ
closer_along zero rule w height at until made count = (Err too_many, w)
closer_along (suc k) rule w height at until made count =
    walked (onward (until - at) rule w height at 0)
    (λ u v h. (Ok (closed_at until h made (count + u)), v))
    (λ o c u v h.
    let m = matched_at v h o c made in
    choose (eqb made 1000) (Err too_many, v) (closer_along k rule m.0 m.1 c (c + 1) (made + 1) (count + u)))

-- there is room for 1,000 groups
abbrev pub closer_by : Rule → List ℕ → ℕ → ℕ → ℕ → ℕ → ℕ → Result Closed TooMany × List ℕ
closer_by rule w height at until made count = closer_along (suc (1000 - made)) rule w height at until made count

-- a closer is finished, or there was no room
abbrev pub stepped : Result Closed TooMany × List ℕ → (ℕ → ℕ → ℕ → ℕ → List ℕ → Result Groups TooMany × List ℕ) → Result Groups TooMany × List ℕ
stepped (Ok c, w) on = on c.next c.height c.groups c.tried w
stepped (Err e, w) on = (Err e, w)

-- closer by closer, at most k of them
unfoldable pub along : ℕ → Rule → List ℕ → ℕ → ℕ → ℕ → ℕ → ℕ → Result Groups TooMany × List ℕ
along zero rule w height n from made count = (Ok (groups_at made count), w)
along (suc k) rule w height n from made count =
    let rest = stepped (closer_by rule w height from n made count) (λ next h made' count' v. along k rule v h n next made' count') in
    choose (ltb from n) rest (Ok (groups_at made count), w)

-- all of them, among n runs
unfoldable pub chained : Rule → List ℕ → ℕ → Result Groups TooMany × List ℕ
chained rule w n = along (n + 1) rule w 0 n 0 0 0
