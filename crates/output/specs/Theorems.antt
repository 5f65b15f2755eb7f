-- What is true of the pieces and of the events that attention makes of a record, on one page, over any profile and so over any rule of
-- eligibility. The file of proofs/ that each names proves it.
-- Assumes nothing.
use Rattle.std.specs.Prelude.{ℕ, ◌*◌, ◌≤◌, ◌<◌, ◌≡◌, true, length}
use Rattle.record.specs.Sound.{sound}
use Rattle.runs.specs.Runs.{runs_of}
use Rattle.runs.specs.Output.{output, emptied, result_size}
use Rattle.groups.specs.Places.{run_at}
use Rattle.groups.specs.Theorems.{groups_of, Always}
use Rattle.output.specs.Accepted.{Accepted}
use Rattle.output.specs.Tiling.{all_pieces, holding, Divided, Marker}
use Rattle.output.specs.Others.{others, Among}

-- MarkerBytes: the groups divide each run, from its first byte to its last
abbrev pub EachDivided : Type 0
EachDivided = Always (λ profile options doc es. (q : ℕ) → Divided (groups_of profile options doc es) q (run_at (runs_of doc es) q))

-- MarkerBytes: every marker byte lies in exactly one piece of a group or in one leftover, of all that there are
abbrev pub EachMarkerOnce : Type 0
EachMarkerOnce =
    Always (λ profile options doc es.
    (deep : ℕ) → Accepted deep options doc es → (at : ℕ) → Marker at (runs_of doc es) →
    holding at (all_pieces (groups_of profile options doc es) 0 (runs_of doc es)) ≡ 1)

-- MarkerBytes: and these hold no other byte
abbrev pub OnlyMarkers : Type 0
OnlyMarkers =
    Always (λ profile options doc es.
    (at : ℕ) → 0 < holding at (all_pieces (groups_of profile options doc es) 0 (runs_of doc es)) → Marker at (runs_of doc es))

-- ResultSize: the number that document 01 gives, "E − 2 × emptied runs + 8 × groups", is how many events come out
abbrev pub SizeOfOutput : Type 0
SizeOfOutput =
    Always (λ profile options doc es.
    (deep : ℕ) → Accepted deep options doc es → length (output profile options doc es) ≡ result_size profile options doc es)

-- ResultSize: what is taken off is never more than there is, for each run has two events of its own
abbrev pub EmptiedFew : Type 0
EmptiedFew =
    Always (λ profile options doc es.
    (deep : ℕ) → Accepted deep options doc es → 2 * emptied (groups_of profile options doc es) 0 (runs_of doc es) ≤ length es)

-- ResultSize: "A result ≤ 8,000 events": with more than 1,000 groups it is over that
abbrev pub ManyGroupsTooLong : Type 0
ManyGroupsTooLong = Always (λ profile options doc es. 1000 < length (groups_of profile options doc es) → 8000 < result_size profile options doc es)

-- SoundOutput: kinds and names good, places rising and within D, each exit with its enter, none left open. Only the depth may pass 64; it is at
-- most the number of events.
abbrev pub OutputSound : Type 0
OutputSound =
    Always (λ profile options doc es.
    (deep : ℕ) → Accepted deep options doc es →
    (room : ℕ) → length (output profile options doc es) ≤ room → sound room (length doc) (output profile options doc es) ≡ true)

-- OthersStay: events that are no run's keep their kinds, names and places, and their order
abbrev pub OthersKept : Type 0
OthersKept = Always (λ profile options doc es. Among (others es) (output profile options doc es))
