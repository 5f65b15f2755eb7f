-- The groups as work memory keeps them, and the three ways through them that a writer goes: from a run to its first group as a closer, from a
-- run to its latest group as an opener, and from a group to the opener's earlier one.
-- Assumes nothing.
use Rattle.std.specs.Prelude.{ℕ, zero, suc, ◌+◌, ◌≤◌, ◌<◌, ◌≡◌, List, [], ◌∷◌, eqb, length, get_or}
use Rattle.std.proofs.Math.Option.{none}
use Rattle.record.specs.Choice.{choose}
use Rattle.record.specs.Event.{enter, exit, document_in, events_in}
use Rattle.record.specs.declared.event.Event.{Event}
use Rattle.record.specs.declared.form.Form.{Form}
use Rattle.runs.specs.Runs.{Run, runs_of, enters_run}
use Rattle.runs.specs.Plain.{Group, group}
use Rattle.runs.specs.Pieces.{closings, openings, closed, opened}
use Rattle.runs.specs.Output.{closing_events, opening_events, run_events, replaced, no_run}
use Rattle.slots.specs.Layout.{Room, whole_of, left_of, marker_of, first_group_of, latest_group_of, group_opener, group_closer, group_taken, group_earlier}

-- group i of a memory
abbrev pub group_at : List ℕ → ℕ → Group
group_at w i = group (group_opener w i) (group_closer w i) (group_taken w i)

-- n groups of a memory, from group i on
unfoldable pub groups_from : ℕ → List ℕ → ℕ → List Group
groups_from zero w i = []
groups_from (suc n) w i = group_at w i ∷ groups_from n w (i + 1)

-- the first n groups
abbrev pub groups_in : List ℕ → ℕ → List Group
groups_in w n = groups_from n w 0

-- of n groups from group i on, the first with the closer q: its number plus 1; 0 for none
unfoldable pub first_closing : ℕ → List ℕ → ℕ → ℕ → ℕ
first_closing zero w i q = 0
first_closing (suc n) w i q = choose (eqb (group_closer w i) q) (i + 1) (first_closing n w (i + 1) q)

-- of the first n groups, the latest with the opener q: its number plus 1; 0 for none
unfoldable pub latest_opening : ℕ → List ℕ → ℕ → ℕ
latest_opening zero w q = 0
latest_opening (suc n) w q = choose (eqb (group_opener w n) q) (n + 1) (latest_opening n w q)

-- n groups over `runs` runs, kept so that a writer finds them; closers do not fall, each run's markers are accounted for
pub record Kept (w : List ℕ) (n runs : ℕ) : Type 0 where
  pub room : Room w
  pub few : n ≤ 1000
  pub many : runs ≤ 1024
  pub rising : (i j : ℕ) → i ≤ j → j < n → group_closer w i ≤ group_closer w j
  pub first : (q : ℕ) → q < runs → first_group_of w q ≡ first_closing n w 0 q
  pub latest : (q : ℕ) → q < runs → latest_group_of w q ≡ latest_opening n w q
  pub earlier : (i : ℕ) → i < n → group_earlier w i ≡ latest_opening i w (group_opener w i)
  pub accounts : (q : ℕ) → q < runs → whole_of w q ≡ left_of w q + (closed (groups_in w n) q + opened (groups_in w n) q)

-- the events of the closing pieces of the run q, whose first byte is at a place
abbrev pub closings_in : List ℕ → ℕ → ℕ → ℕ → ℕ → List Event
closings_in w n q marker from = closing_events (closings (groups_in w n) q marker from)

-- the events of its opening pieces, the first of them at a place
abbrev pub openings_in : List ℕ → ℕ → ℕ → ℕ → ℕ → List Event
openings_in w n q marker from = opening_events (openings (groups_in w n) q marker (from + opened (groups_in w n) q))

-- what is left of a run, from a place to another: nothing, or a Data pair
unfoldable pub left_in : ℕ → ℕ → List Event
left_in from to = choose (eqb from to) [] (enter 0 from ∷ exit 0 to ∷ [])

-- the run that the slot q keeps, its first byte at a place; what a slot does not keep of a run is not asked for its events
abbrev pub run_kept : List ℕ → ℕ → ℕ → Run
run_kept w q from =
    record { number = 0; start = from; size = whole_of w q; marker = marker_of w q; before = no_run.before; after = no_run.after; container = none }

-- the slots keep these runs
pub record Slotted (w : List ℕ) (runs : ℕ) (rs : List Run) : Type 0 where
  pub as_many : length rs ≡ runs
  pub size : (q : ℕ) → q < runs → whole_of w q ≡ (get_or rs q no_run).size
  pub marker : (q : ℕ) → q < runs → marker_of w q ≡ (get_or rs q no_run).marker

-- what stands for one event, where r is the run q: "Other events stay"
unfoldable pub instead_of : Event → List Group → ℕ → Run → List Event
instead_of e gs q r = choose (enters_run e) (run_events gs q r) (choose (eqb e.name 1) [] (e ∷ []))

-- the number of the next run, after an event before which it is q
unfoldable pub next_run : Event → ℕ → ℕ
next_run e q = choose (enters_run e) (q + 1) q

-- the runs of a record
abbrev pub runs_in : Form → List ℕ → ℕ → ℕ → List Run
runs_in f s d e = runs_of (document_in f s d) (events_in f s d e)

-- what comes out of a record with these groups
abbrev pub written_of : Form → List ℕ → ℕ → ℕ → List ℕ → ℕ → List Event
written_of f s d e w n = replaced (events_in f s d e) (runs_in f s d e) (groups_in w n) 0
