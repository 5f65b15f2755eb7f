-- The events that come out, and how many. Document 01, section "Attention", "Output for each run" and "Result size". CommonMark 0.31 has no
-- events: a group here is the node that its appendix inserts, from the group's enter to its exit, with its delimiters (Sequence) and its content
-- (Text) told apart.
-- Assumes nothing.
use Rattle.std.specs.Prelude.{ℕ, ◌+◌, ◌-◌, ◌*◌, List, [], ◌∷◌, ◌++◌, length, get_or, eqb}
use Rattle.std.proofs.Math.Option.{none}
use Rattle.record.specs.Choice.{choose}
use Rattle.record.specs.Event.{enter, exit}
use Rattle.record.specs.declared.event.Event.{Event}
use Rattle.characters.specs.Beside.{Edge}
use Rattle.runs.specs.Runs.{Run, enters_run, runs_of}
use Rattle.runs.specs.Rule.{Profile}
use Rattle.runs.specs.Plain.{Group}
use Rattle.runs.specs.Pieces.{Piece, closing_pieces, opening_pieces, left_from, left_to, remains, outcome}

-- "closing pieces .. (exit text, enter sequence, exit sequence, exit group)". A group's Sequence is its name plus 1, its Text its name plus 2.
unfoldable pub closing_events : List Piece → List Event
closing_events [] = []
closing_events (p ∷ ps) =
    exit (p.name + 2) p.from ∷ enter (p.name + 1) p.from ∷ exit (p.name + 1) p.to ∷ exit p.name p.to ∷ closing_events ps

-- "opening pieces .. (enter group, enter sequence, exit sequence, enter text)"
unfoldable pub opening_events : List Piece → List Event
opening_events [] = []
opening_events (p ∷ ps) =
    enter p.name p.from ∷ enter (p.name + 1) p.from ∷ exit (p.name + 1) p.to ∷ enter (p.name + 2) p.to ∷ opening_events ps

-- "the leftover as Data enter and exit if any". Appendix: "we insert a text node with these symbols as its literal content", and "If they become
-- empty as a result, remove them"
unfoldable pub leftover_events : List Group → ℕ → Run → List Event
leftover_events gs q r = choose (remains gs q r) (enter 0 (left_from gs q r) ∷ exit 0 (left_to gs q r) ∷ []) []

-- what stands for the run q
unfoldable pub run_events : List Group → ℕ → Run → List Event
run_events gs q r = closing_events (closing_pieces gs q r) ++ (leftover_events gs q r ++ opening_events (opening_pieces gs q r))

abbrev pub no_run : Run
no_run = record { number = 0; start = 0; size = 0; marker = 0; before = Edge; after = Edge; container = none }

-- "Other events stay": some events with each run's enter replaced by what stands for it, and its exit gone; the first run has number q
unfoldable pub replaced : List Event → List Run → List Group → ℕ → List Event
replaced [] rs gs q = []
replaced (e ∷ es) rs gs q =
    let entered = run_events gs q (get_or rs q no_run) ++ replaced es rs gs (q + 1) in
    let on = replaced es rs gs q in
    choose (enters_run e) entered (choose (eqb e.name 1) on (e ∷ on))

-- what attention makes of a record's events
unfoldable pub output : Profile → ℕ → List ℕ → List Event → List Event
output profile options doc es = replaced es (runs_of doc es) (outcome profile options doc es).groups 0

-- the emptied runs among some, the first of which has number q
unfoldable pub emptied : List Group → ℕ → List Run → ℕ
emptied gs q [] = 0
emptied gs q (r ∷ rs) = choose (remains gs q r) (emptied gs (q + 1) rs) (1 + emptied gs (q + 1) rs)

-- "Result size: E − 2 × emptied runs + 8 × groups."
unfoldable pub result_size : Profile → ℕ → List ℕ → List Event → ℕ
result_size profile options doc es =
    let gs = (outcome profile options doc es).groups in
    length es - 2 * emptied gs 0 (runs_of doc es) + 8 * length gs
