-- Document 01's attention cases, computed. A text stands for the record that a tokenizer makes of it: each longest stretch of one marker is a
-- run, each longest stretch of other bytes is Data.
-- Assumes nothing.
use Rattle.std.specs.Prelude.{ℕ, ◌+◌, ◌≡◌, refl, true, false, ◌||◌, List, [], ◌∷◌, map, eqb, length}
use Prim.Native.String.{String}
use Rattle.std.proofs.Math.Option.{Option, none, some}
use Rattle.record.specs.Choice.{choose, and}
use Rattle.record.specs.Options.{option_on}
use Rattle.record.specs.Event.{enter, exit, flat, section_bytes}
use Rattle.record.specs.Stack.{after}
use Rattle.record.specs.declared.event.Event.{Event}
use Rattle.characters.specs.Ranges.{member}
use Rattle.characters.specs.Tables.{punctuation_ranges, space_ranges}
use Rattle.characters.specs.Utf8.{utf8, well_formed_rows, fits, fits_one, well_formed, value_of, character_of}
use Rattle.characters.specs.Beside.{character_from, character_up_to, neighbour_before, neighbour_after}
use Rattle.classes.specs.Class.{class_of, standard_class, ascii_class, wide_class, amended, whitespace, punctuation}
use Rattle.runs.specs.Texts.{bytes, wide_bytes}
use Rattle.runs.specs.Runs.{Run, byte_at, standard_before, enters_run, runs_from, runs_of, is_marker, allowed, left_at_once, all_are, run_between, shaped, offender_from, offender}
use Rattle.runs.specs.Flanking.{class_beside, left_flanking, right_flanking, beside_marker, flanks_left, flanks_right, can_open, can_close}
use Rattle.runs.specs.Rule.{Profile, threes, tildes, rule_over, crate_rule, standard_rule, crate, standard}
use Rattle.runs.specs.Plain.{Group, group, opener, closer, same_container, candidate, takes, back, look, forth, amount, alter, matched, rounds, total, plain}
use Rattle.runs.specs.Pieces.{standing, outcome, group_name, closings, openings, closed, opened, left_from, remains}
use Rattle.runs.specs.Output.{closing_events, opening_events, leftover_events, run_events, replaced, output, emptied, result_size}

-- what a byte belongs to: a run of its own marker, or Data, which is 0
unfoldable pub stretch_of : ℕ → ℕ
stretch_of b = choose (is_marker b) b 0

-- the name of a stretch
unfoldable pub name_of : ℕ → ℕ
name_of stretch = choose (eqb stretch 0) 0 1

-- the events of what is left of a text from a place on, where a stretch is open
unfoldable pub split_from : List ℕ → ℕ → ℕ → List Event
split_from [] at stretch = exit (name_of stretch) at ∷ []
split_from (b ∷ bs) at stretch =
    let on = split_from bs (at + 1) stretch in
    let new = split_from bs (at + 1) (stretch_of b) in
    choose (eqb (stretch_of b) stretch) on (exit (name_of stretch) at ∷ enter (name_of (stretch_of b)) at ∷ new)

unfoldable pub split : List ℕ → List Event
split [] = []
split (b ∷ bs) = enter (name_of (stretch_of b)) 0 ∷ split_from bs 1 (stretch_of b)

-- of some events those that enter and leave groups: emphasis, strong and strikethrough
unfoldable pub group_events : List Event → List Event
group_events [] = []
group_events (e ∷ es) =
    let rest = group_events es in
    choose (eqb e.name 2 || (eqb e.name 5 || eqb e.name 8)) (e ∷ rest) rest

-- where the leftovers of some runs begin, the first of which has number q
unfoldable pub leftovers : List Group → ℕ → List Run → List ℕ
leftovers gs q [] = []
leftovers gs q (r ∷ rs) =
    let rest = leftovers gs (q + 1) rs in
    choose (remains gs q r) (left_from gs q r ∷ rest) rest

-- what a case shows: the groups as they are entered and left, where the leftovers begin, and the candidates tried
pub record Shown : Type 0 where
  pub groups : List Event
  pub leftovers : List ℕ
  pub tried : ℕ

abbrev pub shows : List Event → List ℕ → ℕ → Shown
shows gs ls t = record { groups = gs; leftovers = ls; tried = t }

-- what a text comes to, by its bytes, and between quotes
abbrev pub shown_of : Profile → ℕ → List ℕ → Shown
shown_of profile options doc =
    let es = split doc in
    let whole = outcome profile options doc es in
    shows (group_events (output profile options doc es)) (leftovers whole.groups 0 (runs_of doc es)) whole.tried

unfoldable pub shown : Profile → ℕ → String → Shown
shown profile options s = shown_of profile options (bytes s)

-- a case: the text and what it shows. Document 01's twelve stand in crates/claims, where all definitions are seen alike
pub record Row : Type 0 where
  pub text : String
  pub expected : Shown

abbrev pub row : String → List Event → List ℕ → ℕ → Row
row s gs ls t = record { text = s; expected = shows gs ls t }

-- and the profile and options under which it does
pub record Trial : Type 0 where
  pub profile : Profile
  pub options : ℕ
  pub case : Row

abbrev pub trial : Profile → ℕ → Row → Trial
trial profile options r = record { profile = profile; options = options; case = r }

-- "Departures already found". `a*_b_*`: crate two groups, standard one. `****a** b*c`: crate one group, standard two. `~a~` only with 4.
-- Then one where `~` has no clause on neighbouring markers, one whose closer is tried again, and one of 22 runs.
unfoldable pub trials : List Trial
trials =
    trial crate 59 (row "a*_b_*" (enter 2 1 ∷ enter 2 2 ∷ exit 2 5 ∷ exit 2 6 ∷ []) [] 2)
    ∷ trial (record { amended = false; rule = crate_rule }) 59 (row "a*_b_*" (enter 2 2 ∷ exit 2 5 ∷ []) (1 ∷ 5 ∷ []) 1)
    ∷ trial standard 59 (row "a*_b_*" (enter 2 2 ∷ exit 2 5 ∷ []) (1 ∷ 5 ∷ []) 1)
    ∷ trial crate 59 (row "****a** b*c" (enter 5 2 ∷ exit 5 7 ∷ []) (0 ∷ 9 ∷ []) 2)
    ∷ trial (record { amended = true; rule = standard_rule }) 59 (row "****a** b*c" (enter 2 1 ∷ enter 5 2 ∷ exit 5 7 ∷ exit 2 10 ∷ []) (0 ∷ []) 2)
    ∷ trial standard 59 (row "****a** b*c" (enter 2 1 ∷ enter 5 2 ∷ exit 5 7 ∷ exit 2 10 ∷ []) (0 ∷ []) 2)
    ∷ trial crate 59 (row "~a~" [] (0 ∷ 2 ∷ []) 1)
    ∷ trial crate 63 (row "~a~" (enter 8 0 ∷ exit 8 3 ∷ []) [] 1)
    ∷ trial crate 59 (row "a~~*b*~~" (enter 2 3 ∷ exit 2 6 ∷ []) (1 ∷ 6 ∷ []) 1)
    ∷ trial crate 59 (row "***a***" (enter 2 0 ∷ enter 5 1 ∷ exit 5 6 ∷ exit 2 7 ∷ []) [] 2)
    ∷ trial crate 59 (row "*a **b _c* d__ *e ~~f _g* h~~ i* _j **k__ l*m** _n* **o__ p*q**" (enter 2 0 ∷ enter 2 3 ∷ enter 2 4 ∷ exit 2 10 ∷ enter 2 15 ∷ exit 2 25 ∷ exit 2 32 ∷ enter 2 33 ∷ exit 2 40 ∷ exit 2 44 ∷ enter 2 48 ∷ exit 2 56 ∷ []) (7 ∷ 12 ∷ 18 ∷ 22 ∷ 27 ∷ 36 ∷ 40 ∷ 45 ∷ 50 ∷ 52 ∷ 56 ∷ 59 ∷ 61 ∷ []) 7)
    ∷ []

pub departures : map (λ (t : Trial). shown t.profile t.options t.case.text) trials ≡ map (λ (t : Trial). t.case.expected) trials
unfolding trials shown bytes split split_from stretch_of name_of group_events leftovers choose and after class_of standard_class ascii_class amended whitespace punctuation option_on byte_at neighbour_before neighbour_after character_from character_up_to character_of well_formed well_formed_rows fits_one fits value_of enters_run runs_from runs_of is_marker class_beside left_flanking right_flanking beside_marker flanks_left flanks_right can_open can_close threes tildes rule_over opener closer same_container candidate takes back look forth amount alter matched rounds total plain standing outcome group_name closings openings closed opened remains closing_events opening_events leftover_events run_events replaced output
departures = refl

-- quotation marks, dashes and spaces past ASCII: « and —, which are punctuation, stand before a `_` that opens; a `*` in a word does not open against «, nor one
-- before a no-break space, which is whitespace; 「 and 」 stand round a group; a document's beginning is whitespace, whatever its end; a sign of four bytes is
-- punctuation, a letter with an accent other; `~~` goes by the same classes as `*`
unfoldable pub wide_trials : List Trial
wide_trials =
    trial crate 59 (row "«_a_»" (enter 2 2 ∷ exit 2 5 ∷ []) [] 1)
    ∷ trial crate 59 (row "—_a_—" (enter 2 3 ∷ exit 2 6 ∷ []) [] 1)
    ∷ trial crate 59 (row "a*«b»*c" [] (1 ∷ 7 ∷ []) 0)
    ∷ trial crate 59 (row "*\u{a0}a*" [] (0 ∷ 4 ∷ []) 0)
    ∷ trial crate 59 (row "「_a_」" (enter 2 3 ∷ exit 2 6 ∷ []) [] 1)
    ∷ trial crate 59 (row "_a_»" (enter 2 0 ∷ exit 2 3 ∷ []) [] 1)
    ∷ trial crate 59 (row "🤔_a_" (enter 2 4 ∷ exit 2 7 ∷ []) [] 1)
    ∷ trial crate 59 (row "ê_a_" [] (2 ∷ 4 ∷ []) 0)
    ∷ trial crate 59 (row "~~\u{a0}a~~" [] (0 ∷ 5 ∷ []) 0)
    ∷ trial crate 59 (row "~~\u{c}a~~" [] (0 ∷ 4 ∷ []) 0)
    ∷ []

pub wide : map (λ (t : Trial). shown_of t.profile t.options (wide_bytes t.case.text)) wide_trials ≡ map (λ (t : Trial). t.case.expected) wide_trials
unfolding wide_trials wide_bytes utf8 split split_from stretch_of name_of group_events leftovers choose and after class_of standard_class ascii_class wide_class member space_ranges punctuation_ranges amended whitespace punctuation option_on byte_at neighbour_before neighbour_after character_from character_up_to character_of well_formed well_formed_rows fits_one fits value_of enters_run runs_from runs_of is_marker class_beside left_flanking right_flanking beside_marker flanks_left flanks_right can_open can_close threes tildes rule_over opener closer same_container candidate takes back look forth amount alter matched rounds total plain standing outcome group_name closings openings closed opened remains closing_events opening_events leftover_events run_events replaced output
wide = refl

-- by bytes: `_a_` behind an emoji, behind U+FFFD and behind `C2 C2 A0`, a no-break space, is a group; behind or before a cut form it is none, as in a word
pub beside_bytes : map (λ (doc : List ℕ). (shown_of crate 59 doc).groups)
    ((240 ∷ 159 ∷ 152 ∷ 128 ∷ 95 ∷ 97 ∷ 95 ∷ [])
    ∷ (239 ∷ 191 ∷ 189 ∷ 95 ∷ 97 ∷ 95 ∷ [])
    ∷ (194 ∷ 194 ∷ 160 ∷ 95 ∷ 97 ∷ 95 ∷ [])
    ∷ (194 ∷ 95 ∷ 97 ∷ 95 ∷ [])
    ∷ (95 ∷ 97 ∷ 95 ∷ 194 ∷ [])
    ∷ [])
    ≡ (enter 2 4 ∷ exit 2 7 ∷ []) ∷ (enter 2 3 ∷ exit 2 6 ∷ []) ∷ (enter 2 3 ∷ exit 2 6 ∷ []) ∷ [] ∷ [] ∷ []
unfolding split split_from stretch_of name_of group_events leftovers choose and after class_of standard_class ascii_class wide_class member space_ranges punctuation_ranges amended whitespace punctuation option_on byte_at neighbour_before neighbour_after character_from character_up_to character_of well_formed well_formed_rows fits_one fits value_of enters_run runs_from runs_of is_marker class_beside left_flanking right_flanking beside_marker flanks_left flanks_right can_open can_close threes tildes rule_over opener closer same_container candidate takes back look forth amount alter matched rounds total plain standing outcome group_name closings openings closed opened remains closing_events opening_events leftover_events run_events replaced output
beside_bytes = refl

-- and the events that come out are as many as the formula says
pub sizes : map (λ (t : Trial). result_size t.profile t.options (bytes t.case.text) (split (bytes t.case.text))) trials
    ≡ map (λ (t : Trial). length (output t.profile t.options (bytes t.case.text) (split (bytes t.case.text)))) trials
unfolding trials emptied result_size bytes split split_from stretch_of name_of group_events leftovers choose and after class_of standard_class ascii_class amended whitespace punctuation option_on byte_at neighbour_before neighbour_after character_from character_up_to character_of well_formed well_formed_rows fits_one fits value_of enters_run runs_from runs_of is_marker class_beside left_flanking right_flanking beside_marker flanks_left flanks_right can_open can_close threes tildes rule_over opener closer same_container candidate takes back look forth amount alter matched rounds total plain standing outcome group_name closings openings closed opened remains closing_events opening_events leftover_events run_events replaced output
sizes = refl

-- "Whole case (+ enter, - exit): `*a*` with events +1@0, -1@1, +0@1, -0@2, +1@2, -1@3 gives 10 events", byte by byte: those events, and the
-- section that is written
pub whole_events : split (bytes "*a*") ≡ enter 1 0 ∷ exit 1 1 ∷ enter 0 1 ∷ exit 0 2 ∷ enter 1 2 ∷ exit 1 3 ∷ []
unfolding bytes split split_from stretch_of name_of choose is_marker
whole_events = refl

pub whole_section : section_bytes (output crate 59 (bytes "*a*") (split (bytes "*a*"))) ≡
    10 ∷ 0 ∷ 0 ∷ 0
    ∷ 0 ∷ 2 ∷ 0 ∷ 0 ∷ 0 ∷ 0 ∷ 0 ∷ 0
    ∷ 0 ∷ 3 ∷ 0 ∷ 0 ∷ 0 ∷ 0 ∷ 0 ∷ 0
    ∷ 1 ∷ 3 ∷ 0 ∷ 0 ∷ 1 ∷ 0 ∷ 0 ∷ 0
    ∷ 0 ∷ 4 ∷ 0 ∷ 0 ∷ 1 ∷ 0 ∷ 0 ∷ 0
    ∷ 0 ∷ 0 ∷ 0 ∷ 0 ∷ 1 ∷ 0 ∷ 0 ∷ 0
    ∷ 1 ∷ 0 ∷ 0 ∷ 0 ∷ 2 ∷ 0 ∷ 0 ∷ 0
    ∷ 1 ∷ 4 ∷ 0 ∷ 0 ∷ 2 ∷ 0 ∷ 0 ∷ 0
    ∷ 0 ∷ 3 ∷ 0 ∷ 0 ∷ 2 ∷ 0 ∷ 0 ∷ 0
    ∷ 1 ∷ 3 ∷ 0 ∷ 0 ∷ 3 ∷ 0 ∷ 0 ∷ 0
    ∷ 1 ∷ 2 ∷ 0 ∷ 0 ∷ 3 ∷ 0 ∷ 0 ∷ 0
    ∷ []
unfolding flat section_bytes bytes split split_from stretch_of name_of choose and after class_of standard_class ascii_class amended whitespace punctuation option_on byte_at neighbour_before neighbour_after character_from character_up_to character_of well_formed well_formed_rows fits_one fits value_of enters_run runs_from runs_of is_marker class_beside left_flanking right_flanking beside_marker flanks_left flanks_right can_open can_close threes tildes rule_over opener closer same_container candidate takes back look forth amount alter matched rounds total plain standing outcome group_name closings openings closed opened remains closing_events opening_events leftover_events run_events replaced output
whole_section = refl

-- a record and the event that breaks the shape rule, if one does
pub record Shape : Type 0 where
  pub text : String
  pub options : ℕ
  pub events : List Event
  pub offends : Option ℕ

abbrev pub shape : String → ℕ → List Event → Option ℕ → Shape
shape s options es o = record { text = s; options = options; events = es; offends = o }

-- "name 1 is entered, then at once left, at a later place; all bytes between are one marker ..; the byte after is not that marker (the byte
-- before may be); its option is on (1 for `*` and `_`, 2 for `~`)": each part broken, and the earliest named
unfoldable pub shapes : List Shape
shapes =
    shape "*" 1 (enter 1 0 ∷ exit 1 1 ∷ []) none
    ∷ shape "**" 1 (enter 1 1 ∷ exit 1 2 ∷ []) none
    ∷ shape "**" 1 (enter 1 0 ∷ exit 1 1 ∷ []) (some 0)
    ∷ shape "*" 1 (enter 1 0 ∷ enter 0 0 ∷ exit 0 0 ∷ exit 1 1 ∷ []) (some 0)
    ∷ shape "*" 1 (enter 1 0 ∷ enter 1 0 ∷ exit 1 1 ∷ exit 1 1 ∷ []) (some 0)
    ∷ shape "*" 1 (enter 1 1 ∷ exit 1 1 ∷ []) (some 0)
    ∷ shape "*_" 1 (enter 1 0 ∷ exit 1 2 ∷ []) (some 0)
    ∷ shape "*a*" 1 (enter 1 0 ∷ exit 1 1 ∷ enter 24 1 ∷ enter 1 1 ∷ exit 1 2 ∷ exit 24 2 ∷ []) (some 3)
    ∷ shape "*" 2 (enter 1 0 ∷ exit 1 1 ∷ []) (some 0)
    ∷ shape "~" 5 (enter 1 0 ∷ exit 1 1 ∷ []) (some 0)
    ∷ shape "~" 2 (enter 1 0 ∷ exit 1 1 ∷ []) none
    ∷ []

pub offenders : map (λ (s : Shape). offender (bytes s.text) s.options s.events) shapes ≡ map (λ (s : Shape). s.offends) shapes
unfolding shapes bytes choose and option_on byte_at enters_run is_marker allowed left_at_once all_are run_between shaped offender_from offender
offenders = refl

-- the containers of the runs of `*[a*b]*`, where [ and ] stand for the enter, event 2, and the exit of a container
pub contained : map (λ (r : Run). r.container)
    (runs_of (bytes "*a*b*") (enter 1 0 ∷ exit 1 1 ∷ enter 24 1 ∷ enter 1 2 ∷ exit 1 3 ∷ exit 24 4 ∷ enter 1 4 ∷ exit 1 5 ∷ [])) ≡ none ∷ some 2 ∷ none ∷ []
unfolding bytes choose and after enters_run byte_at runs_from runs_of
contained = refl

-- a run of a line whose content begins at a place, with the neighbour before it that the standard has
abbrev pub beginning_at : ℕ → List ℕ → Run → Run
beginning_at from doc r =
    record {
      number = r.number;
      start = r.start;
      size = r.size;
      marker = r.marker;
      before = standard_before from doc r.start;
      after = r.after;
      container = r.container;
    }

-- the groups of a text whose content begins at a place, and those of a text as document 01 has its neighbours
unfoldable pub groups_at : ℕ → String → List Group
groups_at from s = (plain (crate_rule 59) (map (standing crate 59) (map (beginning_at from (bytes s)) (runs_of (bytes s) (split (bytes s)))))).groups

unfoldable pub groups_here : String → List Group
groups_here s = (outcome crate 59 (bytes s) (split (bytes s))).groups

-- D19: of `>*.**`, whose content begins at 1, the standard makes one group, since nothing stands before the first run; here `>` does, and there
-- is none. Of `*.**`, which no mark stands before, and of the line `*.**` behind a line feed, both make one.
on_quotes : (groups_at 1 ">*.**" ≡ group 0 1 1 ∷ [])
    × (groups_here ">*.**" ≡ [])
    × (groups_at 0 "*.**" ≡ group 0 1 1 ∷ [])
    × (groups_here "*.**" ≡ group 0 1 1 ∷ [])
    × (groups_at 1 "\n*.**" ≡ group 0 1 1 ∷ [])
    × (groups_here "\n*.**" ≡ group 0 1 1 ∷ [])
unfolding groups_at groups_here standard_before bytes split split_from stretch_of name_of choose and after class_of standard_class ascii_class amended whitespace punctuation option_on byte_at neighbour_before neighbour_after character_from character_up_to character_of well_formed well_formed_rows fits_one fits value_of enters_run runs_from runs_of is_marker class_beside left_flanking right_flanking beside_marker flanks_left flanks_right can_open can_close threes tildes rule_over opener closer same_container candidate takes back look forth amount alter matched rounds total plain standing outcome
on_quotes = (refl, refl, refl, refl, refl, refl)
