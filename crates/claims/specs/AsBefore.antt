-- "On ASCII documents every call answers as it did when neighbours were bytes." Of the calls only lark_resolve_attention looks at neighbours. What stands here of
-- that time, under names that say so, stands for this alone: the class of a byte, and all that is made of it up to what a run can do. From there on, as the rules
-- on classes before, nothing has moved: runs, matches and what is written are those of today. proofs/AsBefore.antt proves the statement.
-- Assumes nothing.
use Rattle.std.specs.Prelude.{ℕ, zero, suc, ◌+◌, ◌-◌, ◌<◌, ◌≡◌, refl, Bool, ◌&&◌, ◌||◌, List, [], ◌∷◌, eqb, length, get_or, Err}
use Rattle.std.proofs.Math.Option.{Option, none, some}
use Rattle.record.specs.Choice.{choose, and}
use Rattle.record.specs.Options.{option_on}
use Rattle.record.specs.Check.{admitted}
use Rattle.record.specs.Handed.{form_of, options_of}
use Rattle.record.specs.Event.{document_in, events_in, enter, exit}
use Rattle.record.specs.Outcome.{Resolution, Outcome, accepted, refused, outcome}
use Rattle.record.specs.Promise.{Writes}
use Rattle.record.specs.Stack.{after}
use Rattle.record.specs.declared.event.Event.{Event}
use Rattle.record.specs.declared.form.Handed.{Handed}
use Rattle.characters.specs.Ranges.{member}
use Rattle.characters.specs.Tables.{punctuation_ranges, space_ranges}
use Rattle.characters.specs.Utf8.{well_formed_rows, fits, fits_one, well_formed, value_of, character_of}
use Rattle.characters.specs.Beside.{character_from, character_up_to, neighbour_before, neighbour_after}
use Rattle.classes.specs.Class.{class_of, standard_class, ascii_class, wide_class, amended, whitespace, punctuation, class_by_bytes}
use Rattle.classes.specs.declared.Class.{Class}
use Rattle.classes.specs.declared.Class.TheVariants.{Whitespace}
use Rattle.runs.specs.Flanking.{class_beside, left_flanking, right_flanking, beside_marker, flanks_left, flanks_right, star_opens, line_opens, star_closes, line_closes, can_open, can_close}
use Rattle.runs.specs.Paragraph.{marker_byte}
use Rattle.runs.specs.Runs.{byte_at, innermost_of, first_place, enters_run, runs_from, runs_of, offender}
use Rattle.runs.specs.Rule.{Profile, threes, tildes, rule_over, crate}
use Rattle.runs.specs.Plain.{Standing, Outcome as Matching, group, opener, closer, same_container, candidate, takes, back, look, forth, amount, alter, matched, rounds, total, plain}
use Rattle.runs.specs.Pieces.{standing, outcome as matching}
use Rattle.runs.specs.Output.{replaced}
use Rattle.attention.specs.Attention.{unless_offended}
use Rattle.attention.specs.Promise.{Answer, resolved}
use Rattle.ledgerlark.specs.Answers.{lark_attention, AttentionBy}
use Rattle.ledgerlark.specs.declared.resolve.LarkResolved.{LarkResolved}
use Rattle.claims.specs.Records.{doc_of, all_events}

-- the byte before a place, if there is one
unfoldable pub byte_before : List ℕ → ℕ → Option ℕ
byte_before doc zero = none
byte_before doc (suc at) = byte_at doc at

-- the class of a byte, or of an edge
abbrev pub class_beside_before : Option ℕ → Class
class_beside_before none = Whitespace
class_beside_before (some b) = class_by_bytes b

-- left- and right-flanking, and what a run of this marker could do between these two bytes
unfoldable pub flanks_left_before : Bool → Bool → ℕ → Option ℕ → Option ℕ → Bool
flanks_left_before amended strike marker before after =
    left_flanking (class_beside_before before) (class_beside_before after) || (amended && marker_byte strike marker after)

unfoldable pub flanks_right_before : Bool → Bool → ℕ → Option ℕ → Option ℕ → Bool
flanks_right_before amended strike marker before after =
    right_flanking (class_beside_before before) (class_beside_before after) || (amended && marker_byte strike marker before)

unfoldable pub could_open : Bool → Bool → ℕ → Option ℕ → Option ℕ → Bool
could_open amended strike marker before after =
    let left = flanks_left_before amended strike marker before after in
    let right = flanks_right_before amended strike marker before after in
    choose (eqb marker 95) (line_opens left right (class_beside_before before)) (star_opens left right)

unfoldable pub could_close : Bool → Bool → ℕ → Option ℕ → Option ℕ → Bool
could_close amended strike marker before after =
    let left = flanks_left_before amended strike marker before after in
    let right = flanks_right_before amended strike marker before after in
    choose (eqb marker 95) (line_closes left right (class_beside_before after)) (star_closes left right)

-- a run before the first match, as its enter event, those behind it and the enters that are open there make it, and the runs of some events
abbrev pub standing_before : Profile → ℕ → List ℕ → Event → List Event → List ℕ → Standing
standing_before profile options doc e es held =
    let marker = get_or doc e.place 0 in
    let before = byte_before doc e.place in
    let after = byte_at doc (first_place es) in
    record {
      marker = marker;
      container = innermost_of held;
      whole = first_place es - e.place;
      left = first_place es - e.place;
      opens = could_open profile.amended (option_on options 2) marker before after;
      closes = could_close profile.amended (option_on options 2) marker before after;
    }

unfoldable pub standings_before : Profile → ℕ → List ℕ → List Event → ℕ → List ℕ → List Standing
standings_before profile options doc [] i held = []
standings_before profile options doc (e ∷ es) i held =
    let rest = standings_before profile options doc es (i + 1) (after e i held) in
    choose (enters_run e) (standing_before profile options doc e es held ∷ rest) rest

-- what was made of a record: the groups and candidates, the events, for which a run gives its places and its marker, and what a call came to and answered
unfoldable pub matching_before : Profile → ℕ → List ℕ → List Event → Matching
matching_before profile options doc es = plain (profile.rule options) (standings_before profile options doc es 0 [])

unfoldable pub attention_before : Profile → ℕ → List ℕ → List Event → Resolution
attention_before profile options doc es =
    unless_offended (offender doc options es) (replaced es (runs_of doc es) (matching_before profile options doc es).groups 0)

abbrev pub comes_before : Profile → Handed → List ℕ → ℕ → ℕ → Outcome
comes_before profile h s outs works =
    outcome (form_of h) (admitted h s works) (λ d e. attention_before profile (options_of h s) (document_in (form_of h) s d) (events_in (form_of h) s d e)) outs

abbrev pub answer_before : Matching → Outcome → Answer
answer_before made (accepted rs) = resolved (length rs) (length made.groups) made.tried
answer_before made (refused r) = Err r

-- the promise of lark_resolve_attention as it was
abbrev pub AttentionBefore : Profile → Handed → List ℕ → List ℕ → List ℕ → LarkResolved → List ℕ → List ℕ → Type 0
AttentionBefore profile h s out work r out' work' =
    Writes (form_of h) (comes_before profile h s) (λ (o : Outcome). lark_attention (answer_before (matching_before profile (options_of h s) (doc_of h s) (all_events h s)) o)) out work r out' work'

-- every byte of a document is an ASCII character
abbrev pub Ascii : List ℕ → Type 0
Ascii doc = (at : ℕ) → at < length doc → get_or doc at 0 < 128

-- on such a document the promise is what it was: the answer, the output and the work memory
abbrev pub AnswersAsBefore : Type 0
AnswersAsBefore =
    (profile : Profile) (h : Handed) (s : List ℕ) (out work : List ℕ) (r : LarkResolved) (out' work' : List ℕ) → Ascii (doc_of h s) →
    (AttentionBy profile h s out work r out' work' → AttentionBefore profile h s out work r out' work')
    × (AttentionBefore profile h s out work r out' work' → AttentionBy profile h s out work r out' work')

-- what differs, computed: of `_a_` there was no group, since « was other bytes, and there is one now
on_quotation : ((matching_before crate 59 (194 ∷ 171 ∷ 95 ∷ 97 ∷ 95 ∷ 194 ∷ 187 ∷ []) (enter 1 2 ∷ exit 1 3 ∷ enter 1 4 ∷ exit 1 5 ∷ [])).groups ≡ [])
    × ((matching crate 59 (194 ∷ 171 ∷ 95 ∷ 97 ∷ 95 ∷ 194 ∷ 187 ∷ []) (enter 1 2 ∷ exit 1 3 ∷ enter 1 4 ∷ exit 1 5 ∷ [])).groups ≡ group 0 1 1 ∷ [])
unfolding matching_before matching standings_before could_open could_close flanks_left_before flanks_right_before marker_byte class_by_bytes runs_from runs_of byte_before byte_at neighbour_before neighbour_after character_from character_up_to character_of well_formed well_formed_rows fits_one fits value_of choose and after class_of standard_class ascii_class wide_class amended whitespace punctuation member space_ranges punctuation_ranges option_on enters_run class_beside left_flanking right_flanking beside_marker flanks_left flanks_right can_open can_close threes tildes rule_over opener closer same_container candidate takes back look forth amount alter matched rounds total plain standing
on_quotation = (refl, refl)
