-- Demand 3, proved: the statements of specs/Matcher.antt, from the promises of the functions and the theorems on groups.
-- Assumes nothing.
use Prim.Native.Nat.{ℕ, ◌<◌, ◌≤◌}
use native.Mathlib.Omega.{arith}
use mathlib.Core.Path.{◌≡◌, refl, sym, ap, ◌∙◌}
use mathlib.Core.List.{List}
use mathlib.Core.Option.{Option, none, some}
use lib.ListN.{length}
use Rattle.std.specs.Prelude.{Result, Err}
use Rattle.record.specs.Handed.{form_of, options_of}
use Rattle.record.specs.Partners.{section_in}
use Rattle.record.specs.Written.{by_check, row_7}
use Rattle.record.specs.Outcome.{gives, onto}
use Rattle.record.specs.declared.event.Event.{Event}
use Rattle.record.specs.declared.form.Handed.{Handed}
use Rattle.runs.specs.Runs.{offender}
use Rattle.runs.specs.Rule.{Rule, Profile}
use Rattle.runs.specs.Plain.{Standing, plain}
use Rattle.runs.specs.Pieces.{outcome}
use Rattle.runs.specs.Output.{output}
use Rattle.groups.specs.Matches.{begin}
use Rattle.groups.proofs.Theorems as groups
use Rattle.output.proofs.MarkerBytes as pieces
use Rattle.output.proofs.ResultSize.{size_of_output, many_groups_too_long}
use Rattle.attention.specs.Attention.{unless_offended, attention}
use Rattle.attention.proofs.Beginning.{begins}
use Rattle.ledgerlark.specs.declared.resolve.LarkResolved.{LarkResolved}
use Rattle.matcher.specs.Closer.{closer_from}
use Rattle.matcher.specs.Along.{too_many}
use Rattle.matcher.specs.Promise.{Answered}
use Rattle.matcher.specs.declared.closers.Groups.{Groups}
use Rattle.matcher.specs.declared.closers.TooMany.{TooMany}
use Rattle.matcher.proofs.Chained.{onward_went}
use Rattle.claims.specs.Records.{doc_of, all_events}
use Rattle.claims.specs.Matcher.{AcceptedAsThePlainRule, AcceptedNests, GroupsAreThePlainRule's, AcceptedBegins, AcceptedGroups, AcceptedHasRoom, StandsByThePlainRule, ChainsAfterEach, StandsAfterEach, PromisedAtTheExit, AnswersThroughThese, ChainsFindTheSame}
use Rattle.claims.proofs.ChainsAsLists.{chains_list}
use Rattle.claims.proofs.Positions.{stands_both, up_to_plain, leads, each}
use Rattle.claims.proofs.OnTheWay.{on_the_way}
use Rattle.claims.proofs.Records.{at_most, no_row_sound, attention_claim}

the_output : (o : Option ℕ) (all es : List Event) → unless_offended o all ≡ gives es → es ≡ all
the_output none all es q = cc
the_output (some j) all es q = let z : ◌≡◌ {A = ℕ} 0 1 = cc in absurd (omega arith)

none_offended : (o : Option ℕ) (all es : List Event) → unless_offended o all ≡ gives es → o ≡ none
none_offended none all es q = refl
none_offended (some j) all es q = let z : ◌≡◌ {A = ℕ} 0 1 = cc in absurd (omega arith)

-- what attention makes of a record is the output
pub made_output : (profile : Profile) (h : Handed) (s : List ℕ) (es : List Event) → attention profile (options_of h s) (doc_of h s) (all_events h s) ≡ gives es → es ≡ output profile (options_of h s) (doc_of h s) (all_events h s)
unfolding attention
made_output profile h s es q = the_output (offender (doc_of h s) (options_of h s) (all_events h s)) (output profile (options_of h s) (doc_of h s) (all_events h s)) es q

pub accepted_as_the_plain_rule : AcceptedAsThePlainRule
unfolding attention
accepted_as_the_plain_rule profile h s out work r out' work' p z =
    let a = (attention_claim profile h s).accepts out work r out' work' p z in
    let none = ((attention_claim profile h s).exactly out work r out' work' p).none_holds z in
    let good = no_row_sound h s (length work) (λ n q x. none n q (by_check x)) in
    let same = made_output profile h s a.events a.made_so in
    record {
      record_good =
          record {
            events = rw good.0 good.1;
            shapes = none_offended (offender (doc_of h s) (options_of h s) (all_events h s)) (output profile (options_of h s) (doc_of h s) (all_events h s)) a.events a.made_so;
          };
      groups = ap (λ (y : LarkResolved). y.groups) a.answer;
      tried = ap (λ (y : LarkResolved). y.tried) a.answer;
      events = ap (λ (y : LarkResolved). y.events) a.answer ∙ ap (λ (l : List Event). length l) same;
      written = a.written ∙ ap (λ (l : List Event). onto (section_in (form_of h) l) out) same;
    }

pub accepted_nests : AcceptedNests
accepted_nests profile h s out work r out' work' a z =
    let good = (accepted_as_the_plain_rule profile h s out work r out' work' a z).record_good in
    record {
      groups_never_cross = groups.groups_never_cross profile (options_of h s) (doc_of h s) (all_events h s) 64 (length (doc_of h s)) good.events;
      containers_never_crossed = groups.containers_never_crossed profile (options_of h s) (doc_of h s) (all_events h s) 64 (length (doc_of h s)) good.events;
      container_is_one = groups.container_is_one profile (options_of h s) (doc_of h s) (all_events h s);
      each_held = groups.each_held profile (options_of h s) (doc_of h s) (all_events h s) 64 (length (doc_of h s)) good.events;
      each_marker_once = pieces.each_marker_once profile (options_of h s) (doc_of h s) (all_events h s) 64 good;
      only_markers = pieces.only_markers profile (options_of h s) (doc_of h s) (all_events h s);
    }

pub groups_are_the_plain_rule's : GroupsAreThePlainRule's
groups_are_the_plain_rule's rule w n made tried w' a = (a.along, λ rs f. let x = a.of rs f in (x.made, x.count, x.grouped))

pub accepted_begins : AcceptedBegins
accepted_begins profile h s n w w₁ w₂ room l c = let same = l.same_length in begins (omega arith) (l.runs n refl) c

pub accepted_groups : AcceptedGroups
unfolding outcome
accepted_groups profile h s n made tried w w' f a = (groups_are_the_plain_rule's (profile.rule (options_of h s)) w n made tried w' a).1 (begin profile (options_of h s) (doc_of h s) (all_events h s)) f

-- more than 1,000 groups make a result that is too long
over : (rule : Rule) (rs : List Standing) (n : ℕ) (found : Result Groups TooMany) (w : List ℕ) → found ≡ Err too_many → Answered rule rs n found w →
    1000 < length (plain rule rs).groups
over rule rs n found w q a = rw q at a

pub accepted_has_room : AcceptedHasRoom
unfolding outcome
accepted_has_room profile h s out work r out' work' p z n found w w' f a q =
    let many = over (profile.rule (options_of h s)) (begin profile (options_of h s) (doc_of h s) (all_events h s)) n found w' q (a.of (begin profile (options_of h s) (doc_of h s) (all_events h s)) f) in
    let long = many_groups_too_long profile (options_of h s) (doc_of h s) (all_events h s) many in
    let x = (attention_claim profile h s).accepts out work r out' work' p z in
    let none = ((attention_claim profile h s).exactly out work r out' work' p).none_holds z in
    let few : length x.events ≤ 8000 = at_most (length x.events) 8000 (λ h. none 7 0 (row_7 x.events x.made_so h refl refl)) in
    let same : length x.events ≡ length (output profile (options_of h s) (doc_of h s) (all_events h s)) = ap length (made_output profile h s x.events x.made_so) in
    let good = (accepted_as_the_plain_rule profile h s out work r out' work' p z).record_good in
    let size = size_of_output profile (options_of h s) (doc_of h s) (all_events h s) 64 good in
    omega arith

pub stands_by_the_plain_rule : StandsByThePlainRule
stands_by_the_plain_rule rule n w₀ rs₀ w height i made tried f st =
    let b = stands_both f st in
    (rw b.up (sym b.size), rw b.up, rw b.up b.ready.grouped, up_to_plain rule rs₀ i (omega (arith, b.ready.within, f.reads.len)))

pub chains_after_each : ChainsAfterEach
chains_after_each rule n w₀ rs₀ w height i made tried f st =
    let b = stands_both f st in
    rw b.up (chains_list w height b.runs b.groups n i b.ready)

pub stands_after_each : StandsAfterEach
stands_after_each rule n w₀ rs₀ made tried w' f a = each rule n w₀ rs₀ f (a.of rs₀ f).fits

pub promised_at_the_exit : PromisedAtTheExit
promised_at_the_exit rule w height n i made tried next height' made' tried' w' h = (
  h.along,
  λ rs gs r e.
      let x = h.of rs gs r e in
      (x.at, rw x.at (chains_list w' height' (closer_from rule rs i gs tried).runs (closer_from rule rs i gs tried).groups n (closer_from rule rs i gs tried).next x.ready)),
)

pub answers_through_these : AnswersThroughThese
answers_through_these rule n w₀ rs₀ w height i made tried found w' f a st =
    let o = on_the_way f st in
    rw (a.along ∙ o.way) (leads o.turns rule n w₀ rs₀ w height i made tried f st o.enough)

pub chains_find_the_same : ChainsFindTheSame
chains_find_the_same rule n w₀ rs₀ w height i made tried m t f st h =
    let b = stands_both f st in
    rw b.up (onward_went m rule w height b.runs b.groups n i t b.ready h).next
