-- On ASCII documents every call answers as it did when neighbours were bytes: the statement of specs/AsBefore.antt. Each neighbour is the byte's own character,
-- which has the byte's class, so that each run can do what it could, and all that is made of the runs is the same.
-- Assumes nothing.
use Prim.Native.Nat.{ℕ, zero, suc, ◌+◌}
use mathlib.Core.Path.{◌≡◌, refl, sym, ◌∙◌}
use mathlib.Core.Bool.{Bool, true, false, not, cond}
use mathlib.Core.List.{List, [], ◌∷◌, map}
use mathlib.Core.Option.{Option, none, some}
use native.Mathlib.Omega.{arith}
use lib.Dec.{leb, ltb, eqb}
use lib.ListN.{length, get_or}
use borrow.Author.Tests.{ltb-true, ltb-false, lt-leb, leb-true, leb-false, ne_eqb}
use Rattle.std.specs.Prelude.{Ok, Err}
use Rattle.record.specs.Choice.{choose}
use Rattle.record.specs.Options.{option_on}
use Rattle.record.specs.Check.{admitted, Reading}
use Rattle.record.specs.Handed.{options_of}
use Rattle.record.specs.Outcome.{Outcome, accepted, refused}
use Rattle.record.specs.Stack.{after}
use Rattle.record.specs.declared.event.Event.{Event}
use Rattle.record.specs.declared.form.Handed.{Handed}
use Rattle.record.proofs.Exactly.{exactly}
use Rattle.characters.specs.Beside.{Neighbour, Edge, Character, Malformed, neighbour_before, neighbour_after}
use Rattle.characters.proofs.Neighbours.{ascii_before, ascii_after, edge_before, edge_after}
use Rattle.classes.proofs.Ascii.{ascii_as_by_bytes, high_by_bytes}
use Rattle.runs.specs.Flanking.{class_beside, beside_marker, flanks_left, flanks_right, can_open, can_close}
use Rattle.runs.specs.Paragraph.{marker_byte}
use Rattle.runs.proofs.AsWritten.{never}
use Rattle.runs.specs.Runs.{byte_at, first_place, enters_run, run_of, runs_from, runs_of}
use Rattle.runs.specs.Rule.{Profile}
use Rattle.runs.specs.Pieces.{standing, outcome as matching}
use Rattle.runs.specs.Output.{output}
use Rattle.attention.specs.Attention.{attention}
use Rattle.attention.specs.Promise.{outcome_of, answer_of}
use Rattle.ledgerlark.specs.Answers.{lark_attention}
use Rattle.claims.specs.Records.{doc_of, all_events}
use Rattle.claims.specs.AsBefore.{byte_before, class_beside_before, flanks_left_before, flanks_right_before, could_open, could_close, standing_before, standings_before, matching_before, attention_before, comes_before, answer_before, Ascii, AnswersAsBefore}

-- a byte as a neighbour: one from 128 up was other, and no marker, as what is malformed is
abbrev byte_neighbour : Option ℕ → Neighbour
byte_neighbour none = Edge
byte_neighbour (some b) = cond (leb 128 b) Malformed (Character b)

-- it has the class that the byte had, and is a marker where that was one
class_as_before : (b : Option ℕ) → class_beside (byte_neighbour b) ≡ class_beside_before b
unfolding class_beside
class_as_before none = refl
class_as_before (some b) = go (leb 128 b) refl
  where
    go : (z : Bool) → leb 128 b ≡ z → class_beside (byte_neighbour (some b)) ≡ class_beside_before (some b)
    go true e = rw e (sym (high_by_bytes b (leb-true 128 b e)))
    go false e = rw e (ascii_as_by_bytes b (leb-false 128 b e))

marker_as_before : (strike : Bool) (marker : ℕ) (b : Option ℕ) → beside_marker strike marker (byte_neighbour b) ≡ marker_byte strike marker b
unfolding beside_marker marker_byte
marker_as_before strike marker none = refl
marker_as_before strike marker (some b) = go (leb 128 b) refl
  where
    go : (z : Bool) → leb 128 b ≡ z → beside_marker strike marker (byte_neighbour (some b)) ≡ marker_byte strike marker (some b)
    go true e =
        let h = leb-true 128 b e in
        rw (e, ne_eqb b 42 (λ q. omega arith), ne_eqb b 95 (λ q. omega arith), ne_eqb b 126 (λ q. omega arith)) (sym (never (not (eqb marker 126))))
    go false e = rw e

-- so a run between such neighbours can do what it could between the bytes
module _ (amended strike : Bool) (marker : ℕ) (before after : Option ℕ) where
  opens_as_before : can_open amended strike marker (byte_neighbour before) (byte_neighbour after) ≡ could_open amended strike marker before after
  unfolding can_open could_open flanks_left flanks_right flanks_left_before flanks_right_before
  opens_as_before = rw (class_as_before before, class_as_before after, marker_as_before strike marker before, marker_as_before strike marker after)

  closes_as_before : can_close amended strike marker (byte_neighbour before) (byte_neighbour after) ≡ could_close amended strike marker before after
  unfolding can_close could_close flanks_left flanks_right flanks_left_before flanks_right_before
  closes_as_before = rw (class_as_before before, class_as_before after, marker_as_before strike marker before, marker_as_before strike marker after)

module _ (doc : List ℕ) (a : Ascii doc) where
  after_as_before : (at : ℕ) → neighbour_after doc at ≡ byte_neighbour (byte_at doc at)
  unfolding byte_at choose
  after_as_before at = go (ltb at (length doc)) refl
    where
      go : (z : Bool) → ltb at (length doc) ≡ z → neighbour_after doc at ≡ byte_neighbour (byte_at doc at)
      go true e =
          let h = ltb-true at (length doc) e in
          ascii_after doc at h (a at h) ∙ rw (e, lt-leb 128 (get_or doc at 0) (a at h))
      go false e = edge_after doc at (ltb-false at (length doc) e) ∙ rw e

  before_as_before : (at : ℕ) → neighbour_before doc at ≡ byte_neighbour (byte_before doc at)
  unfolding neighbour_before byte_before byte_at choose
  before_as_before zero = refl
  before_as_before (suc at) = go (ltb at (length doc)) refl
    where
      go : (z : Bool) → ltb at (length doc) ≡ z → neighbour_before doc (suc at) ≡ byte_neighbour (byte_before doc (suc at))
      go true e =
          let h = ltb-true at (length doc) e in
          ascii_before doc at h (a at h) ∙ rw (e, lt-leb 128 (get_or doc at 0) (a at h))
      go false e = edge_before doc at (ltb-false at (length doc) e) ∙ rw e

  module _ (profile : Profile) (options : ℕ) where
    stands_as_before : (e : Event) (es : List Event) (i : ℕ) (held : List ℕ) →
        standing profile options (run_of doc e es i held) ≡ standing_before profile options doc e es held
    unfolding standing
    stands_as_before e es i held =
        let before = byte_before doc e.place in
        let after = byte_at doc (first_place es) in
        rw (
          before_as_before e.place,
          after_as_before (first_place es),
          opens_as_before profile.amended (option_on options 2) (get_or doc e.place 0) before after,
          closes_as_before profile.amended (option_on options 2) (get_or doc e.place 0) before after,
        )

    runs_as_before : (es : List Event) (i : ℕ) (held : List ℕ) → map (standing profile options) (runs_from doc es i held) ≡ standings_before profile options doc es i held
    unfolding runs_from standings_before choose
    runs_as_before [] i held = refl
    runs_as_before (e ∷ es) i held = go (runs_as_before es (i + 1) (after e i held)) (enters_run e) refl
      where
        go : map (standing profile options) (runs_from doc es (i + 1) (after e i held)) ≡ standings_before profile options doc es (i + 1) (after e i held) →
            (z : Bool) → enters_run e ≡ z →
            map (standing profile options) (runs_from doc (e ∷ es) i held) ≡ standings_before profile options doc (e ∷ es) i held
        go rest true q = rw (q, stands_as_before e es i held, rest)
        go rest false q = rw (q, rest)

    matching_as_before : (es : List Event) → matching profile options doc es ≡ matching_before profile options doc es
    unfolding matching matching_before runs_of
    matching_as_before es = rw (runs_as_before es 0 [])

    attention_as_before : (es : List Event) → attention profile options doc es ≡ attention_before profile options doc es
    unfolding attention attention_before output
    attention_as_before es = rw (matching_as_before es)

-- what a call comes to: the check is the same, and a good record's document is its own
comes_as_before : (profile : Profile) (h : Handed) (s : List ℕ) (outs works : ℕ) → Ascii (doc_of h s) →
    outcome_of profile h s outs works ≡ comes_before profile h s outs works
unfolding outcome_of
comes_as_before profile h s outs works a = go (admitted h s works) refl
  where
    go : (r : Reading) → admitted h s works ≡ r → outcome_of profile h s outs works ≡ comes_before profile h s outs works
    go (Err r) e = rw e
    go (Ok c) e =
        let g = (exactly h s works).good c.document c.events e in
        rw (e, g.0, g.1, attention_as_before (doc_of h s) a profile (options_of h s) (all_events h s))

answers_alike : (profile : Profile) (h : Handed) (s : List ℕ) → Ascii (doc_of h s) → (o : Outcome) →
    lark_attention (answer_of profile h s o) ≡ lark_attention (answer_before (matching_before profile (options_of h s) (doc_of h s) (all_events h s)) o)
answers_alike profile h s a (accepted rs) = rw (matching_as_before (doc_of h s) a profile (options_of h s) (all_events h s))
answers_alike profile h s a (refused r) = refl

pub answers_as_before : AnswersAsBefore
answers_as_before profile h s out work r out' work' a =
    let here = outcome_of profile h s (length out) (length work) in
    let before = comes_before profile h s (length out) (length work) in
    let c : here ≡ before = comes_as_before profile h s (length out) (length work) a in
    let f = answers_alike profile h s a in (
      λ p. record { answer = p.answer ∙ f here ∙ rw c; output = p.output ∙ rw c; wiped = p.wiped },
      λ p. record { answer = p.answer ∙ sym (f before) ∙ rw c; output = p.output ∙ rw c; wiped = p.wiped },
    )
