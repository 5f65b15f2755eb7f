-- The calls of the two forms are one: from what their calls come to on a record in either form.
-- Assumes nothing.
use Prim.Native.Nat.{ℕ, ◌+◌, ◌*◌, ◌<◌}
use native.Mathlib.Omega.{arith}
use mathlib.Core.Path.{◌≡◌, refl, sym, ap, ◌∙◌}
use mathlib.Core.Bool.{Bool, true, false}
use mathlib.Core.List.{List}
use mathlib.Core.Logic.{◌⊎◌, inl, inr}
use lib.ListN.{length}
use lib.Dec.{ltb}
use Rattle.record.specs.Check.{admitted, refuse, Reading}
use Rattle.record.specs.Choice.{choose}
use Rattle.record.specs.Form.{old, second}
use Rattle.record.specs.Handed.{form_of}
use Rattle.record.specs.Event.{document_in, events_in}
use Rattle.record.specs.Outcome.{Resolution, offends, gives, Outcome, accepted, refusing, sized, settled, outcome, onto, bytes_written}
use Rattle.record.specs.Partners.{record_in}
use Rattle.record.specs.Promise.{Writes}
use Rattle.record.specs.Rows.{document_count_in, event_count_in}
use Rattle.record.specs.declared.event.Event.{Event}
use Rattle.record.specs.declared.form.Handed.{Handed}
use Rattle.record.specs.declared.form.Handed.TheVariants.{Old, Second}
use Rattle.partners.specs.EitherForm.{Writable, comes_to}
use Rattle.partners.specs.EitherForm.{Alike, both_good, the_memory, the_options, the_document_count, the_event_count, a_return, an_event, the_end}
use Rattle.partners.specs.Records.{With, beside, within}
use Rattle.partners.proofs.EitherForm.{alike_in_both, comes_in_either}
use Rattle.partners.proofs.Found.{checked_in_either}
use Rattle.partners.proofs.Laid.{laid_out, its_options, its_events}
use Rattle.runs.specs.Rule.{Profile}
use Rattle.runs.specs.Pieces.{outcome as matching}
use Rattle.attention.specs.Attention.{attention}
use Rattle.attention.specs.Promise as attentionCall
use Rattle.heading.specs.Headings.{headings}
use Rattle.heading.specs.Promise as headingsCall
use Rattle.list.specs.Lists.{lists}
use Rattle.list.specs.Promise as listsCall
use Rattle.ledgerlark.specs.Answers.{lark_reading, lark_reading2, lark_attention, lark_headings, lark_lists}
use Rattle.ledgerlark.specs.declared.resolve.LarkResolved.{LarkResolved}
use Rattle.claims.specs.Records.{doc_of, all_events, refusal, resolved}
use Rattle.claims.specs.EitherForm.{SameReading, both_good as reads-good, both_refused, ReadInBoth}
use Rattle.claims.specs.EitherForm.{SameAnswer, both_resolved, by_check, by_shape, too_many, SameEvents, SameInBoth}
use Rattle.claims.specs.EitherForm.{AttentionInBoth, HeadingsInBoth, ListsInBoth}
use Rattle.claims.proofs.Records.{Reads}

-- the readers
same_reading : (options d e : ℕ) (a₁ a₂ : Reading) → Alike d e a₁ a₂ → SameReading options d e (lark_reading a₁) (lark_reading2 options a₂)
same_reading options d e a₁ a₂ both_good = reads-good
same_reading options d e a₁ a₂ the_memory = both_refused 1 0 0 the_memory
same_reading options d e a₁ a₂ the_options = both_refused 2 0 0 the_options
same_reading options d e a₁ a₂ the_document_count = both_refused 3 0 5 the_document_count
same_reading options d e a₁ a₂ the_event_count = both_refused 3 (4 + d) (9 + d) the_event_count
same_reading options d e a₁ a₂ (a_return k h) = both_refused 4 (4 + k) (9 + k) (a_return k h)
same_reading options d e a₁ a₂ (an_event k h) = both_refused 5 (8 + d + 8 * k) (13 + d + 12 * k) (an_event k h)
same_reading options d e a₁ a₂ the_end = both_refused 5 (8 + d + 8 * e) (13 + d + 12 * e) the_end

pub read_in_both : ReadInBoth
read_in_both options document es work₁ work₂ r₁ r₂ work₁' work₂' b n p q =
    let s : List ℕ = record_in second options document es in
    let e₁ = p.answer ∙ ap (λ (m : ℕ). lark_reading (admitted (Old options) (record_in old options document es) m)) n in
    let e₂ = q.answer ∙ ap (λ (m : ℕ). lark_reading2 m (admitted Second s (length work₂))) (its_options Second options document es within) in
    rw (e₁, e₂)
    (same_reading options (length document) (length es) (admitted (Old options) (record_in old options document es) (length work₂)) (admitted Second s (length work₂))
    (alike_in_both options document es (length work₂) b))

-- what two calls come to
data Come (d e : ℕ) : Outcome → Outcome → Type 0 where
  refused_alike : (n p₁ p₂ : ℕ) → 0 < n → n < 8 → Alike d e (refuse n p₁) (refuse n p₂) → Come d e (refusing n p₁) (refusing n p₂)
  misshapen : (k : ℕ) → Come d e (refusing 6 (8 + d + 8 * k)) (refusing 6 (13 + d + 12 * k))
  over_many : Come d e (refusing 7 0) (refusing 7 0)
  no_room : Come d e (refusing 8 0) (refusing 8 0)
  no_room_in_old : (rs : List Event) → Come d e (refusing 8 0) (accepted rs)
  no_room_in_second : (rs : List Event) → Come d e (accepted rs) (refusing 8 0)
  both_accepted : (rs : List Event) → Come d e (accepted rs) (accepted rs)

settle : (d e : ℕ) (m : Resolution) (outs₁ outs₂ : ℕ) → Come d e (settled old d m outs₁) (settled second d m outs₂)
unfolding sized choose
settle d e (offends k) outs₁ outs₂ = misshapen k
settle d e (gives rs) outs₁ outs₂ = go (ltb 8000 (length rs)) (ltb outs₁ (4 + 8 * length rs)) (ltb outs₂ (4 + 12 * length rs))
  where
    go : (many short₁ short₂ : Bool) →
        Come d e (choose many (refusing 7 0) (choose short₁ (refusing 8 0) (accepted rs))) (choose many (refusing 7 0) (choose short₂ (refusing 8 0) (accepted rs)))
    go true short₁ short₂ = over_many
    go false true true = no_room
    go false true false = no_room_in_old rs
    go false false true = no_room_in_second rs
    go false false false = both_accepted rs

come : (d e : ℕ) (a₁ a₂ : Reading) → Alike d e a₁ a₂ → (m : Resolution) (outs₁ outs₂ : ℕ) →
    Come d e (outcome old a₁ (λ x y. m) outs₁) (outcome second a₂ (λ x y. m) outs₂)
come d e a₁ a₂ both_good m outs₁ outs₂ = settle d e m outs₁ outs₂
come d e a₁ a₂ the_memory m outs₁ outs₂ = refused_alike 1 0 0 (omega arith) (omega arith) the_memory
come d e a₁ a₂ the_options m outs₁ outs₂ = refused_alike 2 0 0 (omega arith) (omega arith) the_options
come d e a₁ a₂ the_document_count m outs₁ outs₂ = refused_alike 3 0 5 (omega arith) (omega arith) the_document_count
come d e a₁ a₂ the_event_count m outs₁ outs₂ = refused_alike 3 (4 + d) (9 + d) (omega arith) (omega arith) the_event_count
come d e a₁ a₂ (a_return k h) m outs₁ outs₂ = refused_alike 4 (4 + k) (9 + k) (omega arith) (omega arith) (a_return k h)
come d e a₁ a₂ (an_event k h) m outs₁ outs₂ = refused_alike 5 (8 + d + 8 * k) (13 + d + 12 * k) (omega arith) (omega arith) (an_event k h)
come d e a₁ a₂ the_end m outs₁ outs₂ = refused_alike 5 (8 + d + 8 * e) (13 + d + 12 * e) (omega arith) (omega arith) the_end

abbrev number : LarkResolved → ℕ
number r = r.number

-- and how the two calls answer that
module _ (d e groups tried : ℕ) (a₁ a₂ : Outcome → LarkResolved) (R₁ : Reads groups tried a₁) (R₂ : Reads groups tried a₂) where
  refused_so : (n p₁ p₂ : ℕ) → SameAnswer d e (refusal n p₁) (refusal n p₂) → SameAnswer d e (a₁ (refusing n p₁)) (a₂ (refusing n p₂))
  refused_so n p₁ p₂ x = rw (R₁.of_refused n p₁, R₂.of_refused n p₂) x

  answered : (o₁ o₂ : Outcome) → Come d e o₁ o₂ → (number (a₁ o₁) ≡ 8 → ⊥) → (number (a₂ o₂) ≡ 8 → ⊥) → SameAnswer d e (a₁ o₁) (a₂ o₂)
  answered o₁ o₂ (refused_alike n p₁ p₂ h h' x) l₁ l₂ = refused_so n p₁ p₂ (by_check n p₁ p₂ x)
  answered o₁ o₂ (misshapen k) l₁ l₂ = refused_so 6 (8 + d + 8 * k) (13 + d + 12 * k) (by_shape k)
  answered o₁ o₂ over_many l₁ l₂ = refused_so 7 0 0 too_many
  answered o₁ o₂ no_room l₁ l₂ = absurd (l₁ (ap number (R₁.of_refused 8 0)))
  answered o₁ o₂ (no_room_in_old rs) l₁ l₂ = absurd (l₁ (ap number (R₁.of_refused 8 0)))
  answered o₁ o₂ (no_room_in_second rs) l₁ l₂ = absurd (l₂ (ap number (R₂.of_refused 8 0)))
  answered o₁ o₂ (both_accepted rs) l₁ l₂ = rw (R₁.of_accepted rs, R₂.of_accepted rs) (both_resolved (length rs) groups tried)

  -- a refusal with another number than 8
  no_eight : {a : Outcome → LarkResolved} → Reads groups tried a → (n p : ℕ) → n < 8 → number (a (refusing n p)) ≡ 8 → ⊥
  no_eight reads n p h z = let e : number (refusal n p) ≡ 8 = sym (ap number (reads.of_refused n p)) ∙ z in omega arith

  zero_number : {a : Outcome → LarkResolved} → Reads groups tried a → (rs : List Event) → number (a (accepted rs)) ≡ 0
  zero_number reads rs = ap number (reads.of_accepted rs)

  -- where one answers 8
  eight_in_old : (o₁ o₂ : Outcome) → Come d e o₁ o₂ → number (a₁ o₁) ≡ 8 → (number (a₂ o₂) ≡ 8) ⊎ (number (a₂ o₂) ≡ 0)
  eight_in_old o₁ o₂ (refused_alike n p₁ p₂ h h' x) z = absurd (no_eight R₁ n p₁ h' z)
  eight_in_old o₁ o₂ (misshapen k) z = absurd (no_eight R₁ 6 (8 + d + 8 * k) (omega arith) z)
  eight_in_old o₁ o₂ over_many z = absurd (no_eight R₁ 7 0 (omega arith) z)
  eight_in_old o₁ o₂ no_room z = inl (ap number (R₂.of_refused 8 0))
  eight_in_old o₁ o₂ (no_room_in_old rs) z = inr (zero_number R₂ rs)
  eight_in_old o₁ o₂ (no_room_in_second rs) z = inl (ap number (R₂.of_refused 8 0))
  eight_in_old o₁ o₂ (both_accepted rs) z = inr (zero_number R₂ rs)

  eight_in_second : (o₁ o₂ : Outcome) → Come d e o₁ o₂ → number (a₂ o₂) ≡ 8 → (number (a₁ o₁) ≡ 8) ⊎ (number (a₁ o₁) ≡ 0)
  eight_in_second o₁ o₂ (refused_alike n p₁ p₂ h h' x) z = absurd (no_eight R₂ n p₂ h' z)
  eight_in_second o₁ o₂ (misshapen k) z = absurd (no_eight R₂ 6 (13 + d + 12 * k) (omega arith) z)
  eight_in_second o₁ o₂ over_many z = absurd (no_eight R₂ 7 0 (omega arith) z)
  eight_in_second o₁ o₂ no_room z = inl (ap number (R₁.of_refused 8 0))
  eight_in_second o₁ o₂ (no_room_in_old rs) z = inl (ap number (R₁.of_refused 8 0))
  eight_in_second o₁ o₂ (no_room_in_second rs) z = inr (zero_number R₁ rs)
  eight_in_second o₁ o₂ (both_accepted rs) z = inr (zero_number R₁ rs)

  no_zero : {a : Outcome → LarkResolved} → Reads groups tried a → (n p : ℕ) → 0 < n → number (a (refusing n p)) ≡ 0 → ⊥
  no_zero reads n p h z = let e : number (refusal n p) ≡ 0 = sym (ap number (reads.of_refused n p)) ∙ z in omega arith

  wrote : (out₁ out₂ out₁' out₂' : List ℕ) (o₁ o₂ : Outcome) → Come d e o₁ o₂ → out₁' ≡ onto (bytes_written old o₁) out₁ → out₂' ≡ onto (bytes_written second o₂) out₂ →
      number (a₁ o₁) ≡ 0 → number (a₂ o₂) ≡ 0 → SameEvents out₁ out₂ out₁' out₂'
  wrote out₁ out₂ out₁' out₂' o₁ o₂ (refused_alike n p₁ p₂ h h' x) w₁ w₂ z₁ z₂ = absurd (no_zero R₁ n p₁ h z₁)
  wrote out₁ out₂ out₁' out₂' o₁ o₂ (misshapen k) w₁ w₂ z₁ z₂ = absurd (no_zero R₁ 6 (8 + d + 8 * k) (omega arith) z₁)
  wrote out₁ out₂ out₁' out₂' o₁ o₂ over_many w₁ w₂ z₁ z₂ = absurd (no_zero R₁ 7 0 (omega arith) z₁)
  wrote out₁ out₂ out₁' out₂' o₁ o₂ no_room w₁ w₂ z₁ z₂ = absurd (no_zero R₁ 8 0 (omega arith) z₁)
  wrote out₁ out₂ out₁' out₂' o₁ o₂ (no_room_in_old rs) w₁ w₂ z₁ z₂ = absurd (no_zero R₁ 8 0 (omega arith) z₁)
  wrote out₁ out₂ out₁' out₂' o₁ o₂ (no_room_in_second rs) w₁ w₂ z₁ z₂ = absurd (no_zero R₂ 8 0 (omega arith) z₂)
  wrote out₁ out₂ out₁' out₂' o₁ o₂ (both_accepted rs) w₁ w₂ z₁ z₂ = record { events = rs; in_old = w₁; in_second = w₂ }

-- the three resolvers, once: each looks at the options, the document and the events, and at nothing else of the record
in_both : (resolve : ℕ → List ℕ → List Event → Resolution) (groups tried : ℕ) (a₁ a₂ : Outcome → LarkResolved) → Reads groups tried a₁ → Reads groups tried a₂ →
    (options : ℕ) (document : List ℕ) (es : List Event) (out₁ out₂ work₁ work₂ : List ℕ) (r₁ r₂ : LarkResolved) (out₁' out₂' work₁' work₂' : List ℕ) →
    Writable document es → length work₁ ≡ length work₂ →
    Writes old (λ outs works. comes_to resolve (Old options) (record_in old options document es) works outs) a₁ out₁ work₁ r₁ out₁' work₁' →
    Writes second (λ outs works. comes_to resolve Second (record_in second options document es) works outs) a₂ out₂ work₂ r₂ out₂' work₂' →
    SameInBoth (length document) (length es) out₁ out₂ r₁ r₂ out₁' out₂'
in_both resolve groups tried a₁ a₂ R₁ R₂ options document es out₁ out₂ work₁ work₂ r₁ r₂ out₁' out₂' work₁' work₂' b n p q =
    let o₁ : Outcome = comes_to resolve (Old options) (record_in old options document es) (length work₁) (length out₁) in
    let o₂ : Outcome = comes_to resolve Second (record_in second options document es) (length work₂) (length out₂) in
    let c : Come (length document) (length es) o₁ o₂ = comes in
    record {
      answers = λ l₁ l₂.
          rw (p.answer, q.answer)
          (answered (length document) (length es) groups tried a₁ a₂ R₁ R₂ o₁ o₂ c (rw p.answer at l₁) (rw q.answer at l₂));
      no_room_in_old = λ z. rw q.answer (eight_in_old (length document) (length es) groups tried a₁ a₂ R₁ R₂ o₁ o₂ c (rw p.answer at z));
      no_room_in_second = λ z. rw p.answer (eight_in_second (length document) (length es) groups tried a₁ a₂ R₁ R₂ o₁ o₂ c (rw q.answer at z));
      written = λ z₁ z₂.
          wrote (length document) (length es) groups tried a₁ a₂ R₁ R₂ out₁ out₂ out₁' out₂' o₁ o₂ c p.output q.output (rw p.answer at z₁)
          (rw q.answer at z₂);
    }
  where
    comes : Come (length document) (length es) (comes_to resolve (Old options) (record_in old options document es) (length work₁) (length out₁))
        (comes_to resolve Second (record_in second options document es) (length work₂) (length out₂))
    comes =
        let alike = alike_in_both options document es (length work₂) b in
        let there = rw (checked_in_either (Old options) options document es (length work₂) beside b, checked_in_either Second options document es (length work₂) within b) at alike in
        rw (
          n,
          comes_in_either resolve (Old options) options document es (length work₂) (length out₁) beside b,
          comes_in_either resolve Second options document es (length work₂) (length out₂) within b,
        )
        (come (length document) (length es) _ _ there (resolve options document es) (length out₁) (length out₂))

-- the document and the events of the record are those that it was made of, good or not
module _ (h : Handed) (options : ℕ) (document : List ℕ) (es : List Event) (b : Writable document es) where
  abbrev whole : List ℕ
  whole = record_in (form_of h) options document es

  document_count : document_count_in (form_of h) whole ≡ length document
  document_count = (laid_out h options document es b).document_count

  event_count : event_count_in (form_of h) whole ≡ length es
  event_count = rw document_count (laid_out h options document es b).its_section.count

  the_document : doc_of h whole ≡ document
  the_document = ap (λ (n : ℕ). document_in (form_of h) whole n) document_count ∙ (laid_out h options document es b).its_document

  the_events : all_events h whole ≡ es
  the_events =
      ap (λ (n : ℕ). events_in (form_of h) whole n (event_count_in (form_of h) whole)) document_count
      ∙ ap (λ (n : ℕ). events_in (form_of h) whole (length document) n) event_count
      ∙ its_events (laid_out h options document es b)

-- so what attention counts of the record it counts of these
counted : (profile : Profile) (h : Handed) (options : ℕ) (document : List ℕ) (es : List Event) → With h options → Writable document es →
    Reads (length (matching profile options document es).groups) (matching profile options document es).tried
    (λ (o : Outcome). lark_attention (attentionCall.answer_of profile h (record_in (form_of h) options document es) o))
counted profile h options document es o b =
    let s : List ℕ = record_in (form_of h) options document es in
    record {
      of_refused = λ n p. refl;
      of_accepted = λ rs.
          ap (λ (m : ℕ). resolved (length rs) (length (matching profile m (doc_of h s) (all_events h s)).groups) (matching profile m (doc_of h s) (all_events h s)).tried)
          (its_options h options document es o)
          ∙ ap (λ (l : List ℕ). resolved (length rs) (length (matching profile options l (all_events h s)).groups) (matching profile options l (all_events h s)).tried)
          (the_document h options document es b)
          ∙ ap (λ (l : List Event). resolved (length rs) (length (matching profile options document l).groups) (matching profile options document l).tried)
          (the_events h options document es b);
    }

pub attention_in_both : AttentionInBoth
unfolding attentionCall.outcome_of
attention_in_both profile options document es out₁ out₂ work₁ work₂ r₁ r₂ out₁' out₂' work₁' work₂' b n p q =
    in_both (attention profile) _ _ _ _ (counted profile (Old options) options document es beside b) (counted profile Second options document es within b)
    options document es out₁ out₂ work₁ work₂ r₁ r₂ out₁' out₂' work₁' work₂' b n p q

pub headings_in_both : HeadingsInBoth
unfolding headingsCall.outcome_of
headings_in_both =
    in_both (λ options document es. headings es) 0 0 (λ (o : Outcome). lark_headings (headingsCall.answer_of o)) (λ (o : Outcome). lark_headings (headingsCall.answer_of o))
    (record { of_refused = λ n p. refl; of_accepted = λ es. refl }) (record { of_refused = λ n p. refl; of_accepted = λ es. refl })

pub lists_in_both : ListsInBoth
unfolding listsCall.outcome_of
lists_in_both =
    in_both (λ options document es. lists document es) 0 0 (λ (o : Outcome). lark_lists (listsCall.answer_of o)) (λ (o : Outcome). lark_lists (listsCall.answer_of o))
    (record { of_refused = λ n p. refl; of_accepted = λ es. refl }) (record { of_refused = λ n p. refl; of_accepted = λ es. refl })
