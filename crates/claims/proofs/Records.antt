-- The claims of the calls on a record hold, each by the call's promise alone.
-- Assumes nothing.
use Prim.Native.Nat.{ℕ, ◌+◌, ◌*◌, ◌<◌, ◌≤◌}
use native.Mathlib.Omega.{arith}
use mathlib.Core.Path.{◌≡◌, refl, sym, ap, ◌∙◌}
use mathlib.Core.Bool.{Bool, true, false}
use mathlib.Core.List.{List}
use mathlib.Core.Logic.{inl, inr}
use lib.ListN.{length, take, drop, replicate}
use lib.Dec.{leb}
use borrow.Author.Tests.{leb-true, leb-false}
use Rattle.std.specs.Prelude.{Result, Ok, Err}
use Rattle.record.specs.Check.{admitted, Reading, accept}
use Rattle.record.specs.Event.{document_in, events_in}
use Rattle.record.specs.Sound.{sound}
use Rattle.record.specs.Form.{old, second}
use Rattle.record.specs.Handed.{form_of, options_of}
use Rattle.record.specs.Partners.{section_in}
use Rattle.record.specs.Rows.{Row, document_count_in, event_count_in}
use Rattle.record.specs.Written.{WrittenRow, by_check, row_6, row_7, row_8, ExactlyWritten}
use Rattle.record.specs.Outcome.{Outcome, accepted, refused, refusing, Resolution, outcome, onto, bytes_written}
use Rattle.record.specs.Promise.{Writes}
use Rattle.record.specs.declared.check.Refusal.{Refusal}
use Rattle.record.specs.declared.event.Event.{Event}
use Rattle.record.specs.declared.form.Form.{Form}
use Rattle.record.specs.declared.form.Handed.{Handed}
use Rattle.record.specs.declared.form.Handed.TheVariants.{Old, Second}
use Rattle.record.proofs.Exactly.{exactly, row_low}
use Rattle.record.proofs.Good.{admission}
use Rattle.record.proofs.Parts.{length_document}
use Rattle.partners.proofs.Written.{length_section_in}
use Rattle.record.proofs.Output.{onto_bytes, onto_rest, onto_none}
use Rattle.attention.specs.Attention.{attention}
use Rattle.attention.specs.Promise as attentionCall
use Rattle.attention.specs.Shape.{Offends as RunOffends}
use Rattle.attention.proofs.Exactly.{exactly_resolved as attention-exactly-resolved}
use Rattle.heading.specs.Headings.{headings}
use Rattle.heading.specs.Promise as headingsCall
use Rattle.heading.specs.Shape.{Broken as HeadingOffends}
use Rattle.heading.proofs.Exactly.{exactly_resolved as headings-exactly-resolved}
use Rattle.list.specs.Lists.{lists}
use Rattle.list.specs.Promise as listsCall
use Rattle.list.specs.Offence.{Offends as ItemOffends}
use Rattle.list.proofs.Exactly.{exactly_resolved as lists-exactly-resolved}
use Rattle.ledgerlark.specs.Answers.{lark_reading, lark_reading2, lark_attention, lark_headings, lark_lists, ReadBy}
use Rattle.ledgerlark.specs.declared.resolve.LarkResolved.{LarkResolved}
use Rattle.claims.specs.Told.{Told}
use Rattle.claims.specs.Records.{doc_of, all_events, read_refusal, read2_refusal, refusal, resolved, ReadClaim, ReadingClaim, Reading2Claim, Isolated, Numbered, Accepts, Claim, AttentionClaim, HeadingsClaim, ListsClaim}

-- a row of the table has a number from 1 up
pub written_number : {h : Handed} {s : List ℕ} {works : ℕ} {Offends : ℕ → Type 0} {made : Resolution} {outs n p : ℕ} →
    WrittenRow h s works Offends made outs n p → 0 < n
written_number (by_check r) = (row_low r).0
written_number (row_6 k h e f) = omega arith
written_number (row_7 es h g e f) = omega arith
written_number (row_8 es h g e f) = omega arith

-- how a call's answer reads what it found, or a refusal, in numbers: 0 where something is found, and a refusal by its number and place
pub record ReadsAs {A B : Type 0} (number place : B → ℕ) (refusal : ℕ → ℕ → B) (reads : Result A Refusal → B) : Type 0 where
  pub of_refused : (n p : ℕ) → reads (Err (record { number = n; place = p })) ≡ refusal n p
  pub of_found : (a : A) → number (reads (Ok a)) ≡ 0
  pub its_number : (n p : ℕ) → number (refusal n p) ≡ n
  pub its_place : (n p : ℕ) → place (refusal n p) ≡ p

-- so its numbers are those of one refusal only, its number is 0 where nothing is refused, and one that has a number is a refusal and nothing more
module _ {A B : Type 0} (number place : B → ℕ) (refusal : ℕ → ℕ → B) (reads : Result A Refusal → B) (R : ReadsAs number place refusal reads) where
  pub read_back : (a : Result A Refusal) (n p : ℕ) → 0 < n → reads a ≡ refusal n p → a ≡ Err (record { number = n; place = p })
  read_back (Ok c) n p h q = let z : 0 ≡ n = sym (R.of_found c) ∙ ap number q ∙ R.its_number n p in absurd (omega arith)
  read_back (Err x) n p h q =
      let e₀ : refusal x.number x.place ≡ refusal n p = sym (R.of_refused x.number x.place) ∙ q in
      let e₁ : x.number ≡ n = sym (R.its_number x.number x.place) ∙ ap number e₀ ∙ R.its_number n p in
      let e₂ : x.place ≡ p = sym (R.its_place x.number x.place) ∙ ap place e₀ ∙ R.its_place n p in
      rw (← e₁, ← e₂)

  pub read_zero : (a : Result A Refusal) → ((n p : ℕ) → a ≡ Err (record { number = n; place = p }) → ⊥) → number (reads a) ≡ 0
  read_zero (Ok c) f = R.of_found c
  read_zero (Err x) f = absurd (f x.number x.place refl)

  pub read_whole : (a : Result A Refusal) → 0 < number (reads a) → reads a ≡ refusal (number (reads a)) (place (reads a))
  read_whole (Ok c) l = let z = R.of_found c in absurd (omega arith)
  read_whole (Err x) l =
      let e : reads (Err x) ≡ refusal x.number x.place = R.of_refused x.number x.place in
      let e₁ : number (reads (Err x)) ≡ x.number = ap number e ∙ R.its_number x.number x.place in
      let e₂ : place (reads (Err x)) ≡ x.place = ap place e ∙ R.its_place x.number x.place in
      e ∙ sym (rw (e₁, e₂))

-- the claim of a call that reads: its answer is `reads` of what the check finds
module _ {A : Type 0} (number place : A → ℕ) (refusal : ℕ → ℕ → A) (reads : Reading → A) (R : ReadsAs number place refusal reads) (h : Handed) (s : List ℕ) where
  read_exactly : (works : ℕ) (r : A) → r ≡ reads (admitted h s works) → Told number place refusal (Row h s works) r
  read_exactly works r a =
      record {
        given = λ n p l. a ∙ ap reads ((exactly h s works).given n p l) ∙ R.of_refused n p;
        only = λ n p l q. (exactly h s works).refused n p (read_back number place refusal reads R (admitted h s works) n p l (sym a ∙ q));
        accepted = λ none. ap number (a ∙ ap reads ((exactly h s works).accepted none)) ∙ R.of_found _;
        none_holds = λ z. read_none (admitted h s works) refl z;
        nothing_more = λ l. rw a (read_whole number place refusal reads R (admitted h s works) (rw a at l));
      }
    where
      read_none : (o : Reading) → admitted h s works ≡ o → number r ≡ 0 → (n p : ℕ) → Row h s works n p → ⊥
      read_none (Ok c) q z = ((exactly h s works).good c.document c.events q).2
      read_none (Err x) q z =
          let l = (row_low ((exactly h s works).refused x.number x.place q).holds).0 in
          let k : number r ≡ x.number = ap number (a ∙ ap reads q ∙ R.of_refused x.number x.place) ∙ R.its_number x.number x.place in
          absurd (omega arith)

-- where no row holds the record's events are sound over its document
pub no_row_sound : (h : Handed) (s : List ℕ) (works : ℕ) → ((n p : ℕ) → Row h s works n p → ⊥) →
    (length (doc_of h s) ≡ document_count_in (form_of h) s) × (sound 64 (document_count_in (form_of h) s) (all_events h s) ≡ true)
no_row_sound h s works none =
    let good = (admission h s works (document_count_in (form_of h) s) (event_count_in (form_of h) s) ((exactly h s works).accepted none)).good in
    let whole = good.whole in
    (length_document (form_of h) s (document_count_in (form_of h) s) (omega arith), good.sound_events)

-- which holds of each, by its promise alone
reads_claim : {A : Type 0} (number place : A → ℕ) (refusal : ℕ → ℕ → A) (reads : Reading → A) → ReadsAs number place refusal reads → (h : Handed) (s : List ℕ) →
    ReadClaim h s number place refusal (reads (accept (document_count_in (form_of h) s) (event_count_in (form_of h) s))) (ReadBy h s reads)
reads_claim {A} number place refusal reads R h s =
    record {
      unique = λ work r₁ r₂ w₁ w₂ p q. (p.answer ∙ sym q.answer, p.wiped ∙ sym q.wiped);
      isolated = λ work₁ work₂ r₁ r₂ w₁ w₂ e p q. (
        p.answer ∙ ap (λ (n : ℕ). reads (admitted h s n)) e ∙ sym q.answer,
        p.wiped ∙ ap (λ (n : ℕ). replicate n 0) e ∙ sym q.wiped,
      );
      exactly = λ work r work' a. told_so (length work) r a.answer;
      accepts = λ work r work' a z. a.answer ∙ ap reads ((exactly h s (length work)).accepted ((told_so (length work) r a.answer).none_holds z));
      wiped = λ work r work' a. a.wiped;
    }
  where
    told_so : (works : ℕ) (r : A) → r ≡ reads (admitted h s works) → Told number place refusal (Row h s works) r
    told_so = read_exactly number place refusal reads R h s

pub reading_claim : ReadingClaim
reading_claim s options =
    reads_claim _ _ read_refusal lark_reading (record { of_refused = λ n p. refl; of_found = λ a. refl; its_number = λ n p. refl; its_place = λ n p. refl })
    (Old options) s

pub reading2_claim : Reading2Claim
reading2_claim s =
    reads_claim _ _ read2_refusal (lark_reading2 (options_of Second s))
    (record { of_refused = λ n p. refl; of_found = λ a. refl; its_number = λ n p. refl; its_place = λ n p. refl }) Second s

-- every call that writes, once: what it comes to, and how its answer reads that

-- an answer reads an outcome in numbers: how much was made where something is written, a refusal's number and place else
pub record Reads (groups tried : ℕ) (answers : Outcome → LarkResolved) : Type 0 where
  pub of_refused : (n p : ℕ) → answers (refusing n p) ≡ refusal n p
  pub of_accepted : (es : List Event) → answers (accepted es) ≡ resolved (length es) groups tried

of_zero : {groups tried : ℕ} {answers : Outcome → LarkResolved} → Reads groups tried answers → (es : List Event) → (answers (accepted es)).number ≡ 0
of_zero reads es = ap (λ (x : LarkResolved). x.number) (reads.of_accepted es)

-- an output that begins with some bytes: they stand in front, and what is behind them is as it was
pub seam : (bs out o : List ℕ) → o ≡ onto bs out → (take (length bs) o ≡ bs) × (drop (length bs) o ≡ drop (length bs) out)
seam bs out o e =
    (ap (λ (l : List ℕ). take (length bs) l) e ∙ onto_bytes bs out, ap (λ (l : List ℕ). drop (length bs) l) e ∙ onto_rest bs out)

writes_isolated : {f : Form} {comes : ℕ → ℕ → Outcome} {answers : Outcome → LarkResolved} {out₁ out₂ work₁ work₂ : List ℕ} {r₁ r₂ : LarkResolved}
    {o₁ o₂ w₁ w₂ : List ℕ} →
    length out₁ ≡ length out₂ → length work₁ ≡ length work₂ → Writes f comes answers out₁ work₁ r₁ o₁ w₁ → Writes f comes answers out₂ work₂ r₂ o₂ w₂ →
    Isolated (bytes_written f (comes (length out₁) (length work₁))) out₁ out₂ r₁ r₂ o₁ o₂ w₁ w₂
writes_isolated {f} {comes} {answers} {out₁} {out₂} {work₁} {work₂} {o₁ = o₁} {o₂ = o₂} eo ew p q =
    let same : comes (length out₁) (length work₁) ≡ comes (length out₂) (length work₂) = cc in
    let there : o₂ ≡ onto (bytes_written f (comes (length out₁) (length work₁))) out₂ =
    q.output ∙ sym (ap (λ (o : Outcome). onto (bytes_written f o) out₂) same) in
    let one = seam (bytes_written f (comes (length out₁) (length work₁))) out₁ o₁ p.output in
    let two = seam (bytes_written f (comes (length out₁) (length work₁))) out₂ o₂ there in
    record {
      answer = p.answer ∙ ap answers same ∙ sym q.answer;
      first = one.0;
      second = two.0;
      first_kept = one.1;
      second_kept = two.1;
      work = p.wiped ∙ ap (λ (n : ℕ). replicate n 0) ew ∙ sym q.wiped;
    }

keeps : {groups tried : ℕ} {f : Form} {comes : ℕ → ℕ → Outcome} {answers : Outcome → LarkResolved} {out work : List ℕ} {r : LarkResolved} {out' work' : List ℕ} →
    Reads groups tried answers → (o : Outcome) → comes (length out) (length work) ≡ o → Writes f comes answers out work r out' work' → 0 < r.number → out' ≡ out
keeps {groups} {tried} {f} {comes} {answers} {out} {work} {r} reads (accepted es) e a h =
    let z : r.number ≡ 0 = ap (λ (x : LarkResolved). x.number) (a.answer ∙ ap answers e) ∙ of_zero reads es in absurd (omega arith)
keeps {groups} {tried} {f} {comes} {answers} {out} {work} {r} reads (refused x) e a h =
    a.output ∙ ap (λ (o : Outcome). onto (bytes_written f o) out) e ∙ onto_none out

no_refusal_writes : {groups tried : ℕ} {f : Form} {comes : ℕ → ℕ → Outcome} {answers : Outcome → LarkResolved} {out work : List ℕ} {r : LarkResolved} {out' work' : List ℕ} →
    Reads groups tried answers → Writes f comes answers out work r out' work' → 0 < r.number → out' ≡ out
no_refusal_writes {groups} {tried} {f} {comes} {answers} {out} {work} reads a h = keeps reads (comes (length out) (length work)) refl a h

back : {groups tried : ℕ} {answers : Outcome → LarkResolved} → Reads groups tried answers → (o : Outcome) (n p : ℕ) → 0 < n → answers o ≡ refusal n p → o ≡ refusing n p
back {groups} {tried} {answers} reads (accepted es) n p h q =
    let z : 0 ≡ n = sym (of_zero reads es) ∙ ap (λ (x : LarkResolved). x.number) q in absurd (omega arith)
back {groups} {tried} {answers} reads (refused x) n p h q =
    let e : refusal x.number x.place ≡ refusal n p = sym (reads.of_refused x.number x.place) ∙ q in
    let e₁ : x.number ≡ n = ap (λ (y : LarkResolved). y.number) e in
    let e₂ : x.place ≡ p = ap (λ (y : LarkResolved). y.place) e in
    let e₃ : refusing x.number x.place ≡ refusing n p = cc in
    e₃

-- the rows as the resolver's own crate states them, read as numbers
told : {groups tried : ℕ} {f : Form} {comes : ℕ → ℕ → Outcome} {answers : Outcome → LarkResolved} {h : Handed} {s : List ℕ} {Offends : ℕ → Type 0} {resolve : ℕ → ℕ → Resolution}
    {out work : List ℕ} {r : LarkResolved} {out' work' : List ℕ} → Reads groups tried answers →
    comes (length out) (length work) ≡ outcome (form_of h) (admitted h s (length work)) resolve (length out) →
    ExactlyWritten h s (length work) Offends resolve (length out) → Writes f comes answers out work r out' work' →
    Numbered (WrittenRow h s (length work) Offends (resolve (document_count_in (form_of h) s) (event_count_in (form_of h) s)) (length out)) r
told {groups} {tried} {f} {comes} {answers} {h} {s} {Offends} {resolve} {out} {work} {r} reads e x a =
    record {
      given = λ n p l. a.answer ∙ ap answers (e ∙ x.given n p l) ∙ reads.of_refused n p;
      only = λ n p h q. x.refused n p (sym e ∙ back reads (comes (length out) (length work)) n p h (sym a.answer ∙ q));
      accepted = λ none. zero_number (outcome (form_of h) (admitted h s (length work)) resolve (length out)) e none;
      none_holds = λ z. none_held (outcome (form_of h) (admitted h s (length work)) resolve (length out)) e z;
      nothing_more = λ h. whole (comes (length out) (length work)) a.answer h;
    }
  where
    zero_number : (o : Outcome) → comes (length out) (length work) ≡ o →
        ((n p : ℕ) → WrittenRow h s (length work) Offends (resolve (document_count_in (form_of h) s) (event_count_in (form_of h) s)) (length out) n p → ⊥) → r.number ≡ 0
    zero_number (accepted es) c none = ap (λ (y : LarkResolved). y.number) (a.answer ∙ ap answers c) ∙ of_zero reads es
    zero_number (refused y) c none = absurd (none y.number y.place (x.refused y.number y.place (sym e ∙ c)).holds)

    none_held : (o : Outcome) → comes (length out) (length work) ≡ o → r.number ≡ 0 →
        (n p : ℕ) → WrittenRow h s (length work) Offends (resolve (document_count_in (form_of h) s) (event_count_in (form_of h) s)) (length out) n p → ⊥
    none_held (accepted es) c z = (x.good es (sym e ∙ c)).1
    none_held (refused y) c z =
        let h = written_number (x.refused y.number y.place (sym e ∙ c)).holds in
        let k : r.number ≡ y.number = ap (λ (v : LarkResolved). v.number) (a.answer ∙ ap answers c ∙ reads.of_refused y.number y.place) in
        absurd (omega arith)

    whole : (o : Outcome) → r ≡ answers o → 0 < r.number → r ≡ refusal r.number r.place
    whole (accepted es) q h = let z : r.number ≡ 0 = ap (λ (v : LarkResolved). v.number) q ∙ of_zero reads es in absurd (omega arith)
    whole (refused y) q h =
        let k : r ≡ refusal y.number y.place = q ∙ reads.of_refused y.number y.place in
        rw k refl

pub at_most : (a b : ℕ) → (b < a → ⊥) → a ≤ b
at_most a b f = go (leb a b) refl
  where
    go : (z : Bool) → leb a b ≡ z → a ≤ b
    go true q = leb-true _ _ q
    go false q = absurd (f (leb-false _ _ q))

-- the bytes of a section, however the record was handed over
length_handed : (h : Handed) (es : List Event) → length (section_in (form_of h) es) ≡ 4 + (form_of h).width * length es
length_handed (Old options) es = length_section_in old es (inl refl)
length_handed Second es = length_section_in second es (inr refl)

-- which holds of each, by its promise alone
claimed : (comes : ℕ → ℕ → Outcome) (answers : Outcome → LarkResolved) (h : Handed) (s : List ℕ) (Offends : ℕ → Type 0) (resolve : ℕ → ℕ → Resolution)
    (groups tried : ℕ) → Reads groups tried answers → ((outs works : ℕ) → comes outs works ≡ outcome (form_of h) (admitted h s works) resolve outs) →
    ((outs works : ℕ) → ExactlyWritten h s works Offends resolve outs) →
    Claim h s Offends (resolve (document_count_in (form_of h) s) (event_count_in (form_of h) s)) groups tried (Writes (form_of h) comes answers)
    (λ outs works. bytes_written (form_of h) (comes outs works))
claimed comes answers h s Offends resolve groups tried reads e x =
    record {
      unique = λ out work r₁ r₂ o₁ o₂ w₁ w₂ p q. (p.answer ∙ sym q.answer, p.output ∙ sym q.output, p.wiped ∙ sym q.wiped);
      isolated = λ out₁ out₂ work₁ work₂ r₁ r₂ o₁ o₂ w₁ w₂ eo ew p q. writes_isolated eo ew p q;
      exactly = λ out work r out' work' a. told reads (e (length out) (length work)) (x (length out) (length work)) a;
      refusal_writes_nothing = λ out work r out' work' a h. no_refusal_writes reads a h;
      accepts = λ out work r out' work' a z. made_so out work r out' work' a z (comes (length out) (length work)) refl;
      fits = λ out work. room (length out) (length work) (comes (length out) (length work)) refl;
      wiped = λ out work r out' work' a. a.wiped;
    }
  where
    -- where the section did not fit, row 8 would hold
    room : (outs works : ℕ) (o : Outcome) → comes outs works ≡ o → length (bytes_written (form_of h) (comes outs works)) ≤ outs
    room outs works (refused y) c = rw c (omega arith)
    room outs works (accepted es) c =
        let g = (x outs works).good es (sym (e outs works) ∙ c) in
        rw (c, length_handed h es) (at_most (4 + (form_of h).width * length es) outs (λ h. g.1 8 0 (row_8 es g.0 h refl refl)))

    made_so : (out work : List ℕ) (r : LarkResolved) (out' work' : List ℕ) → Writes (form_of h) comes answers out work r out' work' → r.number ≡ 0 →
        (o : Outcome) → comes (length out) (length work) ≡ o → Accepts (form_of h) (resolve (document_count_in (form_of h) s) (event_count_in (form_of h) s)) groups tried out r out'
    made_so out work r out' work' a z (accepted es) c =
        record {
          events = es;
          made_so = ((x (length out) (length work)).good es (sym (e (length out) (length work)) ∙ c)).0;
          answer = a.answer ∙ ap answers c ∙ reads.of_accepted es;
          written = a.output ∙ ap (λ (o : Outcome). onto (bytes_written (form_of h) o) out) c;
        }
    made_so out work r out' work' a z (refused y) c =
        let h = written_number ((x (length out) (length work)).refused y.number y.place (sym (e (length out) (length work)) ∙ c)).holds in
        let k : r.number ≡ y.number = ap (λ (v : LarkResolved). v.number) (a.answer ∙ ap answers c ∙ reads.of_refused y.number y.place) in
        absurd (omega arith)

pub attention_claim : AttentionClaim
unfolding attentionCall.outcome_of
attention_claim profile h s =
    claimed (attentionCall.outcome_of profile h s) (λ (o : Outcome). lark_attention (attentionCall.answer_of profile h s o)) h s
    (RunOffends (doc_of h s) (options_of h s) (all_events h s)) (λ d e. attention profile (options_of h s) (document_in (form_of h) s d) (events_in (form_of h) s d e)) _ _
    (record { of_refused = λ n p. refl; of_accepted = λ es. refl })
    (λ outs works. refl)
    (λ outs works. attention-exactly-resolved profile h s works outs)

pub headings_claim : HeadingsClaim
unfolding headingsCall.outcome_of
headings_claim h s =
    claimed (headingsCall.outcome_of h s) (λ (o : Outcome). lark_headings (headingsCall.answer_of o)) h s (HeadingOffends (all_events h s))
    (λ d e. headings (events_in (form_of h) s d e)) 0 0
    (record { of_refused = λ n p. refl; of_accepted = λ es. refl })
    (λ outs works. refl)
    (λ outs works. headings-exactly-resolved h s works outs)

pub lists_claim : ListsClaim
unfolding listsCall.outcome_of
lists_claim h s =
    claimed (listsCall.outcome_of h s) (λ (o : Outcome). lark_lists (listsCall.answer_of o)) h s (ItemOffends (doc_of h s) (all_events h s))
    (λ d e. lists (document_in (form_of h) s d) (events_in (form_of h) s d e)) 0 0
    (record { of_refused = λ n p. refl; of_accepted = λ es. refl })
    (λ outs works. refl)
    (λ outs works. lists-exactly-resolved h s works outs)
