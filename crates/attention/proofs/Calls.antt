-- The calls that bring the parts together, case by case.
-- Assumes nothing.
use mathlib.Core.Path.{◌≡◌, refl, sym, ap, ◌∙◌}
use mathlib.Core.Bool.{Bool}
use mathlib.Core.List.{List}
use mathlib.Core.Option.{none, some}
use Prim.Native.Nat.{ℕ, ◌+◌, ◌<◌}
use native.Mathlib.Omega.{arith}
use lib.ListN.{length}
use Rattle.std.specs.Prelude.{Result, Ok, Err}
use Rattle.record.specs.Options.{option_on}
use Rattle.record.specs.Bytes.{u32_at}
use Rattle.record.specs.Form.{place_in}
use Rattle.record.specs.Handed.{form_of, options_of}
use Rattle.record.specs.Rows.{document_count_in}
use Rattle.record.specs.Event.{document_in, events_in}
use Rattle.record.specs.Good.{GoodIn}
use Rattle.record.specs.Check.{admitted, accept}
use Rattle.record.specs.Outcome.{Outcome, accepted, refused, refusing, settled, onto, bytes_written}
use Rattle.record.specs.Promise.{Answered}
use Rattle.record.specs.declared.form.Form.{Form}
use Rattle.record.specs.declared.form.Handed.{Handed}
use Rattle.record.specs.declared.check.Refusal.{Refusal}
use Rattle.record.proofs.Good.{admission}
use Rattle.record.proofs.Parts.{length_events}
use Rattle.runs.specs.Runs.{offender}
use Rattle.runs.specs.Rule.{Rule, rule_for, Profile, crate}
use Rattle.runs.specs.Plain.{Standing, plain}
use Rattle.slots.specs.Layout.{Room}
use Rattle.groups.specs.Matches.{begin}
use Rattle.runs.specs.Pieces.{outcome as matching}
use Rattle.output.proofs.ResultSize.{size_of_output, many_groups_too_long}
use Rattle.loading.specs.Promise.{Ready, Loads}
use Rattle.loading.specs.declared.pass.Offender.{Offender}
use Rattle.matcher.specs.Promise.{GroupsOf, Answers, Answered as Matching, Loaded as Begun}
use Rattle.matcher.specs.declared.closers.Groups.{Groups}
use Rattle.matcher.specs.declared.closers.TooMany.{TooMany}
use Rattle.attention.specs.Start.{Cleared}
use Rattle.attention.specs.Attention.{attention}
use Rattle.attention.specs.Result.{Matched, result_of, count_written, Ended}
use Rattle.attention.specs.Promise.{Answer, resolved, answer_at, answer_of, outcome_of, Made}
use Rattle.attention.proofs.Beginning.{begins}
use Rattle.attention.proofs.Offenders.{earliest_offender}
use Rattle.attention.proofs.Sizes.{accepted_record}
use Rattle.attention.proofs.Endings.{sized_long}

-- where no run offends, the call comes to what the result comes to
unoffended : (profile : Profile) (f : Form) (s : List ℕ) (d e options outs : ℕ) → offender (document_in f s d) options (events_in f s d e) ≡ none →
    settled f d (attention profile options (document_in f s d) (events_in f s d e)) outs ≡ result_of profile f s d e options outs
unfolding attention
unoffended profile f s d e options outs q = rw q

offended : (profile : Profile) (f : Form) (s : List ℕ) (d e options outs k : ℕ) → offender (document_in f s d) options (events_in f s d e) ≡ some k →
    settled f d (attention profile options (document_in f s d) (events_in f s d e)) outs ≡ refusing 6 (place_in f d k)
unfolding attention
offended profile f s d e options outs k q = rw q

-- a refusal, with the output as it was
module _ (profile : Profile) (f : Form) (s : List ℕ) (d e options : ℕ) (out : List ℕ) (n p : ℕ) where
  refuses : settled f d (attention profile options (document_in f s d) (events_in f s d e)) (length out) ≡ refusing n p →
      (r : Answer) (out' : List ℕ) → r ≡ Err (record { number = n; place = p }) → out' ≡ onto (bytes_written f (refusing n p)) out →
      Made profile f s d e options out r out'
  refuses q r out' er eo =
      record {
        answer = er ∙ sym (ap (λ (o : Outcome). answer_at profile options (document_in f s d) (events_in f s d e) o) q);
        output = eo ∙ sym (ap (λ (o : Outcome). onto (bytes_written f o) out) q);
      }

-- the last step
module _ {profile : Profile} {f : Form} {s : List ℕ} {d e options n groups tried : ℕ} {w out out' : List ℕ}
    (m : Matched profile f s d e options n groups tried w) {written : Result ℕ Refusal} (en : Ended profile f s d e options out written out') where
  -- the answer is the matching's numbers beside what is written
  finished : (r : Answer) → ((o : Outcome) → written ≡ count_written o → r ≡ answer_at profile options (document_in f s d) (events_in f s d e) o) →
      Made profile f s d e options out r out'
  finished r h =
      let u = unoffended profile f s d e options (length out) m.none_offends in
      record {
        answer = h (result_of profile f s d e options (length out)) en.answer ∙ sym (ap (λ (o : Outcome). answer_at profile options (document_in f s d) (events_in f s d e) o) u);
        output = en.output ∙ sym (ap (λ (o : Outcome). onto (bytes_written f o) out) u);
      }

  pub finished_refused : (x : Refusal) → written ≡ Err x → Made profile f s d e options out (Err x) out'
  finished_refused x q = finished (Err x) go
    where
      go : (o : Outcome) → written ≡ count_written o → Err x ≡ answer_at profile options (document_in f s d) (events_in f s d e) o
      go (accepted es) p = let z : ◌≡◌ {A = ℕ} 0 1 = cc in absurd (omega arith)
      go (refused y) p = let z : x ≡ y = cc in rw z

  pub finished_written : (events : ℕ) → written ≡ Ok events → Made profile f s d e options out (resolved events groups tried) out'
  finished_written events q = finished (resolved events groups tried) go
    where
      go : (o : Outcome) → written ≡ count_written o → resolved events groups tried ≡ answer_at profile options (document_in f s d) (events_in f s d e) o
      go (refused y) p = let z : ◌≡◌ {A = ℕ} 0 1 = cc in absurd (omega arith)
      go (accepted es) p =
          let g : groups ≡ length (matching profile options (document_in f s d) (events_in f s d e)).groups = m.made.made in
          let t : tried ≡ (matching profile options (document_in f s d) (events_in f s d e)).tried = m.made.count in
          let z : events ≡ length es = cc in
          rw (z, g, t)

-- the matcher's answer, by its case
of_groups : (rule : Rule) (rs : List Standing) (n : ℕ) (x : Groups) (found : Result Groups TooMany) (w : List ℕ) → found ≡ Ok x → Matching rule rs n found w →
    GroupsOf (plain rule rs) n x.groups x.tried w
of_groups rule rs n x found w q a = rw q at a

of_many : (rule : Rule) (rs : List Standing) (n : ℕ) {x : TooMany} (found : Result Groups TooMany) (w : List ℕ) → found ≡ Err x → Matching rule rs n found w → 1000 < length (plain rule rs).groups
of_many rule rs n {x} found w q a = rw q at a

-- the matcher goes by the crate's rule
pub by_crate : (options : ℕ) {n : ℕ} {w w' : List ℕ} {single : Bool} {found : Result Groups TooMany} → single ≡ option_on options 4 → Answers (rule_for single) w n found w' →
    Answers (crate.rule options) w n found w'
by_crate options q a = rw q at a

-- the runs in their slots, the chains emptied, and what the matcher then answers
module _ {profile : Profile} {f : Form} {s : List ℕ} {d e options n : ℕ} {w w' : List ℕ} (g : GoodIn f s d e) (room : Room w)
    (l : Ready profile (document_in f s d) (events_in f s d e) options n w) (c : Cleared w 6147 w') where
  pub begun : Begun w' n
  begun = record { runs = begin profile options (document_in f s d) (events_in f s d e); fresh = begins room l c }

  module _ (found : Result Groups TooMany) (w'' : List ℕ) (a : Answers (profile.rule options) w' n found w'') where
    answered : Matching (profile.rule options) (begin profile options (document_in f s d) (events_in f s d e)) n found w''
    answered = a.of (begin profile options (document_in f s d) (events_in f s d e)) (begins room l c)

    pub matched : (x : Groups) → found ≡ Ok x → length w'' ≡ length w' → Matched profile f s d e options n x.groups x.tried w''
    unfolding matching
    matched x q k =
        let same = c.same_length in
        record {
          good = g;
          none_offends = l.none_offends;
          count = l.count;
          few = l.few;
          room = omega arith;
          made = of_groups (profile.rule options) (begin profile options (document_in f s d) (events_in f s d e)) n x found w'' q answered;
        }

    -- more than 1,000 groups make more than 8,000 events
    pub too_many : {x : TooMany} → found ≡ Err x → (out : List ℕ) (r : Answer) → r ≡ Err (record { number = 7; place = 0 }) → Made profile f s d e options out r out
    unfolding matching onto
    too_many {x} q out r er =
        let many : 1000 < length (matching profile options (document_in f s d) (events_in f s d e)).groups =
        of_many (profile.rule options) (begin profile options (document_in f s d) (events_in f s d e)) n found w'' q answered in
        let long = many_groups_too_long profile options (document_in f s d) (events_in f s d e) many in
        let size = size_of_output profile options (document_in f s d) (events_in f s d e) 64 (accepted_record options g l.none_offends) in
        refuses profile f s d e options out 7 0
        (unoffended profile f s d e options (length out) l.none_offends ∙ sized_long f _ _ (omega arith)) r out er refl

-- the load pass found an offender
module _ {profile : Profile} {f : Form} {s : List ℕ} {d e options : ℕ} {w w' : List ℕ} {loaded : Result ℕ Offender} (l : Loads profile f s d e options w loaded w') where
  pub offender_low : (x : Offender) → loaded ≡ Err x → x.event < e
  unfolding events_in
  offender_low x q =
      let o = earliest_offender (document_in f s d) options (events_in f s d e) x.event (l.offends x.event q) in
      omega (arith, o.0.within, length_events f.width e s (8 + f.front + d))

  pub offended_call : (x : Offender) (place : ℕ) → loaded ≡ Err x → place ≡ place_in f d x.event → (out : List ℕ) (r : Answer) → r ≡ Err (record { number = 6; place = place }) →
      Made profile f s d e options out r out
  unfolding onto
  offended_call x place q p out r er =
      refuses profile f s d e options out 6 place (offended profile f s d e options (length out) x.event (l.offends x.event q) ∙ ap (λ (at : ℕ). refusing 6 at) (sym p)) r out er refl

-- the whole call
module _ (profile : Profile) (h : Handed) (s : List ℕ) (works : ℕ) (out : List ℕ) where
  pub refused_call : (r : Refusal) → admitted h s works ≡ Err r →
      Answered (form_of h) (outcome_of profile h s (length out) works) (answer_of profile h s) out (Err r) out
  unfolding outcome_of onto
  refused_call r q =
      record {
        answer = rw q;
        output = rw q;
      }

  pub good_call : (d e : ℕ) (f : Form) (options : ℕ) (r : Answer) (out' : List ℕ) → admitted h s works ≡ accept d e → f ≡ form_of h → options ≡ options_of h s →
      Made profile f s d e options out r out' → Answered (form_of h) (outcome_of profile h s (length out) works) (answer_of profile h s) out r out'
  unfolding outcome_of
  good_call d e f options r out' q ef eo made =
      let m : Made profile (form_of h) s d e (options_of h s) out r out' = rw (ef, eo) at made in
      let g = (admission h s works d e q).good in
      let dc : document_count_in (form_of h) s ≡ d = g.document_count in
      let ec : u32_at s (4 + (form_of h).front + document_count_in (form_of h) s) ≡ e = ap (λ (x : ℕ). u32_at s (4 + (form_of h).front + x)) dc ∙ g.event_count in
      record {
        answer = rw (q, ec, dc) m.answer;
        output = rw q m.output;
      }
