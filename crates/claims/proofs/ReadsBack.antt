-- What the calls write reads back: from the claims of the calls, the soundness of what each writes, and the laws of bytes.
-- Assumes nothing.
use Prim.Native.Nat.{ℕ, zero, suc, ◌+◌, ◌*◌, ◌<◌, ◌≤◌}
use native.Mathlib.Omega.{arith}
use mathlib.Core.Path.{◌≡◌, refl, sym, ap, ◌∙◌}
use mathlib.Core.Bool.{Bool, true, false}
use mathlib.Core.Logic.{◌⊎◌, inl}
use mathlib.Core.List.{List, [], ◌∷◌, ◌++◌}
use lib.ListN.{length, get_or, take}
use Rattle.std.specs.Prelude.{Ok, Err, None, Some}
use Rattle.record.specs.Form.{old}
use Rattle.record.specs.Handed.{form_of, options_of}
use Rattle.record.specs.Choice.{choose}
use Rattle.record.specs.Event.{section_bytes, section_at, section_at_in, document_in, events_in}
use Rattle.record.specs.Check.{admitted, accept}
use Rattle.record.specs.Rows.{Row, document_count_in, event_count_in}
use Rattle.record.specs.Sound.{sound}
use Rattle.record.specs.ReadsBack.{Holdable, AreBytes}
use Rattle.partners.specs.Laws.{partner_of}
use Rattle.partners.specs.Records.{SectionThere, With, RecordThere}
use Rattle.partners.proofs.Laid.{two_widths}
use Rattle.partners.proofs.Written.{section_narrow, length_section_in}
use Rattle.partners.proofs.SectionReadsBack.{section_onto}
use Rattle.partners.proofs.Records.{record_reads_back}
use Rattle.partners.proofs.Rewritten.{good_is_rewritten}
use Rattle.record.specs.Written.{WrittenRow, by_check, row_7}
use Rattle.record.specs.Outcome.{Resolution, gives, onto}
use Rattle.record.specs.Partners.{section_in, record_in}
use Rattle.record.specs.declared.event.Event.{Event}
use Rattle.record.specs.declared.form.Form.{Form}
use Rattle.record.specs.declared.form.Handed.{Handed}
use Rattle.record.specs.declared.form.Handed.TheVariants.{Old, Second}
use Rattle.record.proofs.Exactly.{exactly}
use Rattle.record.proofs.Good.{admission}
use Rattle.record.proofs.Whole.{enough_work}
use Rattle.record.proofs.ReadsBack.{sound_storable}
use Rattle.record.proofs.Rewritten.{good_holdable}
use Rattle.record.proofs.Depth.{sound_shallow, sound_deeper}
use Rattle.scan.specs.Line.{end_of, line_of}
use Rattle.scan.specs.Rows.{row_3, row_4}
use Rattle.atx.specs.Rows.{WritingRow, reading, row_7 as heading-row-7}
use Rattle.atx.specs.Heading.{is_heading, heading_events, headed_of, Headed}
use Rattle.atx.proofs.Covering.{heading_lawful}
use Rattle.ledgerlark.specs.Answers.{lark_reading, lark_reading2, lark_headed, HeadedAs}
use Rattle.ledgerlark.specs.declared.resolve.LarkReading2.{LarkReading2}
use Rattle.ledgerlark.specs.declared.resolve.LarkResolved.{LarkResolved}
use Rattle.ledgerlark.specs.declared.line.LarkHeaded.{LarkHeaded}
use Rattle.claims.specs.Records.{doc_of, Accepts}
use Rattle.claims.specs.Lines.{headed_found}
use Rattle.claims.specs.ReadsBack.{ReaderAccepts, ReadAgainInEither, IsRecord, AcceptedIsRecord, AcceptedIsRecord2, ResolvedReadsBack, AttentionReadsBack, HeadingsReadBack, ListsReadBack, HeadingReadsBack}
use Rattle.claims.proofs.Records.{at_most, seam, no_row_sound, reading_claim, reading2_claim, attention_claim, headings_claim, lists_claim}
use Rattle.claims.proofs.Lines.{heading_claim}
use Rattle.claims.proofs.Accepted.{accepted_attention, accepted_headings, accepted_lists}

-- a sound section that stands at the front of an output
section_there : (f : Form) → (f.width ≡ 8) ⊎ (f.width ≡ 12) → (es : List Event) (out out' : List ℕ) → length es < 4294967296 → (deep d : ℕ) → sound deep d es ≡ true →
    d < 4294967296 → out' ≡ onto (section_in f es) out → SectionThere f out' 0 es
section_there f w es out out' n deep d q h e = section_onto f w es out out' n (sound_storable deep d 0 [] es q h) e

reader_accepts : (h : Handed) (s : List ℕ) (d e : ℕ) → ((works : ℕ) → 65536 ≤ works → admitted h s works ≡ accept d e) → ReaderAccepts h s d e
reader_accepts (Old options) s d e good = λ work r work' hw a. a.answer ∙ ap lark_reading (good (length work) hw)
reader_accepts Second s d e good = λ work r work' hw a. a.answer ∙ ap (lark_reading2 (options_of Second s)) (good (length work) hw)

-- what a record may hold is read again
pub admitted_again : (document : List ℕ) (es : List Event) → Holdable document es → (h : Handed) (options : ℕ) → With h options → options ≤ 63 → (works : ℕ) →
    65536 ≤ works → admitted h (record_in (form_of h) options document es) works ≡ accept (length document) (length es)
admitted_again document es holds h options o ho works hw =
    sym (enough_work h (record_in (form_of h) options document es) works hw) ∙ (record_reads_back h options document es o ho holds).good

again : (document : List ℕ) (es : List Event) → Holdable document es → ReadAgainInEither document es
again document es holds h options o ho =
    let s : List ℕ = record_in (form_of h) options document es in
    let t : RecordThere h options s document es = record_reads_back h options document es o ho holds in
    let good : (works : ℕ) → 65536 ≤ works → admitted h s works ≡ accept (length document) (length es) = admitted_again document es holds h options o ho in
    let g = (admission h s 65536 (length document) (length es) (good 65536 (omega arith))).good in
    let d : document_count_in (form_of h) s ≡ length document = g.document_count in
    let e : event_count_in (form_of h) s ≡ length es = rw (sym d) at g.event_count in
    record {
      accepted = reader_accepts h s (length document) (length es) good;
      its_options = t.its_options;
      its_document = ap (λ (n : ℕ). document_in (form_of h) s n) d ∙ t.its_document;
      its_events =
          ap (λ (n : ℕ). events_in (form_of h) s n (event_count_in (form_of h) s)) d
          ∙ ap (λ (n : ℕ). events_in (form_of h) s (length document) n) e
          ∙ t.its_events;
    }

-- a record that is admitted is the bytes of what is read from it
is_record : (h : Handed) (s : List ℕ) (works : ℕ) → AreBytes s → ((n p : ℕ) → Row h s works n p → ⊥) → IsRecord h (options_of h s) s
is_record h s works b none =
    let good = (exactly h s works).accepted none in
    let memory = (admission h s works (document_count_in (form_of h) s) (event_count_in (form_of h) s) good).memory in
    let w = good_is_rewritten h s (document_count_in (form_of h) s) (event_count_in (form_of h) s) b (enough_work h s works memory ∙ good) in
    record { same = w.same; holdable = w.holdable }

pub accepted_is_record : AcceptedIsRecord
accepted_is_record s options work r work' p z b =
    is_record (Old options) s (length work) b (((reading_claim s options).exactly work r work' p).none_holds z)

pub accepted_is_record2 : AcceptedIsRecord2
accepted_is_record2 s work r work' p z b =
    let c = reading2_claim s in
    let e : r.options ≡ options_of Second s = ap (λ (x : LarkReading2). x.options) (c.accepts work r work' p z) in
    rw e (is_record Second s (length work) b ((c.exactly work r work' p).none_holds z))

-- the front of the record and the section of the output, as they stand
in_memory : (h : Handed) (s : List ℕ) (works d e : ℕ) (es : List Event) (out out' : List ℕ) (n : ℕ) → AreBytes s → admitted h s works ≡ accept d e →
    65536 ≤ works → n ≡ length es → out' ≡ onto (section_in (form_of h) es) out →
    take (4 + (form_of h).front + d) s ++ take (4 + (form_of h).width * n) out' ≡ record_in (form_of h) (options_of h s) (document_in (form_of h) s d) es
in_memory h s works d e es out out' n b good hw k w =
    let size : 4 + (form_of h).width * n ≡ length (section_in (form_of h) es) = ap (λ (m : ℕ). 4 + (form_of h).width * m) k ∙ sym (length_section_in (form_of h) es (two_widths h)) in
    ap (λ (m : ℕ). take (4 + (form_of h).front + d) s ++ take m out') size
    ∙ ap (λ (l : List ℕ). take (4 + (form_of h).front + d) s ++ l) (seam (section_in (form_of h) es) out out' w).0
    ∙ (good_is_rewritten h s d e b (enough_work h s works hw ∙ good)).other_events es

-- the three resolvers, once: a sound section is written over a record that no row refuses
resolved_back : {made : Resolution} {groups tried works outs : ℕ} {Offends : ℕ → Type 0} (h : Handed) (s out : List ℕ) (r : LarkResolved) (out' : List ℕ) (deep : ℕ)
    (a : Accepts (form_of h) made groups tried out r out') → ((n p : ℕ) → WrittenRow h s works Offends made outs n p → ⊥) →
    sound deep (document_count_in (form_of h) s) a.events ≡ true → ResolvedReadsBack h made s r out'
resolved_back {works = works} h s out r out' deep a none q =
    let good : admitted h s works ≡ accept (document_count_in (form_of h) s) (event_count_in (form_of h) s) = (exactly h s works).accepted (λ n p x. none n p (by_check x)) in
    let found = admission h s works (document_count_in (form_of h) s) (event_count_in (form_of h) s) good in
    let g = found.good in
    let small : document_count_in (form_of h) s ≤ 16384 = g.small in
    let long : length (doc_of h s) ≡ document_count_in (form_of h) s = (no_row_sound h s works (λ n p x. none n p (by_check x))).0 in
    let few : length a.events ≤ 8000 = at_most (length a.events) 8000 (λ l. none 7 0 (row_7 a.events a.made_so l refl refl)) in
    let t = section_there (form_of h) (two_widths h) a.events out out' (omega arith) deep (document_count_in (form_of h) s) q (omega arith) a.written in
    let same : section_at_in (form_of h) out' 0 ≡ a.events = t.all in
    let count : r.events ≡ length a.events = ap (λ (x : LarkResolved). x.events) a.answer in
    let holds = good_holdable (form_of h) s (document_count_in (form_of h) s) (event_count_in (form_of h) s) g in
    record {
      events = a.made_so ∙ ap gives (sym same);
      count = t.count ∙ sym count;
      mates = λ wide k l. t.mates wide k (rw count at l) ∙ ap (λ (es : List Event). partner_of es k) (sym same);
      in_memory = λ b.
          in_memory h s works (document_count_in (form_of h) s) (event_count_in (form_of h) s) a.events out out' r.events b good found.memory count a.written
          ∙ ap (λ (es : List Event). record_in (form_of h) (options_of h s) (doc_of h s) es) (sym same);
      again = λ few depth.
          again (doc_of h s) (section_at_in (form_of h) out' 0)
          (record {
            small = holds.small;
            no_return = holds.no_return;
            few = rw (same, ← count) few;
            sound_events = rw (same, long) (sound_shallow 64 deep (document_count_in (form_of h) s) a.events q (rw same at depth));
          });
    }

pub attention_reads_back : AttentionReadsBack
attention_reads_back profile h s out work r out' work' p z =
    let n = accepted_attention profile h s out work r out' work' p z in
    resolved_back h s out r out' (length n.accepted.events) n.accepted (((attention_claim profile h s).exactly out work r out' work' p).none_holds z) n.nests

pub headings_read_back : HeadingsReadBack
headings_read_back h s out work r out' work' p z =
    let n = accepted_headings h s out work r out' work' p z in
    resolved_back h s out r out' 65 n.accepted (((headings_claim h s).exactly out work r out' work' p).none_holds z) n.nests

pub lists_read_back : ListsReadBack
lists_read_back h s out work r out' work' p z =
    let n = accepted_lists h s out work r out' work' p z in
    resolved_back h s out r out' 128 n.accepted (((lists_claim h s).exactly out work r out' work' p).none_holds z) n.nests

-- the heading reader: what is found has number 0, and is a heading
found_zero : (a : Headed) → (lark_headed a).found ≡ 1 → (lark_headed a).number ≡ 0
found_zero (Ok (Some events)) q = refl
found_zero (Ok None) q = refl
found_zero (Err x) q = absurd (omega arith)

found_heading : (b : Bool) (n : ℕ) → (headed_found (choose b (Ok (Some n)) (Ok None))).found ≡ 1 → b ≡ true
unfolding choose
found_heading true n q = refl
found_heading false n q = absurd (omega arith)

-- the bytes of a line are bytes of what it was taken from
front_byte : (n : ℕ) (l : List ℕ) (k : ℕ) → k < length (take n l) → (k < length l) × (get_or (take n l) k 0 ≡ get_or l k 0)
front_byte zero l k h = absurd (omega arith)
front_byte (suc n) [] k h = absurd (omega arith)
front_byte (suc n) (x ∷ l) zero h = (omega arith, refl)
front_byte (suc n) (x ∷ l) (suc k) h =
    let t = front_byte n l k (omega arith) in
    let g : k < length l = t.0 in
    (omega arith, t.1)

front_short : (n : ℕ) (l : List ℕ) → length (take n l) ≤ length l
front_short zero l = omega arith
front_short (suc n) [] = omega arith
front_short (suc n) (x ∷ l) = let h : length (take n l) ≤ length l = front_short n l in omega arith

line_holds : (s : List ℕ) (es : List Event) → length s ≤ 16384 → ((p : ℕ) → p < length s → get_or s p 0 ≡ 13 → ⊥) → length es ≤ 2048 →
    sound 64 (length (line_of s)) es ≡ true → Holdable (line_of s) es
unfolding line_of
line_holds s es h none few q =
    let short : length (take (end_of s) s) ≤ length s = front_short (end_of s) s in
    record {
      small = omega arith;
      no_return = λ k g e. let t = front_byte (end_of s) s k g in none k t.0 (sym t.1 ∙ e);
      few = few;
      sound_events = q;
    }

line_short : (s : List ℕ) → length (line_of s) ≤ length s
unfolding line_of
line_short s = front_short (end_of s) s

-- what the heading reader finds where it answers 1
module _ (s : List ℕ) (options column : ℕ) (out : List ℕ) (r : LarkHeaded) (out' : List ℕ) (p : HeadedAs s options column out r out') (z : r.found ≡ 1) where
  unrefused : (n q : ℕ) → WritingRow s options column (length out) n q → ⊥
  unrefused =
      ((heading_claim s options column).exactly out r out' p).none_holds
      (ap (λ (x : LarkHeaded). x.number) p.answer
      ∙ found_zero (headed_of s options column (length out)).answer (sym (ap (λ (x : LarkHeaded). x.found) p.answer) ∙ z))

  pub heading_found : is_heading (line_of s) options column ≡ true
  heading_found =
      found_heading (is_heading (line_of s) options column) (length (heading_events (line_of s)))
      (sym (ap (λ (x : LarkHeaded). x.found) ((heading_claim s options column).finds out r out' p unrefused).0) ∙ z)

  few_found : length (heading_events (line_of s)) ≤ 8000
  few_found =
      at_most (length (heading_events (line_of s))) 8000 (λ h. unrefused 7 0 (heading-row-7 heading_found h refl refl))

  line_small : length s ≤ 16384
  line_small = at_most (length s) 16384 (λ h. unrefused 3 16384 (reading (row_3 h refl refl)))

  count_found : r.events ≡ length (heading_events (line_of s))
  unfolding choose
  count_found = ap (λ (x : LarkHeaded). x.events) (rw heading_found at ((heading_claim s options column).finds out r out' p unrefused).0)

  section_found : SectionThere old out' 0 (heading_events (line_of s))
  unfolding choose
  section_found =
      let short : length (line_of s) ≤ length s = line_short s in
      let written : out' ≡ onto (section_bytes (heading_events (line_of s))) out = rw heading_found at ((heading_claim s options column).finds out r out' p unrefused).1 in
      section_there old (inl refl) (heading_events (line_of s)) out out' (omega (arith, few_found)) 2 (length (line_of s)) (heading_lawful (line_of s)).balanced
      (omega (arith, line_small))
      (written ∙ ap (λ (l : List ℕ). onto l out) (sym (section_narrow old (heading_events (line_of s)) (omega arith))))

  pub heading_holds : r.events ≤ 2048 → Holdable (line_of s) (section_at out' 0)
  heading_holds n =
      rw section_found.all
      (line_holds s (heading_events (line_of s)) line_small (λ k h e. unrefused 4 k (reading (row_4 h e refl))) (rw count_found at n)
      (sound_deeper 2 64 (length (line_of s)) 0 [] (heading_events (line_of s)) (omega arith) (heading_lawful (line_of s)).balanced))

pub heading_reads_back : HeadingReadsBack
heading_reads_back s options column out r out' p z =
    record {
      events = (section_found s options column out r out' p z).all;
      count = (section_found s options column out r out' p z).count ∙ sym (count_found s options column out r out' p z);
      again = λ n. again (line_of s) (section_at out' 0) (heading_holds s options column out r out' p z n);
    }
