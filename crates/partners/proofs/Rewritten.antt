-- A good record, in either form, is the bytes of the options, the document and the events that are read from it. Where events have twelve bytes, the numbers
-- behind them are their partners, since the check asked that.
-- Assumes nothing.
use mathlib.Core.Path.{◌≡◌, refl, sym, ap, ◌∙◌}
use mathlib.Core.Logic.{◌⊎◌, inl, inr}
use mathlib.Core.List.{List, ◌++◌, append-nil, append_assoc}
use Prim.Native.Nat.{ℕ, zero, suc, ◌+◌, ◌*◌, ◌≤◌, ◌<◌}
use native.Mathlib.Omega.{arith}
use lib.ListN.{length, take, drop, length-append, drop_of_length-le}
use lib.Seq.{drop-cons, take_at}
use Rattle.record.specs.Bytes.{u32_at, u32_bytes}
use Rattle.record.specs.Choice.{choose}
use Rattle.record.specs.Event.{event_at, events_by, stored_at, bytes_of, flat, section_bytes, document_in, events_in}
use Rattle.record.specs.Good.{GoodIn}
use Rattle.record.specs.Handed.{form_of, options_of}
use Rattle.record.specs.Partners.{flat_with, flat_linked, section_in, front_in, record_in}
use Rattle.record.specs.ReadsBack.{AreBytes}
use Rattle.record.specs.declared.form.Form.{Form}
use Rattle.record.specs.declared.form.Handed.{Handed}
use Rattle.record.specs.declared.form.Handed.TheVariants.{Old, Second}
use Rattle.record.proofs.Good.{FrontGood, admission}
use Rattle.record.proofs.Parts.{length_events, length_document}
use Rattle.record.proofs.Rewritten.{number_rewritten, event_rewritten, document_rewritten, good_holdable}
use Rattle.record.proofs.Whole.{enough_work}
use Rattle.partners.specs.Fields.{fields_by}
use Rattle.partners.specs.Records.{GoodIsRewritten}
use Rattle.partners.proofs.Carried.{carried}
use Rattle.partners.proofs.Laid.{two_widths, length_front}
use Rattle.partners.proofs.Written.{section_narrow, section_wide}

-- the two bytes that have to be zero, of events that stand a width apart, and of all but the first of them
first_zeros : (w n : ℕ) (s : List ℕ) (at : ℕ) → ((k : ℕ) → k < suc n → (stored_at s (at + w * k)).zeros ≡ 0) → (stored_at s at).zeros ≡ 0
first_zeros w n s at z =
    let y : at + w * 0 ≡ at = omega arith in
    ap (λ (m : ℕ). (stored_at s m).zeros) (sym y) ∙ z 0 (omega arith)

later_zeros : (w n : ℕ) (s : List ℕ) (at : ℕ) → ((k : ℕ) → k < suc n → (stored_at s (at + w * k)).zeros ≡ 0) →
    (k : ℕ) → k < n → (stored_at s (at + w + w * k)).zeros ≡ 0
later_zeros w n s at z k g =
    let x : at + w + w * k ≡ at + w * suc k = omega arith in
    ap (λ (m : ℕ). (stored_at s m).zeros) x ∙ z (suc k) (omega arith)

-- events of eight bytes
flat_rewritten : (n : ℕ) (s : List ℕ) (at : ℕ) → AreBytes s → at + 8 * n ≤ length s → ((k : ℕ) → k < n → (stored_at s (at + 8 * k)).zeros ≡ 0) →
    drop at s ≡ flat (events_by 8 n s at) ++ drop (at + 8 * n) s
unfolding flat events_by
flat_rewritten zero s at b h z =
    let y : at ≡ at + 8 * 0 = omega arith in
    ap (λ (m : ℕ). drop m s) y
flat_rewritten (suc n) s at b h z =
    let x : at + 8 + 8 * n ≡ at + 8 * suc n = omega arith in
    event_rewritten s at b (omega arith) (first_zeros 8 n s at z)
    ∙ ap (λ (l : List ℕ). bytes_of (event_at s at) ++ l) (flat_rewritten n s (at + 8) b (omega arith) (later_zeros 8 n s at z))
    ∙ ap (λ (m : ℕ). bytes_of (event_at s at) ++ (flat (events_by 8 n s (at + 8)) ++ drop m s)) x

-- events of twelve bytes, each with the number behind it
with_rewritten : (n : ℕ) (s : List ℕ) (at : ℕ) → AreBytes s → at + 12 * n ≤ length s → ((k : ℕ) → k < n → (stored_at s (at + 12 * k)).zeros ≡ 0) →
    drop at s ≡ flat_with (events_by 12 n s at) (fields_by 12 n s at) ++ drop (at + 12 * n) s
unfolding flat_with events_by fields_by
with_rewritten zero s at b h z =
    let y : at ≡ at + 12 * 0 = omega arith in
    ap (λ (m : ℕ). drop m s) y
with_rewritten (suc n) s at b h z =
    let x : at + 12 + 12 * n ≡ at + 12 * suc n = omega arith in
    let y : at + 8 + 4 ≡ at + 12 = omega arith in
    let one : List ℕ = bytes_of (event_at s at) in
    let number : List ℕ = u32_bytes (u32_at s (at + 8)) in
    event_rewritten s at b (omega arith) (first_zeros 12 n s at z)
    ∙ ap (λ (l : List ℕ). one ++ l) (number_rewritten s (at + 8) b (omega arith))
    ∙ ap (λ (m : ℕ). one ++ (number ++ drop m s)) y
    ∙ ap (λ (l : List ℕ). one ++ (number ++ l)) (with_rewritten n s (at + 12) b (omega arith) (later_zeros 12 n s at z))
    ∙ ap (λ (m : ℕ). one ++ (number ++ (flat_with (events_by 12 n s (at + 12)) (fields_by 12 n s (at + 12)) ++ drop m s))) x

-- a good record of one of the two widths
module _ (f : Form) (s : List ℕ) (d e : ℕ) (b : AreBytes s) (g : GoodIn f s d e) where
  -- its events, and nothing behind them
  narrow_events : f.width ≡ 8 → drop (8 + f.front + d) s ≡ flat (events_by f.width e s (8 + f.front + d))
  narrow_events w =
      let long : length s ≡ 8 + f.front + d + f.width * e = g.whole in
      let end : 8 + f.front + d + 8 * e ≡ 8 + f.front + d + f.width * e = ap (λ (x : ℕ). 8 + f.front + d + x * e) (sym w) in
      let zeros : (k : ℕ) → k < e → (stored_at s (8 + f.front + d + 8 * k)).zeros ≡ 0 = rw w at g.zero_bytes in
      flat_rewritten e s (8 + f.front + d) b (omega arith) zeros
      ∙ ap (λ (l : List ℕ). flat (events_by 8 e s (8 + f.front + d)) ++ l) (drop_of_length-le s {i = 8 + f.front + d + 8 * e} (omega arith))
      ∙ append-nil (flat (events_by 8 e s (8 + f.front + d)))
      ∙ ap (λ (x : ℕ). flat (events_by x e s (8 + f.front + d))) (sym w)

  wide_events : f.width ≡ 12 → drop (8 + f.front + d) s ≡ flat_linked (events_by f.width e s (8 + f.front + d))
  unfolding flat_linked events_in
  wide_events w =
      let long : length s ≡ 8 + f.front + d + f.width * e = g.whole in
      let end : 8 + f.front + d + 12 * e ≡ 8 + f.front + d + f.width * e = ap (λ (x : ℕ). 8 + f.front + d + x * e) (sym w) in
      let zeros : (k : ℕ) → k < e → (stored_at s (8 + f.front + d + 12 * k)).zeros ≡ 0 = rw w at g.zero_bytes in
      with_rewritten e s (8 + f.front + d) b (omega arith) zeros
      ∙ ap (λ (l : List ℕ). flat_with (events_by 12 e s (8 + f.front + d)) (fields_by 12 e s (8 + f.front + d)) ++ l)
      (drop_of_length-le s {i = 8 + f.front + d + 12 * e} (omega arith))
      ∙ append-nil (flat_with (events_by 12 e s (8 + f.front + d)) (fields_by 12 e s (8 + f.front + d)))
      ∙ ap (λ (x : ℕ). flat_with (events_by x e s (8 + f.front + d)) (fields_by x e s (8 + f.front + d))) (sym w)
      ∙ ap (λ (ps : List ℕ). flat_with (events_by f.width e s (8 + f.front + d)) ps) (carried f s d e (omega arith) g)

  -- the events' count, and the events
  counted : drop (4 + f.front + d) s ≡ u32_bytes (length (events_by f.width e s (8 + f.front + d))) ++ drop (8 + f.front + d) s
  counted =
      let long : length s ≡ 8 + f.front + d + f.width * e = g.whole in
      let at : 4 + f.front + d + 4 ≡ 8 + f.front + d = omega arith in
      let count : u32_at s (4 + f.front + d) ≡ length (events_by f.width e s (8 + f.front + d)) =
      g.event_count ∙ sym (length_events f.width e s (8 + f.front + d)) in
      number_rewritten s (4 + f.front + d) b (omega arith)
      ∙ ap (λ (m : ℕ). u32_bytes (u32_at s (4 + f.front + d)) ++ drop m s) at
      ∙ ap (λ (n : ℕ). u32_bytes n ++ drop (8 + f.front + d) s) count

  section_rewritten : (f.width ≡ 8) ⊎ (f.width ≡ 12) → drop (4 + f.front + d) s ≡ section_in f (events_in f s d e)
  unfolding section_bytes events_in
  section_rewritten (inl w) =
      counted
      ∙ ap (λ (l : List ℕ). u32_bytes (length (events_by f.width e s (8 + f.front + d))) ++ l) (narrow_events w)
      ∙ sym (section_narrow f (events_by f.width e s (8 + f.front + d)) (omega arith))
  section_rewritten (inr w) =
      counted
      ∙ ap (λ (l : List ℕ). u32_bytes (length (events_by f.width e s (8 + f.front + d))) ++ l) (wide_events w)
      ∙ sym (section_wide f (events_by f.width e s (8 + f.front + d)) (omega arith))

-- what stands before the document's count
front_rewritten : (h : Handed) (s : List ℕ) → AreBytes s → FrontGood h s → s ≡ front_in (form_of h) (options_of h s) ++ drop (form_of h).front s
unfolding front_in choose
front_rewritten (Old options) s b g = refl
front_rewritten Second s b g =
    let long : 5 ≤ length s = g.0 in
    number_rewritten s 0 b (omega arith)
    ∙ ap (λ (n : ℕ). u32_bytes n ++ drop 4 s) g.1
    ∙ ap (λ (l : List ℕ). u32_bytes 1 ++ l) (drop-cons s 4 0 (omega arith))

-- all that stands before the events' count
module _ (h : Handed) (s : List ℕ) (d e : ℕ) (b : AreBytes s) (front : FrontGood h s) (g : GoodIn (form_of h) s d e) where
  pub before_rewritten : s
      ≡ (front_in (form_of h) (options_of h s) ++ (u32_bytes (length (document_in (form_of h) s d)) ++ document_in (form_of h) s d))
      ++ drop (4 + (form_of h).front + d) s
  before_rewritten =
      let f : Form = form_of h in
      let long : length s ≡ 8 + (form_of h).front + d + (form_of h).width * e = g.whole in
      let n : length (document_in (form_of h) s d) ≡ d = length_document (form_of h) s d (omega arith) in
      front_rewritten h s b front
      ∙ ap (λ (l : List ℕ). front_in f (options_of h s) ++ l) (document_rewritten f s d b (omega arith) g.document_count)
      ∙ ap (λ (m : ℕ). front_in f (options_of h s) ++ (u32_bytes m ++ (document_in f s d ++ drop (4 + f.front + d) s))) (sym n)
      ∙ sym (append_assoc (front_in f (options_of h s)) (u32_bytes (length (document_in f s d)) ++ document_in f s d) (drop (4 + f.front + d) s))

  -- and it is so long
  pub before_taken : take (4 + (form_of h).front + d) s
      ≡ front_in (form_of h) (options_of h s) ++ (u32_bytes (length (document_in (form_of h) s d)) ++ document_in (form_of h) s d)
  before_taken =
      let f : Form = form_of h in
      let long : length s ≡ 8 + (form_of h).front + d + (form_of h).width * e = g.whole in
      let n : length (document_in (form_of h) s d) ≡ d = length_document (form_of h) s d (omega arith) in
      let m : length (front_in (form_of h) (options_of h s)) ≡ (form_of h).front = length_front h (options_of h s) in
      let front : List ℕ = front_in (form_of h) (options_of h s) in
      let document : List ℕ = u32_bytes (length (document_in (form_of h) s d)) ++ document_in (form_of h) s d in
      ap (λ (l : List ℕ). take (4 + f.front + d) l) before_rewritten
      ∙ take_at (front ++ document) (drop (4 + f.front + d) s) (4 + f.front + d)
      (omega (arith, length-append front document, length-append (u32_bytes (length (document_in (form_of h) s d))) (document_in (form_of h) s d)))

  -- with a section behind it, it is a record
  pub before_joined : (bs : List ℕ) →
      (front_in (form_of h) (options_of h s) ++ (u32_bytes (length (document_in (form_of h) s d)) ++ document_in (form_of h) s d)) ++ bs
      ≡ front_in (form_of h) (options_of h s) ++ (u32_bytes (length (document_in (form_of h) s d)) ++ (document_in (form_of h) s d ++ bs))
  before_joined bs = append_assoc (front_in (form_of h) (options_of h s)) (u32_bytes (length (document_in (form_of h) s d)) ++ document_in (form_of h) s d) bs

pub good_is_rewritten : GoodIsRewritten
unfolding record_in
good_is_rewritten h s d e b q =
    let a = admission h s 65536 d e (sym (enough_work h s 65536 (omega arith)) ∙ q) in
    let f : Form = form_of h in
    let front : List ℕ = front_in (form_of h) (options_of h s) ++ (u32_bytes (length (document_in (form_of h) s d)) ++ document_in (form_of h) s d) in
    record {
      same =
          before_rewritten h s d e b a.front a.good
          ∙ ap (λ (l : List ℕ). front ++ l) (section_rewritten f s d e b a.good (two_widths h))
          ∙ before_joined h s d e b a.front a.good (section_in f (events_in f s d e));
      options_known = a.options_known;
      holdable = good_holdable f s d e a.good;
      other_events = λ es.
          ap (λ (l : List ℕ). l ++ section_in f es) (before_taken h s d e b a.front a.good)
          ∙ before_joined h s d e b a.front a.good (section_in f es);
    }
