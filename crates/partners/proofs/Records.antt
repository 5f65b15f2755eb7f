-- A record made of a document and events that it may hold passes the check and reads back, and all of it is bytes. In either form.
-- Assumes nothing.
use mathlib.Core.Path.{◌≡◌, refl, ap, ◌∙◌}
use mathlib.Core.Bool.{Bool, true, false}
use mathlib.Core.List.{List, [], ◌∷◌, ◌++◌}
use Prim.Native.Nat.{ℕ, zero, suc, ◌≤◌}
use native.Mathlib.Omega.{arith}
use lib.ListN.{length}
use lib.Dec.{ltb}
use Rattle.record.specs.Bytes.{u32_bytes}
use Rattle.record.specs.Choice.{choose}
use Rattle.record.specs.Event.{bytes_of, flat, section_bytes, record_bytes}
use Rattle.record.specs.Handed.{form_of}
use Rattle.record.specs.Partners.{partners, flat_with, flat_linked, section_in, front_in, record_in}
use Rattle.record.specs.ReadsBack.{AreBytes}
use Rattle.record.specs.Sound.{sound_from}
use Rattle.record.specs.Stack.{after}
use Rattle.record.specs.declared.event.Event.{Event}
use Rattle.record.specs.declared.form.Form.{Form}
use Rattle.record.proofs.Soundness.{Stands, stands, sound_rest}
use Rattle.record.proofs.Whole.{enough_work}
use Rattle.partners.specs.EitherForm.{answer_in}
use Rattle.partners.specs.Records.{RecordReadsBack, OldRecord, RecordIsBytes}
use Rattle.partners.proofs.Found.{checked_in_either}
use Rattle.partners.proofs.Holdable.{writable, holdable_nothing}
use Rattle.partners.proofs.Laid.{laid_out, its_events, its_options}

pub record_reads_back : RecordReadsBack
record_reads_back h options document es o small holds =
    let l = laid_out h options document es (writable holds) in
    record {
      good =
          enough_work h (record_in (form_of h) options document es) 65536 (omega arith)
          ∙ checked_in_either h options document es 65536 o (writable holds)
          ∙ ap (answer_in (form_of h) (length document) (length es)) (holdable_nothing 65536 options document es (omega arith) small holds);
      its_options = its_options h options document es o;
      its_document = l.its_document;
      its_events = its_events l;
    }

pub old_record : OldRecord
unfolding record_in front_in section_in record_bytes choose
old_record options document es = refl

-- and all of it is bytes
bytes_joined : (xs ys : List ℕ) → AreBytes xs → AreBytes ys → AreBytes (xs ++ ys)
bytes_joined [] ys a b k h = b k h
bytes_joined (x ∷ xs) ys a b zero h = a 0 (omega arith)
bytes_joined (x ∷ xs) ys a b (suc k) h = bytes_joined xs ys (λ j g. a (suc j) (omega arith)) b k (omega arith)

bytes_chosen : (t : Bool) (xs ys : List ℕ) → AreBytes xs → AreBytes ys → AreBytes (choose t xs ys)
unfolding choose
bytes_chosen true xs ys a b = a
bytes_chosen false xs ys a b = b

number_is_bytes : (x : ℕ) → AreBytes (u32_bytes x)
number_is_bytes x zero h = omega arith
number_is_bytes x (suc zero) h = omega arith
number_is_bytes x (suc (suc zero)) h = omega arith
number_is_bytes x (suc (suc (suc zero))) h = omega arith
number_is_bytes x (suc (suc (suc (suc k)))) h = absurd (omega arith)

event_is_bytes : (deep d last : ℕ) (held : List ℕ) (e : Event) → Stands deep d last held e → AreBytes (bytes_of e)
event_is_bytes deep d last held e t zero h = let k : e.kind ≤ 1 = t.kind in omega arith
event_is_bytes deep d last held e t (suc zero) h = let n : e.name ≤ 24 = t.name in omega arith
event_is_bytes deep d last held e t (suc (suc zero)) h = omega arith
event_is_bytes deep d last held e t (suc (suc (suc zero))) h = omega arith
event_is_bytes deep d last held e t (suc (suc (suc (suc k)))) h = number_is_bytes e.place k (omega arith)

flat_is_bytes : (deep d last : ℕ) (held : List ℕ) (es : List Event) → sound_from deep d last held es ≡ true → AreBytes (flat es)
unfolding flat
flat_is_bytes deep d last held [] q k h = absurd (omega arith)
flat_is_bytes deep d last held (e ∷ es) q k h =
    bytes_joined (bytes_of e) (flat es) (event_is_bytes deep d last held e (stands deep d last held e es q))
    (flat_is_bytes deep d e.place (after e e.name held) es (sound_rest deep d last held e es q)) k h

with_is_bytes : (deep d last : ℕ) (held : List ℕ) (es : List Event) (ps : List ℕ) → sound_from deep d last held es ≡ true → AreBytes (flat_with es ps)
unfolding flat_with
with_is_bytes deep d last held [] ps q k h = absurd (omega arith)
with_is_bytes deep d last held (e ∷ es) [] q k h = absurd (omega arith)
with_is_bytes deep d last held (e ∷ es) (p ∷ ps) q k h =
    bytes_joined (bytes_of e) (u32_bytes p ++ flat_with es ps) (event_is_bytes deep d last held e (stands deep d last held e es q))
    (bytes_joined (u32_bytes p) (flat_with es ps) (number_is_bytes p)
    (with_is_bytes deep d e.place (after e e.name held) es ps (sound_rest deep d last held e es q))) k h

section_is_bytes : (f : Form) (deep d : ℕ) (es : List Event) → sound_from deep d 0 [] es ≡ true → AreBytes (section_in f es)
unfolding section_in section_bytes flat_linked
section_is_bytes f deep d es q =
    bytes_chosen (ltb f.width 12) (u32_bytes (length es) ++ flat es) (u32_bytes (length es) ++ flat_with es (partners es))
    (bytes_joined (u32_bytes (length es)) (flat es) (number_is_bytes (length es)) (flat_is_bytes deep d 0 [] es q))
    (bytes_joined (u32_bytes (length es)) (flat_with es (partners es)) (number_is_bytes (length es)) (with_is_bytes deep d 0 [] es (partners es) q))

front_is_bytes : (f : Form) (options : ℕ) → options ≤ 63 → AreBytes (front_in f options)
unfolding front_in
front_is_bytes f options o =
    bytes_chosen (ltb f.front 5) [] (u32_bytes 1 ++ (options ∷ [])) (λ k h. absurd (omega arith))
    (bytes_joined (u32_bytes 1) (options ∷ []) (number_is_bytes 1) one)
  where
    one : AreBytes (options ∷ [])
    one zero h = omega arith
    one (suc k) h = absurd (omega arith)

pub record_is_bytes : RecordIsBytes
unfolding record_in
record_is_bytes f options document es o b h =
    bytes_joined (front_in f options) (u32_bytes (length document) ++ (document ++ section_in f es)) (front_is_bytes f options o)
    (bytes_joined (u32_bytes (length document)) (document ++ section_in f es) (number_is_bytes (length document))
    (bytes_joined document (section_in f es) b (section_is_bytes f 64 (length document) es h.sound_events)))
