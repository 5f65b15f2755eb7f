-- How a record that is written lies: where its counts, its document and its events are, good or not. From here on nothing asks how it was written.
-- Assumes nothing.
use mathlib.Core.Path.{◌≡◌, refl, sym, ap, ◌∙◌}
use mathlib.Core.Logic.{◌⊎◌, inl, inr}
use mathlib.Core.List.{List, [], ◌++◌, append-nil, append_assoc}
use Prim.Native.Nat.{ℕ, ◌+◌}
use native.Mathlib.Omega.{arith}
use lib.ListN.{length, take, drop, length-append}
use lib.Seq.{take-append_seam, drop_at}
use Rattle.record.specs.Bytes.{u32_at, u32_bytes}
use Rattle.record.specs.Choice.{choose}
use Rattle.record.specs.Event.{events_by, document_in, events_in}
use Rattle.record.specs.Form.{place_in}
use Rattle.record.specs.Handed.{form_of, options_of}
use Rattle.record.specs.Partners.{section_in, front_in, record_in}
use Rattle.record.specs.declared.event.Event.{Event}
use Rattle.record.specs.declared.form.Form.{Form}
use Rattle.record.specs.declared.form.Handed.{Handed}
use Rattle.record.specs.declared.form.Handed.TheVariants.{Old, Second}
use Rattle.record.proofs.ReadsBack.{number_reads_back}
use Rattle.partners.specs.EitherForm.{Writable}
use Rattle.partners.specs.Records.{With, beside, within, SectionThere}
use Rattle.partners.proofs.SectionReadsBack.{section_reads_back}
use Rattle.partners.proofs.Written.{length_section_in}

pub record Laid (f : Form) (s document : List ℕ) (es : List Event) : Type 0 where
  pub document_count : u32_at s f.front ≡ length document
  pub its_document : document_in f s (length document) ≡ document
  pub its_section : SectionThere f s (4 + f.front + length document) es
  pub whole : length s ≡ place_in f (length document) (length es)

pub its_events : {f : Form} {s document : List ℕ} {es : List Event} → Laid f s document es → events_in f s (length document) (length es) ≡ es
unfolding events_in
its_events {f} {s} {document} {es} l =
    let at : 8 + f.front + length document ≡ 4 + f.front + length document + 4 = omega arith in
    ap (λ (m : ℕ). events_by f.width (length es) s m) at
    ∙ ap (λ (n : ℕ). events_by f.width n s (4 + f.front + length document + 4)) (sym l.its_section.count)
    ∙ l.its_section.all

-- the two forms that there are
pub two_widths : (h : Handed) → ((form_of h).width ≡ 8) ⊎ ((form_of h).width ≡ 12)
two_widths (Old options) = inl refl
two_widths Second = inr refl

-- a record that has these parts, where its front is as long as the form says
module _ (f : Form) (w : (f.width ≡ 8) ⊎ (f.width ≡ 12)) (options : ℕ) (front : length (front_in f options) ≡ f.front) (document : List ℕ)
    (es : List Event) where
  pub laid : Writable document es → Laid f (record_in f options document es) document es
  unfolding record_in document_in
  laid b =
      let count : List ℕ = u32_bytes (length document) in
      let section : List ℕ = section_in f es in
      let behind : length (front_in f options ++ count) ≡ 4 + f.front = omega (arith, length-append (front_in f options) count) in
      let all : length (front_in f options ++ (count ++ document)) ≡ 4 + f.front + length document =
      omega (arith, length-append (front_in f options) (count ++ document), length-append count document) in
      let at_document : front_in f options ++ (count ++ (document ++ section)) ≡ (front_in f options ++ count) ++ (document ++ section) =
      sym (append_assoc (front_in f options) count (document ++ section)) in
      let at_section : front_in f options ++ (count ++ (document ++ section)) ≡ (front_in f options ++ (count ++ document)) ++ (section ++ []) =
      ap (λ (l : List ℕ). front_in f options ++ (count ++ (document ++ l))) (sym (append-nil section))
      ∙ sym (append_assoc (front_in f options) (count ++ document) (section ++ [])) in
      record {
        document_count =
            ap (λ (m : ℕ). u32_at (front_in f options ++ (count ++ (document ++ section))) m) (sym front)
            ∙ number_reads_back (front_in f options) (document ++ section) (length document) b.document_count;
        its_document =
            ap (λ (l : List ℕ). take (length document) (drop (4 + f.front) l)) at_document
            ∙ ap (λ (l : List ℕ). take (length document) l) (drop_at (front_in f options ++ count) (document ++ section) (4 + f.front) behind)
            ∙ take-append_seam document section;
        its_section =
            rw (at_section, ← all) (section_reads_back f w (front_in f options ++ (count ++ document)) [] es b.event_count b.places);
        whole =
            omega (
              arith,
              length-append (front_in f options) (count ++ (document ++ section)),
              length-append count (document ++ section),
              length-append document section,
              length_section_in f es w,
            );
      }

pub length_front : (h : Handed) (options : ℕ) → length (front_in (form_of h) options) ≡ (form_of h).front
unfolding front_in choose
length_front (Old o) options = refl
length_front Second options = refl

pub laid_out : (h : Handed) (options : ℕ) (document : List ℕ) (es : List Event) → Writable document es →
    Laid (form_of h) (record_in (form_of h) options document es) document es
laid_out h options document es b = laid (form_of h) (two_widths h) options (length_front h options) document es b

-- and its options are those that it was handed over with
pub its_options : (h : Handed) (options : ℕ) (document : List ℕ) (es : List Event) → With h options →
    options_of h (record_in (form_of h) options document es) ≡ options
unfolding record_in front_in choose
its_options h options document es beside = refl
its_options h options document es within = refl
