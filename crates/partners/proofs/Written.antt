-- Events with their partners as bytes: how long they are, and the section that they make.
-- Assumes nothing.
use mathlib.Core.Path.{◌≡◌, refl, sym, ap, ◌∙◌}
use mathlib.Core.Logic.{inl, inr}
use mathlib.Core.List.{List, [], ◌∷◌, ◌++◌}
use Prim.Native.Nat.{ℕ, ◌+◌, ◌*◌, ◌≤◌, ◌<◌}
use native.Mathlib.Omega.{arith}
use lib.ListN.{length, length-append}
use borrow.Author.Tests.{lt-ltb, le-ltb}
use Rattle.record.specs.Choice.{choose}
use Rattle.record.specs.Bytes.{u32_bytes, Wrote}
use Rattle.record.specs.Event.{bytes_of, section_bytes}
use Rattle.record.specs.Outcome.{onto}
use Rattle.record.specs.Partners.{partners, flat_with, flat_linked, section_in}
use Rattle.record.specs.declared.event.Event.{Event}
use Rattle.record.specs.declared.form.Form.{Form}
use Rattle.record.proofs.Sections.{length_section}
use Rattle.record.proofs.Splice.{wrote_then, wrote_front}
use Rattle.partners.specs.Records.{SectionLength}
use Rattle.partners.proofs.Walk.{length_partners}

pub length_flat_with : (es : List Event) (ps : List ℕ) → length ps ≡ length es → length (flat_with es ps) ≡ 12 * length es
unfolding flat_with
length_flat_with [] ps h = refl
length_flat_with (e ∷ es) [] h = absurd (omega arith)
length_flat_with (e ∷ es) (p ∷ ps) h =
    omega (arith, length-append (bytes_of e) (u32_bytes p ++ flat_with es ps), length-append (u32_bytes p) (flat_with es ps), length_flat_with es ps (omega arith))

pub length_flat_linked : (es : List Event) → length (flat_linked es) ≡ 12 * length es
unfolding flat_linked
length_flat_linked es = length_flat_with es (partners es) (length_partners es)

-- a section of a form is one of the old form, or one with partners
pub section_narrow : (f : Form) (es : List Event) → f.width < 12 → section_in f es ≡ section_bytes es
unfolding section_in choose
section_narrow f es h = rw (lt-ltb f.width 12 h)

pub section_wide : (f : Form) (es : List Event) → 12 ≤ f.width → section_in f es ≡ u32_bytes (length es) ++ flat_linked es
unfolding section_in choose
section_wide f es h = rw (le-ltb f.width 12 h)

pub length_section_in : SectionLength
length_section_in f es (inl w) = ap length (section_narrow f es (omega arith)) ∙ length_section es ∙ ap (λ (k : ℕ). 4 + k * length es) (sym w)
length_section_in f es (inr w) =
    ap length (section_wide f es (omega arith))
    ∙ length-append (u32_bytes (length es)) (flat_linked es)
    ∙ ap (λ (k : ℕ). 4 + k) (length_flat_linked es)
    ∙ ap (λ (k : ℕ). 4 + k * length es) (sym w)

-- the count, and then the events with their partners: a section, then what was behind it
pub linked_section : {d d₁ d₂ : List ℕ} (es : List Event) → 4 + 12 * length es ≤ length d → Wrote d 0 (u32_bytes (length es)) d₁ →
    Wrote d₁ 4 (flat_linked es) d₂ →
    d₂ ≡ onto (u32_bytes (length es) ++ flat_linked es) d
unfolding onto
linked_section {d} {d₁} {d₂} es fits w v =
    let k : length (u32_bytes (length es) ++ flat_linked es) ≡ 4 + 12 * length es =
    omega (arith, length-append (u32_bytes (length es)) (flat_linked es), length_flat_linked es) in
    wrote_front (wrote_then w v refl) (omega arith)
