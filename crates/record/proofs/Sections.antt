-- Laws of the bytes of events: their lengths, and a section as the count and then the events.
-- Assumes nothing.
use mathlib.Core.Path.{◌≡◌, refl, sym, ap, ◌∙◌}
use mathlib.Core.List.{List, [], ◌∷◌, ◌++◌, append_assoc}
use Prim.Native.Nat.{ℕ, ◌+◌, ◌*◌, ◌≤◌}
use native.Mathlib.Omega.{arith}
use lib.ListN.{length, drop, length-append}
use Rattle.record.specs.Bytes.{Wrote, u32_bytes}
use Rattle.record.specs.Event.{bytes_of, flat, section_bytes}
use Rattle.record.specs.Outcome.{onto}
use Rattle.record.specs.declared.event.Event.{Event}
use Rattle.record.proofs.Splice.{wrote_then, wrote_front}

pub length_flat : (es : List Event) → length (flat es) ≡ 8 * length es
unfolding flat
length_flat [] = refl
length_flat (e ∷ es) = omega (arith, length-append (bytes_of e) (flat es), length_flat es)

pub flat_append : (es fs : List Event) → flat (es ++ fs) ≡ flat es ++ flat fs
unfolding flat
flat_append [] fs = refl
flat_append (e ∷ es) fs = ap (λ (l : List ℕ). bytes_of e ++ l) (flat_append es fs) ∙ sym (append_assoc (bytes_of e) (flat es) (flat fs))

-- the count, and then the events: a section, then what was behind it
pub section : {d d₁ d₂ : List ℕ} (es : List Event) (n : ℕ) → length es ≡ n → 4 + 8 * n ≤ length d
    → Wrote d 0 (u32_bytes n) d₁ → Wrote d₁ 4 (flat es) d₂ → d₂ ≡ onto (section_bytes es) d
unfolding section_bytes onto
section {d} {d₁} {d₂} es n en fits w v =
    let k : length (u32_bytes n ++ flat es) ≡ 4 + 8 * n = omega (arith, length-append (u32_bytes n) (flat es), length_flat es, en) in
    wrote_front (wrote_then w v refl) (omega arith)
    ∙ ap (λ (m : ℕ). (u32_bytes m ++ flat es) ++ drop (length (u32_bytes m ++ flat es)) d) (sym en)

pub length_section : (es : List Event) → length (section_bytes es) ≡ 4 + 8 * length es
unfolding section_bytes
length_section es = omega (arith, length-append (u32_bytes (length es)) (flat es), length_flat es)
