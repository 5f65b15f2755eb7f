-- A good record whose events carry numbers carries the partners of its events: the check compares the numbers of each exit and of its enter, and so
-- every one is true.
-- Assumes nothing.
use mathlib.Core.Path.{◌≡◌, refl, sym, ap, ◌∙◌}
use mathlib.Core.Bool.{true}
use mathlib.Core.Logic.{◌⊎◌, inl, inr}
use mathlib.Core.List.{List}
use Prim.Native.Nat.{ℕ, zero, suc, ◌+◌, ◌*◌, ◌<◌}
use native.Mathlib.Omega.{arith}
use lib.ListN.{length, get_or}
use lib.Seq.{ext_get_or}
use Rattle.record.specs.Bytes.{u32_at}
use Rattle.record.specs.Event.{events_by, events_in}
use Rattle.record.specs.Form.{mate_in}
use Rattle.record.specs.Partners.{balanced, partners}
use Rattle.record.specs.Stack.{innermost_of, open_at, nth}
use Rattle.record.specs.declared.event.Event.{Event}
use Rattle.record.proofs.Parts.{length_events, nth_event}
use Rattle.partners.specs.Fields.{fields_by}
use Rattle.partners.specs.Laws.{partner_of, GoodCarriesPartners}
use Rattle.partners.proofs.Walk.{length_partners, same}
use Rattle.partners.proofs.Laws.{exit_innermost, enter_partner, sound_balanced}

-- numbers that are true at every exit are true everywhere
pub true_everywhere : (es : List Event) → balanced es ≡ true → (mates : ℕ → ℕ) →
    ((k : ℕ) → k < length es → ((nth es k).kind ≡ 0 → ⊥) → (mates k ≡ innermost_of (open_at es k)) × (mates (innermost_of (open_at es k)) ≡ k)) →
    (k : ℕ) → k < length es → mates k ≡ partner_of es k
true_everywhere es b mates f k h = go (same (nth es k).kind 0)
  where
    go : ((nth es k).kind ≡ 0) ⊎ ((nth es k).kind ≡ 0 → ⊥) → mates k ≡ partner_of es k
    go (inr z) = (f k h z).0 ∙ sym (exit_innermost es k h z)
    go (inl z) =
        let p = enter_partner es b k h z in
        let q : ℕ = partner_of es k in
        let i : innermost_of (open_at es q) ≡ k = sym (exit_innermost es q p.inside p.exits) ∙ p.back in
        ap mates (sym i) ∙ (f q p.inside p.exits).1

pub length_fields : (w n : ℕ) (s : List ℕ) (at : ℕ) → length (fields_by w n s at) ≡ n
unfolding fields_by
length_fields w zero s at = refl
length_fields w (suc n) s at = ap suc (length_fields w n s (at + w))

pub nth_field : (w n k : ℕ) (s : List ℕ) (at : ℕ) → k < n → get_or (fields_by w n s at) k 0 ≡ u32_at s (at + w * k + 8)
unfolding fields_by
nth_field w zero k s at h = absurd (omega arith)
nth_field w (suc n) zero s at h =
    let e : at + 8 ≡ at + w * 0 + 8 = omega arith in
    ap (λ (m : ℕ). u32_at s m) e
nth_field w (suc n) (suc k) s at h =
    let e : at + w + w * k + 8 ≡ at + w * suc k + 8 = omega arith in
    nth_field w n k s (at + w) (omega arith) ∙ ap (λ (m : ℕ). u32_at s m) e

-- fields that are true at every exit are the partners
fields_true : (w n : ℕ) (s : List ℕ) (at : ℕ) → balanced (events_by w n s at) ≡ true →
    ((k : ℕ) → k < length (events_by w n s at) → u32_at s (at + w * k + 8) ≡ partner_of (events_by w n s at) k) → fields_by w n s at ≡ partners (events_by w n s at)
fields_true w n s at b t =
    let l : length (partners (events_by w n s at)) ≡ length (events_by w n s at) = length_partners (events_by w n s at) in
    let e : length (events_by w n s at) ≡ n = length_events w n s at in
    let m : length (fields_by w n s at) ≡ n = length_fields w n s at in
    ext_get_or 0 (fields_by w n s at) (partners (events_by w n s at)) (omega arith) (λ k h. nth_field w n k s at (omega arith) ∙ t k (omega arith))

pub carried : GoodCarriesPartners
unfolding events_in
carried f s d e w g =
    let n : length (events_in f s d e) ≡ e = length_events f.width e s (8 + f.front + d) in
    let b : balanced (events_in f s d e) ≡ true = sound_balanced 64 d (events_in f s d e) g.sound_events in
    fields_true f.width e s (8 + f.front + d) b
    (true_everywhere (events_in f s d e) b (mate_in f s d)
    (λ k h z. g.true_pairs w k (omega arith) (λ y. z (ap (λ (v : Event). v.kind) (nth_event f.width e k s (8 + f.front + d) (omega arith)) ∙ y))))
