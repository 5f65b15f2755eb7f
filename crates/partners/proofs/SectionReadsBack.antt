-- A section reads back, in either form: its count, its events as they are stored, and their partners. The partners of any list, balanced or not, fit into
-- their four bytes.
-- Assumes nothing.
use mathlib.Core.Path.{◌≡◌, refl, ap, ◌∙◌}
use mathlib.Core.Logic.{◌⊎◌, inl, inr}
use mathlib.Core.List.{List, [], ◌∷◌, ◌++◌}
use Prim.Native.Nat.{ℕ, zero, suc, ◌+◌, ◌*◌, ◌≤◌, ◌<◌}
use native.Mathlib.Omega.{arith}
use lib.ListN.{length, get_or, drop}
use Rattle.record.specs.Bytes.{u32_at, u32_bytes}
use Rattle.record.specs.Event.{stored_at, events_by, bytes_of, flat, section_bytes}
use Rattle.record.specs.Outcome.{onto}
use Rattle.record.specs.Partners.{closing, partners_from, partners, flat_with, flat_linked, section_in}
use Rattle.record.specs.ReadsBack.{stored, Storable}
use Rattle.record.specs.Stack.{innermost_of, outer, nth}
use Rattle.record.specs.declared.event.Event.{Event}
use Rattle.record.specs.declared.form.Form.{Form}
use Rattle.record.proofs.ReadsBack.{number_behind, stored_behind, number_of_bytes, number_reads_back, event_first, all_of_each}
use Rattle.partners.specs.Laws.{partner_of}
use Rattle.partners.specs.Records.{SectionThere, SectionReadsBack}
use Rattle.partners.proofs.Walk.{same, closing_enter, closing_inner, closing_here, rest_enter, rest_exit, length_partners}
use Rattle.partners.proofs.Written.{section_narrow, section_wide}

-- an enter is closed within the list, or by none: then it has the number behind the last
closing_within : (n : ℕ) (es : List Event) (i : ℕ) → closing n es i ≤ i + length es
unfolding closing
closing_within n [] i = omega arith
closing_within n (e ∷ es) i = go n (λ m. closing_within m es (i + 1)) (same e.kind 0)
  where
    go : (n : ℕ) → ((m : ℕ) → closing m es (i + 1) ≤ i + 1 + length es) → (e.kind ≡ 0) ⊎ (e.kind ≡ 0 → ⊥) → closing n (e ∷ es) i ≤ i + suc (length es)
    go n r (inl z) =
        let c : closing n (e ∷ es) i ≡ closing (n + 1) es (i + 1) = closing_enter e es n (n + 1) i z refl in
        omega (arith, r (n + 1))
    go zero r (inr z) =
        let c : closing 0 (e ∷ es) i ≡ i = closing_here e es i z in
        omega arith
    go (suc m) r (inr z) =
        let c : closing (suc m) (e ∷ es) i ≡ closing m es (i + 1) = closing_inner e es (suc m) m i z (omega arith) in
        omega (arith, r m)

-- numbers that are within a bound, and what is left of them after one is taken
innermost_within : (held : List ℕ) (b : ℕ) → ((j : ℕ) → get_or held j 0 ≤ b) → innermost_of held ≤ b
innermost_within [] b f = omega arith
innermost_within (h ∷ hs) b f = f 0

outer_within : (held : List ℕ) (b : ℕ) → ((j : ℕ) → get_or held j 0 ≤ b) → (j : ℕ) → get_or (outer held) j 0 ≤ b
outer_within [] b f j = f j
outer_within (h ∷ hs) b f j = f (suc j)

partners_none : (i : ℕ) (held : List ℕ) → partners_from [] i held ≡ []
unfolding partners_from
partners_none i held = refl

partners_from_within : (es : List Event) (i b : ℕ) (held : List ℕ) → i + length es ≤ b → ((j : ℕ) → get_or held j 0 ≤ b) →
    (k : ℕ) → get_or (partners_from es i held) k 0 ≤ b
partners_from_within [] i b held h f k = rw (partners_none i held) (omega arith)
partners_from_within (e ∷ es) i b held h f k = go (same e.kind 0) k (λ held' f' j. partners_from_within es (i + 1) b held' (omega arith) f' j)
  where
    opened : (j : ℕ) → get_or (i ∷ held) j 0 ≤ b
    opened zero = omega arith
    opened (suc j) = f j

    go : (e.kind ≡ 0) ⊎ (e.kind ≡ 0 → ⊥) → (k : ℕ) →
        ((held' : List ℕ) → ((j : ℕ) → get_or held' j 0 ≤ b) → (j : ℕ) → get_or (partners_from es (i + 1) held') j 0 ≤ b) →
        get_or (partners_from (e ∷ es) i held) k 0 ≤ b
    go (inl z) zero r =
        let c : closing 0 es (i + 1) ≤ i + 1 + length es = closing_within 0 es (i + 1) in
        rw (rest_enter e es i held z) (omega arith)
    go (inl z) (suc k) r = rw (rest_enter e es i held z) (r (i ∷ held) opened k)
    go (inr z) zero r = rw (rest_exit e es i held z) (innermost_within held b f)
    go (inr z) (suc k) r = rw (rest_exit e es i held z) (r (outer held) (outer_within held b f) k)

pub partner_within : (es : List Event) (k : ℕ) → partner_of es k ≤ length es
partner_within es k = partners_from_within es 0 (length es) [] (omega arith) (λ j. omega arith) k

-- the events of a list, one after the other, eight bytes each
flat_each : (es : List Event) (behind : List ℕ) → Storable es → (k : ℕ) → k < length es → stored_at (flat es ++ behind) (8 * k) ≡ stored (nth es k)
unfolding flat
flat_each [] behind b k h = absurd (omega arith)
flat_each (e ∷ es) behind b zero h = event_first e (flat es ++ behind) (b 0 (omega arith))
flat_each (e ∷ es) behind b (suc k) h =
    stored_behind (bytes_of e) (flat es ++ behind) (8 * suc k) (8 * k) (omega arith) ∙ flat_each es behind (λ j g. b (suc j) (omega arith)) k (omega arith)

-- and with numbers behind them, twelve bytes each
with_each : (es : List Event) (ps behind : List ℕ) → length ps ≡ length es → Storable es → (k : ℕ) → k < length es →
    stored_at (flat_with es ps ++ behind) (12 * k) ≡ stored (nth es k)
unfolding flat_with
with_each [] ps behind l b k h = absurd (omega arith)
with_each (e ∷ es) [] behind l b k h = absurd (omega arith)
with_each (e ∷ es) (p ∷ ps) behind l b zero h = event_first e ((u32_bytes p ++ flat_with es ps) ++ behind) (b 0 (omega arith))
with_each (e ∷ es) (p ∷ ps) behind l b (suc k) h =
    stored_behind (bytes_of e ++ u32_bytes p) (flat_with es ps ++ behind) (12 * suc k) (12 * k) (omega arith)
    ∙ with_each es ps behind (omega arith) (λ j g. b (suc j) (omega arith)) k (omega arith)

with_numbers : (es : List Event) (ps behind : List ℕ) → length ps ≡ length es → ((k : ℕ) → get_or ps k 0 < 4294967296) → (k : ℕ) → k < length es →
    u32_at (flat_with es ps ++ behind) (12 * k + 8) ≡ get_or ps k 0
unfolding flat_with
with_numbers [] ps behind l b k h = absurd (omega arith)
with_numbers (e ∷ es) [] behind l b k h = absurd (omega arith)
with_numbers (e ∷ es) (p ∷ ps) behind l b zero h =
    number_behind (bytes_of e) (u32_bytes p ++ (flat_with es ps ++ behind)) 8 0 (omega arith) ∙ number_of_bytes p (b 0)
with_numbers (e ∷ es) (p ∷ ps) behind l b (suc k) h =
    number_behind (bytes_of e ++ u32_bytes p) (flat_with es ps ++ behind) (12 * suc k + 8) (12 * k + 8) (omega arith)
    ∙ with_numbers es ps behind (omega arith) (λ j. b (suc j)) k (omega arith)

-- a section is the count and the bytes of its events, whatever these are
section_of : (f : Form) (before bs behind : List ℕ) (es : List Event) → length es < 4294967296 →
    ((k : ℕ) → k < length es → stored_at (bs ++ behind) (f.width * k) ≡ stored (nth es k)) →
    (12 ≤ f.width → (k : ℕ) → k < length es → u32_at (bs ++ behind) (f.width * k + 8) ≡ partner_of es k) →
    SectionThere f (before ++ ((u32_bytes (length es) ++ bs) ++ behind)) (length before) es
section_of f before bs behind es n each mates =
    let s : List ℕ = before ++ (u32_bytes (length es) ++ (bs ++ behind)) in
    let counted : u32_at s (length before) ≡ length es = number_reads_back before (bs ++ behind) (length es) n in
    let there : (k : ℕ) → k < length es → stored_at s (length before + 4 + f.width * k) ≡ stored (nth es k) =
    λ k h.
    stored_behind before (u32_bytes (length es) ++ (bs ++ behind)) (length before + 4 + f.width * k) (4 + f.width * k) (omega arith)
    ∙ stored_behind (u32_bytes (length es)) (bs ++ behind) (4 + f.width * k) (f.width * k) (omega arith)
    ∙ each k h in
    record {
      count = counted;
      each = there;
      all =
          ap (λ (m : ℕ). events_by f.width m s (length before + 4)) counted
          ∙ all_of_each f.width es s (length before + 4) there;
      mates = λ w k h.
          number_behind before (u32_bytes (length es) ++ (bs ++ behind)) (length before + 4 + f.width * k + 8) (4 + f.width * k + 8) (omega arith)
          ∙ number_behind (u32_bytes (length es)) (bs ++ behind) (4 + f.width * k + 8) (f.width * k + 8) (omega arith)
          ∙ mates w k h;
    }

pub section_reads_back : SectionReadsBack
unfolding section_bytes flat_linked
section_reads_back f (inl w) before behind es n b =
    rw (section_narrow f es (omega arith))
    (section_of f before (flat es) behind es n
    (λ k h. ap (λ (m : ℕ). stored_at (flat es ++ behind) (m * k)) w ∙ flat_each es behind b k h)
    (λ g. absurd (omega arith)))
section_reads_back f (inr w) before behind es n b =
    let l : length (partners es) ≡ length es = length_partners es in
    let low : (k : ℕ) → partner_of es k < 4294967296 = λ k. let h : partner_of es k ≤ length es = partner_within es k in omega arith in
    rw (section_wide f es (omega arith))
    (section_of f before (flat_with es (partners es)) behind es n
    (λ k h. ap (λ (m : ℕ). stored_at (flat_with es (partners es) ++ behind) (m * k)) w ∙ with_each es (partners es) behind l b k h)
    (λ g k h. ap (λ (m : ℕ). u32_at (flat_with es (partners es) ++ behind) (m * k + 8)) w ∙ with_numbers es (partners es) behind l low k h))

-- so does one that stands at the front of an output
pub section_onto : (f : Form) → (f.width ≡ 8) ⊎ (f.width ≡ 12) → (es : List Event) (out out' : List ℕ) → length es < 4294967296 → Storable es →
    out' ≡ onto (section_in f es) out → SectionThere f out' 0 es
unfolding onto
section_onto f w es out out' n b q = rw q (section_reads_back f w [] (drop (length (section_in f es)) out) es n b)
