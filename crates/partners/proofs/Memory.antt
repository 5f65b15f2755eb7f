-- Bytes that stand at a place of a memory: what a write there leaves, and one elsewhere; a number read from them; and events with their partners, all of
-- which stand, as one write.
-- Assumes nothing.
use mathlib.Core.Path.{◌≡◌, refl, sym, ap, ◌∙◌, subst}
use mathlib.Core.Logic.{◌⊎◌, inl, inr}
use mathlib.Core.List.{List, [], ◌∷◌, ◌++◌}
use Prim.Native.Nat.{ℕ, zero, suc, ◌+◌, ◌-◌, ◌*◌, ◌≤◌, ◌<◌}
use native.Mathlib.Omega.{arith}
use lib.ListN.{length, get_or, set, length-set}
use lib.Seq.{sets, length-sets, get_or-set_same, get_or-set_other, ext_get_or}
use Rattle.record.specs.Bytes.{u32_at, u32_bytes, Wrote}
use Rattle.record.specs.Event.{bytes_of}
use Rattle.record.specs.Partners.{flat_with}
use Rattle.record.specs.Stack.{nth}
use Rattle.record.specs.declared.event.Event.{Event}
use Rattle.record.proofs.ReadsBack.{number_of_bytes}
use Rattle.record.proofs.Splice.{sets_append}
use Rattle.partners.specs.Pen.{Holds}

get_below : (d : List ℕ) (i : ℕ) (xs : List ℕ) (j : ℕ) → j < i → get_or (sets d i xs) j 0 ≡ get_or d j 0
get_below d i [] j h = refl
get_below d i (x ∷ xs) j h = get_below (set d i x) (suc i) xs j (omega arith) ∙ get_or-set_other d i j x 0 (λ e. omega arith)

get_above : (d : List ℕ) (i : ℕ) (xs : List ℕ) (j : ℕ) → i + length xs ≤ j → get_or (sets d i xs) j 0 ≡ get_or d j 0
get_above d i [] j h = refl
get_above d i (x ∷ xs) j h = get_above (set d i x) (suc i) xs j (omega arith) ∙ get_or-set_other d i j x 0 (λ e. omega arith)

get_inside : (d : List ℕ) (i : ℕ) (xs : List ℕ) (j : ℕ) → j < length xs → i + length xs ≤ length d → get_or (sets d i xs) (i + j) 0 ≡ get_or xs j 0
get_inside d i [] j h r = absurd (omega arith)
get_inside d i (x ∷ xs) zero h r =
    let z : i + 0 ≡ i = omega arith in
    ap (λ (k : ℕ). get_or (sets (set d i x) (suc i) xs) k 0) z
    ∙ get_below (set d i x) (suc i) xs i (omega arith)
    ∙ get_or-set_same d i x 0 (omega arith)
get_inside d i (x ∷ xs) (suc j) h r =
    let z : i + suc j ≡ suc i + j = omega arith in
    let l : length (set d i x) ≡ length d = length-set d i x in
    ap (λ (k : ℕ). get_or (sets (set d i x) (suc i) xs) k 0) z ∙ get_inside (set d i x) (suc i) xs j (omega arith) (omega arith)

-- a byte outside of what is written
pub kept_byte : {d d' : List ℕ} {at : ℕ} {xs : List ℕ} → Wrote d at xs d' → (j : ℕ) → (j < at) ⊎ (at + length xs ≤ j) → get_or d' j 0 ≡ get_or d j 0
kept_byte {d} {d'} {at} {xs} w j (inl h) = ap (λ (l : List ℕ). get_or l j 0) w.same ∙ get_below d at xs j h
kept_byte {d} {d'} {at} {xs} w j (inr h) = ap (λ (l : List ℕ). get_or l j 0) w.same ∙ get_above d at xs j h

-- what is written stands there
pub holds_here : {d d' : List ℕ} {at : ℕ} {xs : List ℕ} → Wrote d at xs d' → at + length xs ≤ length d → Holds d' at xs
holds_here {d} {d'} {at} {xs} w r =
    record { each = λ j h. ap (λ (l : List ℕ). get_or l (at + j) 0) w.same ∙ get_inside d at xs j h r }

-- and what stood elsewhere stands there still
pub holds_still : {d d' : List ℕ} {at a : ℕ} {xs ys : List ℕ} → Wrote d at xs d' → (a + length ys ≤ at) ⊎ (at + length xs ≤ a) → Holds d a ys → Holds d' a ys
holds_still {d} {d'} {at} {a} {xs} {ys} w o s = record { each = λ j h. kept_byte w (a + j) (beside j h o) ∙ s.each j h }
  where
    beside : (j : ℕ) → j < length ys → (a + length ys ≤ at) ⊎ (at + length xs ≤ a) → (a + j < at) ⊎ (at + length xs ≤ a + j)
    beside j h (inl l) = inl (omega arith)
    beside j h (inr l) = inr (omega arith)

-- a number whose bytes stand somewhere is read there
pub number_held : {d : List ℕ} {at : ℕ} (x : ℕ) → x < 4294967296 → Holds d at (u32_bytes x) → u32_at d at ≡ x
number_held {d} {at} x h s =
    let z : at ≡ at + 0 = omega arith in
    let a : get_or d at 0 ≡ get_or (u32_bytes x) 0 0 = ap (λ (k : ℕ). get_or d k 0) z ∙ s.each 0 (omega arith) in
    rw (a, s.each 1 (omega arith), s.each 2 (omega arith), s.each 3 (omega arith)) (number_of_bytes x h)

-- one event with its number, and then the others
flat_one : (e : Event) (es : List Event) (p : ℕ) (ps : List ℕ) → flat_with (e ∷ es) (p ∷ ps) ≡ bytes_of e ++ (u32_bytes p ++ flat_with es ps)
unfolding flat_with
flat_one e es p ps = refl

flat_none : (ps : List ℕ) → flat_with [] ps ≡ []
unfolding flat_with
flat_none ps = refl

sets_one : (d : List ℕ) (to : ℕ) (e : Event) (es : List Event) (p : ℕ) (ps : List ℕ) →
    sets d to (flat_with (e ∷ es) (p ∷ ps)) ≡ sets (sets (sets d to (bytes_of e)) (to + 8) (u32_bytes p)) (to + 12) (flat_with es ps)
sets_one d to e es p ps =
    let k : to + 8 + 4 ≡ to + 12 = omega arith in
    ap (λ (l : List ℕ). sets d to l) (flat_one e es p ps)
    ∙ sets_append d to (bytes_of e) (u32_bytes p ++ flat_with es ps)
    ∙ sets_append (sets d to (bytes_of e)) (to + 8) (u32_bytes p) (flat_with es ps)
    ∙ ap (λ (m : ℕ). sets (sets (sets d to (bytes_of e)) (to + 8) (u32_bytes p)) m (flat_with es ps)) k

-- every place is on one side of another
pub side : (j at : ℕ) → (j < at) ⊎ (at ≤ j)
side j zero = inr (omega arith)
side zero (suc at) = inl (omega arith)
side (suc j) (suc at) = on (side j at)
  where
    on : (j < at) ⊎ (at ≤ j) → (suc j < suc at) ⊎ (suc at ≤ suc j)
    on (inl h) = inl (omega arith)
    on (inr h) = inr (omega arith)

-- the bytes of a place on
held_byte : {d : List ℕ} {at : ℕ} {xs : List ℕ} → Holds d at xs → (j k : ℕ) → j ≡ at + k → k < length xs → get_or d j 0 ≡ get_or xs k 0
held_byte {d} s j k e h = ap (λ (m : ℕ). get_or d m 0) e ∙ s.each k h

holds_at : {d xs : List ℕ} (a b : ℕ) → a ≡ b → Holds d a xs → Holds d b xs
holds_at {d} {xs} a b e s = subst (λ (m : ℕ). Holds d m xs) e s

-- two memories that have the same bytes at a place
both_hold : {d b : List ℕ} {at : ℕ} {xs : List ℕ} → Holds d at xs → Holds b at xs → (j : ℕ) → at ≤ j → j < at + length xs → get_or d j 0 ≡ get_or b j 0
both_hold {d} {b} {at} {xs} s t j l h =
    let e : j ≡ at + (j - at) = omega arith in
    held_byte s j (j - at) e (omega arith) ∙ sym (held_byte t j (j - at) e (omega arith))

-- where each event stands with its number, and all else is as in b, these have been written into b
pub all_written : (es : List Event) (ps b d : List ℕ) (at : ℕ) → length ps ≡ length es → length d ≡ length b → at + 12 * length es ≤ length b →
    ((j : ℕ) → (j < at) ⊎ (at + 12 * length es ≤ j) → get_or d j 0 ≡ get_or b j 0) →
    ((k : ℕ) → k < length es → Holds d (at + 12 * k) (bytes_of (nth es k))) →
    ((k : ℕ) → k < length es → Holds d (at + 12 * k + 8) (u32_bytes (get_or ps k 0))) → d ≡ sets b at (flat_with es ps)
all_written [] ps b d at l s r o st ln =
    ext_get_or 0 d b s (λ j h. o j (none (side j at))) ∙ sym (ap (λ (x : List ℕ). sets b at x) (flat_none ps))
  where
    none : {j : ℕ} → (j < at) ⊎ (at ≤ j) → (j < at) ⊎ (at + 12 * 0 ≤ j)
    none (inl h) = inl h
    none (inr h) = inr (omega arith)
all_written (e ∷ es) [] b d at l s r o st ln = absurd (omega arith)
all_written (e ∷ es) (p ∷ ps) b d at l s r o st ln =
    let w₁ : Wrote b at (bytes_of e) (sets b at (bytes_of e)) = record { same = refl } in
    let w₂ : Wrote (sets b at (bytes_of e)) (at + 8) (u32_bytes p) (sets (sets b at (bytes_of e)) (at + 8) (u32_bytes p)) = record { same = refl } in
    let l₁ : length (sets b at (bytes_of e)) ≡ length b = length-sets b at (bytes_of e) in
    let l₂ : length (sets (sets b at (bytes_of e)) (at + 8) (u32_bytes p)) ≡ length (sets b at (bytes_of e)) =
    length-sets (sets b at (bytes_of e)) (at + 8) (u32_bytes p) in
    all_written es ps (sets (sets b at (bytes_of e)) (at + 8) (u32_bytes p)) d (at + 12) (omega arith) (s ∙ sym (l₂ ∙ l₁)) (omega arith)
    (λ j h.
    outer_bytes e p b d at (length es) o (st 0 (omega arith)) (ln 0 (omega arith)) w₁ w₂ (omega arith) (omega arith) j h)
    (λ k h. holds_at (at + 12 * suc k) (at + 12 + 12 * k) (omega arith) (st (suc k) (omega arith)))
    (λ k h. holds_at (at + 12 * suc k + 8) (at + 12 + 12 * k + 8) (omega arith) (ln (suc k) (omega arith)))
    ∙ sym (sets_one b at e es p ps)
  where
    outer_bytes : (e : Event) (p : ℕ) (b d : List ℕ) (at n : ℕ) → ((j : ℕ) → (j < at) ⊎ (at + 12 * suc n ≤ j) → get_or d j 0 ≡ get_or b j 0) →
        Holds d (at + 12 * 0) (bytes_of e) → Holds d (at + 12 * 0 + 8) (u32_bytes p) → {b₁ b₂ : List ℕ} → Wrote b at (bytes_of e) b₁ →
        Wrote b₁ (at + 8) (u32_bytes p) b₂ → at + 8 ≤ length b → at + 8 + 4 ≤ length b₁ → (j : ℕ) → (j < at + 12) ⊎ (at + 12 + 12 * n ≤ j) →
        get_or d j 0 ≡ get_or b₂ j 0
    outer_bytes e p b d at n o st ln {b₁} {b₂} w₁ w₂ r₁ r₂ j (inr h) =
        o j (inr (omega arith)) ∙ sym (kept_byte w₂ j (inr (omega arith)) ∙ kept_byte w₁ j (inr (omega arith)))
    outer_bytes e p b d at n o st ln {b₁} {b₂} w₁ w₂ r₁ r₂ j (inl h) = go (side j at) (side j (at + 8))
      where
        events : Holds b₂ at (bytes_of e)
        events = holds_still w₂ (inl (omega arith)) (holds_here w₁ r₁)

        go : (j < at) ⊎ (at ≤ j) → (j < at + 8) ⊎ (at + 8 ≤ j) → get_or d j 0 ≡ get_or b₂ j 0
        go (inl x) y = o j (inl x) ∙ sym (kept_byte w₂ j (inl (omega arith)) ∙ kept_byte w₁ j (inl x))
        go (inr x) (inl y) = both_hold (holds_at (at + 12 * 0) at (omega arith) st) events j x y
        go (inr x) (inr y) = both_hold (holds_at (at + 12 * 0 + 8) (at + 8) (omega arith) ln) (holds_here w₂ r₂) j y (omega arith)
