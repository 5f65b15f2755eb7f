-- An enter's partner, and what stands between the two: `closing` gives the first exit before which all that came since is balanced, and no other.
-- Assumes nothing.
use mathlib.Core.Path.{◌≡◌, refl, sym, ap, ◌∙◌}
use mathlib.Core.Bool.{true}
use mathlib.Core.Logic.{◌⊎◌, inl, inr}
use mathlib.Core.List.{List, [], ◌∷◌}
use Prim.Native.Nat.{ℕ, zero, suc, ◌+◌, ◌-◌, ◌≤◌, ◌<◌}
use native.Mathlib.Numerals.{add-one}
use native.Mathlib.Omega.{arith}
use lib.ListN.{length, take}
use borrow.Author.Tests.{eq-eqb, ne_eqb, lt-ltb, eqb-true}
use Rattle.record.specs.Choice.{choose, and}
use Rattle.record.specs.Stack.{nth}
use Rattle.record.specs.Partners.{balanced_from, closing}
use Rattle.record.specs.declared.event.Event.{Event}
use Rattle.partners.proofs.Walk.{same, closing_enter, closing_inner, closing_here, fits_enter, fits_exit}

-- an event before a balanced list
pub balanced_enter : (n : ℕ) (e : Event) (es : List Event) → e.kind ≡ 0 → balanced_from (suc n) es ≡ true → balanced_from n (e ∷ es) ≡ true
unfolding balanced_from choose
balanced_enter n e es z q = rw (eq-eqb _ _ z, add-one) q

pub balanced_exit : (n : ℕ) (e : Event) (es : List Event) → (e.kind ≡ 0 → ⊥) → balanced_from n es ≡ true → balanced_from (suc n) (e ∷ es) ≡ true
unfolding balanced_from choose and
balanced_exit n e es z q =
    let k : suc n - 1 ≡ n = omega arith in
    rw (ne_eqb e.kind 0 z, lt-ltb 0 (suc n) (omega arith), k) q

pub balanced_none : balanced_from 0 [] ≡ true
unfolding balanced_from
balanced_none = refl

none_balanced : (n : ℕ) → balanced_from n [] ≡ true → n ≡ 0
unfolding balanced_from
none_balanced n q = eqb-true n 0 q

closing_end : (n i : ℕ) → closing n [] i ≡ i
unfolding closing
closing_end n i = refl

-- it is not before the event that comes next
pub closing_above : (n : ℕ) (es : List Event) (i : ℕ) → i ≤ closing n es i
closing_above n [] i = rw (closing_end n i) (omega arith)
closing_above n (e ∷ es) i = go n (λ m. closing_above m es (i + 1)) (same e.kind 0)
  where
    go : (n : ℕ) → ((m : ℕ) → i + 1 ≤ closing m es (i + 1)) → (e.kind ≡ 0) ⊎ (e.kind ≡ 0 → ⊥) → i ≤ closing n (e ∷ es) i
    go n r (inl z) =
        let c : closing n (e ∷ es) i ≡ closing (n + 1) es (i + 1) = closing_enter e es n (n + 1) i z refl in
        omega (arith, r (n + 1))
    go zero r (inr z) = rw (closing_here e es i z) (omega arith)
    go (suc m) r (inr z) =
        let c : closing (suc m) (e ∷ es) i ≡ closing m es (i + 1) = closing_inner e es (suc m) m i z (omega arith) in
        omega (arith, r m)

-- what comes before it is balanced, where it lies in the list
pub closing_between : (n : ℕ) (es : List Event) (i q : ℕ) → closing n es i ≡ q → q < i + length es → balanced_from n (take (q - i) es) ≡ true
closing_between n [] i q c h =
    let e : closing n [] i ≡ i = closing_end n i in
    absurd (omega arith)
closing_between n (e ∷ es) i q c h = go n c (λ m g. closing_between m es (i + 1) q g (omega arith)) (same e.kind 0)
  where
    -- one event more
    more : (n m : ℕ) → closing m es (i + 1) ≡ q → balanced_from n (e ∷ take (q - (i + 1)) es) ≡ true → balanced_from n (take (q - i) (e ∷ es)) ≡ true
    more n m c b =
        let a : i + 1 ≤ closing m es (i + 1) = closing_above m es (i + 1) in
        let s : q - i ≡ suc (q - (i + 1)) = omega arith in
        ap (λ (k : ℕ). balanced_from n (take k (e ∷ es))) s ∙ b

    go : (n : ℕ) → closing n (e ∷ es) i ≡ q → ((m : ℕ) → closing m es (i + 1) ≡ q → balanced_from m (take (q - (i + 1)) es) ≡ true) →
        (e.kind ≡ 0) ⊎ (e.kind ≡ 0 → ⊥) → balanced_from n (take (q - i) (e ∷ es)) ≡ true
    go n c r (inl z) =
        let g : closing (suc n) es (i + 1) ≡ q = sym (closing_enter e es n (suc n) i z (omega arith)) ∙ c in
        more n (suc n) g (balanced_enter n e (take (q - (i + 1)) es) z (r (suc n) g))
    go zero c r (inr z) =
        let w : closing 0 (e ∷ es) i ≡ i = closing_here e es i z in
        let s : q - i ≡ 0 = omega arith in
        ap (λ (k : ℕ). balanced_from 0 (take k (e ∷ es))) s ∙ balanced_none
    go (suc m) c r (inr z) =
        let g : closing m es (i + 1) ≡ q = sym (closing_inner e es (suc m) m i z (omega arith)) ∙ c in
        more (suc m) m g (balanced_exit m e (take (q - (i + 1)) es) z (r m g))

-- and an exit before which all is balanced is the one
pub closing_at : (n : ℕ) (es : List Event) (i m : ℕ) → balanced_from n (take m es) ≡ true → m < length es → ((nth es m).kind ≡ 0 → ⊥) → closing n es i ≡ i + m
closing_at n [] i m b h x = absurd (omega arith)
closing_at n (e ∷ es) i zero b h x =
    let z : n ≡ 0 = none_balanced n b in
    let y : i ≡ i + 0 = omega arith in
    ap (λ (k : ℕ). closing k (e ∷ es) i) z ∙ closing_here e es i x ∙ y
closing_at n (e ∷ es) i (suc m) b h x = go (λ k g. closing_at k es (i + 1) m g (omega arith) x) (same e.kind 0)
  where
    go : ((k : ℕ) → balanced_from k (take m es) ≡ true → closing k es (i + 1) ≡ i + 1 + m) → (e.kind ≡ 0) ⊎ (e.kind ≡ 0 → ⊥) → closing n (e ∷ es) i ≡ i + suc m
    go r (inl z) =
        let c = closing_enter e es n (suc n) i z (omega arith) in
        omega (arith, c, r (suc n) (fits_enter n e (take m es) z b))
    go r (inr z) =
        let f = fits_exit n e (take m es) z b in
        let p : 0 < n = f.0 in
        let c = closing_inner e es n (n - 1) i z (omega arith) in
        omega (arith, c, r (n - 1) f.1)
