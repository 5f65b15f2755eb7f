-- The judgement of the events, as row 5 has it: the first event that is broken, or events left open, or nothing of either.
-- Assumes nothing.
use mathlib.Core.Path.{◌≡◌, refl, ap, subst}
use mathlib.Core.Bool.{Bool, true, false}
use mathlib.Core.Logic.{◌⊎◌, inl, inr, ⊎_elim}
use mathlib.Core.List.{List, ◌∷◌}
use Prim.Native.Nat.{ℕ, zero, suc, ◌+◌, ◌≤◌, ◌<◌}
use native.Mathlib.Numerals.{add-one}
use native.Mathlib.Omega.{arith}
use lib.ListN.{length}
use lib.Dec.{leb, ltb, eqb}
use borrow.Author.Tests.{ne_eqb, le-ltb, leb-true, leb-false, ltb-false, eqb-true, eqb-false}
use Rattle.record.specs.Choice.{choose, and}
use Rattle.record.specs.Form.{place_in, mate_in}
use Rattle.record.specs.declared.form.Form.{Form}
use Rattle.record.specs.Event.{stored_at, all_stored_at, event_at}
use Rattle.record.specs.Stack.{innermost, innermost_of, none, fits_open}
use Rattle.record.specs.Sound.{placed}
use Rattle.record.specs.Check.{refuse, formed, paired, truly, judge, Reading}
use Rattle.record.specs.Rows.{open_names, open_numbers, place_before, Broken, bad_kind, bad_name, bad_zeros, past_document, below_last, no_enter, too_deep, untrue_exit, untrue_enter}
use Rattle.record.proofs.Bools.{and_left, and_right, and_split, clash}
use Rattle.record.proofs.Soundness.{fits_room, fits_partner}

-- the test of one event
abbrev stands : Form → List ℕ → ℕ → ℕ → Bool
stands fm s d k = and (formed (stored_at s (place_in fm d k)) d (place_before fm s d k)) (and (fits_open 64 (event_at s (place_in fm d k)) (open_names fm s d k))
    (truly fm.width (mate_in fm s d) (event_at s (place_in fm d k)) k (open_numbers fm s d k)))

-- a kind that is 0 or 1 and not 0
one : (n : ℕ) → n ≤ 1 → (n ≡ 0 → ⊥) → n ≡ 1
one zero h z = absurd (z refl)
one (suc n) h z = omega arith

not_innermost : (name : ℕ) (held rest : List ℕ) → held ≡ name ∷ rest → innermost name held ≡ false → ⊥
not_innermost name held rest e q =
    let t : eqb name name ≡ false = rw e at q in
    eqb-false name name t refl

-- what a true pair tells
true_pair : (fm : Form) (s : List ℕ) (d k : ℕ) → truly fm.width (mate_in fm s d) (event_at s (place_in fm d k)) k (open_numbers fm s d k) ≡ true → 12 ≤ fm.width →
    (event_at s (place_in fm d k)).kind ≡ 1 → (mate_in fm s d k ≡ innermost_of (open_numbers fm s d k)) × (mate_in fm s d (innermost_of (open_numbers fm s d k)) ≡ k)
unfolding truly paired choose
true_pair fm s d k q l h =
    let t : and (eqb (mate_in fm s d k) (innermost_of (open_numbers fm s d k))) (eqb (mate_in fm s d (innermost_of (open_numbers fm s d k))) k) ≡ true =
    rw (ne_eqb (event_at s (place_in fm d k)).kind 0 (λ z. omega arith), le-ltb fm.width 12 l) at q in
    (eqb-true _ _ (and_left _ _ t), eqb-true _ _ (and_right _ _ t))

-- an event that stands is not broken
pub stands_sound : (fm : Form) (s : List ℕ) (d k : ℕ) → stands fm s d k ≡ true → Broken fm s d k → ⊥
unfolding formed placed
stands_sound fm s d k q (bad_kind h) =
    let f : (event_at s (place_in fm d k)).kind ≤ 1 = leb-true _ _ (and_left _ _ (and_right _ _ (and_left _ _ q))) in omega arith
stands_sound fm s d k q (bad_name h) =
    let f : (event_at s (place_in fm d k)).name ≤ 24 = leb-true _ _ (and_left _ _ (and_right _ _ (and_right _ _ (and_left _ _ q)))) in omega arith
stands_sound fm s d k q (bad_zeros h) = h (eqb-true _ _ (and_left _ _ (and_left _ _ q)))
stands_sound fm s d k q (past_document h) =
    let f : (event_at s (place_in fm d k)).place ≤ d = leb-true _ _ (and_left _ _ (and_right _ _ (and_right _ _ (and_right _ _ (and_left _ _ q))))) in omega arith
stands_sound fm s d k q (below_last h) =
    let f : place_before fm s d k ≤ (event_at s (place_in fm d k)).place = leb-true _ _ (and_right _ _ (and_right _ _ (and_right _ _ (and_right _ _ (and_left _ _ q))))) in omega arith
stands_sound fm s d k q (no_enter h i) = i _ (fits_partner 64 (event_at s (place_in fm d k)) (open_names fm s d k) (and_left _ _ (and_right _ _ q)) h)
stands_sound fm s d k q (too_deep h i) =
    let f : length (open_names fm s d k) < 64 = fits_room 64 (event_at s (place_in fm d k)) (open_names fm s d k) (and_left _ _ (and_right _ _ q)) h in omega arith
stands_sound fm s d k q (untrue_exit l h n) = n (true_pair fm s d k (and_right _ _ (and_right _ _ q)) l h).0
stands_sound fm s d k q (untrue_enter l h n) = n (true_pair fm s d k (and_right _ _ (and_right _ _ q)) l h).1

-- one that does not is
truly_broken : (fm : Form) (s : List ℕ) (d k : ℕ) → truly fm.width (mate_in fm s d) (event_at s (place_in fm d k)) k (open_numbers fm s d k) ≡ false → Broken fm s d k
unfolding truly paired choose
truly_broken fm s d k q = go (eqb (event_at s (place_in fm d k)).kind 0) refl q
  where
    test : Bool
    test = and (eqb (mate_in fm s d k) (innermost_of (open_numbers fm s d k))) (eqb (mate_in fm s d (innermost_of (open_numbers fm s d k))) k)

    third : 12 ≤ fm.width → (event_at s (place_in fm d k)).kind ≡ 1 → test ≡ false → Broken fm s d k
    third l h t = ⊎_elim (λ x. untrue_exit l h (eqb-false _ _ x)) (λ x. untrue_enter l h (eqb-false _ _ x)) (and_split _ _ t)

    second : (z : Bool) → leb (event_at s (place_in fm d k)).kind 1 ≡ z → ((event_at s (place_in fm d k)).kind ≡ 0 → ⊥) → 12 ≤ fm.width → test ≡ false → Broken fm s d k
    second true e n l t = third l (one _ (leb-true _ _ e) n) t
    second false e n l t = bad_kind (leb-false _ _ e)

    first : (z : Bool) → ltb fm.width 12 ≡ z → ((event_at s (place_in fm d k)).kind ≡ 0 → ⊥) → choose z true test ≡ false → Broken fm s d k
    first true e n t = absurd (clash refl t)
    first false e n t = second (leb (event_at s (place_in fm d k)).kind 1) refl n (ltb-false _ _ e) t

    go : (z : Bool) → eqb (event_at s (place_in fm d k)).kind 0 ≡ z → choose z true (choose (ltb fm.width 12) true test) ≡ false → Broken fm s d k
    go true e t = absurd (clash refl t)
    go false e t = first (ltb fm.width 12) refl (eqb-false _ _ e) t

fits_broken : (fm : Form) (s : List ℕ) (d k : ℕ) → fits_open 64 (event_at s (place_in fm d k)) (open_names fm s d k) ≡ false → Broken fm s d k
unfolding fits_open choose
fits_broken fm s d k q = go (eqb (event_at s (place_in fm d k)).kind 0) refl q
  where
    other : (z : Bool) → leb (event_at s (place_in fm d k)).kind 1 ≡ z → eqb (event_at s (place_in fm d k)).kind 0 ≡ false →
        innermost (event_at s (place_in fm d k)).name (open_names fm s d k) ≡ false → Broken fm s d k
    other true e n q =
        let a : (event_at s (place_in fm d k)).kind ≤ 1 = leb-true _ _ e in
        let b : (event_at s (place_in fm d k)).kind ≡ 0 → ⊥ = eqb-false _ _ n in
        no_enter (one _ a b) (λ rest e. not_innermost _ _ rest e q)
    other false e n q = bad_kind (leb-false _ _ e)

    go : (z : Bool) → eqb (event_at s (place_in fm d k)).kind 0 ≡ z →
        choose z (ltb (length (open_names fm s d k)) 64) (innermost (event_at s (place_in fm d k)).name (open_names fm s d k)) ≡ false → Broken fm s d k
    go true e q = too_deep (eqb-true _ _ e) (ltb-false _ _ q)
    go false e q = other (leb (event_at s (place_in fm d k)).kind 1) refl e q

formed_broken : (fm : Form) (s : List ℕ) (d k : ℕ) → formed (stored_at s (place_in fm d k)) d (place_before fm s d k) ≡ false → Broken fm s d k
unfolding formed placed
formed_broken fm s d k q =
    ⊎_elim (λ e. bad_zeros (eqb-false _ _ e))
    (λ q₁. ⊎_elim (λ e. bad_kind (leb-false _ _ e))
    (λ q₂. ⊎_elim (λ e. bad_name (leb-false _ _ e))
    (λ q₃. ⊎_elim (λ e. past_document (leb-false _ _ e))
    (λ e. below_last (leb-false _ _ e))
    (and_split _ _ q₃))
    (and_split _ _ q₂))
    (and_split _ _ q₁))
    (and_split _ _ q)

pub broken_of : (fm : Form) (s : List ℕ) (d k : ℕ) → stands fm s d k ≡ false → Broken fm s d k
broken_of fm s d k q =
    ⊎_elim (λ e. formed_broken fm s d k e) (λ e. ⊎_elim (λ x. fits_broken fm s d k x) (λ x. truly_broken fm s d k x) (and_split _ _ e)) (and_split _ _ q)

-- what the judgement of n events from event k on comes to
pub data Verdict (fm : Form) (s : List ℕ) (d k n : ℕ) (good r : Reading) : Type 0 where
  all_good : r ≡ good → ((i : ℕ) → k ≤ i → i < k + n → Broken fm s d i → ⊥) → none (open_names fm s d (k + n)) ≡ true → Verdict fm s d k n good r
  one_bad : (i : ℕ) → r ≡ refuse 5 (place_in fm d i) → k ≤ i → i < k + n → Broken fm s d i → ((j : ℕ) → k ≤ j → j < i → Broken fm s d j → ⊥) →
      Verdict fm s d k n good r
  some_left : r ≡ refuse 5 (place_in fm d (k + n)) → ((i : ℕ) → k ≤ i → i < k + n → Broken fm s d i → ⊥) → none (open_names fm s d (k + n)) ≡ false →
      Verdict fm s d k n good r

-- where event k stands, the bounds move by one
from_next : (k i : ℕ) → k ≤ i → (i ≡ k) ⊎ (suc k ≤ i)
from_next k i h = go (leb (suc k) i) refl
  where
    go : (z : Bool) → leb (suc k) i ≡ z → (i ≡ k) ⊎ (suc k ≤ i)
    go true e = inr (leb-true _ _ e)
    go false e =
        let f : i < suc k = leb-false _ _ e in
        inl (omega arith)

none_more : (fm : Form) (s : List ℕ) (d k m : ℕ) → (Broken fm s d k → ⊥) → ((i : ℕ) → suc k ≤ i → i < m → Broken fm s d i → ⊥) → (i : ℕ) → k ≤ i → i < m → Broken fm s d i → ⊥
none_more fm s d k m nb f i h l b =
    ⊎_elim (λ e. nb (subst (λ (x : ℕ). Broken fm s d x) e b)) (λ g. f i g l b) (from_next k i h)

one_more : (fm : Form) (s : List ℕ) (d k n : ℕ) (good r : Reading) → (Broken fm s d k → ⊥) → Verdict fm s d (suc k) n good r → Verdict fm s d k (suc n) good r
one_more fm s d k n good r nb (all_good q f o) =
    let z : suc k + n ≡ k + suc n = omega arith in
    all_good q (rw z at (none_more fm s d k (suc k + n) nb f)) (rw z at o)
one_more fm s d k n good r nb (one_bad i q h l b f) = one_bad i q (omega arith) (omega arith) b (none_more fm s d k i nb f)
one_more fm s d k n good r nb (some_left q f o) =
    let z : suc k + n ≡ k + suc n = omega arith in
    some_left (rw z at q) (rw z at (none_more fm s d k (suc k + n) nb f)) (rw z at o)

-- the judgement of n events from event k on
abbrev judge_from : Form → ℕ → List ℕ → ℕ → ℕ → Reading → Reading
judge_from fm n s d k good = judge fm.width (mate_in fm s d) (all_stored_at fm.width n s (place_in fm d k)) d k (place_in fm d k) (place_before fm s d k) (open_names fm s d k) (open_numbers fm s d k) good

pub verdict : (fm : Form) (n : ℕ) (s : List ℕ) (d k : ℕ) (good : Reading) → Verdict fm s d k n good (judge_from fm n s d k good)
unfolding judge all_stored_at open_names open_numbers place_before choose
verdict fm zero s d k good = go (none (open_names fm s d k)) refl
  where
    z : k ≡ k + 0
    z = omega arith

    nothing : (i : ℕ) → k ≤ i → i < k + 0 → Broken fm s d i → ⊥
    nothing i h l b = omega arith

    go : (b : Bool) → none (open_names fm s d k) ≡ b → Verdict fm s d k 0 good (choose b good (refuse 5 (place_in fm d k)))
    go true e = all_good refl nothing (rw (← z) e)
    go false e = some_left (ap (λ (m : ℕ). refuse 5 (place_in fm d m)) z) nothing (rw (← z) e)
verdict fm (suc n) s d k good = rw (add-one k) (go (stands fm s d k) refl (verdict fm n s d (suc k) good))
  where
    z : place_in fm d (suc k) ≡ place_in fm d k + fm.width
    z = omega arith

    go : (b : Bool) → stands fm s d k ≡ b → Verdict fm s d (suc k) n good (judge_from fm n s d (suc k) good) →
        Verdict fm s d k (suc n) good (choose b (judge fm.width (mate_in fm s d) (all_stored_at fm.width n s (place_in fm d k + fm.width)) d (suc k) (place_in fm d k + fm.width) (place_before fm s d (suc k)) (open_names fm s d (suc k)) (open_numbers fm s d (suc k)) good) (refuse 5 (place_in fm d k)))
    go true e v = one_more fm s d k n good _ (stands_sound fm s d k e) (rw z at v)
    go false e v = one_bad k refl (omega arith) (omega arith) (broken_of fm s d k e) (λ j h l b. omega arith)
