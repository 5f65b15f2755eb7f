-- The enters that are open before event i of a balanced list: how an event changes them, that as many events are still to come, and that an exit closes the
-- innermost.
-- Assumes nothing.
use mathlib.Core.Path.{◌≡◌, refl, sym, ap, ◌∙◌}
use mathlib.Core.Bool.{true}
use mathlib.Core.Logic.{◌⊎◌, inl, inr}
use mathlib.Core.List.{List, [], ◌∷◌}
use Prim.Native.Nat.{ℕ, zero, suc, ◌+◌, ◌-◌, ◌≤◌, ◌<◌}
use native.Mathlib.Numerals.{add-one}
use native.Mathlib.Omega.{arith}
use lib.ListN.{length, take, drop, length-drop}
use lib.Seq.{take-suc, length-take-le}
use borrow.Author.Tests.{eq-eqb, ne_eqb, eqb-true}
use Rattle.record.specs.Choice.{choose}
use Rattle.record.specs.Event.{event}
use Rattle.record.specs.Partners.{balanced_from, balanced}
use Rattle.record.specs.Stack.{innermost_of, outer, after, open_after, open_at, nth}
use Rattle.record.specs.declared.event.Event.{Event}
use Rattle.record.proofs.Soundness.{open_append}
use Rattle.partners.specs.Laws.{partner_of}
use Rattle.partners.proofs.Walk.{same, drop_next, fits_enter, fits_exit}
use Rattle.partners.proofs.Laws.{exit_innermost, exit_partner}

open_one : (e : Event) (i : ℕ) (held : List ℕ) → open_after (e ∷ []) i held ≡ after e i held
unfolding open_after
open_one e i held = refl

pub open_none : open_after [] 0 [] ≡ []
unfolding open_after
open_none = refl

open_next : (es : List Event) (i : ℕ) → i < length es → open_at es (i + 1) ≡ after (nth es i) i (open_at es i)
open_next es i h =
    let l : length (take i es) ≡ i = length-take-le i es (omega arith) in
    let z : 0 + length (take i es) ≡ i = omega arith in
    ap (λ (k : ℕ). open_at es k) (add-one i)
    ∙ ap (λ (x : List Event). open_after x 0 []) (take-suc es i (event 0 0 0) h)
    ∙ open_append (take i es) (nth es i ∷ []) 0 []
    ∙ ap (λ (k : ℕ). open_after (nth es i ∷ []) k (open_at es i)) z
    ∙ open_one (nth es i) i (open_at es i)

pub open_enter : (es : List Event) (i : ℕ) → i < length es → (nth es i).kind ≡ 0 → open_at es (i + 1) ≡ i ∷ open_at es i
unfolding after choose
open_enter es i h z = open_next es i h ∙ rw (eq-eqb _ _ z)

pub open_exit : (es : List Event) (i : ℕ) → i < length es → ((nth es i).kind ≡ 0 → ⊥) → open_at es (i + 1) ≡ outer (open_at es i)
unfolding after choose
open_exit es i h z = open_next es i h ∙ rw (ne_eqb (nth es i).kind 0 z)

length_outer : (held : List ℕ) → length (outer held) ≡ length held - 1
length_outer [] = refl
length_outer (h ∷ hs) = omega arith

-- what is left closes them
pub left_balanced : (es : List Event) → balanced es ≡ true → (i : ℕ) → i ≤ length es → balanced_from (length (open_at es i)) (drop i es) ≡ true
left_balanced es b zero h = ap (λ (l : List ℕ). balanced_from (length l) es) open_none ∙ b
left_balanced es b (suc i) h =
    let more : balanced_from (length (open_at es i)) (nth es i ∷ drop (i + 1) es) ≡ true =
    rw (drop_next es i (omega arith)) at (left_balanced es b i (omega arith)) in
    rw (← add-one i) (go more (same (nth es i).kind 0))
  where
    go : balanced_from (length (open_at es i)) (nth es i ∷ drop (i + 1) es) ≡ true → ((nth es i).kind ≡ 0) ⊎ ((nth es i).kind ≡ 0 → ⊥) →
        balanced_from (length (open_at es (i + 1))) (drop (i + 1) es) ≡ true
    go more (inl z) =
        ap (λ (l : List ℕ). balanced_from (length l) (drop (i + 1) es)) (open_enter es i (omega arith) z)
        ∙ fits_enter (length (open_at es i)) (nth es i) (drop (i + 1) es) z more
    go more (inr z) =
        ap (λ (l : List ℕ). balanced_from (length l) (drop (i + 1) es)) (open_exit es i (omega arith) z)
        ∙ ap (λ (k : ℕ). balanced_from k (drop (i + 1) es)) (length_outer (open_at es i))
        ∙ (fits_exit (length (open_at es i)) (nth es i) (drop (i + 1) es) z more).1

none_left : (n : ℕ) → balanced_from n [] ≡ true → n ≡ 0
unfolding balanced_from
none_left n q = eqb-true n 0 q

enough_left : (n : ℕ) (es : List Event) → balanced_from n es ≡ true → n ≤ length es
enough_left n [] q = let z : n ≡ 0 = none_left n q in omega arith
enough_left n (e ∷ es) q = go (λ m. enough_left m es) (same e.kind 0)
  where
    go : ((m : ℕ) → balanced_from m es ≡ true → m ≤ length es) → (e.kind ≡ 0) ⊎ (e.kind ≡ 0 → ⊥) → n ≤ suc (length es)
    go r (inl z) = omega (arith, r (suc n) (fits_enter n e es z q))
    go r (inr z) = let f = fits_exit n e es z q in omega (arith, r (n - 1) f.1)

-- each that is open has its exit still to come
pub room_for_open : (es : List Event) → balanced es ≡ true → (i : ℕ) → i ≤ length es → i + length (open_at es i) ≤ length es
room_for_open es b i h = omega (arith, enough_left (length (open_at es i)) (drop i es) (left_balanced es b i h), length-drop i es)

-- the innermost, at an exit, and the others
pub record Innermost (es : List Event) (i : ℕ) : Type 0 where
  pub all : open_at es i ≡ partner_of es i ∷ open_at es (i + 1)
  pub before : partner_of es i < i
  pub back : partner_of es (partner_of es i) ≡ i

pub innermost_open : (es : List Event) → balanced es ≡ true → (i : ℕ) → i < length es → ((nth es i).kind ≡ 0 → ⊥) → Innermost es i
innermost_open es b i h z =
    let p = exit_partner es b i h z in
    let m : balanced_from (length (open_at es i)) (nth es i ∷ drop (i + 1) es) ≡ true =
    ap (λ (l : List Event). balanced_from (length (open_at es i)) l) (sym (drop_next es i h)) ∙ left_balanced es b i (omega arith) in
    let f = fits_exit (length (open_at es i)) (nth es i) (drop (i + 1) es) z m in
    record {
      all = whole (open_at es i) f.0 ∙ ap (λ (k : ℕ). k ∷ outer (open_at es i)) (sym (exit_innermost es i h z)) ∙ ap (λ (l : List ℕ). partner_of es i ∷ l) (sym (open_exit es i h z));
      before = p.order;
      back = p.forth;
    }
  where
    whole : (held : List ℕ) → 0 < length held → held ≡ innermost_of held ∷ outer held
    whole [] g = absurd (omega arith)
    whole (x ∷ xs) g = refl
