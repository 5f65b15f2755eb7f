-- Partner numbers that are untrue: the walk over the events goes with the changed record as with the good one, up to the first exit that is untrue.
-- Assumes nothing.
use Prim.Native.Nat.{ℕ, zero, suc, ◌+◌, ◌*◌, ◌≤◌, ◌<◌}
use native.Mathlib.Nat.{zero-add}
use native.Mathlib.Omega.{arith}
use mathlib.Core.Path.{◌≡◌, refl, sym, ap, ◌∙◌}
use mathlib.Core.Bool.{Bool, true, false}
use mathlib.Core.List.{List, [], ◌∷◌}
use lib.ListN.{length, get_or}
use lib.Dec.{eqb}
use borrow.Author.Tests.{eq-eqb, ne_eqb, eqb-false}
use Rattle.record.specs.Bytes.{u32_at}
use Rattle.record.specs.Check.{refuse, formed, paired, truly, judge, checked_in, admitted, Reading, accept}
use Rattle.record.specs.Choice.{choose, and}
use Rattle.record.specs.Event.{Stored, all_stored_at}
use Rattle.record.specs.Form.{second, mate_in}
use Rattle.record.specs.Stack.{innermost_of, fits_open, after}
use Rattle.record.specs.Untrue.{UntrueIsRefused}
use Rattle.record.specs.declared.event.Event.{Event}
use Rattle.record.specs.declared.form.Handed.TheVariants.{Second}
use Rattle.record.proofs.Bools.{and_left, and_right, and_both, and_false}
use Rattle.record.proofs.Chosen.{first_side, second_side}
use Rattle.record.proofs.Counts.{fits}
use Rattle.record.proofs.Good.{held_test, held_side, true_mates, truly_mates, passes_all, admission}
use Rattle.record.proofs.Whole.{document_fits, events_fit, ends, inside, rest_checked, enough_work}

unfoldable kind_at : List Stored → ℕ → ℕ
kind_at [] j = 0
kind_at (v ∷ vs) zero = v.what.kind
kind_at (v ∷ vs) (suc j) = kind_at vs j

kind_there : (s : List ℕ) (n at j : ℕ) → j < n → kind_at (all_stored_at 12 n s at) j ≡ get_or s (at + 12 * j) 0
unfolding all_stored_at kind_at
kind_there s zero at j h = absurd (omega arith)
kind_there s (suc n) at zero h = let z : at ≡ at + 12 * 0 = omega arith in ap (λ (m : ℕ). get_or s m 0) z
kind_there s (suc n) at (suc j) h =
    let z : at + 12 + 12 * j ≡ at + 12 * suc j = omega arith in
    kind_there s n (at + 12) j (omega arith) ∙ ap (λ (m : ℕ). get_or s m 0) z

not_so : (b : Bool) → (b ≡ true → ⊥) → b ≡ false
not_so true h = absurd (h refl)
not_so false h = refl

-- the walk with the numbers `mates`, beside that with `true_ones`, by which all is good
module _ (mates true_ones : ℕ → ℕ) where
  abbrev Kept : ℕ → Type 0
  Kept k = (mates k ≡ true_ones k) × (mates (true_ones k) ≡ true_ones (true_ones k))

  module _ (e : Event) (k : ℕ) (opens : List ℕ) (q : truly 12 true_ones e k opens ≡ true) (x : e.kind ≡ 0 → ⊥) where
    its_enter : (true_ones k ≡ innermost_of opens) × (true_ones (innermost_of opens) ≡ k)
    its_enter = truly_mates 12 true_ones e k opens q (omega arith) x

    kept_pair : Kept k → paired 12 (mates k) (mates (innermost_of opens)) (innermost_of opens) k ≡ true
    unfolding paired choose
    kept_pair p =
        let i = its_enter in
        let a : mates k ≡ innermost_of opens = p.0 ∙ i.0 in
        let b : mates (innermost_of opens) ≡ k = (rw i.0 at p.1) ∙ i.1 in
        and_both _ _ (eq-eqb _ _ a) (eq-eqb _ _ b)

    pair_kept : paired 12 (mates k) (mates (innermost_of opens)) (innermost_of opens) k ≡ true → Kept k
    pair_kept p =
        let i = its_enter in
        let m = true_mates 12 (mates k) (mates (innermost_of opens)) (innermost_of opens) k p (omega arith) in
        let b : mates (innermost_of opens) ≡ true_ones (innermost_of opens) = m.1 ∙ sym i.1 in
        (m.0 ∙ sym i.0, rw (← i.0) at b)

    untruly : (Kept k → ⊥) → truly 12 mates e k opens ≡ false
    unfolding truly choose
    untruly n = rw (ne_eqb e.kind 0 x) (not_so _ (λ p. n (pair_kept p)))

  truly_still : (e : Event) (k : ℕ) (opens : List ℕ) → truly 12 true_ones e k opens ≡ true → ((e.kind ≡ 0 → ⊥) → Kept k) → truly 12 mates e k opens ≡ true
  unfolding truly choose
  truly_still e k opens q p = go (eqb e.kind 0) refl
    where
      go : (b : Bool) → eqb e.kind 0 ≡ b → truly 12 mates e k opens ≡ true
      go true z = rw z
      go false z =
          let x : e.kind ≡ 0 → ⊥ = eqb-false e.kind 0 z in
          rw z (kept_pair e k opens q x (p x))

  refused_at : (j : ℕ) (vs : List Stored) (d k at last : ℕ) (held opens : List ℕ) (good : Reading) (a b : ℕ) →
      judge 12 true_ones vs d k at last held opens good ≡ accept a b → (kind_at vs j ≡ 0 → ⊥) → (Kept (k + j) → ⊥) →
      ((i : ℕ) → i < j → (kind_at vs i ≡ 0 → ⊥) → Kept (k + i)) → judge 12 mates vs d k at last held opens good ≡ refuse 5 (at + 12 * j)
  unfolding judge kind_at
  refused_at j [] d k at last held opens good a b q x n f = absurd (x refl)
  refused_at zero (v ∷ vs) d k at last held opens good a b q x n f =
      let t = held_test _ _ _ _ _ _ q in
      let y : k + 0 ≡ k = omega arith in
      let z : at ≡ at + 12 * 0 = omega arith in
      let u : truly 12 mates v.what k opens ≡ false =
      untruly v.what k opens (and_right _ _ (and_right _ _ t)) x (λ p. n (rw y p)) in
      let w : and (formed v d last) (and (fits_open 64 v.what held) (truly 12 mates v.what k opens)) ≡ false =
      and_false _ _ (and_false _ _ u) in
      second_side _ _ _ _ w (ap (refuse 5) z)
  refused_at (suc j) (v ∷ vs) d k at last held opens good a b q x n f =
      let t = held_test _ _ _ _ _ _ q in
      let y : k + 0 ≡ k = omega arith in
      let u : truly 12 mates v.what k opens ≡ true =
      truly_still v.what k opens (and_right _ _ (and_right _ _ t)) (λ g. rw y at (f 0 (omega arith) g)) in
      let w : and (formed v d last) (and (fits_open 64 v.what held) (truly 12 mates v.what k opens)) ≡ true =
      and_both _ _ (and_left _ _ t) (and_both _ _ (and_left _ _ (and_right _ _ t)) u) in
      let shift : (i : ℕ) → k + suc i ≡ k + 1 + i = λ i. omega arith in
      let z : at + 12 + 12 * j ≡ at + 12 * suc j = omega arith in
      first_side _ _ _ _ w
      (refused_at j vs d (k + 1) (at + 12) v.what.place (after v.what v.what.name held) (after v.what k opens) good a b
      (held_side _ _ _ _ _ _ q) x (λ p. n (rw (shift j) p)) (λ i h g. rw (shift i) at (f (suc i) (omega arith) g))
      ∙ ap (refuse 5) z)

-- the check comes to the events
reached : (s : List ℕ) (d e : ℕ) → u32_at s 5 ≡ d → u32_at s (9 + d) ≡ e → d ≤ 16384 → e ≤ 2048 → length s ≡ 13 + d + 12 * e →
    ((k : ℕ) → k < d → get_or s (9 + k) 0 ≡ 13 → ⊥) →
    judge 12 (mate_in second s d) (all_stored_at 12 e s (13 + d)) d 0 (13 + d) 0 [] [] (accept d e) ≡ checked_in second s
reached s d e ed ee ld le whole none =
    inside second s d e (9 + d) (sym (passes_all d s 9 none)) (omega arith)
    ∙ ends second s d e whole
    ∙ events_fit second s d e (sym (fits s (9 + d) 2048 12 e (sym ee) (omega arith) le (omega arith)))
    ∙ document_fits second s d (sym (fits s 5 16384 1 d (sym ed) (omega arith) ld (omega arith)))

same_stored : (s t : List ℕ) (n at : ℕ) → ((k i : ℕ) → k < n → i < 8 → get_or s (at + 12 * k + i) 0 ≡ get_or t (at + 12 * k + i) 0) →
    all_stored_at 12 n s at ≡ all_stored_at 12 n t at
unfolding all_stored_at
same_stored s t zero at f = refl
same_stored s t (suc n) at f =
    let byte : (i m : ℕ) → i < 8 → m ≡ at + 12 * 0 + i → get_or s m 0 ≡ get_or t m 0 = λ i m h q. rw q (f 0 i (omega arith) h) in
    let rest = same_stored s t n (at + 12)
    (λ k i h l. let y : at + 12 * suc k + i ≡ at + 12 + 12 * k + i = omega arith in rw y at (f (suc k) i (omega arith) l)) in
    rw (
      byte 0 at (omega arith) (omega arith),
      byte 1 (at + 1) (omega arith) (omega arith),
      byte 2 (at + 2) (omega arith) (omega arith),
      byte 3 (at + 3) (omega arith) (omega arith),
      byte 4 (at + 4) (omega arith) (omega arith),
      byte 5 (at + 4 + 1) (omega arith) (omega arith),
      byte 6 (at + 4 + 2) (omega arith) (omega arith),
      byte 7 (at + 4 + 3) (omega arith) (omega arith),
      rest,
    )

pub untrue_is_refused : UntrueIsRefused
untrue_is_refused t s works d e k q r u =
    let a = admission Second t works d e q in
    let g = a.good in
    let same : (i : ℕ) → i < 21 + d → get_or s i 0 ≡ get_or t i 0 = λ i h. r.else_same i (λ m j x y z. omega arith) in
    let number : (i : ℕ) → i + 4 ≤ 21 + d → u32_at s i ≡ u32_at t i =
    λ i h. rw (same i (omega arith), same (i + 1) (omega arith), same (i + 2) (omega arith), same (i + 3) (omega arith)) in
    let long : 5 ≤ length s = omega (arith, r.as_long, a.front.0) in
    let front : checked_in second s ≡ admitted Second s works =
    rest_checked s (checked_in second s) (omega arith) (u32_at s 0) refl (number 0 (omega arith) ∙ a.front.1) long (rw (← same 4 (omega arith)) at a.front.2)
    ∙ enough_work Second s works a.memory in
    let there : judge 12 (mate_in second s d) (all_stored_at 12 e s (13 + d)) d 0 (13 + d) 0 [] [] (accept d e) ≡ checked_in second s =
    reached s d e (number 5 (omega arith) ∙ g.document_count) (number (9 + d) (omega arith) ∙ g.event_count) g.small g.few (r.as_long ∙ g.whole)
    (λ i h z. g.no_return i h (sym (same (9 + i) (omega arith)) ∙ z)) in
    let good : judge 12 (mate_in second t d) (all_stored_at 12 e t (13 + d)) d 0 (13 + d) 0 [] [] (accept d e) ≡ accept d e =
    reached t d e g.document_count g.event_count g.small g.few g.whole g.no_return
    ∙ rest_checked t (checked_in second t) (omega (arith, a.front.0)) (u32_at t 0) refl a.front.1 a.front.0 a.front.2
    ∙ enough_work Second t works a.memory
    ∙ q in
    let stored : all_stored_at 12 e s (13 + d) ≡ all_stored_at 12 e t (13 + d) =
    same_stored s t e (13 + d) (λ m i h l. r.else_same (13 + d + 12 * m + i) (λ n j x y z. omega arith)) in
    sym (there ∙ front)
    ∙ ap (λ (vs : List Stored). judge 12 (mate_in second s d) vs d 0 (13 + d) 0 [] [] (accept d e)) stored
    ∙ refused_at (mate_in second s d) (mate_in second t d) k (all_stored_at 12 e t (13 + d)) d 0 (13 + d) 0 [] [] (accept d e) d e good
    (λ z. u.exits (sym (kind_there t e (13 + d) k u.inside) ∙ z))
    (λ p. u.untrue (rw (zero-add k) at p))
    (λ i h x. rw (zero-add i) (u.earlier i h (λ z. x (kind_there t e (13 + d) i (omega (arith, u.inside)) ∙ z))))
