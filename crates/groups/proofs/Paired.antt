-- In sound events every enter has one exit and every exit one enter. From an enter on, what is open is followed until the enter is the innermost
-- and is left; in the end nothing is open. The measure is the events that are left.
-- Assumes nothing.
use Prim.Native.Nat.{ℕ, zero, suc, ◌+◌, ◌-◌, ◌≤◌, ◌<◌}
use mathlib.Core.Path.{◌≡◌, refl}
use mathlib.Core.Bool.{Bool, true, false}
use mathlib.Core.List.{List, [], ◌∷◌}
use mathlib.Core.Logic.{◌⊎◌, inl, inr}
use native.Mathlib.Omega.{arith}
use lib.Dec.{eqb}
use lib.ListN.{length}
use borrow.Author.Tests.{eqb-true, eqb-false}
use Rattle.record.specs.Sound.{sound_from, sound}
use Rattle.record.specs.Stack.{nth, outer, after, open_at}
use Rattle.record.specs.declared.event.Event.{Event}
use Rattle.record.proofs.Soundness.{stands, sound_rest, after_enter, after_exit}
use Rattle.record.proofs.Pairs.{partner, all_closed}
use Rattle.groups.specs.Containers.{Pair, Paired}
use Rattle.groups.proofs.Laws.{below}
use Rattle.groups.proofs.Places.{open_next}
use Rattle.groups.proofs.Opened.{Has, open_at_exit, closed_after}

-- kinds are 0 and 1
kinds : (deep d last : ℕ) (held : List ℕ) (es : List Event) → sound_from deep d last held es ≡ true → (k : ℕ) → k < length es → (nth es k).kind ≤ 1
kinds deep d last held [] s k h = absurd (omega arith)
kinds deep d last held (e ∷ es) s zero h = (stands deep d last held e es s).kind
kinds deep d last held (e ∷ es) s (suc k) h = kinds deep d e.place (after e e.name held) es (sound_rest deep d last held e es s) k (omega arith)

-- an open enter is the innermost or is open outside it
innermost_or : (a : ℕ) (is : List ℕ) → Has a is → (is ≡ a ∷ outer is) ⊎ Has a (outer is)
innermost_or a [] h = absurd h
innermost_or a (x ∷ is) (inl e) = inl (cc)
innermost_or a (x ∷ is) (inr h) = inr h

module _ (deep d : ℕ) (es : List Event) (s : sound deep d es ≡ true) where
  kind_at : (k : ℕ) → k < length es → ((nth es k).kind ≡ 0) ⊎ ((nth es k).kind ≡ 1)
  kind_at k h = go (eqb (nth es k).kind 0) refl
    where
      go : (z : Bool) → eqb (nth es k).kind 0 ≡ z → ((nth es k).kind ≡ 0) ⊎ ((nth es k).kind ≡ 1)
      go true e = inl (eqb-true _ _ e)
      go false e =
          let x : (nth es k).kind ≡ 0 → ⊥ = eqb-false (nth es k).kind 0 e in
          inr (omega (arith, kinds deep d 0 [] es s k h))

  -- from event k on, j of them left
  follow : (a j k : ℕ) → k + j ≡ length es → Has a (open_at es k) → (b : ℕ) × Pair es a b
  follow a zero k l h =
      let e : k ≡ length es = omega arith in
      let n : Has a [] = rw (e, all_closed es deep d s) at h in
      absurd n
  follow a (suc j) k l h = go (follow a j (k + 1) (omega arith)) (kind_at k (omega arith))
    where
      go : (Has a (open_at es (k + 1)) → (b : ℕ) × Pair es a b) → ((nth es k).kind ≡ 0) ⊎ ((nth es k).kind ≡ 1) → (b : ℕ) × Pair es a b
      go ih (inl e) = ih (rw (open_next es k (omega arith), after_enter (nth es k) k (open_at es k) e) (inr h))
      go ih (inr e) = out (innermost_or a (open_at es k) h)
        where
          out : (open_at es k ≡ a ∷ outer (open_at es k)) ⊎ Has a (outer (open_at es k)) → (b : ℕ) × Pair es a b
          out (inl q) = (k, record { within = omega arith; exits = e; innermost = q })
          out (inr q) = ih (rw (open_next es k (omega arith), after_exit (nth es k) k (open_at es k) e) q)

  pub paired : Paired es
  paired =
      record {
        exit_of = λ a h e.
            follow a (length es - (a + 1)) (a + 1) (omega arith) (rw (open_next es a h, after_enter (nth es a) a (open_at es a) e) (inl refl));
        enter_of = λ b h e.
            let p = partner es deep d b s h e in
            (p.number, record { within = h; exits = e; innermost = p.innermost });
        one_exit = λ a b c p q. one a b c p q (below b c) (below c b);
        one_enter = λ a b c p q. let x = p.innermost in let y = q.innermost in cc;
      }
    where
      one : (a b c : ℕ) → Pair es a b → Pair es a c → (b < c) ⊎ (c ≤ b) → (c < b) ⊎ (b ≤ c) → b ≡ c
      one a b c p q (inl x) y = absurd (closed_after es a b p c x (omega (arith, q.within)) (open_at_exit es a c q))
      one a b c p q (inr x) (inl y) = absurd (closed_after es a c q b y (omega (arith, p.within)) (open_at_exit es a b p))
      one a b c p q (inr x) (inr y) = omega arith
