-- Chains of items, by the words over event numbers: an item joins one item at most and is joined by one at most, so that two chains from one item
-- go on in one another, and two chains to one item begin so.
-- Assumes nothing.
use Prim.Native.Nat.{ℕ, ◌+◌, ◌≤◌, ◌<◌}
use mathlib.Core.Path.{◌≡◌, refl, sym, ap, ◌∙◌}
use mathlib.Core.Logic.{◌⊎◌, inl, inr}
use mathlib.Core.List.{List}
use native.Mathlib.Omega.{arith}
use Rattle.record.specs.Stack.{nth}
use Rattle.record.specs.declared.event.Event.{Event}
use Rattle.list.specs.Neighbours.{Passed, Between, nothing, passing, Joined, Chain, itself, onward, First}
use Rattle.list.proofs.Pairing.{order, rises, one_exit, one_enter, between_whole}
use Rattle.list.proofs.Lying.{stands_between}

-- no event of what may stand between is an item's
no_item_passed : {es : List Event} {a b : ℕ} → Passed es a b → (k : ℕ) → a ≤ k → k ≤ b → (nth es k).name ≡ 15 → ⊥
no_item_passed {es} {a} {b} p k h l e = go (order a k) (order k b)
  where
    go : (a < k) ⊎ ((a ≡ k) ⊎ (k < a)) → (k < b) ⊎ ((k ≡ b) ⊎ (b < k)) → ⊥
    go (inl x) (inl y) = p.no_item_lem k x y e
    go (inl x) (inr (inl y)) = (stands_between p.may).1 (sym p.pair.exits.its_name ∙ sym (ap (λ (j : ℕ). (nth es j).name) y) ∙ e)
    go (inl x) (inr (inr y)) = omega arith
    go (inr (inl x)) y = (stands_between p.may).1 (sym p.pair.enters.its_name ∙ ap (λ (j : ℕ). (nth es j).name) x ∙ e)
    go (inr (inr x)) y = omega arith

no_item_between : {es : List Event} {a c : ℕ} → Between es a c → (k : ℕ) → a ≤ k → k < c → (nth es k).name ≡ 15 → ⊥
no_item_between nothing k h l e = omega arith
no_item_between {es} {a} {c} (passing {b = b} p r) k h l e = go (order k b) (λ x. no_item_between r k x l e)
  where
    go : (k < b) ⊎ ((k ≡ b) ⊎ (b < k)) → (b + 1 ≤ k → ⊥) → ⊥
    go (inl x) f = no_item_passed p k h (omega arith) e
    go (inr (inl x)) f = no_item_passed p k h (omega arith) e
    go (inr (inr x)) f = f (omega arith)

module _ {document : List ℕ} {es : List Event} where
  -- an item joins one item at most
  pub joins_once : {i j k : ℕ} → Joined document es i j → Joined document es i k → j ≡ k
  joins_once {i} {j} {k} p q = go (order j k)
    where
      same : p.exit_of ≡ q.exit_of
      same = one_exit p.earlier q.earlier

      go : (j < k) ⊎ ((j ≡ k) ⊎ (k < j)) → j ≡ k
      go (inl x) = absurd (no_item_between q.between j (omega (arith, same, rises (between_whole p.between))) x p.later.enters.its_name)
      go (inr (inl x)) = x
      go (inr (inr x)) = absurd (no_item_between p.between k (omega (arith, same, rises (between_whole q.between))) x q.later.enters.its_name)

  -- and is joined by one at most
  pub joined_once : {i j k : ℕ} → Joined document es i k → Joined document es j k → i ≡ j
  joined_once {i} {j} {k} p q = go (order p.exit_of q.exit_of)
    where
      go : (p.exit_of < q.exit_of) ⊎ ((p.exit_of ≡ q.exit_of) ⊎ (q.exit_of < p.exit_of)) → i ≡ j
      go (inl x) =
          absurd (no_item_between p.between q.exit_of (omega arith) (omega (arith, rises (between_whole q.between))) q.earlier.exits.its_name)
      go (inr (inl x)) = one_enter {m = 15} (rw x at p.earlier) q.earlier
      go (inr (inr x)) =
          absurd (no_item_between q.between p.exit_of (omega arith) (omega (arith, rises (between_whole p.between))) p.earlier.exits.its_name)

  pub chain_then : {i j k : ℕ} → Chain document es i j → Chain document es j k → Chain document es i k
  chain_then itself d = d
  chain_then (onward j c) d = onward j (chain_then c d)

  -- a chain ends where it begins, or with two that join
  chain_end : {i k : ℕ} → Chain document es i k → (i ≡ k) ⊎ ((j : ℕ) × Chain document es i j × Joined document es j k)
  chain_end itself = inl refl
  chain_end {i} {k} (onward {j = j} p c) = go (chain_end c)
    where
      go : (j ≡ k) ⊎ ((h : ℕ) × Chain document es j h × Joined document es h k) → (i ≡ k) ⊎ ((h : ℕ) × Chain document es i h × Joined document es h k)
      go (inl e) = inr (i, itself, rw e at p)
      go (inr (h, d, q)) = inr (h, onward p d, q)

  -- two chains from one item
  pub chains_from : {i j k : ℕ} → Chain document es i j → Chain document es i k → Chain document es j k ⊎ Chain document es k j
  chains_from itself d = inl d
  chains_from (onward p c) itself = inr (onward p c)
  chains_from (onward p c) (onward q d) = chains_from c (rw (joins_once q p) at d)

  -- two chains to one item
  chains_to : {i j k : ℕ} → Chain document es i k → Chain document es j k → Chain document es i j ⊎ Chain document es j i
  chains_to itself d = inr d
  chains_to {i} {j} {k} (onward {j = h} p c) d = go (chains_to c d)
    where
      on : Chain document es j h → (j ≡ h) ⊎ ((g : ℕ) × Chain document es j g × Joined document es g h) → Chain document es i j ⊎ Chain document es j i
      on e (inl q) = inl (onward (rw (sym q) at p) itself)
      on e (inr (g, b, q)) = inr (rw (joined_once q p) at b)

      go : Chain document es h j ⊎ Chain document es j h → Chain document es i j ⊎ Chain document es j i
      go (inl e) = inl (onward p e)
      go (inr e) = on e (chain_end e)

  first_alone : {i k : ℕ} → Chain document es i k → First document es k → i ≡ k
  first_alone {i} {k} c f = go (chain_end c)
    where
      go : (i ≡ k) ⊎ ((j : ℕ) × Chain document es i j × Joined document es j k) → i ≡ k
      go (inl e) = e
      go (inr (j, d, q)) = absurd (f j q)

  -- an item has one first item
  pub one_first : {i j k : ℕ} → Chain document es i k → First document es i → Chain document es j k → First document es j → i ≡ j
  one_first {i} {j} {k} c f d g = go (chains_to c d)
    where
      go : Chain document es i j ⊎ Chain document es j i → i ≡ j
      go (inl e) = first_alone e g
      go (inr e) = sym (first_alone e f)
