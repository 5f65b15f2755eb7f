-- Leaf pairs: what each says of its two events, neither of which is one of a heading. And where the first and the last event that is such stand in two
-- lists, one behind the other.
-- Assumes nothing.
use mathlib.Core.Path.{◌≡◌, refl, sym, ap, ◌∙◌}
use mathlib.Core.Bool.{Bool, true, false}
use mathlib.Core.Logic.{inl, inr}
use mathlib.Core.List.{List, [], ◌∷◌, ◌++◌, reverse, reverse-cons, reverse-append}
use Prim.Native.Nat.{ℕ, suc, ◌+◌, ◌≤◌}
use native.Mathlib.Omega.{arith}
use lib.ListN.{length, length-append, length-reverse}
use lib.Dec.{eqb}
use borrow.Author.Tests.{eq-eqb, eqb-true}
use Rattle.record.specs.Choice.{choose}
use Rattle.record.specs.declared.event.Event.{Event}
use Rattle.record.proofs.Bools.{and_left, and_right, and_both}
use Rattle.heading.specs.Headings.{is_of, before_first, through_last, leaf, leaves}
use Rattle.heading.specs.Shape.{LeafName}

pub is_of_lem : (kind name : ℕ) (e : Event) → e.kind ≡ kind → e.name ≡ name → is_of kind name e ≡ true
unfolding is_of
is_of_lem kind name e p q = and_both _ _ (eq-eqb _ _ p) (eq-eqb _ _ q)

pub of_is : (kind name : ℕ) (e : Event) → is_of kind name e ≡ true → (e.kind ≡ kind) × (e.name ≡ name)
unfolding is_of
of_is kind name e q = (eqb-true _ _ (and_left _ _ q), eqb-true _ _ (and_right _ _ q))

pub not_of : (kind name : ℕ) (e : Event) → (e.kind ≡ kind → e.name ≡ name → ⊥) → is_of kind name e ≡ false
not_of kind name e h = go (is_of kind name e) refl
  where
    go : (b : Bool) → is_of kind name e ≡ b → b ≡ false
    go true q = absurd (h (of_is kind name e q).0 (of_is kind name e q).1)
    go false q = refl

-- what a leaf pair says
pub record Leaf (e f : Event) : Type 0 where
  pub enters : e.kind ≡ 0
  pub exits : f.kind ≡ 1
  pub same : f.name ≡ e.name
  pub named : LeafName e.name

names : (n : ℕ) → choose (eqb n 0) true (choose (eqb n 12) true (eqb n 14)) ≡ true → LeafName n
unfolding choose
names n q = go (eqb n 0) (eqb n 12) refl refl q
  where
    go : (a b : Bool) → eqb n 0 ≡ a → eqb n 12 ≡ b → choose a true (choose b true (eqb n 14)) ≡ true → LeafName n
    go true b p r q = inl (eqb-true _ _ p)
    go false true p r q = inr (inl (eqb-true _ _ r))
    go false false p r q = inr (inr (eqb-true _ _ q))

pub leaf_is : (e f : Event) → leaf e f ≡ true → Leaf e f
unfolding leaf
leaf_is e f q =
    let o = of_is 1 e.name f (and_left _ _ (and_right _ _ q)) in
    record {
      enters = eqb-true _ _ (and_left _ _ q);
      exits = o.0;
      same = o.1;
      named = names e.name (and_right _ _ (and_right _ _ q));
    }

pub first_leaf : (e f : Event) (es : List Event) → leaves (e ∷ f ∷ es) ≡ true → Leaf e f
unfolding leaves
first_leaf e f es q = leaf_is e f (and_left _ _ q)

pub rest_leaves : (e f : Event) (es : List Event) → leaves (e ∷ f ∷ es) ≡ true → leaves es ≡ true
unfolding leaves
rest_leaves e f es q = and_right _ _ q

-- its name is not a heading's
pub leaf_name : (e f : Event) → Leaf e f → e.name ≡ 11 → ⊥
leaf_name e f l h = go l.named
  where
    go : LeafName e.name → ⊥
    go (inl z) = omega arith
    go (inr (inl z)) = omega arith
    go (inr (inr z)) = omega arith

-- neither of its events is one of a heading, whether enter or exit
pub leaf_apart : (kind : ℕ) (e f : Event) → Leaf e f → (is_of kind 11 e ≡ false) × (is_of kind 11 f ≡ false)
leaf_apart kind e f l =
    (not_of kind 11 e (λ k n. leaf_name e f l n), not_of kind 11 f (λ k n. leaf_name e f l (sym l.same ∙ n)))

-- where the first that is such stands in two lists, one behind the other, where the first list has none
pub before_past : (is : Event → Bool) (xs ys : List Event) → length xs ≤ before_first is xs → before_first is (xs ++ ys) ≡ length xs + before_first is ys
unfolding before_first choose
before_past is [] ys h = omega arith
before_past is (a ∷ xs) ys h = go (is a) refl (λ l. before_past is xs ys l)
  where
    go : (b : Bool) → is a ≡ b → (length xs ≤ before_first is xs → before_first is (xs ++ ys) ≡ length xs + before_first is ys)
        → choose (is a) 0 (suc (before_first is (xs ++ ys))) ≡ suc (length xs) + before_first is ys
    go true q more =
        let h' : suc (length xs) ≤ 0 = rw q at h in
        absurd (omega arith)
    go false q more =
        let h' : suc (length xs) ≤ suc (before_first is xs) = rw q at h in
        rw q (omega (arith, more (omega arith)))

-- a list that has none has none from its end either
none_reversed : (is : Event → Bool) (es : List Event) → length es ≤ before_first is es → length es ≤ before_first is (reverse es)
unfolding before_first choose
none_reversed is [] h = omega arith
none_reversed is (e ∷ es) h = go (is e) refl (λ l. none_reversed is es l)
  where
    go : (b : Bool) → is e ≡ b → (length es ≤ before_first is es → length es ≤ before_first is (reverse es)) → suc (length es) ≤ before_first is (reverse (e ∷ es))
    go true q more =
        let h' : suc (length es) ≤ 0 = rw q at h in
        absurd (omega arith)
    go false q more =
        let h' : suc (length es) ≤ suc (before_first is es) = rw q at h in
        let l = more (omega arith) in
        let n = before_past is (reverse es) (e ∷ []) (omega (arith, length-reverse es)) in
        let k : before_first is (e ∷ []) ≡ 1 = rw q in
        let r : before_first is (reverse (e ∷ es)) ≡ before_first is (reverse es ++ (e ∷ [])) = ap (before_first is) (reverse-cons e es) in
        omega (arith, length-reverse es)

-- so the last that is such stands where it stood before such a list was put behind
pub through_past : (is : Event → Bool) (xs ys : List Event) → length ys ≤ before_first is ys → through_last is (xs ++ ys) ≡ through_last is xs
unfolding through_last
through_past is xs ys h =
    let n = none_reversed is ys h in
    let r : before_first is (reverse (xs ++ ys)) ≡ before_first is (reverse ys ++ reverse xs) = ap (before_first is) (reverse-append xs ys) in
    let b = before_past is (reverse ys) (reverse xs) (omega (arith, length-reverse ys)) in
    omega (arith, length-append xs ys, length-reverse ys)
