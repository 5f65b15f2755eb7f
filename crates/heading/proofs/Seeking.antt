-- The first and the last event that is such: how the two loops that look for them go on and end.
-- Assumes nothing.
use mathlib.Core.Path.{◌≡◌, refl, sym, ap, ◌∙◌}
use mathlib.Core.Bool.{Bool, true, false}
use mathlib.Core.List.{List, [], ◌∷◌, ◌++◌, reverse, reverse-append}
use Prim.Native.Nat.{ℕ, zero, suc, ◌+◌, ◌-◌, ◌≤◌, ◌<◌}
use native.Mathlib.Omega.{arith}
use lib.ListN.{length, take, drop, length-append}
use Rattle.std.proofs.Common.{drop-cons}
use Rattle.std.proofs.Math.Seq.{take-suc}
use Rattle.std.proofs.lemmas.List.{take_all, drop_all, take-append-le, length-take}
use Rattle.record.specs.Choice.{choose}
use Rattle.record.specs.Stack.{nth}
use Rattle.record.specs.declared.event.Event.{Event}
use Rattle.heading.specs.Headings.{before_first, through_last}

pub before_le : (is : Event → Bool) (es : List Event) → before_first is es ≤ length es
unfolding before_first choose
before_le is [] = omega arith
before_le is (e ∷ es) = go (is e) (before_le is es)
  where
    go : (b : Bool) → before_first is es ≤ length es → choose b 0 (suc (before_first is es)) ≤ suc (length es)
    go true h = omega arith
    go false h = omega arith

pub before_here : (is : Event → Bool) (e : Event) (es : List Event) → is e ≡ true → before_first is (e ∷ es) ≡ 0
unfolding before_first choose
before_here is e es q = rw q

pub before_next : (is : Event → Bool) (e : Event) (es : List Event) → is e ≡ false → before_first is (e ∷ es) ≡ suc (before_first is es)
unfolding before_first choose
before_next is e es q = rw q

-- k events are passed, and the next is such, or is not, or there is none
module _ (is : Event → Bool) (es : List Event) (k : ℕ) (v : k + before_first is (drop k es) ≡ before_first is es) where
  pub found_here : k < length es → is (nth es k) ≡ true → k ≡ before_first is es
  found_here h q =
      let e : before_first is (drop k es) ≡ 0 = ap (before_first is) (drop-cons es k (record { kind = 0; name = 0; place = 0 }) h) ∙ before_here is (nth es k) (drop (suc k) es) q in
      omega arith

  pub passed_here : k < length es → is (nth es k) ≡ false → k + 1 + before_first is (drop (k + 1) es) ≡ before_first is es
  passed_here h q =
      let e : before_first is (drop k es) ≡ suc (before_first is (drop (suc k) es)) =
      ap (before_first is) (drop-cons es k (record { kind = 0; name = 0; place = 0 }) h) ∙ before_next is (nth es k) (drop (suc k) es) q
      in
      let z : k + 1 ≡ suc k = omega arith in
      rw z (omega arith)

  pub none_here : length es ≤ k → k ≡ before_first is es
  unfolding before_first
  none_here h =
      let e : before_first is (drop k es) ≡ 0 = ap (before_first is) (drop_all k es h) in
      omega arith

pub through_le : (is : Event → Bool) (es : List Event) (n k : ℕ) → length es ≡ n → k ≡ through_last is es → k ≤ n
unfolding through_last
through_le is es n k l e = omega arith

-- the last of some events is such, or is not
pub through_last_lem : (is : Event → Bool) (es : List Event) (e : Event) → through_last is (es ++ (e ∷ [])) ≡ choose (is e) (suc (length es)) (through_last is es)
unfolding through_last before_first choose
through_last_lem is es e =
    ap (λ (l : List Event). length (es ++ (e ∷ [])) - before_first is l) (reverse-append es (e ∷ []))
    ∙ go (is e)
  where
    go : (b : Bool) → length (es ++ (e ∷ [])) - choose b 0 (suc (before_first is (reverse es))) ≡ choose b (suc (length es)) (length es - before_first is (reverse es))
    go true = omega (arith, length-append es (e ∷ []))
    go false = omega (arith, length-append es (e ∷ []))

-- what is left of some events is those before the last of them and the last, which is such, or is not; or nothing is left
module _ (is : Event → Bool) (es front : List Event) (e : Event) (c : es ≡ front ++ (e ∷ [])) where
  pub last_such : (n : ℕ) → length es ≡ n → is e ≡ true → n ≡ through_last is es
  unfolding choose
  last_such n l q =
      let t : through_last is es ≡ suc (length front) = ap (through_last is) c ∙ through_last_lem is front e ∙ rw q in
      omega (arith, ap length c, length-append front (e ∷ []))

  pub last_other : is e ≡ false → through_last is front ≡ through_last is es
  unfolding choose
  last_other q = sym (ap (through_last is) c ∙ through_last_lem is front e ∙ rw q)

pub last_none : (is : Event → Bool) (es : List Event) → es ≡ [] → 0 ≡ through_last is es
unfolding through_last
last_none is es c = rw c (omega arith)

-- among the events up to the last such one, it is the last again
pub still_last : (is : Event → Bool) (es : List Event) → through_last is (take (through_last is es) es) ≡ through_last is es
still_last is es = go (length es) es refl
  where
    turn : (front : List Event) (e : Event) (b : Bool) → is e ≡ b → through_last is (take (through_last is front) front) ≡ through_last is front →
        through_last is (take (through_last is (front ++ (e ∷ []))) (front ++ (e ∷ []))) ≡ through_last is (front ++ (e ∷ []))
    turn front e true q h =
        let n : suc (length front) ≡ through_last is (front ++ (e ∷ [])) = last_such is (front ++ (e ∷ [])) front e refl (suc (length front)) (omega (arith, length-append front (e ∷ []))) q in
        ap (through_last is) (take_all (through_last is (front ++ (e ∷ []))) (front ++ (e ∷ [])) (omega (arith, n, length-append front (e ∷ []))))
    turn front e false q h =
        let n : through_last is front ≡ through_last is (front ++ (e ∷ [])) = last_other is (front ++ (e ∷ [])) front e refl q in
        let l : through_last is front ≤ length front = through_le is front (length front) (through_last is front) refl refl in
        rw (← n) (ap (through_last is) (take-append-le (through_last is front) front (e ∷ []) l) ∙ h)

    go : (n : ℕ) (es : List Event) → length es ≡ n → through_last is (take (through_last is es) es) ≡ through_last is es
    go zero [] l = ap (through_last is) (take_all (through_last is []) [] (omega arith))
    go zero (e ∷ es) l = absurd (omega arith)
    go (suc n) es l =
        let front : List Event = take n es in
        let c : es ≡ front ++ (nth es n ∷ []) = sym (take_all (suc n) es (omega arith)) ∙ take-suc es n (record { kind = 0; name = 0; place = 0 }) (omega arith) in
        rw c (turn front (nth es n) (is (nth es n)) refl (go n front (omega (arith, length-take n es))))
