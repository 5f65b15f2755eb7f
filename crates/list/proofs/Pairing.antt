-- Pairs, by the numbers of their events: an enter has one exit and an exit one enter, and after whole pairs as many items are open as before.
-- Assumes nothing.
use Prim.Native.Nat.{ℕ, zero, suc, ◌+◌, ◌-◌, ◌≤◌, ◌<◌}
use mathlib.Core.Path.{◌≡◌, refl, sym, ap, ◌∙◌}
use mathlib.Core.Bool.{Bool, true, false}
use mathlib.Core.Logic.{◌⊎◌, inl, inr}
use mathlib.Core.List.{List, [], ◌∷◌, ◌++◌}
use native.Mathlib.Numerals.{add-one}
use native.Mathlib.Omega.{arith}
use lib.ListN.{length, take}
use lib.Seq.{take-suc}
use lib.Dec.{eqb}
use borrow.Author.Tests.{eq-eqb, ne_eqb, eqb-true, eqb-false}
use Rattle.record.specs.Choice.{choose}
use Rattle.record.specs.Event.{event}
use Rattle.record.specs.Stack.{nth}
use Rattle.record.specs.declared.event.Event.{Event}
use Rattle.list.specs.Lists.{is_item}
use Rattle.list.specs.Listing.{open_items}
use Rattle.list.specs.Neighbours.{Stands, Enters, Exits, Whole, no_more, one_more, Pair, items_open, Passed, Between, nothing, passing}

pub order : (a b : ℕ) → (a < b) ⊎ ((a ≡ b) ⊎ (b < a))
order zero zero = inr (inl refl)
order zero (suc b) = inl (omega arith)
order (suc a) zero = inr (inr (omega arith))
order (suc a) (suc b) = go (order a b)
  where
    go : (a < b) ⊎ ((a ≡ b) ⊎ (b < a)) → (suc a < suc b) ⊎ ((suc a ≡ suc b) ⊎ (suc b < suc a))
    go (inl h) = inl (omega arith)
    go (inr (inl h)) = inr (inl (omega arith))
    go (inr (inr h)) = inr (inr (omega arith))

-- no event is both
pub not_both : {es : List Event} {n m k : ℕ} → Enters es n k → Exits es m k → ⊥
not_both e x = omega (arith, e.its_kind, x.its_kind)

pub rises : {es : List Event} {a b : ℕ} → Whole es a b → a ≤ b
rises no_more = omega arith
rises (one_more {a = a} {b = b} {c = c} e i x r) = omega (arith, rises i, rises r)

pub pair_rises : {es : List Event} {n a b : ℕ} → Pair es n a b → a < b
pair_rises p = omega (arith, rises p.held)

-- whole pairs up to an exit are as many wherever they are counted
one_end : {es : List Event} {n m a b c : ℕ} → Whole es a b → Exits es n b → Whole es a c → Exits es m c → b ≡ c
one_end no_more x no_more y = refl
one_end no_more x (one_more f j w s) y = absurd (not_both f x)
one_end (one_more e i v r) x no_more y = absurd (not_both e y)
one_end (one_more {name = name} {b = b} e i v r) x (one_more {name = name'} {b = c} f j w s) y =
    let q : b ≡ c = one_end {n = name} {m = name'} i v j w in
    one_end r x (rw q s) y

-- an enter has one exit
pub one_exit : {es : List Event} {n m a b c : ℕ} → Pair es n a b → Pair es m a c → b ≡ c
one_exit p q = one_end p.held p.exits q.held q.exits

-- a pair that begins within whole pairs ends within them
pub stays : {es : List Event} {n a b s t : ℕ} → Whole es s t → s ≤ a → a < t → Pair es n a b → b < t
stays no_more h l p = absurd (omega arith)
stays {es} {n} {a} {b} {s} {t} (one_more {name = name} {b = x} e i v r) h l p = go (order a s) (order a x) (λ u w. stays i u w p) (λ u. stays r u l p)
  where
    go : (a < s) ⊎ ((a ≡ s) ⊎ (s < a)) → (a < x) ⊎ ((a ≡ x) ⊎ (x < a)) → (s + 1 ≤ a → a < x → b < x) → (x + 1 ≤ a → b < t) → b < t
    go (inl u) k f g = absurd (omega arith)
    go (inr (inl u)) k f g =
        let same : b ≡ x = one_exit {m = name} p (rw u record { enters = e; held = i; exits = v }) in
        omega (arith, rises r)
    go (inr (inr u)) (inl k) f g =
        let c : b < x = f (omega arith) k in
        omega (arith, rises r)
    go (inr (inr u)) (inr (inl k)) f g = absurd (not_both {m = name} p.enters (rw k v))
    go (inr (inr u)) (inr (inr k)) f g = g (omega arith)

-- an exit has one enter
pub one_enter : {es : List Event} {n m a b c : ℕ} → Pair es n a c → Pair es m b c → a ≡ b
one_enter {es} {n} {m} {a} {b} {c} p q = go (order a b)
  where
    go : (a < b) ⊎ ((a ≡ b) ⊎ (b < a)) → a ≡ b
    go (inl h) =
        let z : c < c = stays p.held (omega arith) (pair_rises q) q in
        absurd (omega arith)
    go (inr (inl h)) = h
    go (inr (inr h)) =
        let z : c < c = stays q.held (omega arith) (pair_rises p) p in
        absurd (omega arith)

-- and one name
pub one_name : {es : List Event} {n m a b c : ℕ} → Pair es n a b → Pair es m a c → n ≡ m
one_name p q = sym p.enters.its_name ∙ q.enters.its_name

-- the items open after some events and then others
opens_by : (z y : Bool) (a b c : ℕ) (ys : List Event) →
    choose z (choose y (open_items a ys) (open_items b ys)) (open_items c ys) ≡ open_items (choose z (choose y a b) c) ys
unfolding choose
opens_by true true a b c ys = refl
opens_by true false a b c ys = refl
opens_by false y a b c ys = refl

opens_append : (n : ℕ) (xs ys : List Event) → open_items n (xs ++ ys) ≡ open_items (open_items n xs) ys
unfolding open_items
opens_append n [] ys = refl
opens_append n (x ∷ xs) ys =
    rw (opens_append (n + 1) xs ys, opens_append (n - 1) xs ys, opens_append n xs ys)
    (opens_by (is_item x.name) (eqb x.kind 0) (open_items (n + 1) xs) (open_items (n - 1) xs) (open_items n xs) ys)

pub opens_next : (es : List Event) (k : ℕ) → k < length es → items_open es (k + 1) ≡ open_items (items_open es k) (nth es k ∷ [])
opens_next es k h =
    ap (λ (j : ℕ). open_items 0 (take j es)) (add-one k)
    ∙ ap (λ (xs : List Event). open_items 0 xs) (take-suc es k (event 0 0 0) h)
    ∙ opens_append 0 (take k es) (nth es k ∷ [])

-- one event more
module _ (n : ℕ) (x : Event) where
  one_opened : x.kind ≡ 0 → x.name ≡ 15 → open_items n (x ∷ []) ≡ n + 1
  unfolding open_items choose
  one_opened k q = rw (eq-eqb x.name 15 q, eq-eqb x.kind 0 k)

  one_closed : (x.kind ≡ 0 → ⊥) → x.name ≡ 15 → open_items n (x ∷ []) ≡ n - 1
  unfolding open_items choose
  one_closed k q = rw (eq-eqb x.name 15 q, ne_eqb x.kind 0 k)

  none_opened : (x.name ≡ 15 → ⊥) → open_items n (x ∷ []) ≡ n
  unfolding open_items choose
  none_opened q = rw (ne_eqb x.name 15 q)

module _ {es : List Event} {n k : ℕ} where
  pub item_opens : Enters es n k → n ≡ 15 → items_open es (k + 1) ≡ items_open es k + 1
  item_opens e q = opens_next es k e.within ∙ one_opened (items_open es k) (nth es k) e.its_kind (e.its_name ∙ q)

  item_closes : Exits es n k → n ≡ 15 → items_open es (k + 1) ≡ items_open es k - 1
  item_closes e q = opens_next es k e.within ∙ one_closed (items_open es k) (nth es k) (λ z. omega (arith, e.its_kind)) (e.its_name ∙ q)

  other_keeps : {kind : ℕ} → Stands es kind n k → (n ≡ 15 → ⊥) → items_open es (k + 1) ≡ items_open es k
  other_keeps e q = opens_next es k e.within ∙ none_opened (items_open es k) (nth es k) (λ z. q (sym e.its_name ∙ z))

pub is_item_lem : (n : ℕ) → (n ≡ 15) ⊎ (n ≡ 15 → ⊥)
is_item_lem n = go (eqb n 15) refl
  where
    go : (z : Bool) → eqb n 15 ≡ z → (n ≡ 15) ⊎ (n ≡ 15 → ⊥)
    go true e = inl (eqb-true n 15 e)
    go false e = inr (eqb-false n 15 e)

-- after whole pairs as many items are open as before
pub whole_opens : {es : List Event} {a b : ℕ} → Whole es a b → items_open es a ≡ items_open es b
whole_opens no_more = refl
whole_opens {es} (one_more {name = n} {a = a} {b = b} {c = c} e i v r) = go (is_item_lem n) (whole_opens i) (whole_opens r)
  where
    go : (n ≡ 15) ⊎ (n ≡ 15 → ⊥) → items_open es (a + 1) ≡ items_open es b → items_open es (b + 1) ≡ items_open es c → items_open es a ≡ items_open es c
    go (inl q) f g = omega (arith, item_opens e q, item_closes v q)
    go (inr q) f g = omega (arith, other_keeps e q, other_keeps v q)

-- what stands between two items is whole
pub between_whole : {es : List Event} {a b : ℕ} → Between es a b → Whole es a b
between_whole nothing = no_more
between_whole (passing p r) = one_more p.pair.enters p.pair.held p.pair.exits (between_whole r)

-- it may go on ..
pub pass_one : {es : List Event} {a b c : ℕ} → Between es a b → Passed es b c → Between es a (c + 1)
pass_one nothing p = passing p nothing
pass_one (passing q r) p = passing q (pass_one r p)

-- .. and it is nothing, or has a last pair
pub record LastPassed (es : List Event) (a c : ℕ) : Type 0 where
  pub from : ℕ
  pub to : ℕ
  pub rest : Between es a from
  pub passed : Passed es from to
  pub end : c ≡ to + 1

pub last_passed : {es : List Event} {a c : ℕ} → Between es a c → (a ≡ c) ⊎ LastPassed es a c
last_passed nothing = inl refl
last_passed {es} {a} {c} (passing {b = b} p r) = go (last_passed r)
  where
    go : (b + 1 ≡ c) ⊎ LastPassed es (b + 1) c → (a ≡ c) ⊎ LastPassed es a c
    go (inl q) = inr record { from = a; to = b; rest = nothing; passed = p; end = sym q }
    go (inr l) = inr record { from = l.from; to = l.to; rest = passing p l.rest; passed = l.passed; end = l.end }
