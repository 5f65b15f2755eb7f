-- Where the rows of the event tree lie among the events, by number; and what the tree says of neighbours, said of the events.
-- Assumes nothing.
use Prim.Native.Nat.{ℕ, zero, suc, ◌+◌, ◌≤◌, ◌<◌}
use mathlib.Core.Path.{◌≡◌, refl, sym, ap, ◌∙◌}
use mathlib.Core.Bool.{Bool, true, false}
use mathlib.Core.Logic.{◌⊎◌, inl, inr}
use mathlib.Core.List.{List, [], ◌∷◌}
use native.Mathlib.Omega.{arith}
use lib.ListN.{length, drop}
use lib.Dec.{eqb}
use borrow.Author.Tests.{eq-eqb, ne_eqb, eqb-true, eqb-false}
use Rattle.record.specs.Choice.{choose, and}
use Rattle.record.specs.Event.{enter, exit}
use Rattle.record.specs.Stack.{nth}
use Rattle.record.specs.declared.event.Event.{Event}
use Rattle.record.proofs.Bools.{and_left, and_right, and_both, clash}
use Rattle.list.specs.Tree.{Row, none, pair, written}
use Rattle.list.specs.Item.{past_leaf, known, marker_of, prefix_of, mark_of}
use Rattle.list.specs.Lists.{is_item, between, no_item, neighbour}
use Rattle.list.specs.Offence.{Mark, star, plus, minus, point, bracket, Marker, bare, spaced, Prefix, unvalued, valued, Begins, at_once, indented}
use Rattle.list.specs.Neighbours.{Enters, Exits, Whole, no_more, one_more, Pair, Item, first_mark, mark_at}
use Rattle.list.specs.Neighbours.{MayStand, space, ending, blank, quote, Passed, Between, nothing, passing}
use Rattle.list.proofs.Beginnings.{marked_begins}
use Rattle.list.proofs.Earliest.{Shaped, no_pair, with_pair, passed_over}
use Rattle.list.proofs.Pairing.{order, one_exit, rises}

-- the mark of an item is the byte under its first 17
known_same : {b : ℕ} → Mark b → known b ≡ b
unfolding known choose
known_same star = refl
known_same plus = refl
known_same minus = refl
known_same point = refl
known_same bracket = refl

marker_first : (document : List ℕ) {row : Row} (es : List Event) → Marker document row → first_mark document (written row es) ≡ marker_of document row
unfolding first_mark written marker_of past_leaf choose and
marker_first document es (bare {from = from} {to = to} e m) = rw (eq-eqb to (from + 1) e, known_same m)
marker_first document es (spaced {from = from} {to = to} e m) = rw (eq-eqb to (from + 1) e, known_same m)

prefix_first : (document : List ℕ) {row : Row} (es : List Event) → Prefix document row →
    first_mark document (written row es) ≡ marker_of document (past_leaf 18 row)
unfolding first_mark written past_leaf choose
prefix_first document es (unvalued (bare {from = from} {to = to} e m)) = marker_first document es (bare {from = from} {to = to} e m)
prefix_first document es (unvalued (spaced {from = from} {to = to} e m)) = marker_first document es (spaced {from = from} {to = to} e m)
prefix_first document es (valued m) = marker_first document es m

begins_first : (document : List ℕ) {row : Row} (es : List Event) → Begins document row → first_mark document (written row es) ≡ mark_of document row
unfolding first_mark written mark_of prefix_of past_leaf choose
begins_first document es (at_once {a = a} {b = b} {held = none} {next = next} p) = prefix_first document (exit 16 b ∷ written next es) p
begins_first document es (at_once {a = a} {b = b} {held = pair m x y i k} {next = next} p) = prefix_first document (exit 16 b ∷ written next es) p
begins_first document es (indented {b = b} {next = next} p) = prefix_first document (exit 16 b ∷ written next es) p

item_first : (document : List ℕ) (n from : ℕ) (row : Row) (es : List Event) → n ≡ 15 → (mark_of document row ≡ 0 → ⊥) →
    first_mark document (enter n from ∷ written row es) ≡ mark_of document row
unfolding first_mark choose
item_first document n from row es q m = rw q (begins_first document es (marked_begins document row m))

-- event k is x
pub record Is (es : List Event) (k : ℕ) (x : Event) : Type 0 where
  pub within : k < length es
  pub same : nth es k ≡ x

pub enters_is : {es : List Event} {k n p : ℕ} → Is es k (enter n p) → Enters es n k
enters_is i = record { within = i.within; its_kind = ap (λ (x : Event). x.kind) i.same; its_name = ap (λ (x : Event). x.name) i.same }

pub exits_is : {es : List Event} {k n p : ℕ} → Is es k (exit n p) → Exits es n k
exits_is i = record { within = i.within; its_kind = ap (λ (x : Event). x.kind) i.same; its_name = ap (λ (x : Event). x.name) i.same }

-- a row's events are those from event a up to event c
pub data Lies (document : List ℕ) (es : List Event) : ℕ → Row → ℕ → Type 0 where
  lies_none : {a : ℕ} → Lies document es a none a
  lies_pair : {a b c n from to : ℕ} {inside next : Row} → Is es a (enter n from) → Lies document es (a + 1) inside b → Is es b (exit n to) →
      Lies document es (b + 1) next c → (n ≡ 15 → mark_at document es a ≡ mark_of document inside) → (n ≡ 15 → mark_of document inside ≡ 0 → ⊥) →
      Lies document es a (pair n from to inside next) c

-- the head of what is left is the event of that number
pub split_off : (es : List Event) (k : ℕ) (x : Event) (rest : List Event) → drop k es ≡ x ∷ rest → Is es k x × (drop (k + 1) es ≡ rest)
split_off [] zero x rest q = let z : ◌≡◌ {A = ℕ} 0 1 = cc in absurd (omega arith)
split_off [] (suc k) x rest q = let z : ◌≡◌ {A = ℕ} 0 1 = cc in absurd (omega arith)
split_off (y ∷ es) zero x rest q = (record { within = omega arith; same = cc }, cc)
split_off (y ∷ es) (suc k) x rest q =
    let r = split_off es k x rest q in
    let n : suc k + 1 ≡ suc (k + 1) = omega arith in
    (record { within = omega (arith, r.0.within); same = r.0.same }, ap (λ (m : ℕ). drop m (y ∷ es)) n ∙ r.1)

pub lying : (document : List ℕ) (es : List Event) (row : Row) (a : ℕ) (rest : List Event) → Shaped document row → drop a es ≡ written row rest →
    (c : ℕ) × Lies document es a row c × (drop c es ≡ rest)
unfolding written
lying document es none a rest no_pair q = (a, lies_none, q)
lying document es (pair n from to inside next) a rest (with_pair m si sn) q =
    let x = split_off es a (enter n from) (written inside (exit n to ∷ written next rest)) q in
    let i = lying document es inside (a + 1) (exit n to ∷ written next rest) si x.1 in
    let y = split_off es i.0 (exit n to) (written next rest) i.2 in
    let r = lying document es next (i.0 + 1) rest sn y.1 in
    let mark : n ≡ 15 → mark_at document es a ≡ mark_of document inside =
    λ z. ap (λ (l : List Event). first_mark document l) q ∙ item_first document n from inside (exit n to ∷ written next rest) z (m z) in
    (r.0, lies_pair x.0 i.1 y.0 r.1 mark m, r.2)

module _ {document : List ℕ} {es : List Event} where
  pub lies_whole : {a c : ℕ} {row : Row} → Lies document es a row c → Whole es a c
  lies_whole lies_none = no_more
  lies_whole (lies_pair x i y r m s) = one_more (enters_is x) (lies_whole i) (exits_is y) (lies_whole r)

  pub pair_lies : {a b n from to : ℕ} {inside : Row} → Is es a (enter n from) → Lies document es (a + 1) inside b → Is es b (exit n to) → Pair es n a b
  pair_lies x i y = record { enters = enters_is x; held = lies_whole i; exits = exits_is y }

-- "holding no item"
none_by : (z i n : Bool) → and (choose z false true) (and i n) ≡ true → (z ≡ false) × (i ≡ true) × (n ≡ true)
unfolding choose and
none_by true i n q = let z : ◌≡◌ {A = ℕ} 0 1 = cc in absurd (omega arith)
none_by false i n q = (refl, and_left i n q, and_right i n q)

by_none : (z i n : Bool) → z ≡ false → i ≡ true → n ≡ true → and (choose z false true) (and i n) ≡ true
unfolding choose and
by_none z i n a b c = rw (a, b, c)

module _ {document : List ℕ} {es : List Event} where
  pub no_item_lies : {a c : ℕ} (row : Row) → Lies document es a row c → no_item row ≡ true → (k : ℕ) → a ≤ k → k < c → (nth es k).name ≡ 15 → ⊥
  unfolding no_item
  no_item_lies none lies_none q k h l e = omega arith
  no_item_lies {a} {c} (pair n from to inside next) (lies_pair {b = b} x i y r m s) q k h l e =
      go (none_by (is_item n) (no_item inside) (no_item next) q) (order a k) (order b k)
      (λ t u w. no_item_lies {a = a + 1} inside i t k u w e) (λ t u. no_item_lies {a = b + 1} next r t k u l e)
    where
      go : (is_item n ≡ false) × (no_item inside ≡ true) × (no_item next ≡ true) → (a < k) ⊎ ((a ≡ k) ⊎ (k < a)) → (b < k) ⊎ ((b ≡ k) ⊎ (k < b)) →
          (no_item inside ≡ true → a + 1 ≤ k → k < b → ⊥) → (no_item next ≡ true → b + 1 ≤ k → ⊥) → ⊥
      go t (inl u) (inl v) f g = g t.2 (omega arith)
      go t (inl u) (inr (inl v)) f g = eqb-false n 15 t.0 (sym (exits_is y).its_name ∙ ap (λ (j : ℕ). (nth es j).name) v ∙ e)
      go t (inl u) (inr (inr v)) f g = f t.1 (omega arith) v
      go t (inr (inl u)) v f g = eqb-false n 15 t.0 (sym (enters_is x).its_name ∙ ap (λ (j : ℕ). (nth es j).name) u ∙ e)
      go t (inr (inr u)) v f g = omega arith

  pub lies_no_item : {a c : ℕ} (row : Row) → Lies document es a row c → ((k : ℕ) → a ≤ k → k < c → (nth es k).name ≡ 15 → ⊥) → no_item row ≡ true
  unfolding no_item
  lies_no_item none lies_none f = refl
  lies_no_item {a} {c} (pair n from to inside next) (lies_pair {b = b} x i y r m s) f =
      let up : a + 1 ≤ b = rises (lies_whole i) in
      let on : b + 1 ≤ c = rises (lies_whole r) in
      by_none (is_item n) (no_item inside) (no_item next) (ne_eqb n 15 (λ z. f a (omega arith) (omega arith) ((enters_is x).its_name ∙ z)))
      (lies_no_item {a = a + 1} inside i (λ k h l e. f k (omega arith) (omega arith) e))
      (lies_no_item {a = b + 1} next r (λ k h l e. f k (omega arith) l e))

-- "14, 21, 22 and 23": what may stand between is what the tree passes
pub stands_between : {n : ℕ} → MayStand n → (between n ≡ true) × (n ≡ 15 → ⊥)
unfolding between choose
stands_between space = (refl, λ z. omega arith)
stands_between ending = (refl, λ z. omega arith)
stands_between blank = (refl, λ z. omega arith)
stands_between quote = (refl, λ z. omega arith)

may_stand : (n : ℕ) → between n ≡ true → MayStand n
unfolding between choose
may_stand n q = go (eqb n 14) (eqb n 21) (eqb n 22) (eqb n 23) refl refl refl refl q
  where
    go : (w x y z : Bool) → eqb n 14 ≡ w → eqb n 21 ≡ x → eqb n 22 ≡ y → eqb n 23 ≡ z → choose w true (choose x true (choose y true z)) ≡ true → MayStand n
    go true x y z a b c d q = rw (eqb-true n 14 a) space
    go false true y z a b c d q = rw (eqb-true n 21 b) ending
    go false false true z a b c d q = rw (eqb-true n 22 c) blank
    go false false false true a b c d q = rw (eqb-true n 23 d) quote
    go false false false false a b c d q = absurd (clash q refl)

module _ {document : List ℕ} {es : List Event} {a b n from to : ℕ} {inside : Row} (x : Is es a (enter n from)) (i : Lies document es (a + 1) inside b)
    (y : Is es b (exit n to)) where
  -- a pair that the tree passes is one that may stand between
  pub passed_lies : and (between n) (no_item inside) ≡ true → Passed es a b
  passed_lies q =
      record {
        name = n;
        pair = pair_lies x i y;
        may = may_stand n (and_left _ _ q);
        no_item_lem = λ k h l e. no_item_lies inside i (and_right (between n) _ q) k (omega arith) l e;
      }

  pub lies_passed : Passed es a b → (n ≡ 15 → ⊥) × (and (between n) (no_item inside) ≡ true)
  lies_passed p =
      let same : p.name ≡ n = sym p.pair.enters.its_name ∙ (enters_is x).its_name in
      let s = stands_between (rw same at p.may) in
      (s.1, and_both _ _ s.0 (lies_no_item {a = a + 1} inside i (λ k h l e. p.no_item_lem k (omega arith) l e)))

-- the neighbour of the tree
passed_by : (z b : Bool) (m k : ℕ) → z ≡ false → b ≡ true → choose z m (choose b k 0) ≡ k
unfolding choose
passed_by z b m k p q = rw (p, q)

-- the item that a row's events come to first, by what may stand between
pub record Meets (document : List ℕ) (es : List Event) (a mark : ℕ) : Type 0 where
  pub item : ℕ
  pub item_exit : ℕ
  pub pairs : Item es item item_exit
  pub between : Between es a item
  pub its_mark : mark_at document es item ≡ mark

module _ {document : List ℕ} {es : List Event} where
  pub neighbour_met : {a c : ℕ} (row : Row) → Lies document es a row c → (neighbour document row ≡ 0 → ⊥) → Meets document es a (neighbour document row)
  unfolding neighbour choose
  neighbour_met none lies_none w = absurd (w refl)
  neighbour_met {a} {c} (pair n from to inside next) (lies_pair {b = b} x i y r m s) w = go (eqb n 15) refl (neighbour_met {a = b + 1} next r) w
    where
      go : (z : Bool) → eqb n 15 ≡ z → ((neighbour document next ≡ 0 → ⊥) → Meets document es (b + 1) (neighbour document next)) →
          (choose z (mark_of document inside) (choose (and (between n) (no_item inside)) (neighbour document next) 0) ≡ 0 → ⊥) →
          Meets document es a (choose z (mark_of document inside) (choose (and (between n) (no_item inside)) (neighbour document next) 0))
      go true e f w =
          let q : n ≡ 15 = eqb-true n 15 e in
          record { item = a; item_exit = b; pairs = rw (sym q) (pair_lies x i y); between = nothing; its_mark = m q }
      go false e f w =
          let p = passed_over (and (between n) (no_item inside)) (neighbour document next) w in
          let h = f p.1 in
          let on = passing (passed_lies x i y p.0) h.between in
          rw p.0 record { item = h.item; item_exit = h.item_exit; pairs = h.pairs; between = on; its_mark = h.its_mark }

  -- what may follow a row is no enter
  pub met_neighbour : {a c k far : ℕ} (row : Row) → Lies document es a row c → ((n : ℕ) → Enters es n c → ⊥) → Between es a k → Item es k far →
      neighbour document row ≡ mark_at document es k
  unfolding neighbour choose
  met_neighbour none lies_none stop nothing p = absurd (stop 15 p.enters)
  met_neighbour none lies_none stop (passing q r) p = absurd (stop q.name q.pair.enters)
  met_neighbour (pair n from to inside next) (lies_pair x i y r m s) stop nothing p =
      let q : n ≡ 15 = sym (enters_is x).its_name ∙ p.enters.its_name in
      rw (eq-eqb n 15 q) (sym (m q))
  met_neighbour {a} {c} {k} (pair n from to inside next) (lies_pair {b = b} x i y r m s) stop (passing {b = d} q w) p =
      let same : d ≡ b = one_exit q.pair (pair_lies x i y) in
      let t = lies_passed x i y (rw same at q) in
      passed_by (eqb n 15) (and (between n) (no_item inside)) (mark_of document inside) (neighbour document next) (ne_eqb n 15 t.0) t.1
      ∙ met_neighbour {a = b + 1} next r stop (rw same at w) p
