-- Where the items come to stand in the result: each in the list round its chain, and in nothing inside of that list.
-- Assumes nothing.
use Prim.Native.Nat.{ℕ, ◌+◌, ◌≤◌, ◌<◌}
use mathlib.Core.Path.{◌≡◌, refl, sym, ap, ◌∙◌}
use mathlib.Core.Bool.{Bool, true, false}
use mathlib.Core.Logic.{◌⊎◌, inl, inr}
use mathlib.Core.List.{List, [], ◌∷◌}
use native.Mathlib.Omega.{arith}
use lib.ListN.{length, drop}
use lib.Dec.{eqb}
use borrow.Author.Tests.{eq-eqb, ne_eqb, eqb-true}
use Rattle.record.specs.Choice.{choose, and}
use Rattle.record.specs.Event.{enter, exit}
use Rattle.record.specs.Stack.{nth}
use Rattle.record.specs.declared.event.Event.{Event}
use Rattle.list.specs.Tree.{Row, none, pair}
use Rattle.list.specs.Item.{mark_of}
use Rattle.list.specs.Lists.{between, no_item, neighbour, joins, list_name, listed}
use Rattle.list.specs.Neighbours.{Enters, Exits, Whole, no_more, one_more, Item, mark_at, Chain, itself, onward, First}
use Rattle.list.specs.Gathered.{joined, Gathered, Comes, StandsIn}
use Rattle.list.proofs.Earliest.{passed_over}
use Rattle.list.proofs.Added.{list_named}
use Rattle.list.proofs.Pairing.{order, not_both, rises, is_item_lem}
use Rattle.list.proofs.Lying.{Is, enters_is, exits_is, Lies, lies_none, lies_pair, pair_lies, split_off}
use Rattle.list.proofs.Gathering.{Waits, Flag, neighbour_item, neighbour_other, chosen, inside_fresh, flag_fresh, flag_item, flag_other, flag_first}
use Rattle.list.proofs.Gathering.{waits_item, waits_on, waits_joined, joins_one, joins_none, item_begins, exit_item, exit_other, row_gathered}
use Rattle.list.proofs.Linking.{chain_then}

pub whole_then : {es : List Event} {a b c : ℕ} → Whole es a b → Whole es b c → Whole es a c
whole_then no_more w = w
whole_then (one_more e i x r) w = one_more e i x (whole_then r w)

-- the list in which an item stands, and the first item of its chain, which stands right behind the list's enter
pub record Home (document : List ℕ) (es out : List Event) (k : ℕ) : Type 0 where
  pub first : ℕ
  pub begins : First document es first
  pub chain : Chain document es first k
  pub name : ℕ
  pub from : ℕ
  pub to : ℕ
  pub place : ℕ
  pub is_list : (name ≡ 19) ⊎ (name ≡ 20)
  pub there : Gathered document es first (drop from out)
  pub comes : Comes document es out k place
  pub stands : StandsIn out name from to place

-- an item that comes at event m of the result, in a list of this mark that has begun
pub record Around (document : List ℕ) (es out : List Event) (k m mark : ℕ) : Type 0 where
  pub first : ℕ
  pub begins : First document es first
  pub chain : Chain document es first k
  pub from : ℕ
  pub there : Gathered document es first (drop from out)
  pub enters : Enters out (list_name mark) from
  pub held : Whole out (from + 1) m
  pub comes : Comes document es out k m

-- a row that comes at event m of the result, where a list is open that its first item joins
pub record Begun (document : List ℕ) (es out : List Event) (a : ℕ) (row : Row) (m : ℕ) : Type 0 where
  pub waits : Waits document es a row
  pub first : ℕ
  pub begins : First document es first
  pub chain : Chain document es first waits.item
  pub from : ℕ
  pub there : Gathered document es first (drop from out)
  pub enters : Enters out (list_name (neighbour document row)) from
  pub held : Whole out (from + 1) m

abbrev pub Homes : List ℕ → List Event → List Event → ℕ → ℕ → Type 0
Homes document es out a c = (k : ℕ) → a ≤ k → k < c → Enters es 15 k → Home document es out k

-- a row with no list open before it is whole in the result
pub record Closed (document : List ℕ) (es out : List Event) (a c m : ℕ) (rest : List Event) : Type 0 where
  pub next_at : ℕ
  pub left : drop next_at out ≡ rest
  pub whole : Whole out m next_at
  pub homes : Homes document es out a c

-- one with a list open before it has the list's exit among whole pairs
pub record Ending (out : List Event) (m mark : ℕ) (rest : List Event) : Type 0 where
  pub next_at : ℕ
  pub left : drop next_at out ≡ rest
  pub end : ℕ
  pub until : Whole out m end
  pub exits : Exits out (list_name mark) end
  pub past : Whole out (end + 1) next_at

pub record Opened (document : List ℕ) (es out : List Event) (a : ℕ) (row : Row) (c m : ℕ) (rest : List Event) : Type 0 where
  pub ending : Ending out m (neighbour document row) rest
  pub homes : Begun document es out a row m → Homes document es out a c

abbrev pub Grouped : List ℕ → List Event → List Event → Bool → ℕ → Row → ℕ → ℕ → List Event → Type 0
Grouped document es out true a row c m rest = Opened document es out a row c m rest
Grouped document es out false a row c m rest = Closed document es out a c m rest

-- an item with what follows it up to the end of its list
pub record Kept (document : List ℕ) (es out : List Event) (a c m mark : ℕ) (rest : List Event) : Type 0 where
  pub ending : Ending out m mark rest
  pub homes : Around document es out a m mark → Homes document es out a c

module _ {document : List ℕ} {es out : List Event} where
  home : {k m end mark : ℕ} → Around document es out k m mark → Whole out m end → Exits out (list_name mark) end → m < end → Home document es out k
  home {k} {m} {end} {mark} r w x l =
      record {
        first = r.first;
        begins = r.begins;
        chain = r.chain;
        name = list_name mark;
        from = r.from;
        to = end;
        place = m;
        is_list = list_named mark;
        there = r.there;
        comes = r.comes;
        stands = record { around = record { enters = r.enters; held = whole_then r.held w; exits = x }; held = r.held; to_come = l };
      }

  -- the homes of the items of a pair and of the siblings behind it
  homes_of : {a b c n p q : ℕ} → Is es a (enter n p) → Is es b (exit n q) → (n ≡ 15 → Home document es out a) → Homes document es out (a + 1) b →
      Homes document es out (b + 1) c → Homes document es out a c
  homes_of {a} {b} {c} {n} x y f g h k l u e = go (order a k) (order k b)
    where
      go : (a < k) ⊎ ((a ≡ k) ⊎ (k < a)) → (k < b) ⊎ ((k ≡ b) ⊎ (b < k)) → Home document es out k
      go (inl s) (inl t) = g k (omega arith) t e
      go (inl s) (inr (inl t)) = absurd (not_both {m = n} e (rw t (exits_is y)))
      go (inl s) (inr (inr t)) = h k (omega arith) u e
      go (inr (inl s)) t = rw s at (f (sym (enters_is x).its_name ∙ ap (λ (j : ℕ). (nth es j).name) s ∙ e.its_name))
      go (inr (inr s)) t = absurd (omega arith)

  -- an item, at its own event
  module _ {a b c n from to m mark : ℕ} (inside next : Row) {rest : List Event} (x : Is es a (enter n from)) (y : Is es b (exit n to)) (item : Item es a b)
      (mk : mark_at document es a ≡ mark) (s : mark ≡ 0 → ⊥) where
    item_kept : (on : Bool) → eqb (neighbour document next) mark ≡ on →
        ((m₁ : ℕ) (o : List Event) → Gathered document es b o → drop m₁ out ≡ listed document false inside o → Closed document es out (a + 1) b m₁ o) →
        ((m₂ : ℕ) → drop m₂ out ≡ listed document on next rest → Grouped document es out on (b + 1) next c m₂ rest) →
        Gathered document es b (exit n to ∷ choose on (listed document on next rest) (exit (list_name mark) to ∷ listed document on next rest)) →
        drop m out ≡ enter n from ∷ listed document false inside
        (exit n to ∷ choose on (listed document on next rest) (exit (list_name mark) to ∷ listed document on next rest)) →
        Kept document es out a c m mark rest
    unfolding choose
    item_kept true e held later g q =
        let u = split_off out m (enter n from) (listed document false inside (exit n to ∷ listed document true next rest)) q in
        let h = held (m + 1) (exit n to ∷ listed document true next rest) g u.1 in
        let v = split_off out h.next_at (exit n to) (listed document true next rest) h.left in
        let l = later (h.next_at + 1) v.1 in
        let same : neighbour document next ≡ mark = eqb-true _ _ e in
        let self : Whole out m (h.next_at + 1) = one_more (enters_is u.0) h.whole (exits_is v.0) no_more in
        let far : Whole out m l.ending.end = whole_then self l.ending.until in
        let last : Exits out (list_name mark) l.ending.end = rw same at l.ending.exits in
        let above : m < l.ending.end = omega (arith, rises h.whole, rises l.ending.until) in
        record {
          ending = record { next_at = l.ending.next_at; left = l.ending.left; end = l.ending.end; until = far; exits = last; past = l.ending.past };
          homes = λ r. homes_of x y (λ z. home r far last above) h.homes (l.homes record {
            waits = waits_item item mk s same;
            first = r.first;
            begins = r.begins;
            chain = r.chain;
            from = r.from;
            there = r.there;
            enters = rw same r.enters;
            held = whole_then r.held self;
          });
        }
    item_kept false e held later g q =
        let o : List Event = exit n to ∷ exit (list_name mark) to ∷ listed document false next rest in
        let u = split_off out m (enter n from) (listed document false inside o) q in
        let h = held (m + 1) o g u.1 in
        let v = split_off out h.next_at (exit n to) (exit (list_name mark) to ∷ listed document false next rest) h.left in
        let w = split_off out (h.next_at + 1) (exit (list_name mark) to) (listed document false next rest) v.1 in
        let l = later (h.next_at + 1 + 1) w.1 in
        let self : Whole out m (h.next_at + 1) = one_more (enters_is u.0) h.whole (exits_is v.0) no_more in
        let above : m < h.next_at + 1 = omega (arith, rises h.whole) in
        record {
          ending = record { next_at = l.next_at; left = l.left; end = h.next_at + 1; until = self; exits = exits_is w.0; past = l.whole };
          homes = λ r. homes_of x y (λ z. home r self (exits_is w.0) above) h.homes l.homes;
        }

  -- an item at the front of a row
  module _ {a b c n from m : ℕ} (inside next : Row) {rest : List Event} (x : Is es a (enter n from)) (item : Item es a b) (q : n ≡ 15)
      (mk : mark_at document es a ≡ mark_of document inside)
      (s : mark_of document inside ≡ 0 → ⊥) where
    item_joined : {to : ℕ} (k : Kept document es out a c m (mark_of document inside) rest) → m < length out → Gathered document es a (drop m out) →
        Opened document es out a (pair n from to inside next) c m rest
    item_joined {to} k within g =
        let same : neighbour document (pair n from to inside next) ≡ mark_of document inside = neighbour_item document n from to inside next q in
        record {
          ending = rw same k.ending;
          homes = λ u.
              (let j = waits_joined item q mk s u.waits in
              k.homes record {
                first = u.first;
                begins = u.begins;
                chain = chain_then u.chain (onward j itself);
                from = u.from;
                there = u.there;
                enters = rw same at u.enters;
                held = u.held;
                comes = record { within = within; before = []; stands = joined j; onward = g };
              });
        }

    item_first : (k : Kept document es out a c (m + 1) (mark_of document inside) rest) → Is out m (enter (list_name (mark_of document inside)) from) →
        m + 1 < length out → First document es a → Gathered document es a (drop m out) →
        Gathered document es a (enter (list_name (mark_of document inside)) from ∷ drop (m + 1) out) →
        Closed document es out a c m rest
    item_first k e within f g h =
        record {
          next_at = k.ending.next_at;
          left = k.ending.left;
          whole = one_more (enters_is e) k.ending.until k.ending.exits k.ending.past;
          homes = k.homes record {
            first = a;
            begins = f;
            chain = itself;
            from = m;
            there = g;
            enters = enters_is e;
            held = no_more;
            comes = record { within = within; before = enter (list_name (mark_of document inside)) from ∷ []; stands = item_begins x item mk f; onward = h };
          };
        }

  -- a pair that is no item, at the front of a row
  module _ {a b n from to : ℕ} (c m : ℕ) (inside next : Row) (rest : List Event) (x : Is es a (enter n from)) (i : Lies document es (a + 1) inside b)
      (y : Is es b (exit n to)) (other : n ≡ 15 → ⊥) where
    other_grouped : (flag : Bool) →
        ((m₁ : ℕ) (o : List Event) → Gathered document es b o → drop m₁ out ≡ listed document false inside o → Closed document es out (a + 1) b m₁ o) →
        ((m₂ : ℕ) → drop m₂ out ≡ listed document flag next rest → Grouped document es out flag (b + 1) next c m₂ rest) →
        Gathered document es b (exit n to ∷ listed document flag next rest) →
        (flag ≡ true → Waits document es a (pair n from to inside next)) →
        drop m out ≡ enter n from ∷ listed document false inside (exit n to ∷ listed document flag next rest) →
        Grouped document es out flag a (pair n from to inside next) c m rest
    other_grouped flag held later g w q =
        let u = split_off out m (enter n from) (listed document false inside (exit n to ∷ listed document flag next rest)) q in
        let h = held (m + 1) (exit n to ∷ listed document flag next rest) g u.1 in
        let v = split_off out h.next_at (exit n to) (listed document flag next rest) h.left in
        go flag (one_more (enters_is u.0) h.whole (exits_is v.0) no_more) h.homes (later (h.next_at + 1) v.1) w
      where
        go : (flag : Bool) {m₂ : ℕ} → Whole out m m₂ → Homes document es out (a + 1) b → Grouped document es out flag (b + 1) next c m₂ rest →
            (flag ≡ true → Waits document es a (pair n from to inside next)) → Grouped document es out flag a (pair n from to inside next) c m rest
        go false self h l w =
            record {
              next_at = l.next_at;
              left = l.left;
              whole = whole_then self l.whole;
              homes = homes_of x y (λ z. absurd (other z)) h l.homes;
            }
        go true self h l w =
            let e = neighbour_other document n from to inside next other in
            let t = passed_over (and (between n) (no_item inside)) (neighbour document next) (λ z. (w refl).marked (e ∙ z)) in
            let same : neighbour document (pair n from to inside next) ≡ neighbour document next =
            e ∙ chosen (and (between n) (no_item inside)) (neighbour document next) t.0 in
            record {
              ending = rw same record {
                next_at = l.ending.next_at;
                left = l.ending.left;
                end = l.ending.end;
                until = whole_then self l.ending.until;
                exits = l.ending.exits;
                past = l.ending.past;
              };
              homes = λ u. homes_of x y (λ z. absurd (other z)) h (l.homes record {
                waits = waits_on x i y other u.waits;
                first = u.first;
                begins = u.begins;
                chain = u.chain;
                from = u.from;
                there = u.there;
                enters = rw same at u.enters;
                held = whole_then u.held self;
              });
            }

  module _ {a b c n from to : ℕ} (m : ℕ) (inside next : Row) (rest : List Event) (x : Is es a (enter n from)) (i : Lies document es (a + 1) inside b)
      (y : Is es b (exit n to)) (r : Lies document es (b + 1) next c) (mk : n ≡ 15 → mark_at document es a ≡ mark_of document inside)
      (s : n ≡ 15 → mark_of document inside ≡ 0 → ⊥) (stop : (l : ℕ) → Enters es l c → ⊥) (g : Gathered document es c rest)
      (held : (m₁ : ℕ) (o : List Event) → Gathered document es b o → drop m₁ out ≡ listed document false inside o → Closed document es out (a + 1) b m₁ o)
      (later : (on : Bool) (m₂ : ℕ) → Flag document es on (b + 1) next → drop m₂ out ≡ listed document on next rest →
      Grouped document es out on (b + 1) next c m₂ rest) where
    pair_grouped : (flag : Bool) → Flag document es flag a (pair n from to inside next) →
        drop m out ≡ listed document flag (pair n from to inside next) rest →
        (n ≡ 15) ⊎ (n ≡ 15 → ⊥) → Grouped document es out flag a (pair n from to inside next) c m rest
    unfolding listed joins choose
    pair_grouped true f e (inl q) =
        let item : Item es a b = rw q at (pair_lies x i y) in
        let mark : ℕ = mark_of document inside in
        let on : Bool = joins document mark next in
        let behind = flag_item item (mk q) (s q) in
        let after = row_gathered on next r stop behind g in
        let rest-there = exit_item on y item (mk q) (joins_one item (mk q) (s q) r) (joins_none item (mk q) (s q) r stop) after in
        let all = row_gathered true (pair n from to inside next) (lies_pair x i y r mk s) stop f g in
        let d = rw (eq-eqb n 15 q) at e in
        let u = split_off out m (enter n from) _ d in
        let k = item_kept inside next x y item (mk q) (s q) on refl held (λ m₂ w. later on m₂ behind w) rest-there d in
        item_joined inside next x item q (mk q) (s q) k u.0.within (rw e all)
    pair_grouped false f e (inl q) =
        let item : Item es a b = rw q at (pair_lies x i y) in
        let mark : ℕ = mark_of document inside in
        let on : Bool = joins document mark next in
        let behind = flag_item item (mk q) (s q) in
        let after = row_gathered on next r stop behind g in
        let rest-there = exit_item on y item (mk q) (joins_one item (mk q) (s q) r) (joins_none item (mk q) (s q) r stop) after in
        let all = row_gathered false (pair n from to inside next) (lies_pair x i y r mk s) stop f g in
        let d = rw (eq-eqb n 15 q) at e in
        let v = split_off out m (enter (list_name mark) from) _ d in
        let u = split_off out (m + 1) (enter n from) _ v.1 in
        let k = item_kept inside next x y item (mk q) (s q) on refl held (λ m₂ w. later on m₂ behind w) rest-there v.1 in
        item_first inside next x item q (mk q) (s q) k v.0 u.0.within (flag_first item q (mk q) (s q) f) (rw e all)
        (rw v.1 (rw (eq-eqb n 15 q) at all))
    pair_grouped flag f e (inr o) =
        let behind = flag_other x i y o f in
        let d = rw (ne_eqb n 15 o) at e in
        other_grouped c m inside next rest x i y o flag held (λ m₂ w. later flag m₂ behind w)
        (exit_other y o (row_gathered flag next r stop behind g)) f.waits d

-- a row
module _ {document : List ℕ} {es : List Event} (out : List Event) where
  pub row_grouped : {a c : ℕ} (flag : Bool) (row : Row) (m : ℕ) (rest : List Event) → Lies document es a row c → ((l : ℕ) → Enters es l c → ⊥) →
      Flag document es flag a row → Gathered document es c rest → drop m out ≡ listed document flag row rest → Grouped document es out flag a row c m rest
  unfolding listed neighbour
  row_grouped true none m rest lies_none stop f g q = absurd ((f.waits refl).marked refl)
  row_grouped false none m rest lies_none stop f g q = record { next_at = m; left = q; whole = no_more; homes = λ k h l e. absurd (omega arith) }
  row_grouped {a} flag (pair n from to inside next) m rest (lies_pair {b = b} x i y r mk s) stop f g q =
      pair_grouped m inside next rest x i y r mk s stop g
      (λ m₁ o h d. row_grouped {a = a + 1} false inside m₁ o i (λ l e. not_both e (exits_is y)) (flag_fresh (inside_fresh x)) h d)
      (λ on m₂ h d. row_grouped {a = b + 1} on next m₂ rest r stop h g d)
      flag f q (is_item_lem n)
