-- The list resolver's result is what document 01's words over event numbers say: the flag that the walk over the tree carries is true just where
-- an item joins the next one from before.
-- Assumes nothing.
use Prim.Native.Nat.{ℕ, zero, suc, ◌+◌, ◌≤◌}
use mathlib.Core.Path.{◌≡◌, refl, sym, ap, ◌∙◌}
use mathlib.Core.Bool.{Bool, true, false}
use mathlib.Core.Logic.{◌⊎◌, inl, inr}
use mathlib.Core.List.{List, [], ◌∷◌, ◌++◌}
use native.Mathlib.Omega.{arith}
use lib.ListN.{length, drop}
use lib.Dec.{eqb}
use borrow.Author.Tests.{eq-eqb, ne_eqb, eqb-true, eqb-false}
use Rattle.record.specs.Choice.{choose, and}
use Rattle.record.specs.Event.{enter, exit}
use Rattle.record.specs.Outcome.{gives}
use Rattle.record.specs.Sound.{sound}
use Rattle.record.specs.Stack.{nth}
use Rattle.record.specs.declared.event.Event.{Event}
use Rattle.record.proofs.Bools.{clash}
use Rattle.list.specs.Tree.{Row, none, pair, tree_of}
use Rattle.list.specs.Item.{mark_of}
use Rattle.list.specs.Lists.{between, no_item, neighbour, joins, list_name, listed, lists}
use Rattle.list.specs.Neighbours.{Enters, Exits, one_more, Item, mark_at, items_open, Between, nothing, Joined, First, Last}
use Rattle.list.specs.Gathered.{Named, by_point, by_bracket, by_other, Before, begins, joined, enters_none, Behind, ends, exits_none}
use Rattle.list.specs.Gathered.{Gathered, finished, with_event, ResultGathered}
use Rattle.list.specs.Gathered as gathered
use Rattle.list.proofs.Reading.{tree_written}
use Rattle.list.proofs.Earliest.{all_shaped, passed_over}
use Rattle.list.proofs.Added.{result_of}
use Rattle.list.proofs.Pairing.{not_both, one_exit, one_enter, whole_opens, between_whole, pass_one, LastPassed, last_passed}
use Rattle.list.proofs.Lying.{Is, enters_is, exits_is, Lies, lies_none, lies_pair, lying, pair_lies}
use Rattle.list.proofs.Lying.{stands_between, passed_lies, lies_passed, neighbour_met, met_neighbour}

-- the name of a list
name_by : (mark : ℕ) (a b : Bool) → eqb mark 46 ≡ a → eqb mark 41 ≡ b → Named mark (choose a 19 (choose b 19 20))
unfolding choose
name_by mark true b p q = rw (eqb-true mark 46 p) by_point
name_by mark false true p q = rw (eqb-true mark 41 q) by_bracket
name_by mark false false p q = by_other (eqb-false mark 46 p) (eqb-false mark 41 q)

pub named : (mark : ℕ) → Named mark (list_name mark)
unfolding list_name
named mark = name_by mark (eqb mark 46) (eqb mark 41) refl refl

-- an item from which only what may stand between comes up to event a, and whose mark is that of the neighbour that the tree finds there
pub record Waits (document : List ℕ) (es : List Event) (a : ℕ) (row : Row) : Type 0 where
  pub item : ℕ
  pub item_exit : ℕ
  pub pairs : Item es item item_exit
  pub between : Between es (item_exit + 1) a
  pub same : neighbour document row ≡ mark_at document es item
  pub marked : neighbour document row ≡ 0 → ⊥

-- what the flag means
pub record Flag (document : List ℕ) (es : List Event) (flag : Bool) (a : ℕ) (row : Row) : Type 0 where
  pub waits : flag ≡ true → Waits document es a row
  pub says : Waits document es a row → flag ≡ true

pub neighbour_item : (document : List ℕ) (n from to : ℕ) (inside next : Row) → n ≡ 15 →
    neighbour document (pair n from to inside next) ≡ mark_of document inside
unfolding neighbour choose
neighbour_item document n from to inside next q = rw (eq-eqb n 15 q)

pub neighbour_other : (document : List ℕ) (n from to : ℕ) (inside next : Row) → (n ≡ 15 → ⊥) →
    neighbour document (pair n from to inside next) ≡ choose (and (between n) (no_item inside)) (neighbour document next) 0
unfolding neighbour choose
neighbour_other document n from to inside next q = rw (ne_eqb n 15 q)

pub chosen : (b : Bool) (k : ℕ) → b ≡ true → choose b k 0 ≡ k
unfolding choose
chosen b k q = rw q

-- as many items are open at an item as behind it and behind what may stand between
level : {es : List Event} {i j k : ℕ} → Item es i j → Between es (j + 1) k → items_open es i ≡ items_open es k
level p b = whole_opens (one_more p.enters p.held p.exits (between_whole b))

-- no exit stands right before what a pair holds
pub inside_fresh : {es : List Event} {a n from : ℕ} → Is es a (enter n from) → (m j : ℕ) → a + 1 ≡ j + 1 → Exits es m j → ⊥
inside_fresh {es} {a} x m j q e =
    let same : j ≡ a = omega arith in
    not_both (enters_is x) (rw same at e)

module _ {document : List ℕ} {es : List Event} where
  -- where no exit stands before, nothing waits
  pub flag_fresh : {a : ℕ} {row : Row} → ((n j : ℕ) → a ≡ j + 1 → Exits es n j → ⊥) → Flag document es false a row
  flag_fresh {a} {row} fresh = record { waits = λ q. absurd (clash q refl); says = λ w. absurd (go w (last_passed w.between)) }
    where
      go : (w : Waits document es a row) → (w.item_exit + 1 ≡ a) ⊎ LastPassed es (w.item_exit + 1) a → ⊥
      go w (inl q) = fresh 15 w.item_exit (sym q) w.pairs.exits
      go w (inr l) = fresh l.passed.name l.to l.end l.passed.pair.exits

  -- behind an item
  abbrev pub waits_item : {a b mark : ℕ} {next : Row} → Item es a b → mark_at document es a ≡ mark → (mark ≡ 0 → ⊥) →
      neighbour document next ≡ mark → Waits document es (b + 1) next
  waits_item {a} {b} p m s e = record { item = a; item_exit = b; pairs = p; between = nothing; same = e ∙ sym m; marked = λ z. s (sym e ∙ z) }

  pub flag_item : {a b mark : ℕ} {next : Row} → Item es a b → mark_at document es a ≡ mark → (mark ≡ 0 → ⊥) →
      Flag document es (joins document mark next) (b + 1) next
  unfolding joins
  flag_item {a} {b} {mark} {next} p m s = record { waits = λ q. waits_item p m s (eqb-true _ _ q); says = λ w. go w (last_passed w.between) }
    where
      go : (w : Waits document es (b + 1) next) → (w.item_exit + 1 ≡ b + 1) ⊎ LastPassed es (w.item_exit + 1) (b + 1) →
          eqb (neighbour document next) mark ≡ true
      go w (inl q) =
          let e : w.item_exit ≡ b = omega arith in
          let i : w.item ≡ a = one_enter {m = 15} (rw e at w.pairs) p in
          eq-eqb _ _ (w.same ∙ ap (λ (k : ℕ). mark_at document es k) i ∙ m)
      go w (inr l) =
          let e : l.to ≡ b = omega (arith, l.end) in
          let n : l.passed.name ≡ 15 = sym l.passed.pair.exits.its_name ∙ ap (λ (k : ℕ). (nth es k).name) e ∙ p.exits.its_name in
          absurd ((stands_between l.passed.may).1 n)

  -- behind another pair
  module _ {a b n from to : ℕ} {inside next : Row} (x : Is es a (enter n from)) (i : Lies document es (a + 1) inside b)
      (y : Is es b (exit n to)) (other : n ≡ 15 → ⊥) where
    -- what waits before it waits behind it
    abbrev pub waits_on : Waits document es a (pair n from to inside next) → Waits document es (b + 1) next
    waits_on w =
        let e = neighbour_other document n from to inside next other in
        let t = passed_over (and (between n) (no_item inside)) (neighbour document next) (λ z. w.marked (e ∙ z)) in
        record {
          item = w.item;
          item_exit = w.item_exit;
          pairs = w.pairs;
          between = pass_one w.between (passed_lies x i y t.0);
          same = sym (e ∙ chosen (and (between n) (no_item inside)) (neighbour document next) t.0) ∙ w.same;
          marked = t.1;
        }

    pub flag_other : {flag : Bool} → Flag document es flag a (pair n from to inside next) → Flag document es flag (b + 1) next
    flag_other {flag} f = record { waits = λ q. waits_on (f.waits q); says = λ w. back w (last_passed w.between) }
      where
        back : (w : Waits document es (b + 1) next) → (w.item_exit + 1 ≡ b + 1) ⊎ LastPassed es (w.item_exit + 1) (b + 1) → flag ≡ true
        back w (inl q) =
            let e : w.item_exit ≡ b = omega arith in
            absurd (other (sym (exits_is y).its_name ∙ sym (ap (λ (k : ℕ). (nth es k).name) e) ∙ w.pairs.exits.its_name))
        back w (inr l) =
            let e : l.to ≡ b = omega (arith, l.end) in
            let d : l.from ≡ a = one_enter {m = n} (rw e at l.passed.pair) (pair_lies x i y) in
            let t = lies_passed x i y (rw (e, d) at l.passed) in
            let h = neighbour_other document n from to inside next other ∙ chosen (and (between n) (no_item inside)) (neighbour document next) t.1 in
            f.says record {
              item = w.item;
              item_exit = w.item_exit;
              pairs = w.pairs;
              between = rw d at l.rest;
              same = h ∙ w.same;
              marked = λ z. w.marked (sym h ∙ z);
            }

  -- at an item the flag says whether one joins it from before
  module _ {a b n from to : ℕ} {inside next : Row} (item : Item es a b) (q : n ≡ 15) (m : mark_at document es a ≡ mark_of document inside)
      (s : mark_of document inside ≡ 0 → ⊥) where
    pub waits_joined : (w : Waits document es a (pair n from to inside next)) → Joined document es w.item a
    waits_joined w =
        record {
          exit_of = w.item_exit;
          earlier = w.pairs;
          later_exit = b;
          later = item;
          between = w.between;
          same_mark = sym w.same ∙ neighbour_item document n from to inside next q ∙ sym m;
          same_open = level w.pairs w.between;
        }

    flag_joined : Flag document es true a (pair n from to inside next) → (i : ℕ) × Joined document es i a
    flag_joined f = ((f.waits refl).item, waits_joined (f.waits refl))

    pub flag_first : Flag document es false a (pair n from to inside next) → First document es a
    flag_first f i j =
        let e = neighbour_item document n from to inside next q in
        clash (f.says record {
          item = i;
          item_exit = j.exit_of;
          pairs = j.earlier;
          between = j.between;
          same = e ∙ sym m ∙ sym j.same_mark;
          marked = λ z. s (sym e ∙ z);
        }) refl

  -- and whether it joins one behind it
  module _ {a b c mark : ℕ} {next : Row} (item : Item es a b) (m : mark_at document es a ≡ mark) (s : mark ≡ 0 → ⊥)
      (r : Lies document es (b + 1) next c) where
    pub joins_one : eqb (neighbour document next) mark ≡ true → (k : ℕ) × Joined document es a k
    joins_one q =
        let e : neighbour document next ≡ mark = eqb-true _ _ q in
        let h = neighbour_met next r (λ z. s (sym e ∙ z)) in (
          h.item,
          record {
            exit_of = b;
            earlier = item;
            later_exit = h.item_exit;
            later = h.pairs;
            between = h.between;
            same_mark = m ∙ sym e ∙ sym h.its_mark;
            same_open = level item h.between;
          },
        )

    pub joins_none : ((l : ℕ) → Enters es l c → ⊥) → eqb (neighbour document next) mark ≡ false → Last document es a
    joins_none stop q k j =
        let e : j.exit_of ≡ b = one_exit j.earlier item in
        let h : neighbour document next ≡ mark_at document es k = met_neighbour next r stop (rw e at j.between) j.later in
        clash (eq-eqb _ _ (h ∙ sym j.same_mark ∙ m)) q

  -- one event, with what stands round it
  gather_one : {k : ℕ} {x : Event} {before behind out : List Event} → Is es k x → Before document es k before → Behind document es k behind →
      Gathered document es (k + 1) out → Gathered document es k (before ++ (x ∷ (behind ++ out)))
  gather_one {k} {x} {before} {behind} {out} i b e g = rw i.same at (with_event i.within b e g)

  enters_nothing : {k n p : ℕ} → Is es k (exit n p) → Before document es k []
  enters_nothing i = enters_none (λ far p. not_both p.enters (exits_is i))

  exits_nothing : {k n p : ℕ} → Is es k (enter n p) → Behind document es k []
  exits_nothing i = exits_none (λ j p. not_both (enters_is i) p.exits)

  enter_other : {k n p : ℕ} {out : List Event} → Is es k (enter n p) → (n ≡ 15 → ⊥) → Gathered document es (k + 1) out →
      Gathered document es k (enter n p ∷ out)
  enter_other i o g = gather_one i (enters_none (λ far p. o (sym (enters_is i).its_name ∙ p.enters.its_name))) (exits_nothing i) g

  pub exit_other : {k n p : ℕ} {out : List Event} → Is es k (exit n p) → (n ≡ 15 → ⊥) → Gathered document es (k + 1) out →
      Gathered document es k (exit n p ∷ out)
  exit_other i o g = gather_one i (enters_nothing i) (exits_none (λ j p. o (sym (exits_is i).its_name ∙ p.exits.its_name))) g

  pub item_begins : {a b n from mark : ℕ} → Is es a (enter n from) → Item es a b → mark_at document es a ≡ mark → First document es a →
      Before document es a (enter (list_name mark) from ∷ [])
  item_begins {a} {b} {n} {from} {mark} x p m h =
      let place : (nth es a).place ≡ from = ap (λ (v : Event). v.place) x.same in
      let name : Named (mark_at document es a) (list_name mark) = rw m (named mark) in
      rw place at (begins p h name)

  enter_item : {a b n from mark : ℕ} {out : List Event} (flag : Bool) → Is es a (enter n from) → Item es a b → mark_at document es a ≡ mark →
      (flag ≡ true → (i : ℕ) × Joined document es i a) → (flag ≡ false → First document es a) → Gathered document es (a + 1) out →
      Gathered document es a (choose flag (enter n from ∷ out) (enter (list_name mark) from ∷ enter n from ∷ out))
  unfolding choose
  enter_item true x p m f h g = gather_one x (joined (f refl).1) (exits_nothing x) g
  enter_item false x p m f h g = gather_one x (item_begins x p m (h refl)) (exits_nothing x) g

  pub exit_item : {a b n to mark : ℕ} {out : List Event} (on : Bool) → Is es b (exit n to) → Item es a b → mark_at document es a ≡ mark →
      (on ≡ true → (k : ℕ) × Joined document es a k) → (on ≡ false → Last document es a) → Gathered document es (b + 1) out →
      Gathered document es b (exit n to ∷ choose on out (exit (list_name mark) to ∷ out))
  unfolding choose
  exit_item true y p m f h g = gather_one y (enters_nothing y) (gathered.joins p (f refl).1) g
  exit_item {a} {b} {n} {to} {mark} false y p m f h g =
      let place : (nth es b).place ≡ to = ap (λ (v : Event). v.place) y.same in
      let name : Named (mark_at document es a) (list_name mark) = rw m (named mark) in
      gather_one y (enters_nothing y) (rw place at (ends p (h refl) name)) g

  -- a row
  pub row_gathered : {a c : ℕ} (flag : Bool) (row : Row) {out : List Event} → Lies document es a row c → ((l : ℕ) → Enters es l c → ⊥) →
      Flag document es flag a row → Gathered document es c out → Gathered document es a (listed document flag row out)
  unfolding listed joins choose
  row_gathered flag none lies_none stop f g = g
  row_gathered {a} {c} flag (pair n from to inside next) {out} (lies_pair {b = b} x i y r m s) stop f g = go (eqb n 15) refl
      (λ on h. row_gathered {a = b + 1} on next r stop h g)
      (λ o h. row_gathered {a = a + 1} false inside i (λ l e. not_both e (exits_is y)) (flag_fresh (inside_fresh x)) h)
    where
      go : (z : Bool) → eqb n 15 ≡ z → ((on : Bool) → Flag document es on (b + 1) next → Gathered document es (b + 1) (listed document on next out)) →
          ((o : List Event) → Gathered document es b o → Gathered document es (a + 1) (listed document false inside o)) →
          Gathered document es a (listed document flag (pair n from to inside next) out)
      go true z later held =
          let q : n ≡ 15 = eqb-true n 15 z in
          let item : Item es a b = rw q at (pair_lies x i y) in
          let mark : ℕ = mark_of document inside in
          let on : Bool = joins document mark next in
          let rest = later on (flag_item item (m q) (s q)) in
          let left = exit_item on y item (m q) (joins_one item (m q) (s q) r) (joins_none item (m q) (s q) r stop) rest in
          rw z (enter_item flag x item (m q) (λ e. flag_joined item q (m q) (s q) (rw e at f))
          (λ e. flag_first item q (m q) (s q) (rw e at f)) (held _ left))
      go false z later held =
          let o : n ≡ 15 → ⊥ = eqb-false n 15 z in
          rw z (enter_other x o (held _ (exit_other y o (later flag (flag_other x i y o f)))))

no_event_left : (es : List Event) (k : ℕ) → drop k es ≡ [] → length es ≤ k
no_event_left [] k q = omega arith
no_event_left (x ∷ es) zero q = let z : ◌≡◌ {A = ℕ} 0 1 = cc in absurd (omega arith)
no_event_left (x ∷ es) (suc k) q = omega (arith, no_event_left es k q)

-- the whole tree of a record that has a result
pub record TreeLies (document : List ℕ) (es out : List Event) : Type 0 where
  pub end : ℕ
  pub lies : Lies document es 0 (tree_of es) end
  pub all : length es ≤ end
  pub result : listed document false (tree_of es) [] ≡ out

pub tree_lies : (deep d : ℕ) (document : List ℕ) (es out : List Event) → sound deep d es ≡ true → lists document es ≡ gives out → TreeLies document es out
tree_lies deep d document es out s q =
    let r = result_of document es out q in
    let shaped = all_shaped document 0 false (tree_of es) [] r.0 in
    let l = lying document es (tree_of es) 0 [] shaped.0 (sym (tree_written deep d es s)) in
    record { end = l.0; lies = l.1; all = no_event_left es l.0 l.2; result = r.1 }

module _ {document : List ℕ} {es out : List Event} (t : TreeLies document es out) where
  pub nothing_behind : (n : ℕ) → Enters es n t.end → ⊥
  nothing_behind n e = omega (arith, e.within, t.all)

  pub nothing_before : Flag document es false 0 (tree_of es)
  nothing_before = flag_fresh (λ n j z e. omega arith)

-- every result is so
pub result_gathered : ResultGathered
result_gathered deep d document es out s q =
    let t = tree_lies deep d document es out s q in
    let g = row_gathered false (tree_of es) t.lies (nothing_behind t) (nothing_before t) (finished t.all) in
    rw t.result at g
