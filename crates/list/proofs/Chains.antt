-- The events with what their notes add are, over the events of a tree, the tree's events with its lists.
-- Assumes nothing.
use Prim.Native.Nat.{ℕ}
use mathlib.Core.Path.{◌≡◌, refl, sym, ap, ◌∙◌}
use mathlib.Core.Bool.{Bool, true, false}
use mathlib.Core.List.{List, ◌∷◌}
use lib.Dec.{eqb}
use borrow.Author.Tests.{eqb-true}
use Rattle.record.specs.Choice.{choose, and}
use Rattle.record.specs.Event.{event, enter, exit}
use Rattle.record.specs.declared.event.Event.{Event}
use Rattle.record.proofs.Bools.{and_left, and_right, clash}
use Rattle.list.specs.Tree.{Row, none, pair, written}
use Rattle.list.specs.Item.{mark_of}
use Rattle.list.specs.Lists.{between, no_item, neighbour, joins, list_name, listed}
use Rattle.list.specs.Walk.{mark_in, nearest, note, notes, noted, spliced}
use Rattle.list.proofs.Earliest.{Shaped, with_pair, passed_over}
use Rattle.list.proofs.Trees.{Stops, exited, mark_written, nearest_written}

-- the events from here on, with what their notes add
unfoldable pub walked : List ℕ → Bool → List ℕ → List Event → List Event
walked document joined marks es = spliced (notes document joined marks es) es

-- a list's name is not 0
name_by : (a b : Bool) → eqb (choose a 19 (choose b 19 20)) 0 ≡ false
unfolding choose
name_by true b = refl
name_by false true = refl
name_by false false = refl

named : (mark : ℕ) → eqb (list_name mark) 0 ≡ false
unfolding list_name
named mark = name_by (eqb mark 46) (eqb mark 41)

note_enter : (joined : Bool) (mark n p : ℕ) (es : List Event) →
    noted (note joined mark) (enter n p) es ≡ choose joined (enter n p ∷ es) (enter (list_name mark) p ∷ enter n p ∷ es)
unfolding noted choose
note_enter true mark n p es = refl
note_enter false mark n p es = rw (named mark)

note_exit : (joined : Bool) (mark n p : ℕ) (es : List Event) →
    noted (note joined mark) (exit n p) es ≡ exit n p ∷ choose joined es (exit (list_name mark) p ∷ es)
unfolding noted choose
note_exit true mark n p es = refl
note_exit false mark n p es = rw (named mark)

module _ (document : List ℕ) (marks : List ℕ) (n : ℕ) where
  -- an event of another name
  walked_other : (joined : Bool) (k p : ℕ) (es : List Event) → eqb n 15 ≡ false → walked document joined marks (event k n p ∷ es) ≡ event k n p ∷ walked document joined marks es
  unfolding walked spliced notes noted choose
  walked_other joined k p es h = rw h

  walked_enter : (joined : Bool) (p : ℕ) (es : List Event) → eqb n 15 ≡ true →
      walked document joined marks (enter n p ∷ es) ≡ noted (note joined (mark_in document es)) (enter n p) (walked document false (mark_in document es ∷ marks) es)
  unfolding walked spliced notes choose
  walked_enter joined p es h = rw h

  walked_exit : (joined : Bool) (mark p : ℕ) (es : List Event) → eqb n 15 ≡ true →
      walked document joined (mark ∷ marks) (exit n p ∷ es) ≡
      noted (note (eqb (nearest document 0 es) mark) mark) (exit n p) (walked document (eqb (nearest document 0 es) mark) marks es)
  unfolding walked spliced notes choose
  walked_exit joined mark p es h = rw h

not_item : (b : Bool) → choose b false true ≡ true → b ≡ false
unfolding choose
not_item true q = sym q
not_item false q = refl

-- a row without items is as it was
module _ (document : List ℕ) where
  plain_walked : (joined : Bool) (marks : List ℕ) (row : Row) (es : List Event) → no_item row ≡ true →
      walked document joined marks (written row es) ≡ written row (walked document joined marks es)
  unfolding no_item written
  plain_walked joined marks none es q = refl
  plain_walked joined marks (pair n from to inside next) es q =
      let a = not_item (eqb n 15) (and_left _ _ q) in
      let i = and_left _ _ (and_right _ _ q) in
      let k = and_right _ _ (and_right _ _ q) in
      walked_other document marks n joined 0 from (written inside (exit n to ∷ written next es)) a
      ∙ ap (λ (l : List Event). enter n from ∷ l) (plain_walked joined marks inside (exit n to ∷ written next es) i
      ∙ ap (λ (l : List Event). written inside l) (walked_other document marks n joined 1 to (written next es) a
      ∙ ap (λ (l : List Event). exit n to ∷ l) (plain_walked joined marks next es k)))

  pub plain_listed : (row : Row) (es : List Event) → no_item row ≡ true → listed document false row es ≡ written row es
  unfolding no_item written listed choose
  plain_listed none es q = refl
  plain_listed (pair n from to inside next) es q =
      let a = not_item (eqb n 15) (and_left _ _ q) in
      let i = and_left _ _ (and_right _ _ q) in
      let k = and_right _ _ (and_right _ _ q) in
      rw (a, plain_listed next es k, plain_listed inside (exit n to ∷ written next es) i)

-- a pair, where what it holds and its siblings are walked as they are listed
module _ (document : List ℕ) (marks : List ℕ) (n from to : ℕ) (inside next : Row) (es : List Event) (h : Stops es)
    (held : (ms : List ℕ) → walked document false ms (written inside (exit n to ∷ written next es)) ≡ listed document false inside (walked document false ms (exit n to ∷ written next es)))
    (later : (j : Bool) → (j ≡ true → neighbour document next ≡ 0 → ⊥) → walked document j marks (written next es) ≡ listed document j next (walked document false marks es)) where
  item_walked : (joined : Bool) → eqb n 15 ≡ true → (mark_of document inside ≡ 0 → ⊥) →
      walked document joined marks (enter n from ∷ written inside (exit n to ∷ written next es)) ≡ listed document joined (pair n from to inside next) (walked document false marks es)
  unfolding listed joins choose
  item_walked joined z m =
      let mark : ℕ = mark_of document inside in
      let on : Bool = eqb (neighbour document next) mark in
      let e₁ : mark_in document (written inside (exit n to ∷ written next es)) ≡ mark = mark_written document inside exited in
      let e₂ : nearest document 0 (written next es) ≡ neighbour document next = nearest_written document next h in
      let l : walked document on marks (written next es) ≡ listed document on next (walked document false marks es) =
      later on (λ q y. m (sym (eqb-true _ _ q) ∙ y)) in
      let i : walked document false (mark ∷ marks) (written inside (exit n to ∷ written next es)) ≡
      listed document false inside (exit n to ∷ choose on (listed document on next (walked document false marks es)) (exit (list_name mark) to ∷ listed document on next (walked document false marks es))) =
      held (mark ∷ marks)
      ∙ ap (λ (x : List Event). listed document false inside x)
      (walked_exit document marks n false mark to (written next es) z
      ∙ ap (λ (k : ℕ). noted (note (eqb k mark) mark) (exit n to) (walked document (eqb k mark) marks (written next es))) e₂
      ∙ note_exit on mark n to (walked document on marks (written next es))
      ∙ ap (λ (x : List Event). exit n to ∷ choose on x (exit (list_name mark) to ∷ x)) l) in
      walked_enter document marks n joined from (written inside (exit n to ∷ written next es)) z
      ∙ ap (λ (k : ℕ). noted (note joined k) (enter n from) (walked document false (k ∷ marks) (written inside (exit n to ∷ written next es)))) e₁
      ∙ note_enter joined mark n from (walked document false (mark ∷ marks) (written inside (exit n to ∷ written next es)))
      ∙ ap (λ (x : List Event). choose joined (enter n from ∷ x) (enter (list_name mark) from ∷ enter n from ∷ x)) i
      ∙ rw z

  -- a pair of another name; where an item before waits for its neighbour, the pair holds no item
  other_walked : (joined : Bool) → eqb n 15 ≡ false → (joined ≡ true → neighbour document (pair n from to inside next) ≡ 0 → ⊥) →
      walked document joined marks (enter n from ∷ written inside (exit n to ∷ written next es)) ≡ listed document joined (pair n from to inside next) (walked document false marks es)
  unfolding listed neighbour choose
  other_walked false z w =
      walked_other document marks n false 0 from (written inside (exit n to ∷ written next es)) z
      ∙ ap (λ (x : List Event). enter n from ∷ x) (held marks
      ∙ ap (λ (x : List Event). listed document false inside x) (walked_other document marks n false 1 to (written next es) z
      ∙ ap (λ (x : List Event). exit n to ∷ x) (later false (λ q y. clash q refl))))
      ∙ rw z
  other_walked true z w =
      let waits : choose (and (between n) (no_item inside)) (neighbour document next) 0 ≡ 0 → ⊥ = rw z at (w refl) in
      let b : (and (between n) (no_item inside) ≡ true) × (neighbour document next ≡ 0 → ⊥) = passed_over (and (between n) (no_item inside)) (neighbour document next) waits in
      let i : no_item inside ≡ true = and_right (between n) (no_item inside) b.0 in
      walked_other document marks n true 0 from (written inside (exit n to ∷ written next es)) z
      ∙ ap (λ (x : List Event). enter n from ∷ x) (plain_walked document true marks inside (exit n to ∷ written next es) i
      ∙ sym (plain_listed document inside (walked document true marks (exit n to ∷ written next es)) i)
      ∙ ap (λ (x : List Event). listed document false inside x) (walked_other document marks n true 1 to (written next es) z
      ∙ ap (λ (x : List Event). exit n to ∷ x) (later true (λ q y. b.1 y))))
      ∙ rw z

-- a row is walked as it is listed, where each item has a mark; a neighbour that is joined is there
pub listed_walked : (document : List ℕ) (joined : Bool) (marks : List ℕ) (row : Row) {es : List Event} → Stops es → Shaped document row →
    (joined ≡ true → neighbour document row ≡ 0 → ⊥) → walked document joined marks (written row es) ≡ listed document joined row (walked document false marks es)
unfolding written listed neighbour
listed_walked document true marks none h s w = absurd (w refl refl)
listed_walked document false marks none h s w = refl
listed_walked document joined marks (pair n from to inside next) {es} h (with_pair m si sn) w = go (eqb n 15) refl
    (λ ms. listed_walked document false ms inside exited si (λ q y. clash q refl))
    (λ j x. listed_walked document j marks next h sn x)
  where
    go : (z : Bool) → eqb n 15 ≡ z →
        ((ms : List ℕ) → walked document false ms (written inside (exit n to ∷ written next es)) ≡ listed document false inside (walked document false ms (exit n to ∷ written next es))) →
        ((j : Bool) → (j ≡ true → neighbour document next ≡ 0 → ⊥) → walked document j marks (written next es) ≡ listed document j next (walked document false marks es)) →
        walked document joined marks (enter n from ∷ written inside (exit n to ∷ written next es)) ≡ listed document joined (pair n from to inside next) (walked document false marks es)
    go true z a b = item_walked document marks n from to inside next es h a b joined z (m (eqb-true _ _ z))
    go false z a b = other_walked document marks n from to inside next es h a b joined z w
