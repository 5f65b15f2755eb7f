-- Lists nest. The result of a sound list of events is a sound list again, so that no list crosses an item, a container or another list;
-- only its depth may pass 64: each item may have a list round it, so it is at most twice as deep.
-- Assumes nothing.
use Prim.Native.Nat.{ℕ, suc, ◌*◌, ◌≤◌, ◌<◌}
use mathlib.Core.Path.{◌≡◌, refl, sym, ap, ◌∙◌}
use mathlib.Core.Bool.{Bool, true, false}
use mathlib.Core.Logic.{◌⊎◌, inl, inr}
use mathlib.Core.List.{List, [], ◌∷◌}
use native.Mathlib.Omega.{arith}
use lib.ListN.{length}
use lib.Dec.{eqb}
use borrow.Author.Tests.{eqb-true}
use Rattle.record.specs.Choice.{choose, and}
use Rattle.record.specs.Event.{enter, exit}
use Rattle.record.specs.Outcome.{gives}
use Rattle.record.specs.Sound.{sound_from, sound}
use Rattle.record.specs.declared.event.Event.{Event}
use Rattle.record.proofs.Bools.{clash}
use Rattle.record.proofs.Soundness.{stands, sound_rest, sound_enter, sound_exit, after_enter, after_exit}
use Rattle.list.specs.Tree.{Row, none, pair, written, tree_of}
use Rattle.list.proofs.Reading.{tree_written}
use Rattle.list.specs.Item.{mark_of}
use Rattle.list.specs.Lists.{between, no_item, neighbour, joins, list_name, listed, lists}
use Rattle.list.proofs.Earliest.{Shaped, with_pair, all_shaped, passed_over}
use Rattle.list.proofs.Added.{list_named, result_of}

list_name_small : (mark : ℕ) → list_name mark ≤ 24
list_name_small mark = go (list_named mark)
  where
    go : (list_name mark ≡ 19) ⊎ (list_name mark ≡ 20) → list_name mark ≤ 24
    go (inl h) = omega arith
    go (inr h) = omega arith

-- what is open in the result where these names are, of which the innermost may be the list of the item before, which the first item of
-- the row joins
unfoldable held_by : List ℕ → Bool → Row → List ℕ → List ℕ
held_by document joined row names = choose joined (list_name (neighbour document row) ∷ names) names

-- what comes after a row is sound in the result wherever it is in the record
pub record Goes (d : ℕ) (held names : List ℕ) (es out : List Event) : Type 0 where
  pub goes : (last : ℕ) → sound_from 64 d last held es ≡ true → sound_from 128 d last names out ≡ true

-- an enter, an exit, a list's enter and a list's exit
module _ (d : ℕ) (held : List ℕ) (es : List Event) (n p last : ℕ) where
  left_held : sound_from 64 d last (n ∷ held) (exit n p ∷ es) ≡ true → sound_from 64 d p held es ≡ true
  left_held q =
      sym (ap (λ (ns : List ℕ). sound_from 64 d p ns es) (after_exit (exit n p) n (n ∷ held) refl)) ∙ sound_rest 64 d last (n ∷ held) (exit n p) es q

  more_held : sound_from 64 d last held (enter n p ∷ es) ≡ true → sound_from 64 d p (n ∷ held) es ≡ true
  more_held q =
      sym (ap (λ (ns : List ℕ). sound_from 64 d p ns es) (after_enter (enter n p) n held refl)) ∙ sound_rest 64 d last held (enter n p) es q

module _ {d : ℕ} {held names : List ℕ} {es out : List Event} (n p : ℕ) where
  on_enter : (length held < 64 → length names < 128) → Goes d (n ∷ held) (n ∷ names) es out → Goes d held names (enter n p ∷ es) (enter n p ∷ out)
  on_enter r g =
      record {
        goes = λ last q.
            (let st = stands 64 d last held (enter n p) es q in
            sound_enter 128 d last names (enter n p) out refl st.name st.inside st.rising (r (st.room refl)) (g.goes p (more_held d held es n p last q)));
      }

  on_exit : Goes d held names es out → Goes d (n ∷ held) (n ∷ names) (exit n p ∷ es) (exit n p ∷ out)
  on_exit g =
      record {
        goes = λ last q.
            (let st = stands 64 d last (n ∷ held) (exit n p) es q in
            sound_exit 128 d last names (exit n p) out refl st.name st.inside st.rising (g.goes p (left_held d held es n p last q)));
      }

  module _ (mark : ℕ) where
    on_begin : (length held < 64 → suc (length names) < 128) → Goes d (n ∷ held) (n ∷ list_name mark ∷ names) es out →
        Goes d held names (enter n p ∷ es) (enter (list_name mark) p ∷ enter n p ∷ out)
    on_begin r g =
        record {
          goes = λ last q.
              (let st = stands 64 d last held (enter n p) es q in
              let room : suc (length names) < 128 = r (st.room refl) in
              let here : p ≤ p = omega arith in
              sound_enter 128 d last names (enter (list_name mark) p) (enter n p ∷ out) refl (list_name_small mark) st.inside st.rising (omega arith)
              (sound_enter 128 d p (list_name mark ∷ names) (enter n p) out refl st.name st.inside here room (g.goes p (more_held d held es n p last q))));
        }

    on_end : Goes d held names es out → Goes d (n ∷ held) (n ∷ list_name mark ∷ names) (exit n p ∷ es) (exit n p ∷ exit (list_name mark) p ∷ out)
    on_end g =
        record {
          goes = λ last q.
              (let st = stands 64 d last (n ∷ held) (exit n p) es q in
              let here : p ≤ p = omega arith in
              sound_exit 128 d last (list_name mark ∷ names) (exit n p) (exit (list_name mark) p ∷ out) refl st.name st.inside st.rising
              (sound_exit 128 d p names (exit (list_name mark) p) out refl (list_name_small mark) st.inside here (g.goes p (left_held d held es n p last q))));
        }

-- the first item of a chain and one that is joined: the list is open round both
begin_either : (joined : Bool) (d n p mark : ℕ) (held names : List ℕ) (es out : List Event) → length names ≤ 2 * length held →
    Goes d (n ∷ held) (n ∷ list_name mark ∷ names) es out →
    Goes d held (choose joined (list_name mark ∷ names) names) (enter n p ∷ es) (choose joined (enter n p ∷ out) (enter (list_name mark) p ∷ enter n p ∷ out))
unfolding choose
begin_either true d n p mark held names es out few g = on_enter n p (λ h. omega arith) g
begin_either false d n p mark held names es out few g = on_begin n p mark (λ h. omega arith) g

-- an item that joins the one after, and the last of a chain
end_either : (on : Bool) (d n p mark : ℕ) (held names : List ℕ) (es out : List Event) →
    Goes d held (choose on (list_name mark ∷ names) names) es out →
    Goes d (n ∷ held) (n ∷ list_name mark ∷ names) (exit n p ∷ es) (exit n p ∷ choose on out (exit (list_name mark) p ∷ out))
unfolding choose
end_either true d n p mark held names es out g = on_exit n p g
end_either false d n p mark held names es out g = on_end n p mark g

-- the list that is open behind an item is that of its neighbour, where they join
same_list : (on : Bool) (m k : ℕ) (names : List ℕ) → eqb m k ≡ on → choose on (list_name m ∷ names) names ≡ choose on (list_name k ∷ names) names
unfolding choose
same_list true m k names q = ap (λ (j : ℕ). list_name j ∷ names) (eqb-true _ _ q)
same_list false m k names q = refl

-- a pair, where what it holds and its siblings go on
module _ (document : List ℕ) (d n from to : ℕ) (inside next : Row) (held names : List ℕ) (es out : List Event)
    (few : length names ≤ 2 * length held)
    (within : (ns : List ℕ) (fs ou : List Event) → length ns ≤ 2 * suc (length held) → Goes d (n ∷ held) ns fs ou →
    Goes d (n ∷ held) ns (written inside fs) (listed document false inside ou))
    (later : (j : Bool) → (j ≡ true → neighbour document next ≡ 0 → ⊥) →
    Goes d held (held_by document j next names) (written next es) (listed document j next out)) where
  item_goes : (joined : Bool) → eqb n 15 ≡ true → (mark_of document inside ≡ 0 → ⊥) →
      Goes d held (held_by document joined (pair n from to inside next) names) (enter n from ∷ written inside (exit n to ∷ written next es))
      (listed document joined (pair n from to inside next) out)
  unfolding held_by neighbour listed joins choose
  item_goes joined z m =
      let mark : ℕ = mark_of document inside in
      let on : Bool = eqb (neighbour document next) mark in
      let rest : List Event = listed document on next out in
      let l : Goes d held (choose on (list_name mark ∷ names) names) (written next es) rest =
      rw (sym (same_list on (neighbour document next) mark names refl)) (later on (λ q y. m (sym (eqb-true _ _ q) ∙ y))) in
      let i = within (n ∷ list_name mark ∷ names) (exit n to ∷ written next es) (exit n to ∷ choose on rest (exit (list_name mark) to ∷ rest)) (omega arith)
      (end_either on d n to mark held names (written next es) rest l) in
      rw z (begin_either joined d n from mark held names _ _ few i)

  other_goes : (joined : Bool) → eqb n 15 ≡ false → (joined ≡ true → neighbour document (pair n from to inside next) ≡ 0 → ⊥) →
      Goes d held (held_by document joined (pair n from to inside next) names) (enter n from ∷ written inside (exit n to ∷ written next es))
      (listed document joined (pair n from to inside next) out)
  unfolding held_by neighbour listed choose
  other_goes false z w =
      rw z (on_enter n from (λ h. omega arith)
      (within (n ∷ names) (exit n to ∷ written next es) (exit n to ∷ listed document false next out) (omega arith)
      (on_exit n to (later false (λ q y. clash q refl)))))
  other_goes true z w =
      let waits : choose (and (between n) (no_item inside)) (neighbour document next) 0 ≡ 0 → ⊥ = rw z at (w refl) in
      let b : (and (between n) (no_item inside) ≡ true) × (neighbour document next ≡ 0 → ⊥) = passed_over (and (between n) (no_item inside)) (neighbour document next) waits in
      let list : ℕ = list_name (neighbour document next) in
      rw (z, b.0) (on_enter n from (λ h. omega arith)
      (within (n ∷ list ∷ names) (exit n to ∷ written next es) (exit n to ∷ listed document true next out) (omega arith)
      (on_exit n to (later true (λ q y. b.1 y)))))

-- a row
row_goes : (document : List ℕ) (joined : Bool) (row : Row) (d : ℕ) (held names : List ℕ) (es out : List Event) → Shaped document row →
    (joined ≡ true → neighbour document row ≡ 0 → ⊥) → length names ≤ 2 * length held → Goes d held names es out →
    Goes d held (held_by document joined row names) (written row es) (listed document joined row out)
unfolding written listed neighbour held_by choose
row_goes document true none d held names es out s w few g = absurd (w refl refl)
row_goes document false none d held names es out s w few g = g
row_goes document joined (pair n from to inside next) d held names es out (with_pair m si sn) w few g = go (eqb n 15) refl
    (λ ns fs ou f x. row_goes document false inside d (n ∷ held) ns fs ou si (λ q y. clash q refl) f x)
    (λ j x. row_goes document j next d held names es out sn x few g)
  where
    go : (z : Bool) → eqb n 15 ≡ z →
        ((ns : List ℕ) (fs ou : List Event) → length ns ≤ 2 * suc (length held) → Goes d (n ∷ held) ns fs ou → Goes d (n ∷ held) ns (written inside fs) (listed document false inside ou)) →
        ((j : Bool) → (j ≡ true → neighbour document next ≡ 0 → ⊥) → Goes d held (held_by document j next names) (written next es) (listed document j next out)) →
        Goes d held (held_by document joined (pair n from to inside next) names) (enter n from ∷ written inside (exit n to ∷ written next es)) (listed document joined (pair n from to inside next) out)
    go true z a b = item_goes document d n from to inside next held names es out few a b joined z (m (eqb-true _ _ z))
    go false z a b = other_goes document d n from to inside next held names es out few a b joined z w

nothing_goes : (d : ℕ) → Goes d [] [] [] []
unfolding sound_from
nothing_goes d = record { goes = λ last q. refl }

-- the result is sound
pub nested : (d : ℕ) (document : List ℕ) (es out : List Event) → sound 64 d es ≡ true → lists document es ≡ gives out → sound 128 d out ≡ true
unfolding held_by choose
nested d document es out s q =
    let r = result_of document es out q in
    let shaped = all_shaped document 0 false (tree_of es) [] r.0 in
    let g : Goes d [] [] (written (tree_of es) []) (listed document false (tree_of es) []) =
    row_goes document false (tree_of es) d [] [] [] [] shaped.0 (λ x y. clash x refl) (omega arith) (nothing_goes d) in
    let h = g.goes 0 (ap (λ (l : List Event). sound_from 64 d 0 [] l) (tree_written 64 d es s) ∙ s) in
    rw r.1 at h
