-- The look onward for the neighbouring item: from here it finds what it finds from the start. And the item that it finds is the next to enter: who goes on event
-- by event comes to it with the mark that was found.
-- Assumes nothing.
use mathlib.Core.Path.{◌≡◌, refl, sym, ap, ◌∙◌}
use mathlib.Core.Bool.{Bool, true, false}
use mathlib.Core.List.{List, [], ◌∷◌}
use Prim.Native.Nat.{ℕ, ◌+◌, ◌-◌, ◌≤◌}
use native.Mathlib.Omega.{arith}
use lib.ListN.{length}
use lib.Dec.{eqb}
use borrow.Author.Tests.{eq-eqb, ne_eqb}
use Rattle.record.specs.Choice.{choose}
use Rattle.record.specs.declared.event.Event.{Event}
use Rattle.list.specs.Walk.{Placed, passing, nearest, mark_in}
use Rattle.list.proofs.Shapes.{placed_behind}

-- the loop's invariant
pub record Seeking (document : List ℕ) (all rest : List Event) (depth : ℕ) : Type 0 where
  pub low : depth + length rest ≤ length all
  pub placed : Placed document rest
  pub same : nearest document depth rest ≡ nearest document 0 all

module _ {document : List ℕ} {all rest : List Event} {depth : ℕ} (v : Seeking document all rest depth) where
  pub nothing_left : rest ≡ [] → 0 ≡ nearest document 0 all
  unfolding nearest
  nothing_left h = sym (ap (λ es. nearest document depth es) h) ∙ v.same

  module _ (e : Event) (es : List Event) (c : rest ≡ e ∷ es) where
    here : nearest document depth (e ∷ es) ≡ nearest document 0 all
    here = sym (ap (λ es. nearest document depth es) c) ∙ v.same

    pub placed_on : Placed document es
    placed_on = placed_behind document rest 1 es (rw c refl) v.placed

    module _ (x : e.kind ≡ 0 → ⊥) where
      pub parent_left : depth ≡ 0 → 0 ≡ nearest document 0 all
      unfolding nearest choose
      parent_left z = rw (ne_eqb _ _ x, eq-eqb _ _ z) at here

      pub pair_left : (depth ≡ 0 → ⊥) → Seeking document all es (depth - 1)
      unfolding nearest choose
      pair_left z = record { low = omega (arith, v.low, ap length c); placed = placed_on; same = rw (ne_eqb _ _ x, ne_eqb _ _ z) at here }

    module _ (x : e.kind ≡ 0) where
      module _ (y : e.name ≡ 15) where
        pub item_found : depth ≡ 0 → (m : ℕ) → m ≡ mark_in document es → m ≡ nearest document 0 all
        unfolding nearest choose
        item_found z m em = em ∙ rw (eq-eqb _ _ x, eq-eqb _ _ y, eq-eqb _ _ z) at here

        pub item_inside : (depth ≡ 0 → ⊥) → 0 ≡ nearest document 0 all
        unfolding nearest choose
        item_inside z = rw (eq-eqb _ _ x, eq-eqb _ _ y, ne_eqb _ _ z) at here

      module _ (y : e.name ≡ 15 → ⊥) where
        pub barred : passing depth e.name ≡ false → 0 ≡ nearest document 0 all
        unfolding nearest choose
        barred q = rw (eq-eqb _ _ x, ne_eqb _ _ y, q) at here

        pub passed : passing depth e.name ≡ true → Seeking document all es (depth + 1)
        unfolding nearest choose
        passed q = record { low = omega (arith, v.low, ap length c); placed = placed_on; same = rw (eq-eqb _ _ x, ne_eqb _ _ y, q) at here }

-- a look onward from here, where some pairs that it passes may be open, finds this mark; 0 says nothing
pub record Found (document : List ℕ) (mark : ℕ) (es : List Event) : Type 0 where
  pub sight : (mark ≡ 0 → ⊥) → (depth : ℕ) × (nearest document depth es ≡ mark)

pub nothing_found : (document : List ℕ) (es : List Event) → Found document 0 es
nothing_found document es = record { sight = λ z. absurd (z refl) }

pub found_behind : (document : List ℕ) (mark : ℕ) (es : List Event) → mark ≡ nearest document 0 es → Found document mark es
found_behind document mark es q = record { sight = λ z. (0, sym q) }

module _ {document : List ℕ} {mark : ℕ} {x : Event} {es : List Event} (v : Found document mark (x ∷ es)) where
  -- past an event of another name
  pub found_on : (x.name ≡ 15 → ⊥) → Found document mark es
  unfolding nearest choose
  found_on h = record { sight = λ z. past z (v.sight z).0 (v.sight z).1 }
    where
      inside : (mark ≡ 0 → ⊥) → (depth : ℕ) (b : Bool) → choose b (nearest document (depth + 1) es) 0 ≡ mark → (k : ℕ) × (nearest document k es ≡ mark)
      inside z depth true q = (depth + 1, q)
      inside z depth false q = absurd (z (sym q))

      outside : (mark ≡ 0 → ⊥) → (depth : ℕ) (b : Bool) → choose b 0 (nearest document (depth - 1) es) ≡ mark → (k : ℕ) × (nearest document k es ≡ mark)
      outside z depth true q = absurd (z (sym q))
      outside z depth false q = (depth - 1, q)

      by_kind : (mark ≡ 0 → ⊥) → (depth : ℕ) (b : Bool) → choose b (choose (passing depth x.name) (nearest document (depth + 1) es) 0) (choose (eqb depth 0) 0 (nearest document (depth - 1) es)) ≡ mark → (k : ℕ) × (nearest document k es ≡ mark)
      by_kind z depth true q = inside z depth (passing depth x.name) q
      by_kind z depth false q = outside z depth (eqb depth 0) q

      past : (mark ≡ 0 → ⊥) → (depth : ℕ) → nearest document depth (x ∷ es) ≡ mark → (k : ℕ) × (nearest document k es ≡ mark)
      past z depth q = by_kind z depth (eqb x.kind 0) (rw (ne_eqb _ _ h) at q)

  -- at the item that was found
  pub found_here : x.name ≡ 15 → x.kind ≡ 0 → (mark ≡ 0 → ⊥) → mark ≡ mark_in document es
  unfolding nearest choose
  found_here h k z = here_by (eqb (v.sight z).0 0) (rw (eq-eqb _ _ k, eq-eqb _ _ h) at (v.sight z).1)
    where
      here_by : (b : Bool) → choose b (mark_in document es) 0 ≡ mark → mark ≡ mark_in document es
      here_by true q = sym q
      here_by false q = absurd (z (sym q))
