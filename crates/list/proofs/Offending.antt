-- The definition's offenders are the items that offend, by the words of the table.
-- Assumes nothing.
use mathlib.Core.Path.{◌≡◌, refl, sym}
use mathlib.Core.Bool.{Bool, true, false}
use mathlib.Core.Logic.{◌⊎◌, inl, inr, ⊎_elim}
use mathlib.Core.List.{List, [], ◌∷◌}
use Prim.Native.Nat.{ℕ, ◌+◌}
use lib.Dec.{eqb}
use lib.ListN.{length}
use borrow.Author.Tests.{eqb-true, eqb-false, eq-eqb}
use Rattle.record.specs.Choice.{choose, and}
use Rattle.record.proofs.Bools.{and_left, and_right, and_both, clash}
use Rattle.list.specs.Tree.{Row, none, pair, written}
use Rattle.list.specs.Item.{mark_of}
use Rattle.list.specs.Lists.{is_item, offending, offenders}
use Rattle.list.proofs.Earliest.{Among, front, behind as later}
use Rattle.list.specs.Offence.{Begins, ItemAt, here, inside, further, OffendsIn}
use Rattle.list.proofs.Beginnings.{begins_marked, marked_begins}

-- the test of one item
tested : (document : List ℕ) (close : Bool) (held : Row) → choose close true (eqb (mark_of document held) 0) ≡ true → (close ≡ true) ⊎ (Begins document held → ⊥)
unfolding choose
tested document true held e = inl refl
tested document false held e = inr (λ b. begins_marked document b (eqb-true _ _ e))

testing : (document : List ℕ) (close : Bool) (held : Row) → (close ≡ true) ⊎ (Begins document held → ⊥) → choose close true (eqb (mark_of document held) 0) ≡ true
unfolding choose
testing document true held b = refl
testing document false held (inl e) = absurd (clash refl (sym e))
testing document false held (inr f) = go (eqb (mark_of document held) 0) refl
  where
    go : (z : Bool) → eqb (mark_of document held) 0 ≡ z → eqb (mark_of document held) 0 ≡ true
    go true e = e
    go false e = absurd (f (marked_begins document held (eqb-false _ _ e)))

-- among the numbers where one may be put in front
put_front : (b : Bool) (i k : ℕ) (ks : List ℕ) → Among k (choose b (i ∷ ks) ks) → ((b ≡ true) × (k ≡ i)) ⊎ Among k ks
unfolding choose
put_front true i k ks (front e) = inl (refl, e)
put_front true i k ks (later a) = inr a
put_front false i k ks a = inr a

front_put : (b : Bool) (i : ℕ) (ks : List ℕ) → b ≡ true → Among i (choose b (i ∷ ks) ks)
unfolding choose
front_put true i ks e = front refl
front_put false i ks e = absurd (clash refl (sym e))

behind_put : (b : Bool) (i k : ℕ) (ks : List ℕ) → Among k ks → Among k (choose b (i ∷ ks) ks)
unfolding choose
behind_put true i k ks a = later a
behind_put false i k ks a = a

module _ (document : List ℕ) where
  -- one that the definition names offends, or is among the others
  pub named_offends : (i : ℕ) (close : Bool) (row : Row) (k : ℕ) (others : List ℕ) → Among k (offenders document i close row others) →
      OffendsIn document i close row k ⊎ Among k others
  unfolding offenders offending
  named_offends i close none k others a = inr a
  named_offends i close (pair n from to held next) k others a =
      by (put_front (and (is_item n) (choose close true (eqb (mark_of document held) 0))) i k _ a)
      (λ b. named_offends (i + 1) false held k (offenders document (i + 1 + length (written held []) + 1) (is_item n) next others) b)
      (λ b. named_offends (i + 1 + length (written held []) + 1) (is_item n) next k others b)
    where
      by : ((and (is_item n) (choose close true (eqb (mark_of document held) 0)) ≡ true) × (k ≡ i)) ⊎ Among k (offenders document (i + 1) false held (offenders document (i + 1 + length (written held []) + 1) (is_item n) next others)) →
          (Among k (offenders document (i + 1) false held (offenders document (i + 1 + length (written held []) + 1) (is_item n) next others)) → OffendsIn document (i + 1) false held k ⊎ Among k (offenders document (i + 1 + length (written held []) + 1) (is_item n) next others)) →
          (Among k (offenders document (i + 1 + length (written held []) + 1) (is_item n) next others) → OffendsIn document (i + 1 + length (written held []) + 1) (is_item n) next k ⊎ Among k others) →
          OffendsIn document i close (pair n from to held next) k ⊎ Among k others
      by (inl (t, e)) f g =
          let en : n ≡ 15 = eqb-true _ _ (and_left _ _ t) in
          let b = tested document close held (and_right _ _ t) in
          rw (en, e) (inl record { held = held; close = close; item = here; broken = b })
      by (inr b) f g = ⊎_elim
          (λ o. inl record { held = o.held; close = o.close; item = inside o.item; broken = o.broken })
          (λ b. ⊎_elim (λ o. inl record { held = o.held; close = o.close; item = further o.item; broken = o.broken }) (λ c. inr c) (g b))
          (f b)

  -- the others are named too
  pub others_named : (i : ℕ) (close : Bool) (row : Row) (k : ℕ) (others : List ℕ) → Among k others → Among k (offenders document i close row others)
  unfolding offenders
  others_named i close none k others a = a
  others_named i close (pair n from to held next) k others a =
      behind_put (offending document close n held) i k _
      (others_named (i + 1) false held k (offenders document (i + 1 + length (written held []) + 1) (is_item n) next others)
      (others_named (i + 1 + length (written held []) + 1) (is_item n) next k others a))

  -- and every one that offends is named
  pub offends_named : (i : ℕ) (close : Bool) (row : Row) (k : ℕ) (others : List ℕ) {item : Row} {c : Bool} → ItemAt i close row k item c →
      (c ≡ true) ⊎ (Begins document item → ⊥) → Among k (offenders document i close row others)
  unfolding offenders offending
  offends_named i close none k others {item = item} {c = c} a b = elim a [ ]
  offends_named i close (pair n from to held next) k others here b =
      front_put (and (is_item 15) (choose close true (eqb (mark_of document held) 0))) i _ (and_both _ _ (eq-eqb 15 15 refl) (testing document close held b))
  offends_named i close (pair n from to held next) k others (inside a) b =
      behind_put (and (is_item n) (choose close true (eqb (mark_of document held) 0))) i k _
      (offends_named (i + 1) false held k (offenders document (i + 1 + length (written held []) + 1) (is_item n) next others) a b)
  offends_named i close (pair n from to held next) k others (further a) b =
      behind_put (and (is_item n) (choose close true (eqb (mark_of document held) 0))) i k _
      (others_named (i + 1) false held k (offenders document (i + 1 + length (written held []) + 1) (is_item n) next others)
      (offends_named (i + 1 + length (written held []) + 1) (is_item n) next k others a b))
