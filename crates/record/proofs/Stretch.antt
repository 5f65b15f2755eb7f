-- Stretches of bytes of one kind: how they grow by a byte or by a block, and how one way past blocks goes on from another.
-- Assumes nothing.
use mathlib.Core.Path.{◌≡◌, refl, sym, ◌∙◌}
use mathlib.Core.Bool.{Bool, beq, true, false, not, ◌&&◌, ◌||◌}
use mathlib.Core.List.{List}
use Prim.Native.Nat.{ℕ, ◌+◌, ◌≤◌, ◌<◌}
use native.Mathlib.Omega.{arith}
use lib.ListN.{get_or}
use lib.Dec.{ltb, eqb}
use borrow.Author.Tests.{ltb-true, ltb-false}
use Rattle.record.specs.Choice.{choose}
use Rattle.record.specs.Stretch.{of_kind, is_not, AllAre, Tells, Passed}
use Rattle.record.proofs.Bools.{clash}

module _ {kind : ℕ → Bool} {s : List ℕ} where
  pub all_none : {from end : ℕ} → end ≤ from → AllAre kind s from end
  all_none h = record { each = λ p l k. absurd (omega arith) }

  pub all_join : {from mid end : ℕ} → AllAre kind s from mid → AllAre kind s mid end → AllAre kind s from end
  all_join {from} {mid} {end} f g = record { each = λ p l k. go p l k (ltb p mid) refl }
    where
      go : (p : ℕ) → from ≤ p → p < end → (z : Bool) → ltb p mid ≡ z → kind (get_or s p 0) ≡ true
      go p l k true e = f.each p l (ltb-true _ _ e)
      go p l k false e = g.each p (ltb-false _ _ e) k

  pub all_part : {from end low high : ℕ} → from ≤ low → high ≤ end → AllAre kind s from end → AllAre kind s low high
  all_part h k f = record { each = λ p l m. f.each p (omega arith) (omega arith) }

  pub tells_none : {from : ℕ} → Tells kind s from (from + 0) true
  tells_none = record { yes = λ e. all_none (omega arith); no = λ e f. clash refl e }

  -- one more byte
  pub tells_more : {from end : ℕ} {x y : Bool} (next : ℕ) → next ≡ end + 1 → from ≤ end → y ≡ kind (get_or s end 0) → Tells kind s from end x →
      Tells kind s from next (x && y)
  tells_more {from} {end} {x} {y} next h l q t = go x y q t
    where
      go : (x y : Bool) → y ≡ kind (get_or s end 0) → Tells kind s from end x → Tells kind s from next (x && y)
      go true true q t =
          record {
            yes = λ e. all_join (t.yes refl) (record { each = λ p j k. let z : p ≡ end = omega arith in rw z (sym q) });
            no = λ e f. clash refl e;
          }
      go true false q t = record { yes = λ e. absurd (clash e refl); no = λ e f. clash (f.each end l (omega arith)) (sym q) }
      go false y q t = record { yes = λ e. absurd (clash e refl); no = λ e f. t.no refl (all_part (omega arith) (omega arith) f) }

  -- narrower blocks go on from where wider ones came to
  pub passed_on : {from mid end width narrow r : ℕ} → Passed kind s from end width mid → Passed kind s mid end narrow r → Passed kind s from end narrow r
  passed_on p q =
      let a = p.low in
      let b = q.low in
      record { low = omega arith; high = q.high; before = all_join p.before q.before; stops = q.stops }

  -- by single bytes: nothing is left, the byte here is of another kind, or it is passed
  module _ {from end r : ℕ} (p : Passed kind s from end 1 r) where
    pub passed_none : end ≤ from → r ≡ from
    passed_none h = let a = p.low in let b = p.high in omega arith

    pub passed_here : kind (get_or s from 0) ≡ false → r ≡ from
    passed_here e = let a = p.low in go (ltb from r) refl
      where
        go : (z : Bool) → ltb from r ≡ z → r ≡ from
        go true q = absurd (clash (p.before.each from (omega arith) (ltb-true _ _ q)) e)
        go false q = let h : r ≤ from = ltb-false _ _ q in omega arith

    pub passed_next : from < end → kind (get_or s from 0) ≡ true → Passed kind s (from + 1) end 1 r
    passed_next h e =
        record {
          low = go (ltb from r) refl;
          high = p.high;
          before = all_part (omega arith) (omega arith) p.before;
          stops = p.stops;
        }
      where
        go : (z : Bool) → ltb from r ≡ z → from + 1 ≤ r
        go true q = let l : from < r = ltb-true _ _ q in omega arith
        go false q =
            let l : r ≤ from = ltb-false _ _ q in
            let a = p.low in
            let z : r ≡ from = omega arith in
            absurd (p.stops (omega arith) (record { each = λ k j l. let y : k ≡ from = omega arith in rw y e }))

-- kinds that say the same of every byte
pub passed_as : {kind other : ℕ → Bool} {s : List ℕ} {from end width r : ℕ} → ((b : ℕ) → kind b ≡ other b) → Passed kind s from end width r → Passed other s from end width r
passed_as {s = s} f p =
    record {
      low = p.low;
      high = p.high;
      before = record { each = λ k j l. sym (f (get_or s k 0)) ∙ p.before.each k j l };
      stops = λ h g. p.stops h (record { each = λ k j l. f (get_or s k 0) ∙ g.each k j l });
    }

-- neither of a byte and itself
pub is_not_lem : (what b : ℕ) → of_kind (record { one = what; other = what; within = false }) b ≡ is_not what b
unfolding of_kind is_not choose
is_not_lem what b = go (eqb b what)
  where
    go : (z : Bool) → not (z || z) ≡ not z
    go true = refl
    go false = refl

-- the test of the code is the kind
pub is_kind : (x w : Bool) → beq x w ≡ choose w x (not x)
unfolding choose
is_kind true true = refl
is_kind true false = refl
is_kind false true = refl
is_kind false false = refl
