-- List item start, case by case.
-- Assumes nothing.
use mathlib.Core.Path.{◌≡◌, sym, ap, ◌∙◌}
use mathlib.Core.Bool.{Bool, true, false}
use mathlib.Core.List.{List}
use Prim.Native.Nat.{ℕ, ◌+◌, ◌-◌, ◌*◌, ◌≤◌, ◌<◌, ◌/◌, ◌%◌}
use native.Mathlib.Omega.{arith}
use lib.ListN.{length, take, drop, length-drop}
use borrow.Author.Tests.{le-leb, lt-leb, eq-eqb, ne_eqb}
use Rattle.std.specs.Prelude.{Ok, None, Option}
use Rattle.lines.specs.declared.item.Item.{Item}
use Rattle.record.specs.Choice.{choose}
use Rattle.scan.specs.Run.{blank}
use Rattle.scan.specs.Columns.{columns, reach, reach_all, indentation}
use Rattle.scan.specs.Line.{checked_line}
use Rattle.lines.specs.Item.{marker_of, container, padding, up_to_marker, item_with, filled_start, start_after, start_from, start_at, start_in, start_of, marked, starts}
use Rattle.scan.specs.declared.columns.Reach.{Reach}
use Rattle.lines.specs.declared.container.Kind.{Kind}
use Rattle.scan.proofs.Checks.{found_as}
use Rattle.scan.proofs.Blanks.{rest_of, is_on, is_off}
use Rattle.scan.proofs.InColumns.{reach_counted}
use Rattle.scan.proofs.Taken.{columns_below, reach_beyond, indent_reach, reach_wide}
use Rattle.lines.proofs.Marks.{told}

-- a reach up to a maximum is within its slice, and within the maximum
pub reach_fits : (max c : ℕ) (l : List ℕ) (r : Reach) → r ≡ reach max c l → (r.bytes ≤ length l) × (r.columns ≤ max)
reach_fits max c l r e = rw e ((reach_counted max c l).within, (reach_counted max c l).at_most)

module _ (z : Bool) (kind : Kind) (before : Reach) (c : ℕ) (rest : List ℕ) where
  pub blank_interrupts : blank rest ≡ true → z ≡ true → None ≡ start_after z kind before c rest
  unfolding start_after choose
  blank_interrupts h i = rw (h, i)

  pub blank_starts : blank rest ≡ true → z ≡ false → starts before.bytes 0 (container kind (before.columns + 1) true) ≡ start_after z kind before c rest
  unfolding start_after choose
  blank_starts h i = rw (h, i)

  -- five columns say how many the item takes
  module _ (h : blank rest ≡ false) (five : Reach) (f : five ≡ reach 5 c rest) where
    below : (five.columns ≡ 5 → ⊥) → columns c rest ≡ five.columns
    below k = rw f (sym (columns_below 5 c rest (λ q. k (ap (λ (x : Reach). x.columns) f ∙ q))))

    pub no_padding : five.columns ≡ 0 → None ≡ start_after z kind before c rest
    unfolding start_after filled_start choose
    no_padding k = rw (h, eq-eqb _ _ (below (λ q. omega arith) ∙ k))

    pub wide_padding : five.columns ≡ 5 → (one : Reach) → one ≡ reach 1 c rest → (r : Option Item) → r ≡ item_with kind before one →
        r ≡ start_after z kind before c rest
    unfolding start_after filled_start padding choose
    wide_padding k one o r i = rw (h, ne_eqb _ _ some, lt-leb _ _ more, ← o) i
      where
        more : 4 < columns c rest
        more = let t : five.columns ≤ columns c rest = rw f (reach_counted 5 c rest).there in omega arith

        some : columns c rest ≡ 0 → ⊥
        some q = omega (arith, more)

    pub all_padding : (five.columns ≡ 0 → ⊥) → (five.columns ≡ 5 → ⊥) → (r : Option Item) → r ≡ item_with kind before five →
        r ≡ start_after z kind before c rest
    unfolding start_after filled_start padding choose reach_all
    all_padding k m r i = rw (h, ne_eqb _ _ some, le-leb _ _ few, ← all) i
      where
        few : columns c rest ≤ 4
        few = let t = (reach_fits 5 c rest five f).1 in omega (arith, below m)

        some : columns c rest ≡ 0 → ⊥
        some q = k (sym (below m) ∙ q)

        all : five ≡ reach (columns c rest) c rest
        all = f ∙ reach_beyond 5 c rest (omega (arith, few))

-- indentation and marker stand on the line, and leave room for the columns of what follows
pub record Placed (l : List ℕ) (indent : Reach) (width : ℕ) : Type 0 where
  pub some : 1 ≤ width
  pub within : indent.bytes + width ≤ length l
  pub wide : indent.columns ≤ 4 * indent.bytes + 3

module _ (l : List ℕ) (options column : ℕ) (z : Bool) where
  pub items_off : (options / 16 % 2 ≡ 1 → ⊥) → None ≡ start_in l options column z
  unfolding start_in choose
  items_off o = rw (is_off options 16 o)

  module _ (indent : Reach) (e : indent ≡ indentation options column l) where
    abbrev rest : List ℕ
    rest = take (length l - indent.bytes) (drop indent.bytes l)

    pub placed : (kind : Kind) (width : ℕ) → marked kind width ≡ marker_of z rest → Placed l indent width
    placed kind width m =
        let t = told z rest kind width m in
        let w : indent.bytes ≤ length l = rw e (indent_reach options column l).1.within in
        let d : length rest ≡ length l - indent.bytes = ap length (rest_of l indent.bytes) ∙ length-drop indent.bytes l in
        let f = t.fits in
        record { some = t.some; within = omega arith; wide = rw e (reach_wide _ _ _ _ (indent_reach options column l).1) }

    module _ (o : options / 16 % 2 ≡ 1) where
      pub no_marker : None ≡ marker_of z rest → None ≡ start_in l options column z
      unfolding start_in start_at start_from choose
      no_marker m = let k = rw (rest_of l indent.bytes) at m in rw (is_on options 16 o, ← e, ← k)

      pub marker_there : (kind : Kind) (width : ℕ) → marked kind width ≡ marker_of z rest → (r : Option Item) →
          r ≡ start_after z kind (up_to_marker indent width) (column + (indent.columns + width)) (take (length rest - width) (drop width rest)) →
          r ≡ start_in l options column z
      unfolding start_in start_at start_from choose
      marker_there kind width m r q =
          let k = rw (rest_of l indent.bytes) at m in
          let p = rw (rest_of rest width, rest_of l indent.bytes) at q in
          rw (is_on options 16 o, ← e, ← k) p

pub start_found : (s : List ℕ) (options column : ℕ) (z : Bool) (n : ℕ) (r : Option Item) →
    Ok n ≡ checked_line s options column → r ≡ start_in (take n s) options column z → Ok r ≡ start_of s options column z
unfolding start_of
start_found s options column z n r q e = found_as s options column (λ (l : List ℕ). start_in l options column z) n r q e
