-- The table's "given exactly when" for the heading reader: it refuses with n at p just where (n, p) is the least row that holds, and finds
-- something where none does.
-- Assumes nothing.
use mathlib.Core.Path.{◌≡◌, refl, sym, ap, ◌∙◌}
use mathlib.Core.Bool.{Bool, true, false}
use mathlib.Core.Logic.{◌⊎◌, inl, inr}
use mathlib.Core.List.{List}
use Prim.Native.Nat.{ℕ, ◌+◌, ◌*◌, ◌≤◌, ◌<◌}
use native.Mathlib.Omega.{arith}
use lib.ListN.{length}
use lib.Dec.{ltb}
use borrow.Author.Tests.{ltb-true, ltb-false}
use Rattle.std.specs.Prelude.{Ok, Err, None, Some}
use Rattle.record.specs.Choice.{choose}
use Rattle.record.specs.Order.{rank, Least}
use Rattle.record.specs.Form.{old}
use Rattle.record.specs.Outcome.{sized, accepted, refusing}
use Rattle.record.specs.declared.check.Refusal.{Refusal}
use Rattle.record.proofs.Order.{lower_first}
use Rattle.scan.specs.Line.{line_of, reading, Checked}
use Rattle.scan.specs.Rows.{Row, row_2, row_2_column, row_3, row_4, Exactly}
use Rattle.scan.proofs.ExactlyChecked.{Came, least_row, no_row, exactly, came, neither}
use Rattle.atx.specs.Rows.{WritingRow, row_7, row_8, heading_found}
use Rattle.atx.specs.Rows.{reading as by-reading}
use Rattle.atx.specs.Heading.{is_heading, heading_events, nothing, headed, headed_in, headed_of}

heading_apart : (l : List ℕ) (options column : ℕ) (a : Refusal) → heading_found l options column ≡ Err a → ⊥
heading_apart l options column a q =
    neither _ _ _ (Err a) (λ e. let z : ◌≡◌ {A = ℕ} 0 1 = cc in omega arith) (λ e. let z : ◌≡◌ {A = ℕ} 0 1 = cc in omega arith) q

module _ (s : List ℕ) (options column outs : ℕ) where
  low : (n p : ℕ) → Row s options column n p → (0 < n) × (n < 7)
  low n p (row_2 w a b) = (omega arith, omega arith)
  low n p (row_2_column w a b) = (omega arith, omega arith)
  low n p (row_3 w a b) = (omega arith, omega arith)
  low n p (row_4 w v a) = (omega arith, omega arith)

  -- the least row of the check is the least of all
  lifted : {n p : ℕ} → Least (Row s options column) n p → Least (WritingRow s options column outs) n p
  lifted {n} {p} l = record { holds = by-reading l.holds; least = go }
    where
      go : (m q : ℕ) → WritingRow s options column outs m q → (rank n < rank m) ⊎ ((n ≡ m) × (p ≤ q))
      go m q (by-reading r) = l.least m q r
      go m q (row_7 h w a b) = let y = low n p l.holds in inl (lower_first _ _ (omega arith) (omega arith) (omega arith))
      go m q (row_8 h w a b) = let y = low n p l.holds in inl (lower_first _ _ (omega arith) (omega arith) (omega arith))

  module _ (clear : (n p : ℕ) → Row s options column n p → ⊥) where
    no_heading : is_heading (line_of s) options column ≡ false → (n p : ℕ) → WritingRow s options column outs n p → ⊥
    no_heading e n p (by-reading r) = clear n p r
    no_heading e n p (row_7 h w a b) = let z : ◌≡◌ {A = ℕ} 0 1 = cc in omega arith
    no_heading e n p (row_8 h w a b) = let z : ◌≡◌ {A = ℕ} 0 1 = cc in omega arith

    module _ (is : is_heading (line_of s) options column ≡ true) where
      at_7 : 8000 < length (heading_events (line_of s)) → Least (WritingRow s options column outs) 7 0
      at_7 h = record { holds = row_7 is h refl refl; least = go }
        where
          go : (m q : ℕ) → WritingRow s options column outs m q → (rank 7 < rank m) ⊎ ((7 ≡ m) × (0 ≤ q))
          go m q (by-reading r) = absurd (clear m q r)
          go m q (row_7 i w a b) = inr (sym a, omega arith)
          go m q (row_8 i w a b) = inl (lower_first _ _ (omega arith) (omega arith) (omega arith))

      module _ (few : length (heading_events (line_of s)) ≤ 8000) where
        at_8 : outs < 4 + 8 * length (heading_events (line_of s)) → Least (WritingRow s options column outs) 8 0
        at_8 h = record { holds = row_8 is h refl refl; least = go }
          where
            go : (m q : ℕ) → WritingRow s options column outs m q → (rank 8 < rank m) ⊎ ((8 ≡ m) × (0 ≤ q))
            go m q (by-reading r) = absurd (clear m q r)
            go m q (row_7 i w a b) = absurd (omega arith)
            go m q (row_8 i w a b) = inr (sym a, omega arith)

        room : 4 + 8 * length (heading_events (line_of s)) ≤ outs → (n p : ℕ) → WritingRow s options column outs n p → ⊥
        room h n p (by-reading r) = clear n p r
        room h n p (row_7 i w a b) = omega arith
        room h n p (row_8 i w a b) = omega arith

      came_sized : Came (WritingRow s options column outs) Err (Ok (Some (length (heading_events (line_of s)))))
          (headed (sized old (heading_events (line_of s)) outs)).answer
      unfolding sized choose
      came_sized = go (ltb 8000 (length (heading_events (line_of s)))) refl (ltb outs (4 + 8 * length (heading_events (line_of s)))) refl
        where
          go : (y : Bool) → ltb 8000 (length (heading_events (line_of s))) ≡ y → (z : Bool) → ltb outs (4 + 8 * length (heading_events (line_of s))) ≡ z →
              Came (WritingRow s options column outs) Err (Ok (Some (length (heading_events (line_of s)))))
              (headed (choose y (refusing 7 0) (choose z (refusing 8 0) (accepted (heading_events (line_of s)))))).answer
          go true e z f = least_row 7 0 refl (at_7 (ltb-true _ _ e))
          go false e true f = least_row 8 0 refl (at_8 (ltb-false _ _ e) (ltb-true _ _ f))
          go false e false f = no_row refl (room (ltb-false _ _ e) (ltb-false _ _ f))

    came_in : Came (WritingRow s options column outs) Err (heading_found (line_of s) options column) (headed_in (line_of s) options column outs).answer
    unfolding headed_in choose
    came_in = go (is_heading (line_of s) options column) refl
      where
        go : (z : Bool) → is_heading (line_of s) options column ≡ z →
            Came (WritingRow s options column outs) Err (choose z (Ok (Some (length (heading_events (line_of s))))) (Ok None))
            (choose z (headed (sized old (heading_events (line_of s)) outs)) (nothing (Ok None))).answer
        go true e = came_sized e
        go false e = no_row refl (no_heading e)

  written_came : {n : ℕ} {c : Checked} → Came (Row s options column) Err (Ok n) c →
      Came (WritingRow s options column outs) Err (heading_found (line_of s) options column)
      (reading c (λ r. nothing (Err r)) (headed_in (line_of s) options column outs)).answer
  unfolding reading
  written_came (least_row n p e l) =
      least_row n p (ap (λ (x : Checked). (reading x (λ r. nothing (Err r)) (headed_in (line_of s) options column outs)).answer) e) (lifted l)
  written_came {n} {c} (no_row e f) = go (came_in f)
    where
      here : (reading c (λ r. nothing (Err r)) (headed_in (line_of s) options column outs)).answer ≡ (headed_in (line_of s) options column outs).answer
      here = ap (λ (x : Checked). (reading x (λ r. nothing (Err r)) (headed_in (line_of s) options column outs)).answer) e

      go : Came (WritingRow s options column outs) Err (heading_found (line_of s) options column) (headed_in (line_of s) options column outs).answer →
          Came (WritingRow s options column outs) Err (heading_found (line_of s) options column)
          (reading c (λ r. nothing (Err r)) (headed_in (line_of s) options column outs)).answer
      go (least_row m q d l) = least_row m q (here ∙ d) l
      go (no_row d g) = no_row (here ∙ d) g

-- of the heading reader
pub heading_exactly : (s : List ℕ) (options column outs : ℕ) →
    Exactly (WritingRow s options column outs) Err (heading_found (line_of s) options column) (headed_of s options column outs).answer
unfolding headed_of
heading_exactly s options column outs =
    exactly (λ a b q. cc) (heading_apart (line_of s) options column) (written_came s options column outs (came s options column))
