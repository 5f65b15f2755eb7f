-- The table's "given exactly when" for the line readers: each refuses with n at p just where (n, p) is the least row that holds, and finds
-- something where none does.
-- Assumes nothing.
use mathlib.Core.Path.{◌≡◌}
use mathlib.Core.Bool.{Bool}
use mathlib.Core.List.{List}
use Prim.Native.Nat.{ℕ}
use native.Mathlib.Omega.{arith}
use Rattle.std.specs.Prelude.{Result, Ok, Err}
use Rattle.record.specs.declared.check.Refusal.{Refusal}
use Rattle.scan.specs.Line.{reading, checked_line, line_of}
use Rattle.scan.specs.Rows.{Row, Exactly}
use Rattle.scan.proofs.ExactlyChecked.{exactly, came, read_came}
use Rattle.lines.specs.Spaces.{spaces_in, spaces_of}
use Rattle.lines.specs.Item.{start_in, start_of}
use Rattle.lines.specs.Going.{going_in, going_of}
use Rattle.lines.specs.declared.container.Container.{Container}

-- what is found is no refusal
found_apart : {A : Type 0} (x : A) (a : Refusal) → ◌≡◌ {A = Result A Refusal} (Ok x) (Err a) → ⊥
found_apart x a q = let z : ◌≡◌ {A = ℕ} 0 1 = cc in omega arith

same_refusal : {A : Type 0} (a b : Refusal) → ◌≡◌ {A = Result A Refusal} (Err a) (Err b) → a ≡ b
same_refusal a b q = cc

-- of a line as it is lent, where `found` is found on it
exactly_found : {A : Type 0} (s : List ℕ) (options column : ℕ) (found : A) →
    Exactly (Row s options column) Err (Ok found) (reading (checked_line s options column) Err (Ok found))
exactly_found s options column found = exactly same_refusal (found_apart found) (read_came Err (Ok found) (came s options column))

-- "Given exactly when", of space-or-tab
pub spaces_exactly : (s : List ℕ) (options column min max : ℕ) →
    Exactly (Row s options column) Err (Ok (spaces_in (line_of s) column min max)) (spaces_of s options column min max)
unfolding spaces_of
spaces_exactly s options column min max = exactly_found s options column (spaces_in (line_of s) column min max)

-- of list item start
pub start_exactly : (s : List ℕ) (options column : ℕ) (z : Bool) →
    Exactly (Row s options column) Err (Ok (start_in (line_of s) options column z)) (start_of s options column z)
unfolding start_of
start_exactly s options column z = exactly_found s options column (start_in (line_of s) options column z)

-- of continuation
pub going_exactly : (s : List ℕ) (options column : ℕ) (held : Container) →
    Exactly (Row s options column) Err (Ok (going_in (line_of s) column held)) (going_of s options column held)
unfolding going_of
going_exactly s options column held = exactly_found s options column (going_in (line_of s) column held)
