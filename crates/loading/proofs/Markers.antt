-- The shape rule as the code asks it: a scan over a run's bytes is a scan over the list of them.
-- Assumes nothing.
use Rattle.std.proofs.Common.{◌≡◌, refl, ℕ, zero, suc, ◌+◌, ◌-◌, ◌≤◌, List, length, take, drop, Bool, true, false, ◌&&◌, arith, nat_eq, get_or, drop-cons, sym, ◌∙◌}
use Rattle.std.specs.List.{list_all}
use Rattle.record.specs.Choice.{and}
use Rattle.runs.specs.Runs.{is_marker, all_are}

all_from : (marker : ℕ) (s : List ℕ) (n at : ℕ) → at + n ≤ length s → list_all (λ b. nat_eq b marker) (take n (drop at s)) ≡ all_are n marker s at
unfolding all_are and
all_from marker s zero at h = refl
all_from marker s (suc n) at h =
    let k : at + 1 ≡ suc at = omega arith in
    rw (drop-cons s at 0 (omega arith), k) (both (nat_eq (get_or s at 0) marker) (all_from marker s n (suc at) (omega arith)))
  where
    both : (b : Bool) {x y : Bool} → x ≡ y → (b && x) ≡ and b y
    both true e = e
    both false e = refl

-- the bytes from one place up to another
all_listed : (s : List ℕ) (from to marker : ℕ) → from ≤ to → to ≤ length s →
    list_all (λ b. nat_eq b marker) (take (to - from) (drop from s)) ≡ all_are (to - from) marker s from
all_listed s from to marker h k = all_from marker s (to - from) from (omega arith)

-- a scan after the test of the marker
pub marked_all : (s : List ℕ) (from to marker : ℕ) {v r l : Bool} → from ≤ to → to ≤ length s → r ≡ is_marker marker → r ≡ true → v ≡ l →
    l ≡ list_all (λ b. nat_eq b marker) (take (to - from) (drop from s)) → v ≡ and (is_marker marker) (all_are (to - from) marker s from)
unfolding and
marked_all s from to marker h k m t v l = rw (sym m ∙ t) (v ∙ l ∙ all_listed s from to marker h k)
