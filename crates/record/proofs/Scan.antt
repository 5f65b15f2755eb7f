-- The scan for a carriage return: the place up to which no byte is one, and at which one or the end stands, is what the definition finds.
-- Assumes nothing.
use mathlib.Core.Path.{◌≡◌, refl, ap}
use mathlib.Core.Bool.{Bool, true, false, not}
use mathlib.Core.List.{List}
use Prim.Native.Nat.{ℕ, zero, suc, ◌+◌}
use native.Mathlib.Omega.{arith}
use lib.ListN.{get_or}
use lib.Dec.{eqb}
use Rattle.record.specs.Choice.{choose}
use Rattle.record.specs.Check.{first_return}
use Rattle.record.specs.Stretch.{is_not, Passed}
use Rattle.record.proofs.Stretch.{passed_none, passed_here, passed_next}

pub first_passed : {s : List ℕ} {from end r : ℕ} (n : ℕ) → end ≡ from + n → Passed (is_not 13) s from end 1 r → r ≡ first_return n s from
unfolding first_return choose is_not
first_passed zero h p = passed_none p (omega arith)
first_passed {s} {from} {end} {r} (suc n) h p = go (eqb (get_or s from 0) 13) refl (λ q. first_passed {from = from + 1} n (omega arith) q)
  where
    go : (z : Bool) → eqb (get_or s from 0) 13 ≡ z → (Passed (is_not 13) s (from + 1) end 1 r → r ≡ first_return n s (from + 1)) →
        r ≡ choose z from (first_return n s (from + 1))
    go true e f = passed_here p (ap not e)
    go false e f = f (passed_next p (omega arith) (ap not e))
