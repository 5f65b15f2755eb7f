use Rattle.scan.proofs.InColumns.{spaces_passed, is_same, all_more, neither_one, stopped, ended, full}
use Rattle.record.proofs.Stretch.{all_none}
use Rattle.std.proofs.Common.{◌≡◌, ◌⊎◌, ◌≤◌, ℕ, Bool, true, false, refl, min, arith, rules}
use mathlib.Core.Logic.{⊎_elim, inl, inr}
use lib.Dec.{leb}
use borrow.Author.Tests.{leb-true, leb-false}
use Rattle.scan.proofs.columns.reached.Goals as goal

either : (a b n : ℕ) → min a b ≤ n → (a ≤ n) ⊎ (b ≤ n)
either a b n h = go (leb a n) refl
  where
    go : (z : Bool) → leb a n ≡ z → (a ≤ n) ⊎ (b ≤ n)
    go true q = inl (leb-true _ _ q)
    go false q = inr (omega (arith, leb-false _ _ q))

pub loop-n-init : goal.loop-n-init
loop-n-init c = all_none (search rules)

pub returns-then-rest-n-ne32 : goal.returns-then-rest-n-ne32
returns-then-rest-n-ne32 c = stopped (spaces_passed _ (search rules) (search rules) c.loop-n.invariant) (neither_one _ (search rules) (search rules))

pub loop-n-preserved : goal.loop-n-preserved
loop-n-preserved c = all_more c.loop-n.invariant (is_same _ _ (search rules))

pub returns-then-near-lt-FEW : goal.returns-then-near-lt-FEW
returns-then-near-lt-FEW c =
    let through : c.loop-n.n ≡ c.min-near.result = omega arith in
    let passed = spaces_passed {max = c.args.max} {c = c.args.column} _ (search rules) (search rules) (rw through at c.loop-n.invariant) in
    ⊎_elim (λ x. ended passed x) (λ x. full passed x) (either _ _ _ (omega arith))
