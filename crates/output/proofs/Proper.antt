-- Groups as matches make them: the opener before the closer, both among the n runs, and at least one marker taken.
-- Assumes nothing.
use Prim.Native.Nat.{ℕ, ◌≤◌, ◌<◌}
use mathlib.Core.Path.{◌≡◌, refl}
use mathlib.Core.List.{List, [], ◌∷◌, ◌++◌}
use native.Mathlib.Omega.{arith}
use lib.ListN.{length}
use borrow.Author.Tests.{ne_eqb}
use Rattle.record.specs.Choice.{choose}
use Rattle.runs.specs.Rule.{Rule}
use Rattle.runs.specs.Plain.{Standing, Group, at, group, taken_by}
use Rattle.runs.specs.Pieces.{closings}
use Rattle.groups.specs.Matches.{Matches, start, then}
use Rattle.groups.proofs.Laws.{amount_most}
use Rattle.groups.proofs.Accounts.{matches_account}

pub data Proper (n : ℕ) : List Group → Type 0 where
  none : Proper n []
  more : {g : Group} {gs : List Group} → g.opener < g.closer → g.closer < n → 0 < g.taken → Proper n gs → Proper n (g ∷ gs)

-- one group more
proper_more : {n : ℕ} {gs : List Group} (g : Group) → g.opener < g.closer → g.closer < n → 0 < g.taken → Proper n gs → Proper n (gs ++ (g ∷ []))
proper_more g a b c none = more a b c none
proper_more g a b c (more x y z p) = more x y z (proper_more g a b c p)

pub matches_proper : {rule : Rule} {rs₀ rs : List Standing} {gs : List Group} {c : ℕ} → Matches rule rs₀ gs rs c → Proper (length rs₀) gs
matches_proper start = none
matches_proper (then {gs} {rs} o c m f) =
    let a = matches_account m in
    proper_more (group o c (taken_by rs o c)) f.earlier (omega (arith, f.within, a.as_many))
    (amount_most (at rs o).left (at rs c).left f.opener_left f.closer_left).0 (matches_proper m)

-- the last closer is among the runs
pub last_within : {rule : Rule} {rs₀ rs : List Standing} {gs : List Group} {c : ℕ} → Matches rule rs₀ gs rs c → c ≤ length rs₀
last_within start = omega arith
last_within (then o c m f) = let a = matches_account m in omega (arith, f.within, a.as_many)

-- past the last run nothing is closed
pub none_closed : (q : ℕ) {gs : List Group} (marker at : ℕ) → Proper q gs → closings gs q marker at ≡ []
unfolding closings choose
none_closed q marker at none = refl
none_closed q marker at (more {g} a b c p) = rw (ne_eqb g.closer q (λ z. omega arith)) (none_closed q marker at p)
