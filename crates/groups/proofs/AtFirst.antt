-- What a run can do at a search is what it could do at first: a candidate can open and so could at first, no match before took a closer's open, and
-- closing is never lost.
-- Assumes nothing.
use Prim.Native.Nat.{ℕ, ◌≤◌}
use mathlib.Core.Path.{◌≡◌, refl, ◌∙◌}
use mathlib.Core.Bool.{Bool, true, false}
use mathlib.Core.List.{List}
use native.Mathlib.Omega.{arith}
use lib.Dec.{ltb}
use borrow.Author.Tests.{ltb-true}
use Rattle.record.specs.Choice.{choose, and}
use Rattle.record.proofs.Bools.{and_left, and_right}
use Rattle.runs.specs.Rule.{Rule}
use Rattle.runs.specs.Plain.{Standing, Group, at, opener, candidate, matched, change, taken_by}
use Rattle.groups.specs.Matches.{Matches, start, then}
use Rattle.groups.specs.Theorems.{BothAsAtFirst}
use Rattle.groups.proofs.Laws.{kept}
use Rattle.groups.proofs.Accounts.{matches_account}

-- what stands at the closer or behind it keeps open
open_behind : (rs : List Standing) (o c q : ℕ) → c ≤ q → (at (matched rs o c) q).opens ≡ (at rs q).opens
unfolding choose and
open_behind rs o c q h = kept (λ (r : Standing). r.opens) rs o c q (λ r. go r (ltb o q) (ltb q c) refl refl)
  where
    go : (r : Standing) (x y : Bool) → ltb o q ≡ x → ltb q c ≡ y → (change o c (taken_by rs o c) q r).opens ≡ r.opens
    go r x true d e = absurd (omega (arith, ltb-true q c e))
    go r true false d e = rw (d, e)
    go r false false d e = rw d

opens_as_at_first : {rule : Rule} {rs₀ : List Standing} {gs : List Group} {rs : List Standing} {last : ℕ} → Matches rule rs₀ gs rs last → (c : ℕ) → last ≤ c →
    (at rs c).opens ≡ (at rs₀ c).opens
opens_as_at_first start c h = refl
opens_as_at_first (then {rs = rs} o d m f) c h = open_behind rs o d c h ∙ opens_as_at_first m c (omega (arith, f.onward))

pub at_first : BothAsAtFirst
unfolding candidate opener
at_first rule rs₀ gs rs last m o c h k =
    let a = matches_account m in
    let now : (at rs o).opens ≡ true = and_right _ _ (and_left _ _ k) in
    (rw (now, a.opens o now, a.closes o), rw (opens_as_at_first m c h, a.closes c))
