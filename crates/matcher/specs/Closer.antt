-- One closer to its end, by the plain rule. Document 01: "a closer with markers left is tried again", and the chains are "as the plain rule has
-- them on finishing that closer".
-- Assumes nothing.
use Rattle.std.specs.Prelude.{ℕ, zero, suc, ◌+◌, ◌-◌, List, [], ◌∷◌, ◌++◌, length}
use Rattle.runs.specs.Rule.{Rule}
use Rattle.runs.specs.Plain.{Standing, Group, group, forth, taken_by, matched, ends, total}

-- what one closer comes to: the groups and the candidates tried so far, the runs as they stand, and the run to go on from
pub record Finish : Type 0 where
  pub groups : List Group
  pub tried : ℕ
  pub runs : List Standing
  pub next : ℕ

-- at most k matches, from the run c up to the run `until`: once a closer is found only that closer is tried again
unfoldable pub finish : ℕ → Rule → List Standing → ℕ → ℕ → List Group → ℕ → Finish
finish zero rule rs c until gs t = record { groups = gs; tried = t; runs = rs; next = until }
finish (suc k) rule rs c until gs t =
    ends (forth rule (until - c) rs c 0)
    (λ o d u. finish k rule (matched rs o d) d (d + 1) (gs ++ (group o d (taken_by rs o d) ∷ [])) (t + u))
    (λ u. record { groups = gs; tried = t + u; runs = rs; next = until })

-- the first closer from the run c on that takes an opener, to its end; or all runs, if none does
unfoldable pub closer_from : Rule → List Standing → ℕ → List Group → ℕ → Finish
closer_from rule rs c gs t = finish (total rs + 1) rule rs c (length rs) gs t
