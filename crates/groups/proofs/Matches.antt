-- The groups of the plain rule come about by matches, over any rule: by induction on the matches that `rounds` may still make.
-- Assumes nothing.
use Prim.Native.Nat.{ℕ, zero, suc, ◌+◌, ◌≤◌, ◌<◌}
use mathlib.Core.Path.{◌≡◌, refl}
use mathlib.Core.List.{List, [], ◌∷◌, ◌++◌, map}
use native.Mathlib.Omega.{arith}
use lib.ListN.{length, get_or}
use Rattle.record.specs.declared.event.Event.{Event}
use Rattle.runs.specs.declared.Next.{Next}
use Rattle.runs.specs.declared.Next.TheVariants.{Match, Done}
use Rattle.runs.specs.Runs.{Run}
use Rattle.runs.specs.Rule.{Rule, Profile}
use Rattle.runs.specs.Plain.{Standing, Group, at, next, taken_by, matched, group, rounds, total, plain}
use Rattle.runs.specs.Pieces.{standing, outcome}
use Rattle.runs.specs.Output.{no_run}
use Rattle.groups.specs.Matches.{Matches, start, then, Matched, begin}
use Rattle.groups.proofs.Search.{next_found}
use Rattle.groups.proofs.Laws.{length_matched}

pub within : {rule : Rule} {rs₀ : List Standing} {gs : List Group} {rs : List Standing} {c : ℕ} → Matches rule rs₀ gs rs c → c ≤ length rs
within start = omega arith
within (then {gs} {rs} {from} o c m f) = omega (arith, f.within, length_matched rs o c)

rounds_matched : (k : ℕ) (rule : Rule) (rs₀ rs : List Standing) (c : ℕ) (gs : List Group) (t : ℕ) → Matches rule rs₀ gs rs c →
    Matched rule rs₀ (rounds k rule rs c gs t)
unfolding rounds
rounds_matched zero rule rs₀ rs c gs t m = record { last = c; matches = m }
rounds_matched (suc k) rule rs₀ rs c gs t m =
    go (λ o d u. rounds_matched k rule rs₀ (matched rs o d) d (gs ++ (group o d (taken_by rs o d) ∷ [])) (t + u)) (next rule rs c) refl
  where
    go : ((o d u : ℕ) → Matches rule rs₀ (gs ++ (group o d (taken_by rs o d) ∷ [])) (matched rs o d) d →
        Matched rule rs₀ (rounds k rule (matched rs o d) d (gs ++ (group o d (taken_by rs o d) ∷ [])) (t + u))) →
        (n : Next) → next rule rs c ≡ n → Matched rule rs₀ (rounds (suc k) rule rs c gs t)
    go on (Match o d u) e = rw e (on o d u (then o d m (next_found rule rs c o d u (within m) e)))
    go on (Done u) e = rw e (record { last = c; matches = m })

-- the groups of the plain rule come about by matches
pub plain_matched : (rule : Rule) (rs : List Standing) → Matched rule rs (plain rule rs)
unfolding plain
plain_matched rule rs = rounds_matched (total rs + 1) rule rs rs 0 [] 0 start

-- and so do those of a record
pub outcome_matched : (profile : Profile) (options : ℕ) (doc : List ℕ) (es : List Event) →
    Matched (profile.rule options) (begin profile options doc es) (outcome profile options doc es)
unfolding outcome
outcome_matched profile options doc es = plain_matched (profile.rule options) (begin profile options doc es)

-- a run before the first match
pub at_begin : (profile : Profile) (options : ℕ) (rs : List Run) (q : ℕ) → q < length rs →
    at (map (standing profile options) rs) q ≡ standing profile options (get_or rs q no_run)
at_begin profile options [] q h = absurd (omega arith)
at_begin profile options (r ∷ rs) zero h = refl
at_begin profile options (r ∷ rs) (suc q) h = at_begin profile options rs q (omega arith)
