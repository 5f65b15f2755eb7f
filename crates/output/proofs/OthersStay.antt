-- The events that are no run's stay, in their order: by induction on the record, whatever the runs and groups.
-- Assumes nothing.
use Prim.Native.Nat.{ℕ, ◌+◌}
use mathlib.Core.Path.{◌≡◌, refl}
use mathlib.Core.Bool.{Bool, true, false}
use mathlib.Core.List.{List, [], ◌∷◌, ◌++◌}
use lib.Dec.{eqb}
use Rattle.record.specs.Choice.{choose}
use Rattle.record.specs.declared.event.Event.{Event}
use Rattle.record.proofs.Bools.{and_right}
use Rattle.runs.specs.Runs.{Run, enters_run, runs_of}
use Rattle.runs.specs.Plain.{Group}
use Rattle.runs.specs.Pieces.{outcome}
use Rattle.runs.specs.Output.{replaced, output}
use Rattle.output.specs.Others.{others, Among, none, same, more}
use Rattle.output.specs.Theorems.{OthersKept}
use Rattle.output.proofs.Aligned.{stands_for}

-- with more before
among_more : {es fs : List Event} (gs : List Event) → Among es fs → Among es (gs ++ fs)
among_more [] a = a
among_more (g ∷ gs) a = more (among_more gs a)

names_run : (e : Event) → enters_run e ≡ true → eqb e.name 1 ≡ true
unfolding enters_run
names_run e q = and_right _ _ q

stays : (es : List Event) (rs : List Run) (gs : List Group) (q : ℕ) → Among (others es) (replaced es rs gs q)
unfolding others replaced choose
stays [] rs gs q = none
stays (e ∷ es) rs gs q = go (stays es rs gs q) (stays es rs gs (q + 1)) (enters_run e) refl (eqb e.name 1) refl
  where
    go : Among (others es) (replaced es rs gs q) → Among (others es) (replaced es rs gs (q + 1)) → (y : Bool) → enters_run e ≡ y →
        (z : Bool) → eqb e.name 1 ≡ z → Among (others (e ∷ es)) (replaced (e ∷ es) rs gs q)
    go here on true r z n = rw (r, names_run e r) (among_more (stands_for rs gs q) on)
    go here on false r true n = rw (r, n) here
    go here on false r false n = rw (r, n) (same here)

pub others_kept : OthersKept
unfolding output
others_kept profile options doc es = stays es (runs_of doc es) (outcome profile options doc es).groups 0
