-- What stands for an event, case by case: an event of another name stays, an exit of a run goes, an enter of a run gives what stands for the run.
-- Assumes nothing.
use Prim.Native.Nat.{ℕ, ◌+◌}
use mathlib.Core.Path.{◌≡◌}
use mathlib.Core.Bool.{true, false}
use mathlib.Core.List.{List, [], ◌∷◌}
use borrow.Author.Tests.{eq-eqb, ne_eqb}
use Rattle.record.specs.Choice.{choose, and}
use Rattle.record.specs.Event.{event}
use Rattle.record.proofs.Bools.{and_false}
use Rattle.runs.specs.Runs.{Run, enters_run}
use Rattle.runs.specs.Plain.{Group}
use Rattle.runs.specs.Output.{run_events}
use Rattle.partners.specs.Section.{Ready, Puts}
use Rattle.partners.specs.declared.Section.{Section}
use Rattle.writing.specs.Kept.{instead_of, next_run}
use Rattle.partners.proofs.Sections.{puts_none}

module _ (kind name place : ℕ) where
  other_enters : (name ≡ 1 → ⊥) → enters_run (event kind name place) ≡ false
  unfolding enters_run
  other_enters x = and_false _ _ (ne_eqb _ _ x)

  exit_enters : (kind ≡ 0 → ⊥) → enters_run (event kind name place) ≡ false
  unfolding enters_run and
  exit_enters x = rw (ne_eqb _ _ x)

  pub run_enters : name ≡ 1 → kind ≡ 0 → enters_run (event kind name place) ≡ true
  unfolding enters_run and
  run_enters x y = rw (eq-eqb _ _ y, eq-eqb _ _ x)

module _ (kind name place : ℕ) (gs : List Group) (q : ℕ) (r : Run) where
  -- an event of another name
  other_is : (name ≡ 1 → ⊥) → instead_of (event kind name place) gs q r ≡ event kind name place ∷ []
  unfolding instead_of choose
  other_is x = rw (other_enters kind name place x, ne_eqb _ _ x)

  pub other_fits : {out : Section} → (name ≡ 1 → ⊥) → Ready out (instead_of (event kind name place) gs q r) → Ready out (event kind name place ∷ [])
  other_fits x h = rw (other_is x) at h

  pub other_put : {out out' : Section} → (name ≡ 1 → ⊥) → Puts out (event kind name place ∷ []) out' →
      Puts out (instead_of (event kind name place) gs q r) out' × (q ≡ next_run (event kind name place) q)
  unfolding next_run choose
  other_put x v = (rw (other_is x) v, rw (other_enters kind name place x))

  -- an exit of a run
  pub exit_put : (out : Section) → name ≡ 1 → (kind ≡ 0 → ⊥) → Puts out (instead_of (event kind name place) gs q r) out × (q ≡ next_run (event kind name place) q)
  unfolding instead_of next_run choose
  exit_put out x y = (rw (exit_enters kind name place y, eq-eqb _ _ x) (puts_none out), rw (exit_enters kind name place y))

  -- an enter of a run
  enter_is : name ≡ 1 → kind ≡ 0 → instead_of (event kind name place) gs q r ≡ run_events gs q r
  unfolding instead_of choose
  enter_is x y = rw (run_enters kind name place x y)

  pub enter_fits : {out : Section} → name ≡ 1 → kind ≡ 0 → Ready out (instead_of (event kind name place) gs q r) → Ready out (run_events gs q r)
  enter_fits x y h = rw (enter_is x y) at h

  pub enter_put : {out out' : Section} → name ≡ 1 → kind ≡ 0 → Puts out (run_events gs q r) out' →
      Puts out (instead_of (event kind name place) gs q r) out' × (q + 1 ≡ next_run (event kind name place) q)
  unfolding next_run choose
  enter_put x y v = (rw (enter_is x y) v, rw (run_enters kind name place x y))
