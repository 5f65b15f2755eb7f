-- What one group more, at the end of the list, does to the pieces of a run: its opener gets an opening piece before the others, its closer a
-- closing piece after the others, and every other run stays as it is.
-- Assumes nothing.
use Prim.Native.Nat.{ℕ, ◌+◌, ◌-◌}
use mathlib.Core.Path.{◌≡◌, refl}
use mathlib.Core.Bool.{Bool, true, false}
use mathlib.Core.List.{List, [], ◌∷◌, ◌++◌}
use native.Mathlib.Omega.{arith}
use lib.Dec.{eqb}
use borrow.Author.Tests.{eq-eqb, ne_eqb}
use Rattle.record.specs.Choice.{choose}
use Rattle.runs.specs.Runs.{Run}
use Rattle.runs.specs.Plain.{Group}
use Rattle.runs.specs.Pieces.{Piece, piece, group_name, closings, openings, closed, opened, remains}
use Rattle.runs.specs.Output.{closing_events, leftover_events, run_events}
use Rattle.groups.proofs.Laws.{closed_append, opened_append, closed_other, opened_other}

-- a piece of a group of this name, beside other pieces
pub record Joins (name : ℕ) (make : Piece → List Piece) (ps : List Piece) : Type 0 where
  pub new : Piece
  pub named : new.name ≡ name
  pub beside : ps ≡ make new

module _ (g : Group) (q marker : ℕ) where
  -- the closer's
  pub closings_own : g.closer ≡ q → (gs : List Group) (at : ℕ) →
      Joins (group_name marker g.taken) (λ p. closings gs q marker at ++ (p ∷ [])) (closings (gs ++ (g ∷ [])) q marker at)
  unfolding closings choose
  closings_own e [] at = record { new = piece marker g.taken at (at + g.taken); named = refl; beside = rw (eq-eqb _ _ e) }
  closings_own e (f ∷ gs) at = go (closings_own e gs at) (closings_own e gs (at + f.taken)) (eqb f.closer q) refl
    where
      go : Joins (group_name marker g.taken) (λ p. closings gs q marker at ++ (p ∷ [])) (closings (gs ++ (g ∷ [])) q marker at) →
          Joins (group_name marker g.taken) (λ p. closings gs q marker (at + f.taken) ++ (p ∷ [])) (closings (gs ++ (g ∷ [])) q marker (at + f.taken)) →
          (z : Bool) → eqb f.closer q ≡ z →
          Joins (group_name marker g.taken) (λ p. closings (f ∷ gs) q marker at ++ (p ∷ [])) (closings ((f ∷ gs) ++ (g ∷ [])) q marker at)
      go other own true b = record { new = own.new; named = own.named; beside = rw (b, own.beside) }
      go other own false b = record { new = other.new; named = other.named; beside = rw (b, other.beside) }

  -- the opener's
  pub openings_own : g.opener ≡ q → (gs : List Group) (at : ℕ) →
      Joins (group_name marker g.taken) (λ p. p ∷ openings gs q marker at) (openings (gs ++ (g ∷ [])) q marker at)
  unfolding openings choose
  openings_own e [] at = record { new = piece marker g.taken (at - g.taken) at; named = refl; beside = rw (eq-eqb _ _ e) }
  openings_own e (f ∷ gs) at = go (openings_own e gs at) (openings_own e gs (at - f.taken)) (eqb f.opener q) refl
    where
      go : Joins (group_name marker g.taken) (λ p. p ∷ openings gs q marker at) (openings (gs ++ (g ∷ [])) q marker at) →
          Joins (group_name marker g.taken) (λ p. p ∷ openings gs q marker (at - f.taken)) (openings (gs ++ (g ∷ [])) q marker (at - f.taken)) →
          (z : Bool) → eqb f.opener q ≡ z →
          Joins (group_name marker g.taken) (λ p. p ∷ openings (f ∷ gs) q marker at) (openings ((f ∷ gs) ++ (g ∷ [])) q marker at)
      go other own true b = record { new = own.new; named = own.named; beside = rw (b, own.beside) }
      go other own false b = record { new = other.new; named = other.named; beside = rw (b, other.beside) }

  -- no other's
  pub closings_other : (g.closer ≡ q → ⊥) → (gs : List Group) (at : ℕ) → closings (gs ++ (g ∷ [])) q marker at ≡ closings gs q marker at
  unfolding closings choose
  closings_other e [] at = rw (ne_eqb _ _ e)
  closings_other e (f ∷ gs) at = rw (closings_other e gs at, closings_other e gs (at + f.taken))

  pub openings_other : (g.opener ≡ q → ⊥) → (gs : List Group) (at : ℕ) → openings (gs ++ (g ∷ [])) q marker at ≡ openings gs q marker at
  unfolding openings choose
  openings_other e [] at = rw (ne_eqb _ _ e)
  openings_other e (f ∷ gs) at = rw (openings_other e gs at, openings_other e gs (at - f.taken))

closed_still : (g : Group) (gs : List Group) (q : ℕ) → (g.closer ≡ q → ⊥) → closed (gs ++ (g ∷ [])) q ≡ closed gs q
closed_still g gs q e = omega (arith, closed_append gs (g ∷ []) q, closed_other g q e)

opened_still : (g : Group) (gs : List Group) (q : ℕ) → (g.opener ≡ q → ⊥) → opened (gs ++ (g ∷ [])) q ≡ opened gs q
opened_still g gs q e = omega (arith, opened_append gs (g ∷ []) q, opened_other g q e)

-- what stands for another run
pub run_still : (g : Group) (gs : List Group) (q : ℕ) (r : Run) → (g.opener ≡ q → ⊥) → (g.closer ≡ q → ⊥) → run_events (gs ++ (g ∷ [])) q r ≡ run_events gs q r
unfolding run_events leftover_events remains
run_still g gs q r a b =
    rw (closings_other g q r.marker b gs r.start, openings_other g q r.marker a gs (r.start + r.size), closed_still g gs q b, opened_still g gs q a)

-- the events of two lists of pieces
pub closing_append : (ps qs : List Piece) → closing_events (ps ++ qs) ≡ closing_events ps ++ closing_events qs
unfolding closing_events
closing_append [] qs = refl
closing_append (p ∷ ps) qs = rw (closing_append ps qs)
