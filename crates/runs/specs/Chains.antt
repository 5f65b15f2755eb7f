-- Document 01's "the chains, one per marker and container" as a number: the one that the load pass gives a run and the matcher goes by. With
-- 2,048 events there are 6,147 of them.
-- Assumes nothing.
use Rattle.std.specs.Prelude.{ℕ, ◌+◌, ◌*◌, ◌≡◌, true, eqb}
use Rattle.std.proofs.Math.Option.{Option, none, some}
use Rattle.record.specs.Choice.{choose, and}
use Rattle.runs.specs.Runs.{is_marker}
use Rattle.runs.specs.Plain.{Standing, same_container}

-- a container as a number: that of its enter event plus 1, or 0 for none
abbrev pub container_number : Option ℕ → ℕ
container_number none = 0
container_number (some k) = k + 1

-- 0 for `*`, 1 for `_`, 2 for `~`
unfoldable pub marker_number : ℕ → ℕ
marker_number marker = choose (eqb marker 42) 0 (choose (eqb marker 95) 1 2)

-- three chains to each container
unfoldable pub chain_number : Standing → ℕ
chain_number r = 3 * container_number r.container + marker_number r.marker

-- two runs have one number just where they have one marker and one container: proofs/OneChain.antt
abbrev pub SameChain : Type 0
SameChain =
    (a b : Standing) → is_marker a.marker ≡ true → is_marker b.marker ≡ true →
    eqb (chain_number a) (chain_number b) ≡ and (eqb a.marker b.marker) (same_container a.container b.container)
