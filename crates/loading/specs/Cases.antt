-- The definitions computed on a few cases: chains apart, the first and the last of them, and what a run's bytes have to be.
-- Assumes nothing.
use Rattle.std.specs.Prelude.{ℕ, ◌≡◌, refl, true, false, [], ◌∷◌}
use Rattle.std.proofs.Math.Option.{Option, none, some}
use Rattle.record.specs.Choice.{choose, and}
use Rattle.record.specs.Options.{option_on}
use Rattle.runs.specs.Runs.{is_marker, all_are, byte_at, allowed, run_between}
use Rattle.runs.specs.Plain.{Standing}
use Rattle.runs.specs.Chains.{marker_number, chain_number}

abbrev run : ℕ → Option ℕ → Standing
run marker container = record { marker = marker; container = container; whole = 1; left = 1; opens = true; closes = true }

-- `*` in no container has the first chain, and `~` in the last event of 2,048 the last one
first_chain : chain_number (run 42 none) ≡ 0
unfolding chain_number marker_number choose
first_chain = refl

last_chain : chain_number (run 126 (some 2047)) ≡ 6146
unfolding chain_number marker_number choose
last_chain = refl

-- event 0 as a container is not none
not_outside : chain_number (run 95 (some 0)) ≡ 4
unfolding chain_number marker_number choose
not_outside = refl

-- `**` whole is a run of `**a`; its first byte alone is not, since the byte after is the marker; nor is `*a`; nor is `~` without option 2
whole_run : run_between (42 ∷ 42 ∷ 97 ∷ []) 1 0 2 ≡ true
unfolding run_between is_marker all_are byte_at allowed option_on choose and
whole_run = refl

part_of_run : run_between (42 ∷ 42 ∷ 97 ∷ []) 1 0 1 ≡ false
unfolding run_between is_marker all_are byte_at allowed option_on choose and
part_of_run = refl

past_run : run_between (42 ∷ 42 ∷ 97 ∷ []) 1 1 3 ≡ false
unfolding run_between is_marker all_are byte_at allowed option_on choose and
past_run = refl

option_off : run_between (126 ∷ []) 1 0 1 ≡ false
unfolding run_between is_marker all_are byte_at allowed option_on choose and
option_off = refl
