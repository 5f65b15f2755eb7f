-- `script::spell_by` spells into its own buffer throughout, and ends. The measure is what is left of the line.
use Rattle.std.proofs.Common.{◌≡◌, length}
use Rattle.script.proofs.spell_by.Given as goal

abbrev pub invariant-loop-sign : goal.invariant-loop-sign
invariant-loop-sign l = l.spelled.out.ghost_name ≡ l.initial.spelled.out.ghost_name

abbrev pub decreases-loop-sign : goal.decreases-loop-sign
decreases-loop-sign l = length l.rest
