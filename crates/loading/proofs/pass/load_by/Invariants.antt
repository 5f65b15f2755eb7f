-- `loading::pass::load_by` meets its contract. The invariant: what is left finds the offender and the runs that the whole has, the slots hold the
-- runs found so far, and the stack has the numbers of the enters that are open; the measure is the number of events left.
use Prim.Native.Nat.{◌-◌}
use Rattle.runs.specs.Rule.{crate}
use Rattle.loading.proofs.Walk.{Walking}
use Rattle.loading.proofs.pass.load_by.Given as goal

abbrev pub invariant-loop-i : goal.invariant-loop-i
invariant-loop-i l = Walking crate l.form l.s l.d l.e l.options l.initial.w l.w l.numbers l.depth l.i l.n

abbrev pub decreases-loop-i : goal.decreases-loop-i
decreases-loop-i l = l.e - l.i
