-- The number that two bytes make: each byte is below 256, so that the sum fits.
use native.Mathlib.Omega.{arith}
use mathlib.Core.Path.{refl}
use Prim.Native.Nat.{◌+◌}
use Rattle.slots.specs.Words.{get16}
use Rattle.slots.proofs.words.get16.Goals as goal

pub overflow_cast-result : goal.overflow_cast-result
overflow_cast-result c = omega (arith, c.shared_slice_known-1.given c.args.at)

pub overflow_cast-result-2 : goal.overflow_cast-result-2
overflow_cast-result-2 c = omega (arith, c.shared_slice_known-2-1.given (c.args.at + 1))

pub overflow_mul-result : goal.overflow_mul-result
overflow_mul-result c = omega (arith, c.shared_slice_known-2-1.given (c.args.at + 1))

pub overflow_add-result-2 : goal.overflow_add-result-2
overflow_add-result-2 c = omega (arith, c.shared_slice_known-2-1.given (c.args.at + 1), c.shared_slice_known-2-1.given c.args.at)

pub returns : goal.returns
unfolding get16
returns c = (refl, omega (arith, c.shared_slice_known-2-1.given (c.args.at + 1), c.shared_slice_known-2-1.given c.args.at))
