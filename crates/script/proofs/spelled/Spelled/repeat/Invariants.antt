-- `script::spelled::Spelled::repeat` goes over its own buffer throughout.
use Rattle.std.proofs.Common.{◌≡◌}
use Rattle.script.proofs.spelled.Spelled.repeat.Given as goal

abbrev pub invariant-loop-at : goal.invariant-loop-at
invariant-loop-at l = (l.self.out.ghost_name ≡ l.initial.self.out.ghost_name) × (l.self.len ≡ l.initial.self.len)
