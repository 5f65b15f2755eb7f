-- `script::spelled::Spelled::march` goes over its own buffer throughout, and two events stand before the place that it has come to.
use Rattle.std.proofs.Common.{◌≡◌, ◌≤◌}
use Rattle.script.proofs.spelled.Spelled.march.Given as goal

abbrev pub invariant-loop : goal.invariant-loop
invariant-loop l = (l.self.out.ghost_name ≡ l.initial.self.out.ghost_name) × (24 ≤ l.self.len)
