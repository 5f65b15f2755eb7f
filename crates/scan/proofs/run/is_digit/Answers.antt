use mathlib.Core.Path.{◌∙◌}
use mathlib.Core.Bool.{Bool, true, false, ◌&&◌}
use Rattle.std.proofs.Common.{◌≡◌, refl}
use Rattle.record.specs.Choice.{and}
use Rattle.scan.specs.Run.{digit}
use Rattle.scan.proofs.run.is_digit.Goals as goal

both : (a b : Bool) → (a && b) ≡ and a b
unfolding and
both true b = refl
both false b = refl

pub returns : goal.returns
unfolding digit
returns c = c.is_ascii_digit.ensures.value ∙ both _ _
