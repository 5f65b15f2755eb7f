-- `ledgerlark::line::lark_continuation` meets its contract: the promise of the call below, in numbers.
use Rattle.std.specs.Prelude.{Result}
use Rattle.record.specs.declared.check.Refusal.{Refusal}
use mathlib.Core.Path.{ap, ◌∙◌}
use Rattle.ledgerlark.proofs.Passed.{held_kind}
use Rattle.lines.specs.declared.going.Going.{Going}
use Rattle.ledgerlark.specs.Answers.{lark_going}
use Rattle.ledgerlark.proofs.line.lark_continuation.Goals as goal

pub returns : goal.returns
returns c =
    c.from.ensures
    ∙ ap (λ (x : Result Going Refusal). lark_going x) (c.continuation.ensures ∙ held_kind _ _ _ _ _ _ _ c.kind_of-kind.ensures)
