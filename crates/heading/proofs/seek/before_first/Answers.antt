use Rattle.std.proofs.Common.{sym, ◌∙◌, ap, arith}
use Rattle.record.proofs.ListedEvents.{length_of}
use Rattle.heading.proofs.Seeking.{found_here, passed_here, none_here}
use Rattle.heading.proofs.seek.before_first.Goals as goal

pub returns-then-is-clause-first : goal.returns-then-is-clause-first
returns-then-is-clause-first g c =
    found_here g.such _ _ c.loop-k.invariant (omega (arith, length_of c.args.events)) (ap g.such (sym c.event.ensures) ∙ sym (c.requires.1.1 _ _ c.is.ensures) ∙ c.if-is.true)

pub loop-k-preserved : goal.loop-k-preserved
loop-k-preserved g c =
    passed_here g.such _ _ c.loop-k.invariant (omega (arith, length_of c.args.events)) (ap g.such (sym c.event.ensures) ∙ sym (c.requires.1.1 _ _ c.is.ensures) ∙ c.if-is.false)

pub returns-clause-first : goal.returns-clause-first
returns-clause-first g c =
    let n = none_here g.such _ _ c.loop-k.invariant (omega (arith, length_of c.args.events)) in
    omega arith
