use Rattle.std.proofs.Common.{sym, ◌∙◌}
use Rattle.record.proofs.ListedEvents.{length_of}
use Rattle.heading.proofs.Seeking.{last_such, last_other, last_none, through_le}
use Rattle.heading.proofs.seek.through_last.Goals as goal

pub returns-then-is-clause-last : goal.returns-then-is-clause-last
returns-then-is-clause-last g c =
    last_such g.such _ _ _ c.in-Some.ensures.listed _ (length_of _) (sym (c.requires.1.1 _ _ c.is.ensures) ∙ c.if-is.true) ∙ c.loop-last.invariant

pub returns-then-is-clause-within : goal.returns-then-is-clause-within
returns-then-is-clause-within g c = through_le g.such _ _ _ (length_of c.args.events) (returns-then-is-clause-last g c)

pub loop-last-preserved : goal.loop-last-preserved
loop-last-preserved g c = last_other g.such _ _ _ c.in-Some.ensures.listed (sym (c.requires.1.1 _ _ c.is.ensures) ∙ c.if-is.false) ∙ c.loop-last.invariant

pub returns-clause-last : goal.returns-clause-last
returns-clause-last g c = last_none g.such _ c.in_default.ensures.listed ∙ c.loop-last.invariant
