use mathlib.Core.Path.{◌∙◌}
use Rattle.scan.proofs.Checks.{look_none, look_more, return_seen, none_seen}
use borrow.Author.Rules.{rules}
use Rattle.scan.proofs.line.check_short.Goals as goal

pub loop-n-init : goal.loop-n-init
loop-n-init c = look_none _

pub loop-n-preserved : goal.loop-n-preserved
loop-n-preserved c =
    look_more
    c.loop-n.invariant
    _
    (search rules)
    c.here_or-feed.ensures
    c.here_or-back.ensures

pub returns-then-back-s : goal.returns-then-back-s
returns-then-back-s c = c.refused.ensures ∙ return_seen c.loop-n.invariant (search rules) (search rules) (search rules)

pub returns : goal.returns
returns c = none_seen c.loop-n.invariant (search rules) (search rules) (search rules)
