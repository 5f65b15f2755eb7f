use Rattle.std.proofs.Common.{◌∙◌, arith}
use Rattle.scan.specs.Run.{space_or_tab, blanks}
use Rattle.scan.proofs.Leading.{leading_near}
use Rattle.scan.proofs.run.blanks.Goals as goal

pub returns-then-n-lt-FEW : goal.returns-then-n-lt-FEW
unfolding blanks
returns-then-n-lt-FEW c =
    c.leading-n.ensures ∙ leading_near space_or_tab c.args.rest.now c.min-near.result (λ h. omega (arith, c.leading-n.ensures, c.min-near.ensures))
