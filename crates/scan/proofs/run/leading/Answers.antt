use Rattle.std.proofs.Common.{◌≡◌, length, sym, ◌∙◌, rules, arith}
use Rattle.scan.proofs.Leading.{turn, stopped, ended}
use Rattle.scan.proofs.run.leading.Goals as goal

pub returns-then-not-is : goal.returns-then-not-is
returns-then-not-is g c = stopped c.loop-n.invariant (search rules) (sym (c.requires.1.1 _ _ (search rules) c.is.ensures) ∙ c.if-not-is.true)

pub loop-n-preserved : goal.loop-n-preserved
loop-n-preserved g c = turn c.loop-n.invariant (search rules) (sym (c.requires.1.1 _ _ (search rules) c.is.ensures) ∙ c.if-not-is.false)

pub returns : goal.returns
returns g c =
    let all : length c.args.rest.now ≡ c.loop-n.n = omega arith in
    all ∙ ended c.loop-n.invariant (search rules)
