use mathlib.Core.Path.{sym, ◌∙◌}
use Rattle.writing.proofs.ClosingTurn.{nothing_closed, start, room, turn, left, ended}
use borrow.Author.Rules.{rules}
use Rattle.writing.proofs.KeptGroups.put_closings.Goals as goal

pub returns-then-first-eq0 : goal.returns-then-first-eq0
returns-then-first-eq0 c =
    let p = c.requires in
    nothing_closed c.args.self.now.kept p.0 _ _ _ _ p.1 c.get-first.ensures.0 c.if-first-eq0.true

pub loop-i-init : goal.loop-i-init
loop-i-init c = search (rules, start)

pub put_closing-requires : goal.put_closing-requires
put_closing-requires c =
    let e = c.get.ensures.0 in
    room c.loop-i.invariant c.loop-i-test.true (sym e ∙ c.if-get-q.false) c.get-taken.ensures.0 c.requires.2

pub loop-i-preserved : goal.loop-i-preserved
loop-i-preserved c =
    let e = c.get.ensures.0 in
    let t = c.get-taken.ensures in
    turn c.loop-i.invariant c.loop-i-test.true (sym e ∙ c.if-get-q.false) t.0 t.1 c.put_closing.ensures

pub returns-after-loop-i : goal.returns-after-loop-i
returns-after-loop-i c = ended c.loop-i.invariant c.args.self.now.kept c.requires.1 c.loop-i-test.false

pub returns-then-get-q : goal.returns-then-get-q
returns-then-get-q c =
    let e = c.get.ensures.0 in
    left c.loop-i.invariant c.args.self.now.kept c.requires.1 c.loop-i-test.true (λ x. c.if-get-q.true (e ∙ x))
