-- `KeptGroups::put_instead` meets its contract: each return is a case of the definition.
use native.Mathlib.Omega.{arith}
use Rattle.writing.proofs.Instead.{run_enters, other_fits, other_put, exit_put, enter_fits, enter_put}
use Rattle.writing.proofs.KeptGroups.put_instead.Goals as goal

pub put-requires : goal.put-requires
put-requires c = other_fits _ _ _ _ _ _ c.if-event-ne-ATTENTION_SEQUENCE.true c.requires.2

pub returns-then-event-ne-ATTENTION_SEQUENCE : goal.returns-then-event-ne-ATTENTION_SEQUENCE
returns-then-event-ne-ATTENTION_SEQUENCE c = other_put _ _ _ _ _ _ c.if-event-ne-ATTENTION_SEQUENCE.true c.put.ensures

pub returns-then-event-ne-ENTER : goal.returns-then-event-ne-ENTER
returns-then-event-ne-ENTER c = exit_put _ _ _ _ _ _ _ c.if-event-ne-ATTENTION_SEQUENCE.false c.if-event-ne-ENTER.true

pub put_run-requires : goal.put_run-requires
put_run-requires c =
    let name = c.if-event-ne-ATTENTION_SEQUENCE.false in
    let kind = c.if-event-ne-ENTER.false in
    (c.requires.0 (run_enters _ _ _ name kind), c.requires.1, enter_fits _ _ _ _ _ _ name kind c.requires.2)

pub overflow_add-result : goal.overflow_add-result
overflow_add-result c =
    let h = c.requires.0 (run_enters _ _ _ c.if-event-ne-ATTENTION_SEQUENCE.false c.if-event-ne-ENTER.false) in
    let f = c.args.self.now.kept.many in
    omega arith

pub returns : goal.returns
returns c = enter_put _ _ _ _ _ _ c.if-event-ne-ATTENTION_SEQUENCE.false c.if-event-ne-ENTER.false c.put_run.ensures
