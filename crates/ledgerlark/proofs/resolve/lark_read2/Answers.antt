-- `ledgerlark::resolve::lark_read2` meets its contract: the promise of the call below, in numbers, beside the record's options.
use Rattle.ledgerlark.specs.Answers.{lark_reading2}
use Rattle.ledgerlark.proofs.Passed.{read_on, with_options}
use Rattle.ledgerlark.proofs.resolve.lark_read2.Goals as goal

pub returns : goal.returns
returns c =
    read_on _ _ (lark_reading2 _) _ _ _ _ c.read.ensures
    (with_options _ _ c.read.result _ c.options_of-options.ensures c.of.ensures)
