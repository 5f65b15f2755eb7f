-- `scan::line::line_end` meets its contract: the first line feed ends the run of bytes that are none.
use Rattle.scan.proofs.Checks.{feed_passed}
use Rattle.scan.proofs.line.line_end.Goals as goal

pub returns : goal.returns
returns c = feed_passed c.find.ensures
