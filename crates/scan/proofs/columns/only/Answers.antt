-- `scan::columns::only` meets its contract: either of a byte and itself is that byte.
use Rattle.scan.proofs.InColumns.{one_only}
use Rattle.scan.proofs.columns.only.Goals as goal

pub returns : goal.returns
returns c = λ b. one_only _ b
