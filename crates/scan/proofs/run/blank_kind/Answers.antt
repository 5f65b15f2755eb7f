-- `scan::run::blank_kind` meets its contract: either of 32 and 9 is a space or a tab.
use Rattle.scan.proofs.ByteKinds.{either_blank}
use Rattle.scan.proofs.run.blank_kind.Goals as goal

pub returns : goal.returns
returns c = λ b. either_blank b
