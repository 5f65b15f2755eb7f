-- `record::check::first_return` meets its contract: the place before which no byte is a carriage return, and at which one or the end stands.
use mathlib.Core.Path.{refl}
use Rattle.record.proofs.Scan.{first_passed}
use Rattle.record.proofs.check.first_return.Goals as goal

pub returns : goal.returns
returns c = first_passed _ refl c.find.ensures
