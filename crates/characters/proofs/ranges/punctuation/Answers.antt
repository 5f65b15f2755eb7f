-- `characters::ranges::punctuation` meets its contract: the code's numbers are the definition's bounds, range by range, and each block passes its test; antt
-- computes both.
use mathlib.Core.Path.{refl}
use Rattle.characters.specs.Ranges.{unpacked}
use Rattle.characters.specs.Tables.{punctuation_ranges}
use Rattle.characters.specs.Index.{enough}
use Rattle.characters.proofs.Window.{indexed}
use Rattle.characters.proofs.ranges.punctuation.Goals as goal

pub returns : goal.returns
unfolding unpacked punctuation_ranges enough
returns c = indexed _ refl refl tt
