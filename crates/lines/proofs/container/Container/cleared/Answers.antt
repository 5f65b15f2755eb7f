-- `lines::container::Container::cleared` meets its contract: the flag alone changes.
use mathlib.Core.Path.{refl}
use Rattle.lines.proofs.container.Container.cleared.Goals as goal

pub returns : goal.returns
returns c = refl
