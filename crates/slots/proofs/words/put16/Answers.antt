-- `slots::words::put16` meets its contract: two bytes are written, as the definition has them.
use Rattle.std.proofs.Common.{rules}
use Rattle.slots.specs.Words.{put16}
use Rattle.slots.proofs.words.put16.Goals as goal

pub returns : goal.returns
unfolding put16
returns c = search rules
