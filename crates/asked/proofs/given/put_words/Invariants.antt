-- `asked::given::put_words`: with each turn there is an event more, of which there are 2,049 at most.
use Rattle.std.proofs.Common.{◌-◌}
use Rattle.asked.proofs.given.put_words.Given as goal

abbrev pub decreases-loop-start : goal.decreases-loop-start
decreases-loop-start l = 2049 - l.events
