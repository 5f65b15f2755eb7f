-- `scan::run::byte_at` meets its contract: the byte is there, or the default is given.
use mathlib.Core.Path.{sym}
use lib.ListN.{get_or-eq_default}
use borrow.Author.Rules.{rules}
use Rattle.scan.proofs.run.byte_at.Goals as goal

pub returns : goal.returns
returns c = sym (get_or-eq_default c.args.rest.now 0 {n = c.args.n} (search rules))
