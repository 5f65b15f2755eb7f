-- `atx::opens` meets its contract: each return is a case of the definition.
use borrow.Author.Tests.{le-leb}
use Rattle.std.proofs.Common.{◌∙◌}
use Rattle.atx.proofs.Headings.{no_hashes, too_many_hashes, line_ends, line_goes_on}
use borrow.Author.Rules.{rules}
use Rattle.atx.proofs.opens.Goals as goal

pub returns-then-n-lt1 : goal.returns-then-n-lt1
returns-then-n-lt1 c = no_hashes _ _ c.hashes-n.ensures (search rules)

pub returns-then-n-gt6 : goal.returns-then-n-gt6
returns-then-n-gt6 c = too_many_hashes _ _ c.hashes-n.ensures (search rules) (search rules)

pub returns-then-n-rest : goal.returns-then-n-rest
returns-then-n-rest c = le-leb _ _ c.if-n-rest.true ∙ line_ends _ _ c.hashes-n.ensures (search rules) (search rules) (search rules)

pub returns-else-n-rest : goal.returns-else-n-rest
returns-else-n-rest c = line_goes_on _ _ c.hashes-n.ensures (search rules) (search rules) (search rules) _ c.is_blank.ensures
