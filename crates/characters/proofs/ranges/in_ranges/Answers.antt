-- `characters::ranges::in_ranges` meets its contract: as many ranges begin at the character or before as the search says, and the last of them is looked at.
use borrow.Author.Rules.{rules}
use Rattle.characters.proofs.Packed.{begun_by, none_begun, last_begun}
use Rattle.characters.proofs.ranges.in_ranges.Goals as goal

pub returns-then-begun-eq0 : goal.returns-then-begun-eq0
returns-then-begun-eq0 c =
    let call = c.partition_point-begun in
    none_begun (begun_by c.args.ranges.now c.args.c call.result c.requires call.ensures.bound call.ensures.partitioned (λ a r f' q. search rules)) c.if-begun-eq0.true

pub returns : goal.returns
returns c =
    let call = c.partition_point-begun in
    last_begun (begun_by c.args.ranges.now c.args.c call.result c.requires call.ensures.bound call.ensures.partitioned (λ a r f' q. search rules)) c.if-begun-eq0.false
