use Rattle.std.proofs.Common.{refl, ◌∙◌, arith}
use borrow.Author.Rules.{rules}
use Rattle.record.proofs.ListedEvents.{length_of}
use Rattle.record.proofs.Splice.{wrote_length}
use Rattle.partners.proofs.Pens.{start}
use Rattle.list.proofs.Written.{before_all, next_fits, turn, all_written}
use Rattle.list.proofs.write.write_lists.Goals as goal

pub loop-i-init : goal.loop-i-init
loop-i-init c =
    let l = wrote_length c.put_u32.ensures in
    let b = c.begin-section.ensures in
    (refl, before_all _ _ _ _ _ b.out (start _ _ _ _ b.pen c.requires.2 c.requires.3 c.requires.5 c.requires.0 (omega (arith, l, c.requires.4))))

pub put_noted-requires : goal.put_noted-requires
put_noted-requires c = next_fits c.loop-i.invariant.1 (omega (arith, length_of c.args.events)) (omega (arith, length_of c.args.events, c.requires.1)) _ c.event.ensures

pub loop-i-preserved : goal.loop-i-preserved
loop-i-preserved c = (
  c.put_noted.ensures.same_reference ∙ c.loop-i.invariant.0,
  turn c.loop-i.invariant.1 (omega (arith, length_of c.args.events)) (omega (arith, length_of c.args.events, c.requires.1)) _ c.event.ensures c.put_noted.ensures,
)

-- the last line: what the section's output holds at the end is what the lent output then holds
pub returns : goal.returns
returns c =
    let f =
    all_written c.args.form _ c.loop-i.invariant.1 c.begin-section.ensures.out (omega (arith, length_of c.args.events)) c.requires.0 _ c.requires.2 c.requires.4 c.put_u32.ensures
    in
    search rules
