-- `asked::made::put_good` is safe: the events are sound, so that they can be put by a pen.
use mathlib.Core.Path.{refl}
use borrow.Author.Rules.{rules}
use Rattle.asked.proofs.Lent.{events_fit}
use Rattle.asked.proofs.made.put_good.Goals as goal

pub copy-requires : goal.copy-requires
copy-requires c =
    let q = c.requires in
    let h = c.place_of-end.ensures in
    let l = c.if-end-rec.false in
    (search rules, search rules, events_fit c.args.form _ _ c.args.d c.args.events _ q.0 q.2 refl (search rules) q.4 c.begin-pen.ensures)
