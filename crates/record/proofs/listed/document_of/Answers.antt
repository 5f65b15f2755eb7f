use Rattle.std.proofs.Common.{◌≡◌, ◌+◌, ◌-◌, arith}
use Rattle.record.specs.Event.{document_in}
use Rattle.record.proofs.listed.document_of.Goals as goal

pub returns : goal.returns
unfolding document_in
returns c =
    let n : 4 + c.args.form.front + c.args.d - (4 + c.args.form.front) ≡ c.args.d = omega arith in
    rw n
