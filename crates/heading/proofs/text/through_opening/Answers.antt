-- `heading::text::through_opening` meets its contract: the shape says how a heading begins.
use Rattle.std.proofs.Common.{sym, ◌∙◌, arith}
use Rattle.record.proofs.ListedEvents.{length_of}
use Rattle.heading.proofs.Texts.{opening_fits, opening_indented, opening_bare}
use Rattle.heading.proofs.text.through_opening.Goals as goal

pub returns-then-starts_with : goal.returns-then-starts_with
returns-then-starts_with c =
    let k = opening_indented _ (sym c.starts_with.ensures ∙ c.if-starts_with.true) in
    (k, omega (arith, opening_fits _ c.requires, length_of c.args.inner))

pub returns-else-starts_with : goal.returns-else-starts_with
returns-else-starts_with c =
    let k = opening_bare _ (sym c.starts_with.ensures ∙ c.if-starts_with.false) in
    (k, omega (arith, opening_fits _ c.requires, length_of c.args.inner))
