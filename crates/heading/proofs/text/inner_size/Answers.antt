-- `heading::text::inner_size` meets its contract: the length of what the text rule gives, with a text and without.
use Rattle.std.proofs.Common.{sym, ap, ◌∙◌, arith, length}
use Rattle.record.proofs.ListedEvents.{length_of}
use Rattle.heading.proofs.Texts.{without, length_text}
use Rattle.heading.proofs.text.inner_size.Goals as goal

pub returns-in-Some : goal.returns-in-Some
returns-in-Some c =
    let some = c.in-Some.ensures in
    (sym (length_text _ _ _ _ some.0 some.1 (length_of c.args.inner)), omega (arith, some.0.front, some.0.whole, some.1))

pub returns-in-None : goal.returns-in-None
returns-in-None c = (sym (ap length (without _ c.in-None.ensures.last) ∙ length_of c.args.inner), omega arith)
