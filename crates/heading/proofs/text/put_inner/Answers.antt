-- `heading::text::put_inner` meets its contract: a copy where there is no text, else three parts, one after the other.
use Rattle.std.proofs.Common.{refl}
use Rattle.heading.proofs.Texts.{unchanged_fits, unchanged, front_fits, round_fits, back_fits, written}
use Rattle.heading.proofs.text.put_inner.Goals as goal

pub copy-requires : goal.copy-requires
copy-requires c = unchanged_fits _ c.in_default.ensures.last c.requires.1

pub returns-in_default : goal.returns-in_default
returns-in_default c = unchanged _ c.in_default.ensures.last c.copy.ensures

pub copy-requires-2 : goal.copy-requires-2
copy-requires-2 c =
    front_fits _ _ _ _ c.in-Some.ensures.0 c.in-Some.ensures.1 c.event-first.ensures c.event-last.ensures _ _ c.take.ensures.listed refl c.requires.1

pub put_round-requires : goal.put_round-requires
put_round-requires c =
    round_fits _ _ _ _ c.in-Some.ensures.0 c.in-Some.ensures.1 c.event-first.ensures c.event-last.ensures _ _ c.take.ensures.listed refl c.requires.1 c.copy-2.ensures

pub copy-requires-3 : goal.copy-requires-3
copy-requires-3 c =
    back_fits _ _ _ _ c.in-Some.ensures.0 c.in-Some.ensures.1 c.event-first.ensures c.event-last.ensures _ _ c.take.ensures.listed c.skip.ensures.listed c.requires.1
    c.copy-2.ensures c.put_round.ensures

pub returns : goal.returns
returns c =
    written _ _ _ _ c.in-Some.ensures.0 c.in-Some.ensures.1 c.event-first.ensures c.event-last.ensures _ _ c.take.ensures.listed c.skip.ensures.listed
    c.copy-2.ensures c.put_round.ensures c.copy-3.ensures
