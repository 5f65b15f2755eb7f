-- `attention::result::write_result` meets its contract: each return is a case of the definition.
use mathlib.Core.Path.{refl}
use native.Mathlib.Omega.{arith}
use Rattle.attention.proofs.Sizes.{emptied_within}
use Rattle.attention.proofs.Endings.{writer_kept, writer_slots, writer_count, writer_balance, ended_long, ended_short, ended_written}
use borrow.Author.Rules.{rules}
use Rattle.attention.proofs.result.write_result.Goals as goal

pub overflow_sub-size : goal.overflow_sub-size
overflow_sub-size c =
    let m = c.requires in
    let k = emptied_within m in
    omega (arith, c.count_emptied.ensures.0)

pub returns-then-size-gt-MAX_RESULT : goal.returns-then-size-gt-MAX_RESULT
returns-then-size-gt-MAX_RESULT c = ended_long c.requires _ _ c.count_emptied.ensures.0 refl _ c.if-size-gt-MAX_RESULT.true c.refused.ensures

pub returns-then-out-form : goal.returns-then-out-form
returns-then-out-form c = ended_short c.requires _ _ c.count_emptied.ensures.0 refl _ c.if-size-gt-MAX_RESULT.false c.if-out-form.true c.refused-then-out-form.ensures

pub invariant_of-kept : goal.invariant_of-kept
invariant_of-kept c = record { kept = writer_kept c.requires }

pub write_events-requires : goal.write_events-requires
write_events-requires c =
    let m = c.requires in
    let h = c.if-size-gt-MAX_RESULT.false in
    let n = c.count_emptied.ensures.0 in
    (writer_slots m, m.good.known.wide, search rules, writer_count m _ _ n refl, h, writer_balance m _ _ n refl h, search rules)

pub returns : goal.returns
returns c =
    ended_written c.requires _ _ c.count_emptied.ensures.0 refl _ _ _ c.if-size-gt-MAX_RESULT.false c.if-out-form.false c.put_u32.ensures c.write_events.ensures
