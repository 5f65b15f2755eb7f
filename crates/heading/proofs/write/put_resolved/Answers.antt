use Rattle.std.proofs.Common.{refl, sym, ◌∙◌}
use borrow.Author.Rules.{rules}
use Rattle.record.proofs.ListedEvents.{length_of}
use Rattle.heading.proofs.Passes.{writing_start, writing_fits, writing_other, writing_shaped, writing_inner, writing_heading, writing_done}
use Rattle.heading.proofs.write.put_resolved.Goals as goal

pub loop-event-init : goal.loop-event-init
loop-event-init c =
    let b = c.begin-section.ensures in
    (refl, writing_start _ _ _ _ _ b.out b.pen c.requires.0 c.requires.1 c.requires.2 c.requires.3 c.requires.4 c.requires.5)

pub put-requires : goal.put-requires
put-requires c = writing_fits c.loop-event.invariant.1 _ _ c.in-Some.ensures.listed

pub loop-event-preserved-then-not-is_of : goal.loop-event-preserved-then-not-is_of
loop-event-preserved-then-not-is_of c = (
  c.put.ensures.same_reference ∙ c.loop-event.invariant.0,
  writing_other c.loop-event.invariant.1 _ _ c.in-Some.ensures.listed c.put.ensures (sym c.is_of.ensures ∙ c.if-not-is_of.true),
)

pub put_inner-requires : goal.put_inner-requires
put_inner-requires c =
    let q = sym c.is_of.ensures ∙ c.if-not-is_of.false in
    let l = c.in-Some.ensures.listed in (
      writing_shaped c.loop-event.invariant.1 _ _ l c.put.ensures q _ c.inner_of-inner.ensures.listed,
      writing_inner c.loop-event.invariant.1 _ _ l c.put.ensures q _ c.inner_of-inner.ensures.listed,
    )

pub loop-event-preserved : goal.loop-event-preserved
loop-event-preserved c = (
  c.put_inner.ensures.same_reference ∙ (c.put.ensures.same_reference ∙ c.loop-event.invariant.0),
  writing_heading c.loop-event.invariant.1 _ _ c.in-Some.ensures.listed c.put.ensures (sym c.is_of.ensures ∙ c.if-not-is_of.false) _ c.inner_of-inner.ensures.listed
      c.put_inner.ensures _ (sym (length_of c.inner_of-inner.result)) _ c.skip-rest.ensures.listed,
)

-- the last line: what the section's output holds at the end is what the lent output then holds
pub returns : goal.returns
returns c =
    let f = rw c.begin-section.ensures.out at (writing_done c.loop-event.invariant.1 c.in_default.ensures.listed) in
    search rules
