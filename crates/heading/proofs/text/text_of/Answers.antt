-- `heading::text::text_of` meets its contract: each step of the search is what the function for it promises, and a text of no events is none.
use Rattle.std.proofs.Common.{refl, sym, ap, ◌∙◌, arith}
use Rattle.record.proofs.ListedEvents.{length_of}
use Rattle.heading.specs.Headings.{before_first, to_last, without_closing, is_data_or_run}
use Rattle.heading.proofs.Texts.{ends}
use Rattle.heading.proofs.text.text_of.Goals as goal

pub returns-then-text-eq0 : goal.returns-then-text-eq0
returns-then-text-eq0 c =
    let e =
    ends _ _ _ _ _ _ (length_of c.args.inner) c.through_opening-opened.ensures.0 (c.before_first.ensures.first ∙ ap (λ es. before_first is_data_or_run es) c.skip.ensures.listed)
    (omega (arith, c.through_opening-opened.ensures, c.before_first.ensures.within, c.skip.ensures.counted))
    (c.text_events-text.ensures ∙ ap (λ es. to_last (without_closing (to_last es))) c.skip-2.ensures.listed)
    (sym (length_of c.text_events-text.result)) in
    record {
      first = refl;
      last = omega (arith, e.first, e.last, c.if-text-eq0.true);
      front = omega arith;
      whole = omega (arith, e.first, e.front, e.whole);
    }

pub returns : goal.returns
returns c = (
  ends _ _ _ _ _ _ (length_of c.args.inner) c.through_opening-opened.ensures.0 (c.before_first.ensures.first ∙ ap (λ es. before_first is_data_or_run es) c.skip.ensures.listed)
      (omega (arith, c.through_opening-opened.ensures, c.before_first.ensures.within, c.skip.ensures.counted))
      (c.text_events-text.ensures ∙ ap (λ es. to_last (without_closing (to_last es))) c.skip-2.ensures.listed)
      (sym (length_of c.text_events-text.result)),
  omega (arith, c.if-text-eq0.false),
)
