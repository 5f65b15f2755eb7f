-- `KeptGroups::put_run` meets its contract: the closing pieces, what is left, the opening pieces.
use borrow.Author.Rules.{rules}
use Rattle.writing.proofs.RunParts.{closing_fits, leftover_fits, openings_fit, run_put}
use Rattle.writing.proofs.KeptGroups.put_run.Goals as goal

pub put_closings-place-requires : goal.put_closings-place-requires
put_closings-place-requires c = (search rules, search rules, search (rules, closing_fits))

pub put_leftover-requires : goal.put_leftover-requires
put_leftover-requires c = search (rules, leftover_fits)

pub put_openings-requires : goal.put_openings-requires
put_openings-requires c =
    let p = c.put_closings-place.ensures in
    let r = c.requires in (
      r.0,
      search rules,
      openings_fit c.args.self.now.kept r.0 _ _ _ _ c.marker-sort.ensures p.1.0 c.get.ensures.0 p.0 c.put_leftover.ensures r.2,
    )

pub returns : goal.returns
returns c =
    let p = c.put_closings-place.ensures in
    run_put c.args.self.now.kept c.requires.0 _ _ _ _ c.marker-sort.ensures p.1.0 c.get.ensures.0 p.0 c.put_leftover.ensures c.put_openings.ensures
