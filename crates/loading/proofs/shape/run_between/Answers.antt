-- `loading::shape::run_between` meets its contract: the tests are the rule's, in its order.
use Rattle.std.proofs.Common.{◌≡◌, ◌-◌, not, get_or, arith, rules}
use Rattle.record.specs.Choice.{and, choose}
use Rattle.runs.specs.Runs.{is_marker, all_are, is_byte, byte_at, run_between}
use Rattle.loading.proofs.Markers.{marked_all}
use Rattle.loading.proofs.shape.run_between.Goals as goal
use Rattle.loading.proofs.shape.run_between.Goals.{then-is_marker, else-is_marker, then-all_are, else-all_are}

pub returns-then-ne : goal.returns-then-ne
unfolding and byte_at choose run_between
returns-then-ne c =
    let doc = c.args.document.now in
    let m = get_or doc c.args.from 0 in
    let x : c.if-is_marker.value ≡ and (is_marker m) (all_are (c.args.to - c.args.from) m doc c.args.from) = elim c.if-is_marker.branch [
      | then-is_marker w ↦ marked_all doc _ _ m (omega arith) c.requires c.is_marker.ensures w.if-is_marker.true w.value-is w.all_are.ensures
      | else-is_marker w ↦ search rules
    ] in
    let y : c.if-all_are.value ≡ and c.if-is_marker.value (not (is_byte m (byte_at doc c.args.to))) = elim c.if-all_are.branch [
      | then-all_are w ↦ search rules
      | else-all_are w ↦ search rules
    ] in
    search rules

pub returns-else-ne : goal.returns-else-ne
unfolding and byte_at choose run_between
returns-else-ne c =
    let doc = c.args.document.now in
    let m = get_or doc c.args.from 0 in
    let x : c.if-is_marker.value ≡ and (is_marker m) (all_are (c.args.to - c.args.from) m doc c.args.from) = elim c.if-is_marker.branch [
      | then-is_marker w ↦ marked_all doc _ _ m (omega arith) c.requires c.is_marker.ensures w.if-is_marker.true w.value-is w.all_are.ensures
      | else-is_marker w ↦ search rules
    ] in
    let y : c.if-all_are.value ≡ and c.if-is_marker.value (not (is_byte m (byte_at doc c.args.to))) = elim c.if-all_are.branch [
      | then-all_are w ↦ search rules
      | else-all_are w ↦ search rules
    ] in
    search rules
