use Prim.Native.Nat.{◌-◌}
use mathlib.Core.Path.{◌≡◌, refl, sym, ◌∙◌}
use mathlib.Core.Bool.{true≢false}
use native.Mathlib.Omega.{arith}
use Rattle.std.specs.Prelude.{Result, Ok, Err, IsErr}
use Rattle.matcher.specs.declared.closers.Groups.{Groups}
use Rattle.matcher.specs.declared.closers.TooMany.{TooMany}
use Rattle.matcher.specs.Along.{too_many}
use Rattle.matcher.proofs.Resolving.{resolve_start, resolve_loaded, resolve_begun, resolve_full, resolve_on, resolve_again, resolve_end}
use Rattle.matcher.proofs.Ways.{end_way, full_all, again_all}
use Rattle.matcher.proofs.closers.find_groups.Goals as goal

-- there is one error
one_error : (r : Result Groups TooMany) → IsErr r → r ≡ Err too_many
one_error (Ok g) h = absurd (true≢false (sym h))
one_error (Err x) h = refl

pub loop-so_far-init : goal.loop-so_far-init
loop-so_far-init c = resolve_start

pub handle_closer-requires : goal.handle_closer-requires
handle_closer-requires c = resolve_begun (resolve_loaded c.loop-so_far.invariant c.requires) c.loop-so_far-test.true

pub returns-in_err-so_far : goal.returns-in_err-so_far
returns-in_err-so_far c =
    let v = c.loop-so_far.invariant in
    let e = c.in_err-so_far.was in
    rw (one_error c.from_residual.result c.from_residual.ensures.0) (record {
      of = λ rs r. resolve_full (v.of rs r) c.handle_closer.ensures e;
      along = sym (v.way ∙ full_all _ _ _ _ _ _ _ c.handle_closer.ensures.along c.loop-so_far-test.true _ v.enough e);
    })

pub loop-so_far-smaller : goal.loop-so_far-smaller
loop-so_far-smaller c =
    let v = c.loop-so_far.invariant in
    omega (arith, resolve_on (resolve_loaded v c.requires) c.handle_closer.ensures c.in_ok-so_far.was, c.loop-so_far-test.true)

pub loop-so_far-preserved : goal.loop-so_far-preserved
loop-so_far-preserved c =
    let v = c.loop-so_far.invariant in
    let more = c.loop-so_far-test.true in
    let e = c.in_ok-so_far.was in
    record {
      of = λ rs r. resolve_again (v.of rs r) c.handle_closer.ensures e;
      len = c.handle_closer.auto.w ∙ v.len;
      turns = v.turns - 1;
      enough = omega (arith, v.enough, more, resolve_on (resolve_loaded v c.requires) c.handle_closer.ensures e);
      way = v.way ∙ again_all _ _ _ _ _ _ _ c.handle_closer.ensures.along more _ v.enough e;
    }

pub returns : goal.returns
returns c =
    let v = c.loop-so_far.invariant in
    record { of = λ rs r. resolve_end (v.of rs r) c.loop-so_far-test.false; along = sym (v.way ∙ end_way _ _ _ _ _ _ _ _ c.loop-so_far-test.false) }
