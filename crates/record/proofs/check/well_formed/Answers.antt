-- `record::check::well_formed` meets its contract: each return is a case of the definition.
use mathlib.Core.Path.{sym}
use native.Mathlib.Omega.{arith}
use Rattle.record.proofs.Formed.{bad_kind, bad_rest, past_document, below_last, good_form}
use borrow.Author.Rules.{rules}
use Rattle.record.proofs.check.well_formed.Goals as goal

pub returns-then-s-at-gt-EXIT : goal.returns-then-s-at-gt-EXIT
returns-then-s-at-gt-EXIT c = sym (bad_kind _ _ _ (search rules))

pub returns-then-u32_at-wide : goal.returns-then-u32_at-wide
returns-then-u32_at-wide c =
    let head = c.u32_at.ensures.0 in
    let last = c.wide.ensures.0 in
    sym (bad_rest _ _ _ (search rules) (λ z n. omega (arith, head, last, c.if-u32_at-wide.true, c.if-s-at-gt-EXIT.false)))

pub returns-then-place-d : goal.returns-then-place-d
returns-then-place-d c =
    let head = c.u32_at.ensures.0 in
    let last = c.wide.ensures.0 in
    sym (past_document _ _ _ (omega (arith, head, last)) (search rules) (omega (arith, head, last)) (omega arith))

pub returns-then-place-last : goal.returns-then-place-last
returns-then-place-last c =
    let head = c.u32_at.ensures.0 in
    let last = c.wide.ensures.0 in
    sym (below_last _ _ _ (omega (arith, head, last)) (search rules) (omega (arith, head, last)) (omega arith) (omega arith))

pub returns : goal.returns
returns c =
    let head = c.u32_at.ensures.0 in
    let last = c.wide.ensures.0 in
    sym (good_form _ _ _ (omega (arith, head, last)) (search rules) (omega (arith, head, last)) (omega arith) (omega arith))
