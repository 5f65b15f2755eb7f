-- `scan::line::here_or` meets its contract: the test is the definition's.
use borrow.Author.Tests.{eq-eqb, ne_eqb}
use Rattle.record.specs.Choice.{choose}
use Rattle.scan.proofs.line.here_or.Goals as goal

pub returns-then-byte-what : goal.returns-then-byte-what
unfolding choose
returns-then-byte-what c = rw (eq-eqb _ _ c.if-byte-what.true)

pub returns : goal.returns
unfolding choose
returns c = rw (ne_eqb _ _ c.if-byte-what.false)
