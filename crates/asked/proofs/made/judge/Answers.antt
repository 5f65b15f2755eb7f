-- `asked::made::judge` is safe: what the check finds good is sound, as `put_good` asks.
use mathlib.Core.Path.{sym, ◌∙◌}
use borrow.Author.Rules.{rules}
use Rattle.asked.proofs.Lent.{judged}
use Rattle.asked.proofs.made.judge.Goals as goal

pub put_good-n-requires : goal.put_good-n-requires
put_good-n-requires c = let p = c.requires in let h = judged _ _ _ _ p.0 (sym (sym c.in_ok-document.was ∙ c.check.ensures)) in search rules
