use mathlib.Core.Path.{sym, ◌∙◌}
use Rattle.lines.proofs.Marks.{mark_start, mark_turn, blank_turn, other_byte, marks_counted}
use borrow.Author.Rules.{rules}
use Rattle.lines.proofs.item.marks_only.Goals as goal
use Rattle.lines.proofs.item.marks_only.Goals.{then-byte-mark, else-byte-mark+else-not-is_blank}

pub loop-byte-init : goal.loop-byte-init
loop-byte-init c = mark_start _ _

pub returns-then-not-is_blank : goal.returns-then-not-is_blank
returns-then-not-is_blank c = other_byte c.loop-byte.invariant (search rules) c.if-byte-mark.false (sym c.is_blank.ensures ∙ c.if-not-is_blank.true)

pub loop-byte-preserved : goal.loop-byte-preserved
loop-byte-preserved c =
    elim c.if-byte-mark.branch [
      | then-byte-mark w ↦ rw w.marks-is (mark_turn c.loop-byte.invariant (search rules) w.if-byte-mark.true)
      | else-byte-mark+else-not-is_blank w ↦ rw w.marks-is (blank_turn c.loop-byte.invariant (search rules) w.if-byte-mark.false (sym w.is_blank.ensures ∙ w.if-not-is_blank.false))
    ]

pub returns : goal.returns
returns c = marks_counted c.loop-byte.invariant (search rules)
