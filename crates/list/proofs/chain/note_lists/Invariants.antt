-- `list::chain::note_lists` meets its contract. The invariant: the notes so far and those from here on are the notes of the whole, no item so
-- far offends, and the marks are those of the open items.
use Rattle.record.specs.EventsOf.{events_of}
use Rattle.list.proofs.Notings.{Noting}
use Rattle.list.proofs.chain.note_lists.Given as goal

abbrev pub invariant-loop-i : goal.invariant-loop-i
invariant-loop-i l = Noting l.document (events_of l.events) l.work l.held.marks l.held.open l.found l.joined l.behind l.count l.i
