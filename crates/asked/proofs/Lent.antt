-- What `asked::made` goes by: the events of a record's parts that are lent to the check are sound, and can be put by a pen.
-- Assumes nothing.
use mathlib.Core.Path.{◌≡◌, ap, ◌∙◌}
use mathlib.Core.Bool.{true}
use mathlib.Core.List.{List}
use Prim.Native.Nat.{ℕ, ◌+◌, ◌*◌, ◌≤◌}
use native.Mathlib.Omega.{arith}
use lib.ListN.{length}
use Rattle.record.specs.Check.{checked_in, accept}
use Rattle.record.specs.Event.{events_by, events_in}
use Rattle.record.specs.Form.{form, Known}
use Rattle.record.specs.Good.{GoodIn}
use Rattle.record.specs.Partners.{balanced}
use Rattle.record.specs.Sound.{sound}
use Rattle.record.specs.declared.form.Form.{Form}
use Rattle.record.proofs.Good.{good_record}
use Rattle.record.proofs.Parts.{length_events}
use Rattle.partners.specs.Pen.{Fits}
use Rattle.partners.specs.declared.Pen.{Pen}
use Rattle.partners.proofs.Laws.{sound_balanced}
use Rattle.partners.proofs.Pens.{start, all_fit}

-- what the check finds good in a record's parts, whose events have eight bytes, are few sound events over a small document
pub record Judged (f : Form) (parts : List ℕ) (d e : ℕ) : Type 0 where
  pub small : d ≤ 16384
  pub few : e ≤ 2048
  pub whole : 8 + f.front + d + 8 * e ≤ length parts
  pub sound_events : sound 64 d (events_by 8 e parts (8 + f.front + d)) ≡ true

pub judged : (f : Form) (parts : List ℕ) (d e : ℕ) → Known f → checked_in (form f.front 8) parts ≡ accept d e → Judged f parts d e
unfolding events_in
judged f parts d e k q =
    let known : Known (form f.front 8) = record { wide = omega arith; slim = omega arith; near = k.near } in
    let g : GoodIn (form f.front 8) parts d e = good_record (form f.front 8) parts d e known q in
    let whole : length parts ≡ 8 + f.front + d + 8 * e = g.whole in
    record { small = g.small; few = g.few; whole = omega arith; sound_events = g.sound_events }

-- these events are put into what is lent of the record from their count on
pub events_fit : (f : Form) (lent parts : List ℕ) (d e first : ℕ) {p : Pen} → Known f → e ≤ 2048 → first ≡ 4 + f.front + d + 4 → 4 + f.width * e ≤ length lent →
    sound 64 d (events_by 8 e parts (8 + f.front + d)) ≡ true → p ≡ record { at = 4; width = f.width; number = 0; held = 12 + 12 * e } →
    Fits lent p (events_by 8 e parts first)
events_fit f lent parts d e first k few there room s q =
    let at : first ≡ 8 + f.front + d = omega arith in
    let b : balanced (events_by 8 e parts first) ≡ true =
    ap (λ (m : ℕ). balanced (events_by 8 e parts m)) at ∙ sound_balanced 64 d (events_by 8 e parts (8 + f.front + d)) s in
    all_fit (start f.width e lent (events_by 8 e parts first) q (length_events 8 e parts first) (omega arith) b k.wide room)
