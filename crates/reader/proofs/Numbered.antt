-- What a reader finds in a good record: specs/Read.antt.
-- Assumes nothing.
use mathlib.Core.Path.{◌≡◌, sym, ap, ◌∙◌}
use mathlib.Core.List.{List}
use Prim.Native.Nat.{ℕ, ◌+◌, ◌*◌}
use native.Mathlib.Omega.{arith}
use lib.ListN.{length}
use Rattle.record.specs.Bytes.{u32_at}
use Rattle.record.specs.Form.{old}
use Rattle.record.specs.Event.{events_in}
use Rattle.record.specs.Check.{checked_in, accept}
use Rattle.record.specs.declared.event.Event.{Event}
use Rattle.record.proofs.Good.{old_known, good_record}
use Rattle.record.proofs.Parts.{nth_event}
use Rattle.std.specs.Prelude.{Some}
use Rattle.reader.specs.Read.{found_at, standing_at, count_of, EventOfNumber, EndOfNumbers}
use Rattle.reader.proofs.Places.{found_event, count_after, number_counted, number_past}

counted : (s : List ℕ) (d e : ℕ) → checked_in old s ≡ accept d e → count_of s ≡ e
counted s d e q =
    let t = good_record old s d e old_known q in
    let w : length s ≡ 8 + d + 8 * e = t.whole in
    count_after s d (sym t.document_count) (omega arith) ∙ t.event_count

pub event_of_number : EventOfNumber
unfolding standing_at events_in
event_of_number s d e k q h =
    let t = good_record old s d e old_known q in
    let w : length s ≡ 8 + d + 8 * e = t.whole in
    let n : count_of s ≡ e = counted s d e q in
    let p : 8 + u32_at s 0 + 8 * k ≡ 8 + d + 8 * k = ap (λ (m : ℕ). 8 + m + 8 * k) t.document_count in
    number_counted s k (omega arith) ∙ ap (found_at s) p ∙ found_event s (8 + d + 8 * k) (omega arith) ∙ ap (λ (v : Event). Some v) (sym (nth_event 8 e k s (8 + d) h))

pub end_of_numbers : EndOfNumbers
end_of_numbers s d e k q h =
    let n : count_of s ≡ e = counted s d e q in
    number_past s k (omega arith)
