-- Laws of places: what `within`, `found_at` and `count_of` are on either side of the record's end, and that a place held back to the end makes no
-- difference to what is found there or further on.
-- Assumes nothing.
use mathlib.Core.Path.{◌≡◌, refl, sym, ap, ◌∙◌}
use mathlib.Core.Bool.{Bool, true, false}
use mathlib.Core.List.{List}
use Prim.Native.Nat.{ℕ, zero, suc, ◌+◌, ◌*◌, ◌≤◌, ◌<◌}
use native.Mathlib.Omega.{arith}
use lib.ListN.{length}
use lib.Dec.{leb}
use borrow.Author.Tests.{le-leb, lt-leb, leb-true, leb-false, lt-ltb, le-ltb}
use Rattle.record.specs.Choice.{choose}
use Rattle.record.specs.Bytes.{u32_at}
use Rattle.record.specs.Event.{event_at}
use Rattle.reader.specs.Read.{found_at, within, past_events, first_event, standing_at, count_of, event_number}
use Rattle.std.specs.Prelude.{Some, None}

pub within_record : (s : List ℕ) (at : ℕ) → at ≤ length s → within s at ≡ at
unfolding within choose
within_record s at h = rw (le-leb at (length s) h)

pub within_end : (s : List ℕ) (at : ℕ) → length s < at → within s at ≡ length s
unfolding within choose
within_end s at h = rw (lt-leb at (length s) h)

pub found_event : (s : List ℕ) (at : ℕ) → at + 8 ≤ length s → found_at s at ≡ Some (event_at s at)
unfolding found_at choose
found_event s at h = rw (le-leb (at + 8) (length s) h)

pub found_end : (s : List ℕ) (at : ℕ) → length s < at + 8 → found_at s at ≡ None
unfolding found_at choose
found_end s at h = rw (lt-leb (at + 8) (length s) h)

-- a place held back to the end finds what the place itself does
found_within_by : (b : Bool) (s : List ℕ) (at : ℕ) → leb at (length s) ≡ b → found_at s (within s at) ≡ found_at s at
found_within_by true s at e = ap (found_at s) (within_record s at (leb-true _ _ e))
found_within_by false s at e =
    let h : length s < at = leb-false _ _ e in
    ap (found_at s) (within_end s at h) ∙ found_end s (length s) (omega arith) ∙ sym (found_end s at (omega arith))

pub found_within : (s : List ℕ) (at : ℕ) → found_at s (within s at) ≡ found_at s at
found_within s at = found_within_by (leb at (length s)) s at refl

-- and events are passed from it as from the place itself
within_again : (s : List ℕ) (k : ℕ) → within s (length s + k) ≡ length s
unfolding within choose
within_again s zero =
    let z : length s + 0 ≡ length s = omega arith in
    rw z (within_record s (length s) (omega arith))
within_again s (suc k) = within_end s (length s + suc k) (omega arith)

past_within_by : (b : Bool) (s : List ℕ) (at k : ℕ) → leb at (length s) ≡ b → past_events s (within s at) k ≡ past_events s at k
unfolding past_events
past_within_by true s at k e = ap (λ (m : ℕ). past_events s m k) (within_record s at (leb-true _ _ e))
past_within_by false s at k e =
    let h : length s < at = leb-false _ _ e in
    ap (λ (m : ℕ). past_events s m k) (within_end s at h) ∙ within_again s (8 * k) ∙ sym (within_end s (at + 8 * k) (omega arith))

pub past_within : (s : List ℕ) (at k : ℕ) → past_events s (within s at) k ≡ past_events s at k
past_within s at k = past_within_by (leb at (length s)) s at k refl

-- passing j events and then k is passing j + k
pub past_past : (s : List ℕ) (at j k : ℕ) → past_events s (past_events s at j) k ≡ past_events s at (j + k)
unfolding past_events
past_past s at j k =
    let z : at + 8 * j + 8 * k ≡ at + 8 * (j + k) = omega arith in
    past_within s (at + 8 * j) k ∙ ap (within s) z

-- what stands k events past the first one is what stands where event k would
pub standing_found : (s : List ℕ) (k : ℕ) → found_at s (past_events s (first_event s) k) ≡ standing_at s k
unfolding first_event past_events standing_at
standing_found s k = ap (found_at s) (past_within s (8 + u32_at s 0) k) ∙ found_within s (8 + u32_at s 0 + 8 * k)

count_there : (s : List ℕ) → 8 + u32_at s 0 ≤ length s → count_of s ≡ u32_at s (4 + u32_at s 0)
unfolding count_of choose
count_there s h = rw (le-leb (8 + u32_at s 0) (length s) h)

-- the count stands after a document of d bytes
pub count_after : (s : List ℕ) (d : ℕ) → d ≡ u32_at s 0 → 8 + d ≤ length s → count_of s ≡ u32_at s (4 + d)
count_after s d e h = count_there s (omega arith) ∙ ap (λ (m : ℕ). u32_at s (4 + m)) (sym e)

pub count_cut : (s : List ℕ) → length s < 8 + u32_at s 0 → count_of s ≡ 0
unfolding count_of choose
count_cut s h = rw (lt-leb (8 + u32_at s 0) (length s) h)

pub number_counted : (s : List ℕ) (k : ℕ) → k < count_of s → event_number s k ≡ standing_at s k
unfolding event_number choose
number_counted s k h = rw (lt-ltb k (count_of s) h)

pub number_past : (s : List ℕ) (k : ℕ) → count_of s ≤ k → event_number s k ≡ None
unfolding event_number choose
number_past s k h = rw (le-ltb k (count_of s) h)
