-- The parts of a record, read byte by byte: where a byte of the document stands, and where an event does.
-- Assumes nothing.
use mathlib.Core.Path.{◌≡◌, refl, ap, ◌∙◌}
use mathlib.Core.List.{List, [], ◌∷◌}
use Prim.Native.Nat.{ℕ, zero, suc, ◌+◌, ◌*◌, ◌-◌, ◌≤◌, ◌<◌}
use native.Mathlib.Nat.{mul-le-mul_left, mul-le-mul_right}
use native.Mathlib.Omega.{arith}
use lib.ListN.{length, get_or, drop, length-drop}
use lib.Seq.{get_or-take, get_or-drop, length-take-le}
use Rattle.record.specs.Event.{event_at, events_by, document_in}
use Rattle.record.specs.Stack.{nth}
use Rattle.record.specs.declared.form.Form.{Form}

pub length_document : (f : Form) (s : List ℕ) (d : ℕ) → 4 + f.front + d ≤ length s → length (document_in f s d) ≡ d
unfolding document_in
length_document f s d h = length-take-le d (drop (4 + f.front) s) (simp length-drop (omega arith))

pub document_byte : (f : Form) (s : List ℕ) (d k : ℕ) → k < d → get_or (document_in f s d) k 0 ≡ get_or s (4 + f.front + k) 0
unfolding document_in
document_byte f s d k h = get_or-take d (drop (4 + f.front) s) k 0 h ∙ get_or-drop (4 + f.front) s k 0

-- the bytes of n events are those of one and those of the others
pub less : (w n : ℕ) → 0 < n → w * n ≡ w + w * (n - 1)
less w zero h = absurd (omega arith)
less w (suc n) h =
    let e : suc n - 1 ≡ n = omega arith in
    rw e (omega arith)

-- an event before another ends before it
pub further : (w k j : ℕ) → k < j → w * k + w ≤ w * j
further w k j h =
    let m : w * suc k ≤ w * j = mul-le-mul_left w h in
    omega arith

-- n events of w bytes take 8 * n bytes at the least: a fact that omega can go by
pub spread_out : (w n at end : ℕ) → 8 ≤ w → at + w * n ≤ end → at + 8 * n ≤ end
spread_out w n at end h r =
    let m : 8 * n ≤ w * n = mul-le-mul_right n h in
    omega arith

-- the bytes of few events are few
pub small_product : (w k m : ℕ) → w ≤ 256 → k ≤ m → w * k ≤ 256 * m
small_product w k m h l =
    let a : w * k ≤ 256 * k = mul-le-mul_right k h in
    let b : 256 * k ≤ 256 * m = mul-le-mul_left 256 l in
    omega arith

-- each of the n events from a place on lies before their end
pub event_room : (w n k at end : ℕ) → at + w * n ≤ end → k < n → at + w * k + w ≤ end
event_room w n k at end h l =
    let m : w * k + w ≤ w * n = further w k n l in
    omega arith

pub length_events : (w n : ℕ) (s : List ℕ) (at : ℕ) → length (events_by w n s at) ≡ n
unfolding events_by
length_events w zero s at = refl
length_events w (suc n) s at = ap suc (length_events w n s (at + w))

-- the events from event k on, of which there are n in all
pub drop_events : (w n k : ℕ) (s : List ℕ) (at : ℕ) → k ≤ n → drop k (events_by w n s at) ≡ events_by w (n - k) s (at + w * k)
unfolding events_by
drop_events w n zero s at h =
    let a : n - 0 ≡ n = omega arith in
    let b : at + w * 0 ≡ at = omega arith in
    rw (a, b)
drop_events w zero (suc k) s at h = absurd (omega arith)
drop_events w (suc n) (suc k) s at h =
    let a : suc n - suc k ≡ n - k = omega arith in
    let b : at + w + w * k ≡ at + w * suc k = omega arith in
    drop_events w n k s (at + w) (omega arith) ∙ rw (a, b)

pub nth_event : (w n k : ℕ) (s : List ℕ) (at : ℕ) → k < n → nth (events_by w n s at) k ≡ event_at s (at + w * k)
unfolding events_by
nth_event w zero k s at h = absurd (omega arith)
nth_event w (suc n) zero s at h =
    let b : at ≡ at + w * 0 = omega arith in
    ap (λ (m : ℕ). event_at s m) b
nth_event w (suc n) (suc k) s at h =
    let b : at + w + w * k ≡ at + w * suc k = omega arith in
    nth_event w n k s (at + w) (omega arith) ∙ ap (λ (m : ℕ). event_at s m) b

-- one event, and those after it
pub events_cons : (w n m : ℕ) (s : List ℕ) (at : ℕ) → n ≡ m + 1 → events_by w n s at ≡ event_at s at ∷ events_by w m s (at + w)
unfolding events_by
events_cons w zero m s at h = absurd (omega arith)
events_cons w (suc n) m s at h =
    let k : n ≡ m = omega arith in
    rw k

pub events_none : (w n : ℕ) (s : List ℕ) (at : ℕ) → n ≡ 0 → events_by w n s at ≡ []
unfolding events_by
events_none w n s at h = rw h
