-- What is written reads back: a number's four bytes, and an event's eight. A list is read behind what stands in front of it as it is read by itself;
-- the bytes of a number and of an event are written out, so there a read computes.
-- Assumes nothing.
use mathlib.Core.Path.{◌≡◌, refl, ap, ◌∙◌}
use mathlib.Core.Bool.{true}
use mathlib.Core.List.{List, [], ◌∷◌, ◌++◌, append_assoc}
use Prim.Native.Nat.{ℕ, zero, suc, ◌+◌, ◌*◌, ◌/◌, ◌%◌, ◌≤◌, ◌<◌}
use native.Mathlib.Omega.{arith}
use lib.ListN.{length, get_or, take, drop}
use lib.Seq.{sets-eq, get_or-append-add, length-take-le}
use Rattle.record.specs.Bytes.{u32_at, u32_bytes, Wrote}
use Rattle.record.specs.Event.{event, event_at, events_by, stored_at, bytes_of}
use Rattle.record.specs.Stack.{nth, after}
use Rattle.record.specs.Sound.{sound_from}
use Rattle.record.specs.ReadsBack.{NumberReadsBack, stored, EventReadsBack, PutNumberReadsBack, PutEventReadsBack, Storable}
use Rattle.record.specs.declared.event.Event.{Event}
use Rattle.record.proofs.Soundness.{stands, sound_rest}

-- read behind what stands in front
pub byte_behind : (before s : List ℕ) (at k : ℕ) → at ≡ length before + k → get_or (before ++ s) at 0 ≡ get_or s k 0
byte_behind before s at k e = ap (λ (m : ℕ). get_or (before ++ s) m 0) e ∙ get_or-append-add before s k 0

pub number_behind : (before s : List ℕ) (at k : ℕ) → at ≡ length before + k → u32_at (before ++ s) at ≡ u32_at s k
number_behind before s at k e =
    rw (
      byte_behind before s at k e,
      byte_behind before s (at + 1) (k + 1) (omega arith),
      byte_behind before s (at + 2) (k + 2) (omega arith),
      byte_behind before s (at + 3) (k + 3) (omega arith),
    )

pub stored_behind : (before s : List ℕ) (at k : ℕ) → at ≡ length before + k → stored_at (before ++ s) at ≡ stored_at s k
stored_behind before s at k e =
    rw (
      byte_behind before s at k e,
      byte_behind before s (at + 1) (k + 1) (omega arith),
      byte_behind before s (at + 2) (k + 2) (omega arith),
      byte_behind before s (at + 3) (k + 3) (omega arith),
      number_behind before s (at + 4) (k + 4) (omega arith),
    )

-- a number is made of its four bytes, each what the ones above it leave
joined : (x a b c e above_a above_b above_c : ℕ) → x ≡ 256 * above_a + a → above_a ≡ 256 * above_b + b → above_b ≡ 256 * above_c + c → above_c ≡ e →
    a + 256 * b + 65536 * c + 16777216 * e ≡ x
joined x a b c e above_a above_b above_c p q r t = omega arith

twice : (x : ℕ) → x / 65536 ≡ x / 256 / 256
twice x = omega arith

thrice : (x : ℕ) → x / 16777216 ≡ x / 65536 / 256
thrice x = omega arith

pub number_of_bytes : (x : ℕ) → x < 4294967296 → u32_at (u32_bytes x) 0 ≡ x
number_of_bytes x h =
    let first : x ≡ 256 * (x / 256) + x % 256 = omega arith in
    let second : x / 256 ≡ 256 * (x / 65536) + x / 256 % 256 = rw (twice x) (omega arith) in
    let third : x / 65536 ≡ 256 * (x / 16777216) + x / 65536 % 256 = rw (thrice x) (omega arith) in
    let fourth : x / 16777216 ≡ x / 16777216 % 256 = omega arith in
    joined x (x % 256) (x / 256 % 256) (x / 65536 % 256) (x / 16777216 % 256) (x / 256) (x / 65536) (x / 16777216) first second third fourth

pub number_reads_back : NumberReadsBack
number_reads_back before behind n h = number_behind before (u32_bytes n ++ behind) (length before) 0 (omega arith) ∙ number_of_bytes n h

pub event_first : (e : Event) (behind : List ℕ) → e.place < 4294967296 → stored_at (bytes_of e ++ behind) 0 ≡ stored e
event_first e behind h = ap (λ (p : ℕ). stored (event e.kind e.name p)) (number_of_bytes e.place h)

pub event_reads_back : EventReadsBack
event_reads_back before behind e h = stored_behind before (bytes_of e ++ behind) (length before) 0 (omega arith) ∙ event_first e behind h

-- what is written stands there, behind what was in front
written_stands : (d d' xs : List ℕ) (at : ℕ) → Wrote d at xs d' → at + length xs ≤ length d → d' ≡ take at d ++ (xs ++ drop (at + length xs) d)
written_stands d d' xs at w h = w.same ∙ sets-eq xs d at h ∙ append_assoc (take at d) xs (drop (at + length xs) d)

pub put_number_reads_back : PutNumberReadsBack
put_number_reads_back d d' at n w h b =
    let front : length (take at d) ≡ at = length-take-le at d (omega arith) in
    rw (written_stands d d' (u32_bytes n) at w h) (rw front at (number_reads_back (take at d) (drop (at + 4) d) n b))

pub put_event_reads_back : PutEventReadsBack
put_event_reads_back d d' at e w h b =
    let front : length (take at d) ≡ at = length-take-le at d (omega arith) in
    rw (written_stands d d' (bytes_of e) at w h) (rw front at (event_reads_back (take at d) (drop (at + 8) d) e b))

-- events that stand a width apart, each as it is stored, are read
pub all_of_each : (w : ℕ) (es : List Event) (s : List ℕ) (at : ℕ) → ((k : ℕ) → k < length es → stored_at s (at + w * k) ≡ stored (nth es k)) →
    events_by w (length es) s at ≡ es
unfolding events_by
all_of_each w [] s at f = refl
all_of_each w (e ∷ es) s at f =
    let y : at + w * 0 ≡ at = omega arith in
    let one : event_at s at ≡ e = ap (λ v. v.what) (rw y at (f 0 (omega arith))) in
    let more : events_by w (length es) s (at + w) ≡ es =
    all_of_each w es s (at + w) (λ k h. let x : at + w * suc k ≡ at + w + w * k = omega arith in rw x at (f (suc k) (omega arith))) in
    ap (λ (x : Event). x ∷ events_by w (length es) s (at + w)) one ∙ ap (λ (l : List Event). e ∷ l) more

-- places within a document are small
pub sound_storable : (deep d last : ℕ) (held : List ℕ) (es : List Event) → sound_from deep d last held es ≡ true → d < 4294967296 → Storable es
sound_storable deep d last held [] q h k g = absurd (omega arith)
sound_storable deep d last held (e ∷ es) q h zero g =
    let i : e.place ≤ d = (stands deep d last held e es q).inside in
    omega arith
sound_storable deep d last held (e ∷ es) q h (suc k) g =
    sound_storable deep d e.place (after e e.name held) es (sound_rest deep d last held e es q) h k (omega arith)
