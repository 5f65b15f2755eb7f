-- The other way: bytes that are read, written again, are the bytes that were there; a number, an event, and the document of a record of any form.
-- Assumes nothing.
use mathlib.Core.Path.{◌≡◌, sym, ap, ◌∙◌}
use mathlib.Core.List.{List, [], ◌∷◌, ◌++◌}
use Prim.Native.Nat.{ℕ, suc, ◌+◌, ◌*◌, ◌/◌, ◌%◌, ◌≤◌, ◌<◌}
use native.Mathlib.Omega.{arith}
use lib.ListN.{length, get_or, take, drop, take-append-drop}
use lib.Seq.{drop-cons, drop-drop}
use Rattle.record.specs.Bytes.{u32_at, u32_bytes}
use Rattle.record.specs.Event.{event_at, stored_at, bytes_of, document_in, events_in}
use Rattle.record.specs.Form.{place_in}
use Rattle.record.specs.Good.{GoodIn}
use Rattle.record.specs.ReadsBack.{AreBytes, Holdable}
use Rattle.record.specs.declared.form.Form.{Form}
use Rattle.record.proofs.Parts.{length_events, length_document, document_byte}

-- four bytes are those of the number that they make
bytes_of_number : (a b c e : ℕ) → a < 256 → b < 256 → c < 256 → e < 256 →
    u32_bytes (a + 256 * b + 65536 * c + 16777216 * e) ≡ a ∷ b ∷ c ∷ e ∷ []
bytes_of_number a b c e ha hb hc he =
    let x₀ : (a + 256 * b + 65536 * c + 16777216 * e) % 256 ≡ a = omega arith in
    let q₁ : (a + 256 * b + 65536 * c + 16777216 * e) / 256 ≡ b + 256 * c + 65536 * e = omega arith in
    let q₂ : (a + 256 * b + 65536 * c + 16777216 * e) / 65536 ≡ c + 256 * e = omega arith in
    let q₃ : (a + 256 * b + 65536 * c + 16777216 * e) / 16777216 ≡ e = omega arith in
    let x₁ : (a + 256 * b + 65536 * c + 16777216 * e) / 256 % 256 ≡ b = rw q₁ (omega arith) in
    let x₂ : (a + 256 * b + 65536 * c + 16777216 * e) / 65536 % 256 ≡ c = rw q₂ (omega arith) in
    let x₃ : (a + 256 * b + 65536 * c + 16777216 * e) / 16777216 % 256 ≡ e = rw q₃ (omega arith) in
    rw (x₀, x₁, x₂, x₃)

-- the four bytes at a place, and what is behind them
pub number_rewritten : (s : List ℕ) (at : ℕ) → AreBytes s → at + 4 ≤ length s → drop at s ≡ u32_bytes (u32_at s at) ++ drop (at + 4) s
number_rewritten s at b h =
    let n₁ : suc at ≡ at + 1 = omega arith in
    let n₂ : suc (at + 1) ≡ at + 2 = omega arith in
    let n₃ : suc (at + 2) ≡ at + 3 = omega arith in
    let n₄ : suc (at + 3) ≡ at + 4 = omega arith in
    let d₀ : drop at s ≡ get_or s at 0 ∷ drop (at + 1) s = rw n₁ at (drop-cons s at 0 (omega arith)) in
    let d₁ : drop (at + 1) s ≡ get_or s (at + 1) 0 ∷ drop (at + 2) s = rw n₂ at (drop-cons s (at + 1) 0 (omega arith)) in
    let d₂ : drop (at + 2) s ≡ get_or s (at + 2) 0 ∷ drop (at + 3) s = rw n₃ at (drop-cons s (at + 2) 0 (omega arith)) in
    let d₃ : drop (at + 3) s ≡ get_or s (at + 3) 0 ∷ drop (at + 4) s = rw n₄ at (drop-cons s (at + 3) 0 (omega arith)) in
    let w : u32_bytes (u32_at s at) ≡ get_or s at 0 ∷ get_or s (at + 1) 0 ∷ get_or s (at + 2) 0 ∷ get_or s (at + 3) 0 ∷ [] =
    bytes_of_number (get_or s at 0) (get_or s (at + 1) 0) (get_or s (at + 2) 0) (get_or s (at + 3) 0)
    (b at (omega arith)) (b (at + 1) (omega arith)) (b (at + 2) (omega arith)) (b (at + 3) (omega arith)) in
    d₀
    ∙ ap (λ (l : List ℕ). get_or s at 0 ∷ l) d₁
    ∙ ap (λ (l : List ℕ). get_or s at 0 ∷ get_or s (at + 1) 0 ∷ l) d₂
    ∙ ap (λ (l : List ℕ). get_or s at 0 ∷ get_or s (at + 1) 0 ∷ get_or s (at + 2) 0 ∷ l) d₃
    ∙ ap (λ (l : List ℕ). l ++ drop (at + 4) s) (sym w)

pub event_rewritten : (s : List ℕ) (at : ℕ) → AreBytes s → at + 8 ≤ length s → (stored_at s at).zeros ≡ 0 →
    drop at s ≡ bytes_of (event_at s at) ++ drop (at + 8) s
event_rewritten s at b h z =
    let n₁ : suc at ≡ at + 1 = omega arith in
    let n₂ : suc (at + 1) ≡ at + 2 = omega arith in
    let n₃ : suc (at + 2) ≡ at + 3 = omega arith in
    let n₄ : suc (at + 3) ≡ at + 4 = omega arith in
    let n₈ : at + 4 + 4 ≡ at + 8 = omega arith in
    let z₂ : get_or s (at + 2) 0 ≡ 0 = omega arith in
    let z₃ : get_or s (at + 3) 0 ≡ 0 = omega arith in
    let d₀ : drop at s ≡ get_or s at 0 ∷ drop (at + 1) s = rw n₁ at (drop-cons s at 0 (omega arith)) in
    let d₁ : drop (at + 1) s ≡ get_or s (at + 1) 0 ∷ drop (at + 2) s = rw n₂ at (drop-cons s (at + 1) 0 (omega arith)) in
    let d₂ : drop (at + 2) s ≡ 0 ∷ drop (at + 3) s = rw (n₃, z₂) at (drop-cons s (at + 2) 0 (omega arith)) in
    let d₃ : drop (at + 3) s ≡ 0 ∷ drop (at + 4) s = rw (n₄, z₃) at (drop-cons s (at + 3) 0 (omega arith)) in
    let d₄ : drop (at + 4) s ≡ u32_bytes (u32_at s (at + 4)) ++ drop (at + 8) s =
    number_rewritten s (at + 4) b (omega arith) ∙ ap (λ (m : ℕ). u32_bytes (u32_at s (at + 4)) ++ drop m s) n₈ in
    d₀
    ∙ ap (λ (l : List ℕ). get_or s at 0 ∷ l) d₁
    ∙ ap (λ (l : List ℕ). get_or s at 0 ∷ get_or s (at + 1) 0 ∷ l) d₂
    ∙ ap (λ (l : List ℕ). get_or s at 0 ∷ get_or s (at + 1) 0 ∷ 0 ∷ l) d₃
    ∙ ap (λ (l : List ℕ). get_or s at 0 ∷ get_or s (at + 1) 0 ∷ 0 ∷ 0 ∷ l) d₄

-- the count and the document, as they stand in a record
pub document_rewritten : (f : Form) (s : List ℕ) (d : ℕ) → AreBytes s → 4 + f.front + d ≤ length s → u32_at s f.front ≡ d →
    drop f.front s ≡ u32_bytes d ++ (document_in f s d ++ drop (4 + f.front + d) s)
unfolding document_in
document_rewritten f s d b h c =
    let n : f.front + 4 ≡ 4 + f.front = omega arith in
    number_rewritten s f.front b (omega arith)
    ∙ ap (λ (m : ℕ). u32_bytes (u32_at s f.front) ++ drop m s) n
    ∙ ap (λ (m : ℕ). u32_bytes m ++ drop (4 + f.front) s) c
    ∙ ap (λ (l : List ℕ). u32_bytes d ++ l) (sym (take-append-drop d (drop (4 + f.front) s)))
    ∙ ap (λ (l : List ℕ). u32_bytes d ++ (take d (drop (4 + f.front) s) ++ l)) (drop-drop d (4 + f.front) s)

counted : (f : Form) (s : List ℕ) (d e : ℕ) → length (events_in f s d e) ≡ e
unfolding events_in
counted f s d e = length_events f.width e s (8 + f.front + d)

-- the parts of a good record are such as a record may hold
pub good_holdable : (f : Form) (s : List ℕ) (d e : ℕ) → GoodIn f s d e → Holdable (document_in f s d) (events_in f s d e)
good_holdable f s d e t =
    let long : length s ≡ place_in f d e = t.whole in
    let n : length (document_in f s d) ≡ d = length_document f s d (omega arith) in
    record {
      small = rw n t.small;
      no_return = λ k h r. let g : k < d = omega arith in t.no_return k g (sym (document_byte f s d k g) ∙ r);
      few = rw (counted f s d e) t.few;
      sound_events = rw n t.sound_events;
    }
