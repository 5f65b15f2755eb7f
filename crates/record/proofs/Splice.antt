-- Laws of `sets d i xs`, the list d with xs stored from index i on: the form of contract for a write into a lent buffer.
--     sets-append    two writes, one after the other, are one
--     wrote_then     a write at the end of what was written so far; wrote-event, wrote_none, wrote-length, wrote-front
--     sets-front     a write from the start is xs, then what was behind it
-- Assumes nothing.
use mathlib.Core.Path.{◌≡◌, refl, sym, ap, ◌∙◌, subst}
use mathlib.Core.List.{List, [], ◌∷◌, ◌++◌, append-nil}
use Prim.Native.Nat.{ℕ, suc, ◌+◌, ◌*◌, ◌/◌, ◌%◌, ◌≤◌, ◌<◌}
use native.Mathlib.Omega.{arith}
use native.Mathlib.Nat.{add-zero, zero-add, add-suc, suc-add}
use lib.ListN.{length, set, drop, replicate, drop_of_length-le}
use borrow.Author.Fill.{fill_more}
use Rattle.record.specs.Bytes.{u32_bytes, Wrote}
use Rattle.record.specs.Event.{event_bytes}
use lib.Seq.{sets, length-sets, sets-eq}

pub sets_append : (d : List ℕ) (i : ℕ) (xs ys : List ℕ) → sets d i (xs ++ ys) ≡ sets (sets d i xs) (i + length xs) ys
sets_append d i [] ys = ap (λ (k : ℕ). sets d k ys) (sym (add-zero i))
sets_append d i (x ∷ xs) ys =
    sets_append (set d i x) (suc i) xs ys
    ∙ ap (λ (k : ℕ). sets (sets (set d i x) (suc i) xs) k ys) (suc-add i (length xs) ∙ sym (add-suc i (length xs)))

-- the same where the place of the second write is known by an equation
pub sets_then : (d : List ℕ) (i j : ℕ) (xs ys : List ℕ) → j ≡ i + length xs → sets (sets d i xs) j ys ≡ sets d i (xs ++ ys)
sets_then d i j xs ys e = ap (λ (k : ℕ). sets (sets d i xs) k ys) e ∙ sym (sets_append d i xs ys)

pub sets_front : (d xs : List ℕ) → length xs ≤ length d → sets d 0 xs ≡ xs ++ drop (length xs) d
sets_front d xs h =
    sets-eq xs d 0 (subst (λ (k : ℕ). k ≤ length d) (sym (zero-add (length xs))) h)
    ∙ ap (λ (k : ℕ). xs ++ drop k d) (zero-add (length xs))

-- a write at the end of what was written so far: the form for a run of calls. All but the equation is found
pub wrote_then : {d d₁ d₂ : List ℕ} {at j : ℕ} {xs ys : List ℕ} → Wrote d at xs d₁ → Wrote d₁ j ys d₂ → j ≡ at + length xs → Wrote d at (xs ++ ys) d₂
wrote_then {d} {d₁} {d₂} {at} {j} {xs} {ys} w v e =
    record { same = v.same ∙ ap (λ (l : List ℕ). sets l j ys) w.same ∙ sets_then d at j xs ys e }

-- kind and name as one number, in four bytes
pub head_bytes : (kind name head : ℕ) → head ≡ kind + 256 * name → kind < 256 → name < 256 → u32_bytes head ≡ kind ∷ name ∷ 0 ∷ 0 ∷ []
head_bytes kind name head e k n =
    let a : head % 256 ≡ kind = omega arith in
    let r : head / 256 ≡ name = omega arith in
    let b : head / 256 % 256 ≡ name = ap (λ (x : ℕ). x % 256) r ∙ small name n in
    let t : head / 65536 ≡ 0 = omega arith in
    let u : head / 16777216 ≡ 0 = omega arith in
    let c : head / 65536 % 256 ≡ 0 = ap (λ (x : ℕ). x % 256) t in
    let f : head / 16777216 % 256 ≡ 0 = ap (λ (x : ℕ). x % 256) u in
    rw (a, b, c, f)
  where
    small : (x : ℕ) → x < 256 → x % 256 ≡ x
    small x h = omega arith

-- an event's bytes: that number, and behind it the place
pub wrote_event : {d d₁ d₂ : List ℕ} {at j : ℕ} (head kind name place : ℕ) → Wrote d at (u32_bytes head) d₁ → Wrote d₁ j (u32_bytes place) d₂ → j ≡ at + 4 →
    head ≡ kind + 256 * name → kind < 256 → name < 256 → Wrote d at (event_bytes kind name place) d₂
wrote_event {d} {d₁} {at = at} head kind name place w v j e k n =
    wrote_then (subst (λ (xs : List ℕ). Wrote d at xs d₁) (head_bytes kind name head e k n) w) v j

-- nothing is written
pub wrote_none : (d : List ℕ) (at : ℕ) → Wrote d at [] d
wrote_none d at = record { same = refl }

-- a write keeps the length
pub wrote_length : {d d' : List ℕ} {at : ℕ} {xs : List ℕ} → Wrote d at xs d' → length d' ≡ length d
wrote_length {d} {d'} {at} {xs} w = ap length w.same ∙ length-sets d at xs

-- what is written from the start: xs, then what was behind it
pub wrote_front : {d d' xs : List ℕ} → Wrote d 0 xs d' → length xs ≤ length d → d' ≡ xs ++ drop (length xs) d
wrote_front {d} {d'} {xs} w h = w.same ∙ sets_front d xs h

-- d is d₀ with v in its first i places: the invariant of a loop that fills. Then its start, its turn and its end
pub record Filled (d₀ : List ℕ) (i v : ℕ) (d : List ℕ) : Type 0 where
  pub same : d ≡ replicate i v ++ drop i d₀

pub fill_start : (d : List ℕ) (v : ℕ) → Filled d 0 v d
fill_start d v = record { same = refl }

pub fill_turn : {d₀ d d' : List ℕ} {i j v : ℕ} → Filled d₀ i v d → i < length d → length d ≡ length d₀ → d' ≡ set d i v → j ≡ i + 1 → Filled d₀ j v d'
fill_turn {d₀} {d} {d'} {i} {j} {v} f h l e ej =
    record { same = e ∙ ap (λ (x : List ℕ). set x i v) f.same ∙ fill_more i v d₀ (omega arith) ∙ ap (λ (k : ℕ). replicate k v ++ drop k d₀) (sym ej) }

pub fill_done : {d₀ d : List ℕ} {i v : ℕ} → Filled d₀ i v d → i ≤ length d₀ → length d₀ ≤ i → d ≡ replicate (length d₀) v
fill_done {d₀} {d} {i} {v} f le ge =
    let n : i ≡ length d₀ = omega arith in
    f.same ∙ rw (drop_of_length-le d₀ {i = i} ge, append-nil, n)
