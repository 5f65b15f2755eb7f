-- The laws of two bytes in a list: what is read after a write, at the same place and apart from it. That two places are apart is asked as
-- that they are not equal, so that linear arithmetic answers it.
-- Assumes nothing.
use Prim.Native.Nat.{ℕ, ◌+◌, ◌/◌, ◌%◌, ◌<◌}
use mathlib.Core.Path.{◌≡◌}
use mathlib.Core.List.{List}
use native.Mathlib.Omega.{arith}
use lib.ListN.{length, get_or, set, length-set}
use lib.Seq.{get_or-set_same, get_or-set_other}
use Rattle.slots.specs.Words.{get16, put16}

pub length_put : (s : List ℕ) (at v : ℕ) → length (put16 s at v) ≡ length s
unfolding put16
length_put s at v = simp length-set

module _ (s : List ℕ) (at v : ℕ) where
  pub get_put_same : at + 1 < length s → get16 (put16 s at v) at ≡ v
  unfolding put16 get16
  get_put_same h =
      let a : length (set s at (v % 256)) ≡ length s = simp length-set in
      let l : at < length s = omega arith in
      let h1 : at + 1 < length (set s at (v % 256)) = omega arith in
      let ne : at ≡ at + 1 → ⊥ = λ e. omega arith in
      rw (get_or-set_same (set s at (v % 256)) (at + 1) (v / 256) 0, get_or-set_other (set s at (v % 256)) (at + 1) at (v / 256) 0, get_or-set_same s at (v % 256) 0) (omega arith)

  pub get_put_other : (b : ℕ) → (b ≡ at → ⊥) → (b + 1 ≡ at → ⊥) → (b ≡ at + 1 → ⊥) → get16 (put16 s at v) b ≡ get16 s b
  unfolding put16 get16
  get_put_other b n1 n2 n3 =
      let n4 : b + 1 ≡ at + 1 → ⊥ = λ e. n1 (omega arith) in
      simp (get_or-set_other (set s at (v % 256)) (at + 1) b (v / 256) 0 n3, get_or-set_other s at b (v % 256) 0 n1, get_or-set_other (set s at (v % 256)) (at + 1) (b + 1) (v / 256) 0 n4, get_or-set_other s at (b + 1) (v % 256) 0 n2)

  pub byte_put_other : (b : ℕ) → (b ≡ at → ⊥) → (b ≡ at + 1 → ⊥) → get_or (put16 s at v) b 0 ≡ get_or s b 0
  unfolding put16
  byte_put_other b n1 n2 = simp (get_or-set_other (set s at (v % 256)) (at + 1) b (v / 256) 0 n2, get_or-set_other s at b (v % 256) 0 n1)

  pub get_set_other : (b : ℕ) → (b ≡ at → ⊥) → (b + 1 ≡ at → ⊥) → get16 (set s at v) b ≡ get16 s b
  unfolding get16
  get_set_other b n1 n2 = simp (get_or-set_other s at b v 0 n1, get_or-set_other s at (b + 1) v 0 n2)

-- the same laws where that two words do not meet is asked once: neither is wholly before the other
abbrev pub Apart : ℕ → ℕ → Type 0
Apart a b = ((a + 1 < b) → ⊥) → ((b + 1 < a) → ⊥) → ⊥

-- a byte does not stand in a word
abbrev pub Beside : ℕ → ℕ → Type 0
Beside a b = ((a < b) → ⊥) → ((b + 1 < a) → ⊥) → ⊥

module _ (s : List ℕ) (at v : ℕ) where
  pub word_after_word : (b : ℕ) → Apart b at → get16 (put16 s at v) b ≡ get16 s b
  word_after_word b h = get_put_other s at v b (λ e. h (λ x. omega arith) (λ x. omega arith)) (λ e. h (λ x. omega arith) (λ x. omega arith)) (λ e. h (λ x. omega arith) (λ x. omega arith))

  -- a byte beside a written word, a word beside a written byte
  pub byte_after_word : (b : ℕ) → Beside b at → get_or (put16 s at v) b 0 ≡ get_or s b 0
  byte_after_word b h = byte_put_other s at v b (λ e. h (λ x. omega arith) (λ x. omega arith)) (λ e. h (λ x. omega arith) (λ x. omega arith))

  pub word_after_byte : (b : ℕ) → Beside at b → get16 (set s at v) b ≡ get16 s b
  word_after_byte b h = get_set_other s at v b (λ e. h (λ x. omega arith) (λ x. omega arith)) (λ e. h (λ x. omega arith) (λ x. omega arith))
