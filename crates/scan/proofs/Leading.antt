-- Runs at the front, over any kind of byte: the loop that counts one, and what is known of its length.
-- Assumes nothing.
use mathlib.Core.Path.{◌≡◌, refl, ap, ◌∙◌}
use mathlib.Core.Bool.{Bool, true, false}
use mathlib.Core.List.{List, [], ◌∷◌}
use Prim.Native.Nat.{ℕ, zero, suc, ◌+◌, ◌≤◌, ◌<◌}
use native.Mathlib.Nat.{zero-add}
use native.Mathlib.Numerals.{add-one}
use native.Mathlib.Omega.{arith}
use lib.ListN.{length, get_or, take, drop, length-take, drop_of_length-le}
use lib.Seq.{drop-cons, get_or-take}
use Rattle.record.specs.Choice.{choose, and}
use Rattle.record.specs.Stretch.{Passed}
use Rattle.record.proofs.Stretch.{passed_none, passed_here, passed_next}
use Rattle.scan.specs.Run.{leading, every, first}

one_more : (z : Bool) (m n : ℕ) → m ≤ n → choose z (suc m) 0 ≤ suc n
unfolding choose
one_more true m n h = omega arith
one_more false m n h = omega arith

module _ (kind : ℕ → Bool) where
  -- one step of the definition, at an index
  pub run_on : (l : List ℕ) (n : ℕ) → n < length l → kind (get_or l n 0) ≡ true → leading kind (drop n l) ≡ suc (leading kind (drop (suc n) l))
  unfolding leading choose
  run_on l n h e = rw (drop-cons l n 0 h, e)

  pub run_ends : (l : List ℕ) (n : ℕ) → n < length l → kind (get_or l n 0) ≡ false → leading kind (drop n l) ≡ 0
  unfolding leading choose
  run_ends l n h e = rw (drop-cons l n 0 h, e)

  run_none : (l : List ℕ) (n : ℕ) → length l ≤ n → leading kind (drop n l) ≡ 0
  unfolding leading
  run_none l n h = rw (drop_of_length-le l {i = n} h)

  pub leading_short : (l : List ℕ) → leading kind l ≤ length l
  unfolding leading choose
  leading_short [] = omega arith
  leading_short (b ∷ l) = one_more (kind b) (leading kind l) (length l) (leading_short l)

-- the run among the first k bytes is the run, where it ends before the last of them or nothing stands behind them
near_step : (z : Bool) (m m' : ℕ) → (z ≡ true → m ≡ m') → choose z (suc m) 0 ≡ choose z (suc m') 0
unfolding choose
near_step true m m' f = ap suc (f refl)
near_step false m m' f = refl

near_more : (z : Bool) (m k n : ℕ) → z ≡ true → (suc k ≤ choose z (suc m) 0 → suc n ≤ suc k) → k ≤ m → n ≤ k
unfolding choose
near_more true m k n q f h = let g = f (omega arith) in omega arith
near_more false m k n q f h = let z : ◌≡◌ {A = ℕ} 0 1 = cc in absurd (omega arith)

pub leading_near : (kind : ℕ → Bool) (l : List ℕ) (k : ℕ) → (k ≤ leading kind (take k l) → length l ≤ k) → leading kind (take k l) ≡ leading kind l
unfolding leading
leading_near kind [] zero f = refl
leading_near kind [] (suc k) f = refl
leading_near kind (b ∷ l) zero f = let g = f (omega arith) in absurd (omega arith)
leading_near kind (b ∷ l) (suc k) f =
    near_step (kind b) (leading kind (take k l)) (leading kind l)
    (λ q. leading_near kind l k (near_more (kind b) (leading kind (take k l)) k (length l) q f))

-- a run of the whole length is all of the kind, and only such a one
whole_step : (z e : Bool) (m n : ℕ) → choose z (suc m) 0 ≡ suc n → (m ≡ n → e ≡ true) → and z e ≡ true
unfolding choose and
whole_step true e m n q f = f (omega arith)
whole_step false e m n q f = absurd (omega arith)

part_step : (z e : Bool) (m n : ℕ) → (choose z (suc m) 0 ≡ suc n → ⊥) → ((m ≡ n → ⊥) → e ≡ false) → and z e ≡ false
unfolding choose and
part_step true e m n q f = f (λ k. q (ap suc k))
part_step false e m n q f = refl

module _ (kind : ℕ → Bool) where
  pub every_all : (l : List ℕ) → leading kind l ≡ length l → every kind l ≡ true
  unfolding leading every
  every_all [] q = refl
  every_all (b ∷ l) q = whole_step (kind b) (every kind l) (leading kind l) (length l) q (every_all l)

  pub every_not : (l : List ℕ) → (leading kind l ≡ length l → ⊥) → every kind l ≡ false
  unfolding leading every
  every_not [] q = absurd (q refl)
  every_not (b ∷ l) q = part_step (kind b) (every kind l) (leading kind l) (length l) q (every_not l)

-- a run of at least one has its first byte in it
first_step : (z : Bool) (m : ℕ) → 1 ≤ choose z (suc m) 0 → z ≡ true
unfolding choose
first_step true m h = refl
first_step false m h = absurd (omega arith)

pub first_of : (kind : ℕ → Bool) (l : List ℕ) → 1 ≤ leading kind l → kind (first l) ≡ true
unfolding leading
first_of kind [] h = absurd (omega arith)
first_of kind (b ∷ l) h = first_step (kind b) (leading kind l) h

pub run_some : (kind : ℕ → Bool) (l : List ℕ) → 0 < length l → kind (first l) ≡ true → 1 ≤ leading kind l
unfolding leading choose
run_some kind [] h e = absurd (omega arith)
run_some kind (b ∷ l) h e = rw e (omega arith)

-- a byte of a run
pub in_run : (kind : ℕ → Bool) (l : List ℕ) (i : ℕ) → i < leading kind l → kind (get_or l i 0) ≡ true
unfolding leading choose
in_run kind [] i h = absurd (omega arith)
in_run kind (b ∷ l) i h = go (kind b) refl i h (in_run kind l)
  where
    go : (z : Bool) → kind b ≡ z → (i : ℕ) → i < choose z (suc (leading kind l)) 0 → ((j : ℕ) → j < leading kind l → kind (get_or l j 0) ≡ true) →
        kind (get_or (b ∷ l) i 0) ≡ true
    go true q zero h f = q
    go true q (suc i) h f = f i (omega arith)
    go false q i h f = absurd (omega arith)

-- the byte behind it, where there is one
pub run_there : (kind : ℕ → Bool) (l : List ℕ) → leading kind l < length l → kind (get_or l (leading kind l) 0) ≡ false
unfolding leading choose
run_there kind [] h = absurd (omega arith)
run_there kind (b ∷ l) h = go (kind b) refl (run_there kind l) h
  where
    go : (x : Bool) → kind b ≡ x → (leading kind l < length l → kind (get_or l (leading kind l) 0) ≡ false) → choose x (suc (leading kind l)) 0 < suc (length l) →
        kind (get_or (b ∷ l) (choose x (suc (leading kind l)) 0) 0) ≡ false
    go true q f h = f (omega arith)
    go false q f h = q

-- whatever no byte that ends the run is, the byte behind it is not
pub run_stops : (kind other : ℕ → Bool) → other 0 ≡ false → ((b : ℕ) → kind b ≡ false → other b ≡ false) → (l : List ℕ) →
    other (get_or l (leading kind l) 0) ≡ false
unfolding leading choose
run_stops kind other z f [] = z
run_stops kind other z f (b ∷ l) = go (kind b) refl (run_stops kind other z f l)
  where
    go : (x : Bool) → kind b ≡ x → other (get_or l (leading kind l) 0) ≡ false → other (get_or (b ∷ l) (choose x (suc (leading kind l)) 0) 0) ≡ false
    go true q on = on
    go false q on = f b q

-- the invariant of a loop that counts a run: n bytes of it are passed
pub record Counting (kind : ℕ → Bool) (l : List ℕ) (n : ℕ) : Type 0 where
  pub low : n ≤ length l
  pub rest : n + leading kind (drop n l) ≡ leading kind l

pub start : (kind : ℕ → Bool) (l : List ℕ) → Counting kind l 0
start kind l = record { low = omega arith; rest = zero-add (leading kind l) }

module _ {kind : ℕ → Bool} {l : List ℕ} {n : ℕ} (i : Counting kind l n) where
  pub turn : n < length l → kind (get_or l n 0) ≡ true → Counting kind l (n + 1)
  turn h e =
      let k : drop (n + 1) l ≡ drop (suc n) l = ap (λ (m : ℕ). drop m l) (add-one n) in
      let s : leading kind (drop (n + 1) l) ≡ leading kind (drop (suc n) l) = ap (leading kind) k in
      record { low = omega arith; rest = omega (arith, run_on kind l n h e, i.rest) }

  pub stopped : n < length l → kind (get_or l n 0) ≡ false → n ≡ leading kind l
  stopped h e = omega (arith, run_ends kind l n h e, i.rest)

  pub ended : length l ≤ n → n ≡ leading kind l
  ended h = omega (arith, run_none kind l n h, i.rest)

-- a run that is passed to its last byte, before an end: what is passed and what is left of it there make up the whole
pub run_passed : {kind : ℕ → Bool} {l : List ℕ} {from end r : ℕ} (n : ℕ) → end ≡ from + n → end ≤ length l → Passed kind l from end 1 r →
    r ≡ from + leading kind (drop from (take end l))
run_passed {kind} {l} {from} {end} {r} zero h k p =
    omega (arith, passed_none p (omega arith), run_none kind (take end l) from (omega (arith, length-take end l)))
run_passed {kind} {l} {from} {end} {r} (suc n) h k p = go (kind (get_or l from 0)) refl (λ q. run_passed {from = from + 1} n (omega arith) k q)
  where
    inside : from < length (take end l)
    inside = omega (arith, length-take end l)

    same : kind (get_or (take end l) from 0) ≡ kind (get_or l from 0)
    same = ap kind (get_or-take end l from 0 (omega arith))

    go : (z : Bool) → kind (get_or l from 0) ≡ z → (Passed kind l (from + 1) end 1 r → r ≡ from + 1 + leading kind (drop (from + 1) (take end l))) →
        r ≡ from + leading kind (drop from (take end l))
    go true e f =
        let d : leading kind (drop (from + 1) (take end l)) ≡ leading kind (drop (suc from) (take end l)) = ap (λ (m : ℕ). leading kind (drop m (take end l))) (add-one from) in
        omega (arith, d, run_on kind (take end l) from inside (same ∙ e), f (passed_next p (omega arith) e))
    go false e f = omega (arith, run_ends kind (take end l) from inside (same ∙ e), passed_here p e)

pub front_passed : {kind : ℕ → Bool} {l : List ℕ} {end r : ℕ} → end ≤ length l → Passed kind l 0 end 1 r → r ≡ leading kind (take end l)
front_passed {end = end} k p = omega (arith, run_passed end (omega arith) k p)
