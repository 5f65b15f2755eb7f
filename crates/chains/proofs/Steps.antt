-- The definition of the walk, step by step as the loops take them, over any rule; and what the loops keep.
--     down-end, down-hit, down-on             down a chain: it ends, its run is taken, or the search goes on to the next older
--     onward-end, onward-hit, onward-miss     onward over the runs
--     passed-sound                            links fall and numbers are in range after a run is passed
-- Assumes nothing.
use Prim.Native.Nat.{ℕ, zero, suc, ◌+◌, ◌-◌, ◌*◌, ◌<◌, ◌≤◌}
use mathlib.Core.Path.{◌≡◌, refl, ◌∙◌, sym, ap}
use mathlib.Core.List.{List}
use mathlib.Core.Bool.{Bool, true, false}
use native.Mathlib.Omega.{arith}
use lib.Dec.{eqb}
use lib.ListN.{length, get_or}
use borrow.Author.Tests.{eq-eqb, ne_eqb, eqb-true, eqb-false}
use Rattle.record.specs.Choice.{choose}
use Rattle.runs.specs.declared.Next.TheVariants.{Match, Done}
use Rattle.runs.specs.Rule.{Rule}
use Rattle.runs.specs.Plain.{hit, miss}
use Rattle.slots.specs.Words.{get16}
use Rattle.slots.specs.Layout.{link_of, head_of, chain_of, open_at, with_link, with_head, with_open_at}
use Rattle.slots.proofs.Laws.{Apart, Beside, length_put, get_put_same, word_after_word, byte_after_word}
use Rattle.chains.specs.Walk.{down, seek, first, takes_at, closing, opening, passed, raised, onward, Sound}
use Rattle.chains.proofs.Flags.{passed_on, passed_off, raised_on, raised_off}

-- links fall below n
abbrev pub Falls : List ℕ → ℕ → Type 0
Falls w n = (o : ℕ) → o < n → link_of w o ≤ o

-- one step down, its tests as arguments that rewriting finds
pub down_suc : (k : ℕ) (rule : Rule) (w : List ℕ) (i p t : ℕ)
    → down (suc k) rule w i p t
    ≡ choose (eqb p 0) (miss t) (choose (takes_at rule w (p - 1) i) (hit (p - 1) (t + 1)) (down k rule w i (link_of w (p - 1)) (t + 1)))
unfolding down
down_suc k rule w i p t = refl

pub down_zero : (rule : Rule) (w : List ℕ) (i p t : ℕ) → down zero rule w i p t ≡ miss t
unfolding down
down_zero rule w i p t = refl

module _ (rule : Rule) (w : List ℕ) (i n : ℕ) (falls : Falls w n) where
  -- at 0 the chain ends, whatever the steps left
  at_end : (k p t : ℕ) → p ≡ 0 → down k rule w i p t ≡ miss t
  unfolding choose
  at_end zero p t e = down_zero rule w i p t
  at_end (suc k) p t e = rw (down_suc, eq-eqb p 0 e)

  -- any number of steps from p on is enough
  enough : (k m p t : ℕ) → p ≤ k → p ≤ m → p ≤ n → down k rule w i p t ≡ down m rule w i p t
  enough zero m p t a b c = at_end zero p t (omega arith) ∙ sym (at_end m p t (omega arith))
  enough (suc k) zero p t a b c = at_end (suc k) p t (omega arith) ∙ sym (at_end zero p t (omega arith))
  enough (suc k) (suc m) p t a b c = go (enough k m) (eqb p 0) refl
    where
      go : ((q u : ℕ) → q ≤ k → q ≤ m → q ≤ n → down k rule w i q u ≡ down m rule w i q u)
          → (z : Bool) → eqb p 0 ≡ z → down (suc k) rule w i p t ≡ down (suc m) rule w i p t
      go ih true e = at_end (suc k) p t (eqb-true p 0 e) ∙ sym (at_end (suc m) p t (eqb-true p 0 e))
      go ih false e =
          let ne : p ≡ 0 → ⊥ = eqb-false p 0 e in
          let f : link_of w (p - 1) ≤ p - 1 = falls (p - 1) (omega arith) in
          simp (down_suc, ih (link_of w (p - 1)) (t + 1) (omega arith) (omega arith) (omega arith))

  -- the three ways on at p, a run's number plus 1 or 0
  pub down_end : (p t : ℕ) → p ≡ 0 → down p rule w i p t ≡ miss t
  down_end p t e = at_end p p t e

  pub down_hit : (p t : ℕ) → (p ≡ 0 → ⊥) → takes_at rule w (p - 1) i ≡ true → down p rule w i p t ≡ hit (p - 1) (t + 1)
  unfolding choose
  down_hit zero t ne e = absurd (ne refl)
  down_hit (suc o) t ne e = rw (down_suc, ne_eqb (suc o) 0 ne, e)

  pub down_on : (p t : ℕ) → (p ≡ 0 → ⊥) → p ≤ n → takes_at rule w (p - 1) i ≡ false
      → down p rule w i p t ≡ down (link_of w (p - 1)) rule w i (link_of w (p - 1)) (t + 1)
  unfolding choose
  down_on zero t ne l e = absurd (ne refl)
  down_on (suc o) t ne l e =
      let f : link_of w (suc o - 1) ≤ suc o - 1 = falls (suc o - 1) (omega arith) in
      rw (down_suc, ne_eqb (suc o) 0 ne, e) (enough o (link_of w (suc o - 1)) (link_of w (suc o - 1)) (t + 1) (omega arith) (omega arith) (omega arith))

-- the walk onward, a run at a time
module _ (rule : Rule) (w : List ℕ) (height n i t : ℕ) where
  pub onward_end : n ≤ i → onward (n - i) rule w height i t ≡ (Done t, (w, height))
  unfolding onward
  onward_end h = let e : n - i ≡ 0 = omega arith in rw e

  pub onward_hit : (o u : ℕ) → i < n → seek rule w i t ≡ hit o u → onward (n - i) rule w height i t ≡ (Match o i u, (w, height))
  unfolding onward
  onward_hit o u h l = let e : n - i ≡ suc (n - (i + 1)) = omega arith in rw (e, l)

  pub onward_miss : (u : ℕ) → i < n → seek rule w i t ≡ miss u
      → onward (n - i) rule w height i t ≡ onward (n - (i + 1)) rule (passed w height i) (raised w height i) (i + 1) u
  unfolding onward
  onward_miss u h l = let e : n - i ≡ suc (n - (i + 1)) = omega arith in rw (e, l)

-- what a run's own slot says of the search there
module _ (rule : Rule) (w : List ℕ) (i t : ℕ) where
  pub seek_closing : closing w i ≡ true → seek rule w i t ≡ down (first w i) rule w i (first w i) t
  unfolding seek choose
  seek_closing e = rw e

  pub seek_not : closing w i ≡ false → seek rule w i t ≡ miss t
  unfolding seek choose
  seek_not e = rw e

-- what a passed run changes: its link, its chain's head, and the place above the open runs
module _ (w : List ℕ) (height i : ℕ) (li : i < 1024) (lh : height < 1024) (lk : chain_of w i < 6147) (room : 38726 ≤ length w) where
  abbrev put1 : List ℕ
  put1 = with_link w i (first w i)

  abbrev put2 : List ℕ
  put2 = with_head put1 (chain_of w i) (i + 1)

  abbrev put3 : List ℕ
  put3 = with_open_at put2 height i

  len1 : length put1 ≡ length w
  len1 = length_put w (i * 16 + 10) (first w i)

  len2 : length put2 ≡ length w
  len2 = length_put put1 (16384 + chain_of w i * 2) (i + 1) ∙ len1

  pub passed_length : length (passed w height i) ≡ length w
  passed_length = go (opening w i) refl
    where
      go : (z : Bool) → opening w i ≡ z → length (passed w height i) ≡ length w
      go true e = rw (passed_on w height i e) (length_put put2 (28678 + height * 2) i ∙ len2)
      go false e = rw (passed_off w height i e)

  pub passed_word : (p : ℕ) → Apart p (i * 16 + 10) → Apart p (16384 + chain_of w i * 2) → Apart p (28678 + height * 2) → get16 (passed w height i) p ≡ get16 w p
  passed_word p a b c = go (opening w i) refl
    where
      go : (z : Bool) → opening w i ≡ z → get16 (passed w height i) p ≡ get16 w p
      go true e =
          rw (passed_on w height i e)
          (word_after_word put2 (28678 + height * 2) i p c ∙ word_after_word put1 (16384 + chain_of w i * 2) (i + 1) p b ∙ word_after_word w (i * 16 + 10) (first w i) p a)
      go false e = rw (passed_off w height i e)

  pub passed_byte : (p : ℕ) → Beside p (i * 16 + 10) → Beside p (16384 + chain_of w i * 2) → Beside p (28678 + height * 2) → get_or (passed w height i) p 0 ≡ get_or w p 0
  passed_byte p a b c = go (opening w i) refl
    where
      go : (z : Bool) → opening w i ≡ z → get_or (passed w height i) p 0 ≡ get_or w p 0
      go true e =
          rw (passed_on w height i e)
          (byte_after_word put2 (28678 + height * 2) i p c ∙ byte_after_word put1 (16384 + chain_of w i * 2) (i + 1) p b ∙ byte_after_word w (i * 16 + 10) (first w i) p a)
      go false e = rw (passed_off w height i e)

  -- links, heads and open runs then
  pub passed_link_same : opening w i ≡ true → link_of (passed w height i) i ≡ first w i
  passed_link_same e =
      rw (passed_on w height i e)
      (word_after_word put2 (28678 + height * 2) i (i * 16 + 10) (λ x y. omega arith) ∙ word_after_word put1 (16384 + chain_of w i * 2) (i + 1) (i * 16 + 10) (λ x y. omega arith)
      ∙ get_put_same w (i * 16 + 10) (first w i) (omega arith))

  pub passed_link_other : (j : ℕ) → j < 1024 → (j ≡ i → ⊥) → link_of (passed w height i) j ≡ link_of w j
  passed_link_other j h ne = passed_word (j * 16 + 10) (λ x y. ne (omega arith)) (λ x y. omega arith) (λ x y. omega arith)

  pub passed_head_same : opening w i ≡ true → head_of (passed w height i) (chain_of w i) ≡ i + 1
  passed_head_same e =
      rw (passed_on w height i e)
      (word_after_word put2 (28678 + height * 2) i (16384 + chain_of w i * 2) (λ x y. omega arith)
      ∙ get_put_same put1 (16384 + chain_of w i * 2) (i + 1) (omega (arith, len1)))

  pub passed_head_other : (k : ℕ) → k < 6147 → (opening w i ≡ true → chain_of w i ≡ k → ⊥) → head_of (passed w height i) k ≡ head_of w k
  passed_head_other k h ne = go (opening w i) refl
    where
      go : (z : Bool) → opening w i ≡ z → head_of (passed w height i) k ≡ head_of w k
      go false e = rw (passed_off w height i e)
      go true e = let q : chain_of w i ≡ k → ⊥ = ne e in passed_word (16384 + k * 2) (λ x y. omega arith) (λ x y. q (omega arith)) (λ x y. omega arith)

  pub passed_open_same : opening w i ≡ true → open_at (passed w height i) height ≡ i
  passed_open_same e = rw (passed_on w height i e) (get_put_same put2 (28678 + height * 2) i (omega (arith, len2)))

  pub passed_open_other : (x : ℕ) → x < 1024 → (x ≡ height → ⊥) → open_at (passed w height i) x ≡ open_at w x
  passed_open_other x h ne = passed_word (28678 + x * 2) (λ y z. omega arith) (λ y z. omega arith) (λ y z. ne (omega arith))

-- how high a run that is passed makes the open runs
pub raised_le : (w : List ℕ) (height i : ℕ) → raised w height i ≤ height + 1
raised_le w height i = go (opening w i) refl
  where
    go : (z : Bool) → opening w i ≡ z → raised w height i ≤ height + 1
    go true e = rw (raised_on w height i e) (omega arith)
    go false e = rw (raised_off w height i e) (omega arith)

-- links fall and numbers are in range after a run is passed, at the next run
module _ (w : List ℕ) (height n i : ℕ) (s : Sound w height n i) (l : i < n) where
  pub passed_sound : Sound (passed w height i) (raised w height i) n (i + 1)
  passed_sound =
      record {
        room = omega (arith, passed_length w height i li lh lk s.room, s.room);
        few = s.few;
        within = omega arith;
        links = fall;
        chains = λ j h. omega (arith, s.chains j h, s.few, passed_word w height i li lh lk s.room (j * 16 + 8) (λ x y. omega (arith, s.few)) (λ x y. omega (arith, s.few)) (λ x y. omega (arith, s.few)));
        heads = low;
        high = omega (arith, raised_le w height i, s.high);
      }
    where
      li : i < 1024
      li = omega (arith, s.few)

      lh : height < 1024
      lh = omega (arith, s.few, s.high)

      lk : chain_of w i < 6147
      lk = s.chains i l

      fall : (j : ℕ) → j < n → link_of (passed w height i) j ≤ j
      fall j h = go (opening w i) refl (eqb j i) refl
        where
          go : (y : Bool) → opening w i ≡ y → (z : Bool) → eqb j i ≡ z → link_of (passed w height i) j ≤ j
          go false o z e = rw (passed_off w height i o) (s.links j h)
          go true o true e = let q : j ≡ i = eqb-true j i e in rw q (omega (arith, passed_link_same w height i li lh lk s.room o, s.heads (chain_of w i) lk))
          go true o false e = let q : j ≡ i → ⊥ = eqb-false j i e in omega (arith, passed_link_other w height i li lh lk s.room j (omega (arith, s.few)) q, s.links j h)

      low : (k : ℕ) → k < 6147 → head_of (passed w height i) k ≤ i + 1
      low k h = go (opening w i) refl (eqb (chain_of w i) k) refl
        where
          go : (y : Bool) → opening w i ≡ y → (z : Bool) → eqb (chain_of w i) k ≡ z → head_of (passed w height i) k ≤ i + 1
          go false o z e = rw (passed_off w height i o) (omega (arith, s.heads k h))
          go true o true e = let q : chain_of w i ≡ k = eqb-true (chain_of w i) k e in rw (← q) (omega (arith, passed_head_same w height i li lh lk s.room o))
          go true o false e = let q : chain_of w i ≡ k → ⊥ = eqb-false (chain_of w i) k e in omega (arith, passed_head_other w height i li lh lk s.room k h (λ _ x. q x), s.heads k h)

-- what the loop over the closers keeps: the whole answer is the answer from here on
pub record Outer (rule : Rule) (w₀ : List ℕ) (height from n : ℕ) (w : List ℕ) (i held t : ℕ) : Type 0 where
  pub same : onward (n - from) rule w₀ height from 0 ≡ onward (n - i) rule w held i t
  pub sound : Sound w held n i
  pub count : t ≤ i * 1024
  pub len : length w ≡ length w₀

-- what the loop down a chain keeps: what the search finds is what it finds from p on
pub record Inner (rule : Rule) (w : List ℕ) (i t₀ p₀ t p : ℕ) : Type 0 where
  pub same : down p₀ rule w i p₀ t₀ ≡ down p rule w i p t
  pub low : p ≤ i
  pub count : t + p ≤ t₀ + i

-- the loop down a chain: its turn, and its two ends
module _ {rule : Rule} {w : List ℕ} {i n : ℕ} where
  pub inner_again : {t₀ p₀ t p o q : ℕ} → Inner rule w i t₀ p₀ t p → Falls w n → i < n → (1 ≤ p) × (o ≡ p - 1) → takes_at rule w o i ≡ false → q ≡ link_of w o →
      Inner rule w i t₀ p₀ (t + 1) q
  inner_again {t₀} {p₀} {t} {p} {o} {q} v falls l (ne, r) e f =
      let h : link_of w (p - 1) ≤ p - 1 = falls (p - 1) (omega (arith, v.low)) in
      let f' : q ≡ link_of w (p - 1) = rw (← r) f in
      record {
        same = v.same ∙ down_on rule w i n falls p t (λ z. omega arith) (omega (arith, v.low)) (rw (← r) e) ∙ ap (λ y. down y rule w i y (t + 1)) (sym f');
        low = omega (arith, v.low);
        count = omega (arith, v.count);
      }

  pub inner_found : {t₀ p₀ t p o : ℕ} → Inner rule w i t₀ p₀ t p → Falls w n → (1 ≤ p) × (o ≡ p - 1) → takes_at rule w o i ≡ true → closing w i ≡ true → p₀ ≡ first w i →
      seek rule w i t₀ ≡ hit o (t + 1)
  inner_found {t₀} {p₀} {t} {p} {o} v falls (ne, r) e c f =
      rw r
      (seek_closing rule w i t₀ c ∙ ap (λ y. down y rule w i y t₀) (sym f) ∙ v.same ∙ down_hit rule w i n falls p t (λ z. omega arith) (rw (← r) e))

  pub inner_none : {t₀ p₀ t p : ℕ} → Inner rule w i t₀ p₀ t p → Falls w n → (1 ≤ p → ⊥) → closing w i ≡ true → p₀ ≡ first w i → seek rule w i t₀ ≡ miss t
  inner_none {t₀} {p₀} {t} {p} v falls z c f =
      seek_closing rule w i t₀ c ∙ ap (λ y. down y rule w i y t₀) (sym f) ∙ v.same ∙ down_end rule w i n falls p t (omega (arith, z))

-- the loop over the runs: its turn, and its two ends
module _ {rule : Rule} {w₀ : List ℕ} {height from n : ℕ} where
  module _ {w : List ℕ} {i held t : ℕ} (o : Outer rule w₀ height from n w i held t) where
    pub outer_again : {u : ℕ} {v : List ℕ} {h : ℕ} → i < n → seek rule w i t ≡ miss u → u ≤ t + i → v ≡ passed w held i → h ≡ raised w held i → length v ≡ length w → Outer rule w₀ height from n v (i + 1) h u
    outer_again {u} {v} {h} l e b f g k =
        rw (f, g) (record {
          same = o.same ∙ onward_miss rule w held n i t u l e;
          sound = passed_sound w held n i o.sound l;
          count = omega (arith, o.count, o.sound.few);
          len = sym (ap length f) ∙ k ∙ o.len;
        })

    pub outer_end : n ≤ i → (Done t, (w, held)) ≡ onward (n - from) rule w₀ height from 0
    outer_end h = sym (o.same ∙ onward_end rule w held n i t h)

    pub outer_found : {p u : ℕ} → i < n → seek rule w i t ≡ hit p u → (Match p i u, (w, held)) ≡ onward (n - from) rule w₀ height from 0
    outer_found {p} {u} l e = sym (o.same ∙ onward_hit rule w held n i t p u l e)
