-- Spaces and tabs counted in columns, up to a maximum: what is taken of one byte, of a stretch of one, and so by the loop over stretches; and the laws of
-- specs/Columns.antt on what is taken and on tabs.
-- Assumes nothing.
use mathlib.Core.Path.{◌≡◌, refl, sym, ap, subst, ◌∙◌}
use mathlib.Core.Bool.{Bool, true, false, ◌||◌}
use mathlib.Core.Logic.{◌⊎◌, inl, inr, ⊎_elim}
use mathlib.Core.List.{List, [], ◌∷◌, ◌++◌}
use Prim.Native.Nat.{ℕ, zero, suc, ◌+◌, ◌-◌, ◌*◌, ◌≤◌, ◌<◌}
use native.Mathlib.Nat.{add-zero}
use native.Mathlib.Omega.{arith}
use lib.ListN.{length, get_or, take, drop, length-drop, get_or-eq_default}
use lib.Seq.{drop-drop, get_or-drop}
use lib.Dec.{eqb, leb}
use borrow.Author.Tests.{eq-eqb, ne_eqb, eqb-true, eqb-false, le-leb, lt-leb, leb-true, leb-false}
use Rattle.record.specs.Choice.{choose}
use Rattle.record.specs.Stretch.{of_kind, AllAre, Passed}
use Rattle.record.proofs.Stretch.{all_join}
use Rattle.record.proofs.Bools.{clash, and_left, and_right}
use Rattle.scan.specs.Run.{or, space_or_tab, every, same}
use Rattle.scan.specs.Columns.{to_stop, width, columns, nothing, behind, cut, reach, ReachTo, ReachCounted, TabWidths, EndsOnStop, EveryFour, GoesOn, GoingOn}
use Rattle.scan.specs.declared.columns.Reach.{Reach}

-- either of a byte and itself
pub one_only : (what b : ℕ) → of_kind (record { one = what; other = what; within = true }) b ≡ same what b
unfolding of_kind same choose
one_only what b = go (eqb b what)
  where
    go : (z : Bool) → (z || z) ≡ z
    go true = refl
    go false = refl

pub is_same : (what b : ℕ) → b ≡ what → same what b ≡ true
unfolding same
is_same what b e = eq-eqb _ _ e

pub not_same : (what b : ℕ) → (b ≡ what → ⊥) → same what b ≡ false
unfolding same
not_same what b n = ne_eqb _ _ n

-- bytes of a kind that are passed one by one, until one is of another, or to the end, or to where blocks go on
module _ {kind : ℕ → Bool} {s : List ℕ} where
  pub all_more : {from at : ℕ} → AllAre kind s from at → kind (get_or s at 0) ≡ true → AllAre kind s from (at + 1)
  all_more {from} {at} f e = all_join f (record { each = λ p l k. let z : p ≡ at = omega arith in rw z e })

  pub passed_stop : {from end at : ℕ} → from ≤ at → at ≤ end → AllAre kind s from at → kind (get_or s at 0) ≡ false → Passed kind s from end 1 at
  passed_stop {at = at} l h f e = record { low = l; high = h; before = f; stops = λ k g. clash (g.each at (omega arith) (omega arith)) e }

  pub passed_end : {from end at : ℕ} → from ≤ at → at ≡ end → AllAre kind s from at → Passed kind s from end 1 at
  passed_end l h f = record { low = l; high = omega arith; before = f; stops = λ k g. omega arith }

  pub passed_before : {from at end r : ℕ} → from ≤ at → AllAre kind s from at → Passed kind s at end 1 r → Passed kind s from end 1 r
  passed_before l f p = let h = p.low in record { low = omega arith; high = p.high; before = all_join f p.before; stops = p.stops }

-- how wide a space or a tab is
module _ (c b : ℕ) where
  pub width_tab : b ≡ 9 → width c b ≡ to_stop c
  unfolding width choose
  width_tab e = rw (eq-eqb _ _ e)

  pub width_space : (b ≡ 9 → ⊥) → width c b ≡ 1
  unfolding width choose
  width_space n = rw (ne_eqb _ _ n)

  pub width_most : width c b ≤ 4
  width_most = go (eqb b 9) refl
    where
      go : (z : Bool) → eqb b 9 ≡ z → width c b ≤ 4
      go true q = omega (arith, width_tab (eqb-true _ _ q))
      go false q = omega (arith, width_space (eqb-false _ _ q))

  pub width_least : 1 ≤ width c b
  width_least = go (eqb b 9) refl
    where
      go : (z : Bool) → eqb b 9 ≡ z → 1 ≤ width c b
      go true q = omega (arith, width_tab (eqb-true _ _ q))
      go false q = omega (arith, width_space (eqb-false _ _ q))

  pub width_small : (w : ℕ) → w ≡ width c b → w ≤ 4
  width_small w e = omega (arith, width_most)

  -- only a tab is wider than one column
  wide_tab : 1 < width c b → b ≡ 9
  wide_tab h = go (eqb b 9) refl
    where
      go : (z : Bool) → eqb b 9 ≡ z → b ≡ 9
      go true q = eqb-true _ _ q
      go false q = absurd (omega (arith, width_space (eqb-false _ _ q)))

-- what is taken, number by number
pub reach_is : {n n' k k' d d' : ℕ} → n ≡ n' → k ≡ k' → d ≡ d' →
    ◌≡◌ {A = Reach} (record { bytes = n; columns = k; left = d }) (record { bytes = n'; columns = k'; left = d' })
reach_is p q r = cc

behind_nothing : (n k : ℕ) → record { bytes = n; columns = k; left = 0 } ≡ behind n k nothing
behind_nothing n k = reach_is (omega arith) (omega arith) refl

behind_behind : (n k n' k' : ℕ) (r : Reach) → behind n k (behind n' k' r) ≡ behind (n + n') (k + k') r
behind_behind n k n' k' r = reach_is (omega arith) (omega arith) refl

behind_none : (r : Reach) → behind 0 0 r ≡ r
behind_none r = reach_is (omega arith) (omega arith) refl

-- the same of equals
pub behind_at : (n n' k k' : ℕ) (r r' : Reach) → n ≡ n' → k ≡ k' → r ≡ r' → behind n k r ≡ behind n' k' r'
behind_at n n' k k' r r' p q e = cc

pub reach_at : {m m' c c' : ℕ} {l l' : List ℕ} → m ≡ m' → c ≡ c' → l ≡ l' → reach m c l ≡ reach m' c' l'
reach_at p q r = cc

width_same : {c c' b b' : ℕ} → c ≡ c' → b ≡ b' → width c b ≡ width c' b'
width_same p q = cc

cut_same : {max max' w w' : ℕ} → max ≡ max' → w ≡ w' → cut max w ≡ cut max' w'
cut_same p q = cc

columns_same : {c c' : ℕ} {l l' : List ℕ} → c ≡ c' → l ≡ l' → columns c l ≡ columns c' l'
columns_same p q = cc

-- a space or tab of which not all columns may be taken: none of them, or some
cut_none : (max w : ℕ) → max ≡ 0 → cut max w ≡ nothing
unfolding cut choose
cut_none max w e = rw (eq-eqb _ _ e)

cut_some : (max w : ℕ) → 0 < max → cut max w ≡ record { bytes = 0; columns = max; left = w - max }
unfolding cut choose
cut_some max w h = let n : max ≡ 0 → ⊥ = λ e. omega arith in rw (ne_eqb _ _ n)

pub cut_full : (n k max next : ℕ) → k ≡ max → record { bytes = n; columns = k; left = 0 } ≡ behind n k (cut (max - k) (next - k))
cut_full n k max next e = behind_nothing n k ∙ ap (behind n k) (sym (cut_none (max - k) (next - k) (omega arith)))

pub cut_part : (n k max next : ℕ) → k < max → max < next → record { bytes = n; columns = max; left = next - max } ≡ behind n k (cut (max - k) (next - k))
cut_part n k max next h l =
    reach_is (omega arith) (omega arith) (omega arith) ∙ ap (behind n k) (sym (cut_some (max - k) (next - k) (omega arith)))

pub no_byte : space_or_tab 0 ≡ false
unfolding space_or_tab or
no_byte = refl

-- the first byte: nothing of it is taken, or some of a tab, or all of it
pub first_none : (max c : ℕ) (l : List ℕ) → space_or_tab (get_or l 0 0) ≡ false → reach max c l ≡ nothing
unfolding reach choose
first_none max c [] e = refl
first_none max c (b ∷ l) e = rw e

first_cut : (max c : ℕ) (l : List ℕ) → 0 < length l → space_or_tab (get_or l 0 0) ≡ true → max < width c (get_or l 0 0) →
    reach max c l ≡ cut max (width c (get_or l 0 0))
unfolding reach choose
first_cut max c [] z e h = absurd (omega arith)
first_cut max c (b ∷ l) z e h = rw (e, lt-leb _ _ h)

pub first_whole : (max c : ℕ) (l : List ℕ) → 0 < length l → space_or_tab (get_or l 0 0) ≡ true → width c (get_or l 0 0) ≤ max →
    reach max c l ≡ behind 1 (width c (get_or l 0 0)) (reach (max - width c (get_or l 0 0)) (c + width c (get_or l 0 0)) (drop 1 l))
unfolding reach choose
first_whole max c [] z e h = absurd (omega arith)
first_whole max c (b ∷ l) z e h = rw (e, le-leb _ _ h)

reach_none : (max c : ℕ) (l : List ℕ) → max ≡ 0 → reach max c l ≡ nothing
reach_none max c l z = go (space_or_tab (get_or l 0 0)) refl
  where
    go : (x : Bool) → space_or_tab (get_or l 0 0) ≡ x → reach max c l ≡ nothing
    go true e =
        first_cut max c l (there l e) e (omega (arith, width_least c (get_or l 0 0))) ∙
        cut_none max (width c (get_or l 0 0)) z
      where
        there : (l : List ℕ) → space_or_tab (get_or l 0 0) ≡ true → 0 < length l
        there [] q = absurd (clash q no_byte)
        there (b ∷ l) q = omega arith
    go false e = first_none max c l e

a_space : (b : ℕ) → b ≡ 32 → space_or_tab b ≡ true
unfolding space_or_tab or
a_space b e = rw e

pub neither_one : (b : ℕ) → (b ≡ 32 → ⊥) → (b ≡ 9 → ⊥) → space_or_tab b ≡ false
unfolding space_or_tab or
neither_one b n m = rw (ne_eqb _ _ n, ne_eqb _ _ m)

-- a stretch of one byte, which has the same width at each place of it
module _ (b w : ℕ) (blank : space_or_tab b ≡ true) where
  stretch : (n max c : ℕ) (l : List ℕ) → n ≤ length l → ((p : ℕ) → p < n → get_or l p 0 ≡ b) → ((i : ℕ) → width (c + i * w) b ≡ w) → n * w ≤ max →
      reach max c l ≡ behind n (n * w) (reach (max - n * w) (c + n * w) (drop n l))
  stretch zero max c l h f s m =
      sym (behind_none (reach max c l)) ∙ behind_at _ _ _ _ _ _ refl (omega arith) (reach_at (omega arith) (omega arith) refl)
  stretch (suc n) max c [] h f s m = absurd (omega arith)
  stretch (suc n) max c (x ∷ l) h f s m =
      let e : x ≡ b = f 0 (omega arith) in
      let v : width c x ≡ w = width_same (omega arith) e ∙ s 0 in
      first_whole max c (x ∷ l) (omega arith) (ap space_or_tab e ∙ blank) (omega arith) ∙
      behind_at _ _ _ _ _ _ refl v
      (reach_at (omega arith) (omega arith) refl ∙
      stretch n (max - w) (c + w) l (omega arith) (λ p k. f (suc p) (omega arith)) (λ i. width_same (omega arith) refl ∙ s (suc i)) (omega arith)) ∙
      behind_behind 1 w n (n * w) _ ∙
      behind_at _ _ _ _ _ _ (omega arith) (omega arith) (reach_at (omega arith) (omega arith) refl)

-- the invariant of the loop over stretches: n bytes of k columns are passed, and what is taken behind them makes up the whole
pub record Reaching (max c : ℕ) (l : List ℕ) (n k : ℕ) : Type 0 where
  pub low : n ≤ length l
  pub room : k ≤ max
  pub wide : k ≤ 4 * n
  pub rest : reach max c l ≡ behind n k (reach (max - k) (c + k) (drop n l))

pub start : (max c : ℕ) (l : List ℕ) → Reaching max c l 0 0
start max c l =
    record {
      low = omega arith;
      room = omega arith;
      wide = omega arith;
      rest = sym (behind_none (reach max c l)) ∙ ap (behind 0 0) (reach_at (omega arith) (omega arith) refl);
    }

module _ {max c : ℕ} {l : List ℕ} {n k : ℕ} (i : Reaching max c l n k) where
  here : get_or (drop n l) 0 0 ≡ get_or l n 0
  here = get_or-drop n l 0 0 ∙ ap (λ (m : ℕ). get_or l m 0) (add-zero n)

  there : n < length l → 0 < length (drop n l)
  there h = omega (arith, length-drop n l)

  -- nothing more is taken
  pub stopped : space_or_tab (get_or l n 0) ≡ false → record { bytes = n; columns = k; left = 0 } ≡ reach max c l
  stopped e = behind_nothing n k ∙ ap (behind n k) (sym (first_none (max - k) (c + k) (drop n l) (ap space_or_tab here ∙ e))) ∙ sym i.rest

  pub ended : length l ≤ n → record { bytes = n; columns = k; left = 0 } ≡ reach max c l
  unfolding space_or_tab or
  ended h = stopped (ap space_or_tab (get_or-eq_default l 0 h))

  -- only some of what stands here is taken
  pub cuts : (w : ℕ) → w ≡ width (c + k) (get_or l n 0) → n < length l → space_or_tab (get_or l n 0) ≡ true → max < k + w →
      behind n k (cut (max - k) (k + w - k)) ≡ reach max c l
  cuts w v h e m =
      let s : width (c + k) (get_or (drop n l) 0 0) ≡ w = width_same refl here ∙ sym v in
      let r = i.room in
      ap (behind n k) (cut_same refl (omega arith) ∙ sym (first_cut (max - k) (c + k) (drop n l) (there h) (ap space_or_tab here ∙ e) (omega arith))) ∙
      sym i.rest

  -- d more bytes of j columns are passed
  on : (d j : ℕ) → n + d ≤ length l → k + j ≤ max → j ≤ 4 * d →
      reach (max - k) (c + k) (drop n l) ≡ behind d j (reach (max - k - j) (c + k + j) (drop d (drop n l))) → Reaching max c l (n + d) (k + j)
  on d j h m q e =
      let a = i.wide in
      record {
        low = h;
        room = m;
        wide = omega arith;
        rest =
            i.rest ∙ ap (behind n k) e ∙ behind_behind n k d j _ ∙
            ap (behind (n + d) (k + j)) (reach_at (omega arith) (omega arith) (drop-drop d n l));
      }

  -- a byte of any width
  one : (w : ℕ) → w ≡ width (c + k) (get_or l n 0) → n < length l → space_or_tab (get_or l n 0) ≡ true → k + w ≤ max → Reaching max c l (n + 1) (k + w)
  one w v h e m =
      let s : width (c + k) (get_or (drop n l) 0 0) ≡ w = width_same refl here ∙ sym v in
      on 1 w (omega arith) m (omega (arith, width_most (c + k) (get_or l n 0)))
      (first_whole (max - k) (c + k) (drop n l) (there h) (ap space_or_tab here ∙ e) (omega arith) ∙
      behind_at _ _ _ _ _ _ refl s (reach_at (omega arith) (omega arith) refl))

  -- no more may be taken
  pub full : max ≤ k → record { bytes = n; columns = k; left = 0 } ≡ reach max c l
  full h = behind_nothing n k ∙ ap (behind n k) (sym (reach_none (max - k) (c + k) (drop n l) (omega arith))) ∙ sym i.rest

  -- a stretch of one byte
  many : (b w d : ℕ) → space_or_tab b ≡ true → AllAre (same b) l n (n + d) → ((p : ℕ) → width (c + k + p * w) b ≡ w) → n + d ≤ length l → k + d * w ≤ max →
      d * w ≤ 4 * d → Reaching max c l (n + d) (k + d * w)
  unfolding same
  many b w d e f s h m q =
      on d (d * w) h m q
      (stretch b w e d (max - k) (c + k) (drop n l) (omega (arith, length-drop n l))
      (λ p z. get_or-drop n l p 0 ∙ eqb-true _ _ (f.each (n + p) (omega arith) (omega arith)))
      s
      (omega arith))

reaching_at : {max c : ℕ} {l : List ℕ} {n n' k k' : ℕ} → n ≡ n' → k ≡ k' → Reaching max c l n k → Reaching max c l n' k'
reaching_at {max} {c} {l} {n} {n'} {k} {k'} p q i = rw (← p, ← q) i

-- some spaces in front
pub spaces_passed : {max c : ℕ} {l : List ℕ} (n : ℕ) → n ≤ length l → n ≤ max → AllAre (same 32) l 0 n → Reaching max c l n n
spaces_passed {max} {c} {l} n h m f =
    reaching_at (omega arith) (omega arith)
    (many (start max c l) 32 1 n (a_space 32 refl) (all_at f) (λ p. width_space (c + 0 + p * 1) 32 (λ q. omega arith)) (omega arith) (omega arith) (omega arith))
  where
    all_at : AllAre (same 32) l 0 n → AllAre (same 32) l 0 (0 + n)
    all_at g = record { each = λ p k j. g.each p k (omega arith) }

-- no more bytes than there is room for have no more columns
pub spanned_fits : (b n r fit room : ℕ) → n ≤ fit → (b ≡ 9 → r ≡ 4 * n) × ((b ≡ 9 → ⊥) → r ≡ n) → (b ≡ 9 → 4 * fit ≤ room) × ((b ≡ 9 → ⊥) → fit ≤ room) →
    r ≤ room
spanned_fits b n r fit room h s f = go (eqb b 9) refl
  where
    go : (z : Bool) → eqb b 9 ≡ z → r ≤ room
    go true q = omega (arith, s.0 (eqb-true _ _ q), f.0 (eqb-true _ _ q))
    go false q = omega (arith, s.1 (eqb-false _ _ q), f.1 (eqb-false _ _ q))

-- a turn: a byte of any width, and what follows it of the same byte; behind a tab, which ends on a stop, each tab is 4 columns wide
module _ {max c : ℕ} {l : List ℕ} {n k : ℕ} (i : Reaching max c l n k) (h : n < length l) (blank : space_or_tab (get_or l n 0) ≡ true) where
  abbrev byte : ℕ
  byte = get_or l n 0

  pub turn : (w r to : ℕ) → w ≡ width (c + k) byte → AllAre (same byte) l (n + 1) to → n + 1 ≤ to → to ≤ length l →
      (byte ≡ 9 → r ≡ 4 * (to - (n + 1))) × ((byte ≡ 9 → ⊥) → r ≡ to - (n + 1)) → k + w + r ≤ max → Reaching max c l to (k + w + r)
  turn w r to v f a m s q = go (eqb byte 9) refl
    where
      back : n + 1 + (to - (n + 1)) ≡ to
      back = omega arith

      go : (z : Bool) → eqb byte 9 ≡ z → Reaching max c l to (k + w + r)
      go true z =
          let e : byte ≡ 9 = eqb-true _ _ z in
          let t : w ≡ to_stop (c + k) = v ∙ width_tab (c + k) byte e in
          let x : r ≡ 4 * (to - (n + 1)) = s.0 e in
          reaching_at back (omega arith)
          (many (one i w v h blank (omega arith)) byte 4 (to - (n + 1)) blank (rw back f)
          (λ p. width_tab (c + (k + w) + p * 4) byte e ∙ omega arith)
          (omega arith) (omega arith) (omega arith))
      go false z =
          let e : byte ≡ 9 → ⊥ = eqb-false _ _ z in
          let x : r ≡ to - (n + 1) = s.1 e in
          reaching_at back (omega arith)
          (many (one i w v h blank (omega arith)) byte 1 (to - (n + 1)) blank (rw back f)
          (λ p. width_space (c + (k + w) + p * 1) byte e)
          (omega arith) (omega arith) (omega arith))

-- What is taken, case by case: nothing, since no space or tab comes first or none may be taken; a byte, and what is taken behind it; or some of a tab.
-- So a law of it has three cases
module _ (P : ℕ → ℕ → List ℕ → Reach → Type 0)
    (none : (m c : ℕ) (l : List ℕ) → (space_or_tab (get_or l 0 0) ≡ false) ⊎ (m ≡ 0) → P m c l nothing)
    (whole : (m c b : ℕ) (l : List ℕ) (r : Reach) → space_or_tab b ≡ true → width c b ≤ m → P (m - width c b) (c + width c b) l r →
    P m c (b ∷ l) (behind 1 (width c b) r))
    (part : (m c b : ℕ) (l : List ℕ) → b ≡ 9 → 0 < m → m < to_stop c → P m c (b ∷ l) (record { bytes = 0; columns = m; left = to_stop c - m }))
  where
    pub by_cases : (m c : ℕ) (l : List ℕ) → P m c l (reach m c l)
    unfolding reach space_or_tab or
    by_cases m c [] = none m c [] (inl refl)
    by_cases m c (b ∷ l) = go (space_or_tab b) refl (leb (width c b) m) refl (eqb m 0) refl (by_cases (m - width c b) (c + width c b) l)
      where
        go : (x : Bool) → space_or_tab b ≡ x → (y : Bool) → leb (width c b) m ≡ y → (z : Bool) → eqb m 0 ≡ z →
            P (m - width c b) (c + width c b) l (reach (m - width c b) (c + width c b) l) → P m c (b ∷ l) (reach m c (b ∷ l))
        go false e y q z t f = subst (P m c (b ∷ l)) (sym (first_none m c (b ∷ l) e)) (none m c (b ∷ l) (inl e))
        go true e true q z t f = subst (P m c (b ∷ l)) (sym (first_whole m c (b ∷ l) (omega arith) e (leb-true _ _ q))) (whole m c b l _ e (leb-true _ _ q) f)
        go true e false q true t f =
            subst (P m c (b ∷ l)) (sym (first_cut m c (b ∷ l) (omega arith) e (leb-false _ _ q) ∙ cut_none m (width c b) (eqb-true _ _ t)))
            (none m c (b ∷ l) (inr (eqb-true _ _ t)))
        go true e false q false t f =
            let h : m < width c b = leb-false _ _ q in
            let s : 0 < m = omega (arith, eqb-false m 0 t) in
            let n : b ≡ 9 = wide_tab c b (omega arith) in
            let v : width c b ≡ to_stop c = width_tab c b n in
            subst (P m c (b ∷ l)) (sym (first_cut m c (b ∷ l) (omega arith) e h ∙ cut_same refl v ∙ cut_some m (to_stop c) s))
            (part m c b l n s (omega arith))

-- the columns, byte by byte
pub columns_empty : (c : ℕ) → columns c [] ≡ 0
unfolding columns
columns_empty c = refl

pub columns_none : (c : ℕ) (l : List ℕ) → space_or_tab (get_or l 0 0) ≡ false → columns c l ≡ 0
unfolding columns choose
columns_none c [] e = refl
columns_none c (b ∷ l) e = rw e

pub columns_on : (c b : ℕ) (l : List ℕ) → space_or_tab b ≡ true → columns c (b ∷ l) ≡ width c b + columns (c + width c b) l
unfolding columns choose
columns_on c b l e = rw e

pub tab_blank : (b : ℕ) → b ≡ 9 → space_or_tab b ≡ true
unfolding space_or_tab or
tab_blank b e = rw e

-- behind the first byte
one_more : (n : ℕ) → 1 + n ≡ suc n
one_more n = omega arith

drop_more : (n b : ℕ) (l : List ℕ) → drop (1 + n) (b ∷ l) ≡ drop n l
drop_more n b l = rw (one_more n)

take_more : (n b : ℕ) (l : List ℕ) → take (1 + n) (b ∷ l) ≡ b ∷ take n l
take_more n b l = rw (one_more n)

get_d_more : (n b : ℕ) (l : List ℕ) → get_or (b ∷ l) (1 + n) 0 ≡ get_or l n 0
get_d_more n b l = rw (one_more n)

blank_more : (n b : ℕ) (l : List ℕ) → space_or_tab b ≡ true → ((p : ℕ) → p < n → space_or_tab (get_or l p 0) ≡ true) →
    (p : ℕ) → p < 1 + n → space_or_tab (get_or (b ∷ l) p 0) ≡ true
blank_more n b l e f zero h = e
blank_more n b l e f (suc p) h = f p (omega arith)

-- the tabs
pub tab_widths : TabWidths
tab_widths c = record { least = omega arith; most = omega arith; to_a_stop = omega arith; inside = λ k h. omega arith }

-- four columns further on
width_four : (c b : ℕ) → width (c + 4) b ≡ width c b
width_four c b = go (eqb b 9) refl
  where
    go : (z : Bool) → eqb b 9 ≡ z → width (c + 4) b ≡ width c b
    go true q = width_tab (c + 4) b (eqb-true _ _ q) ∙ omega (arith, width_tab c b (eqb-true _ _ q))
    go false q = width_space (c + 4) b (eqb-false _ _ q) ∙ sym (width_space c b (eqb-false _ _ q))

reach_four : (max c : ℕ) (l : List ℕ) → reach max (c + 4) l ≡ reach max c l
reach_four max c [] = first_none max (c + 4) [] no_byte ∙ sym (first_none max c [] no_byte)
reach_four max c (b ∷ l) = go (space_or_tab b) refl (leb (width c b) max) refl (reach_four (max - width c b) (c + width c b) l)
  where
    same_width : width (c + 4) b ≡ width c b
    same_width = width_four c b

    go : (x : Bool) → space_or_tab b ≡ x → (y : Bool) → leb (width c b) max ≡ y →
        reach (max - width c b) (c + width c b + 4) l ≡ reach (max - width c b) (c + width c b) l → reach max (c + 4) (b ∷ l) ≡ reach max c (b ∷ l)
    go false e y q f = first_none max (c + 4) (b ∷ l) e ∙ sym (first_none max c (b ∷ l) e)
    go true e true q f =
        let h : width c b ≤ max = leb-true _ _ q in
        first_whole max (c + 4) (b ∷ l) (omega arith) e (omega (arith, same_width)) ∙
        behind_at _ _ _ _ _ _ refl same_width (reach_at (omega (arith, same_width)) (omega (arith, same_width)) refl ∙ f) ∙
        sym (first_whole max c (b ∷ l) (omega arith) e h)
    go true e false q f =
        let h : max < width c b = leb-false _ _ q in
        first_cut max (c + 4) (b ∷ l) (omega arith) e (omega (arith, same_width)) ∙
        cut_same refl same_width ∙
        sym (first_cut max c (b ∷ l) (omega arith) e h)

columns_four : (c : ℕ) (l : List ℕ) → columns (c + 4) l ≡ columns c l
columns_four c [] = columns_empty (c + 4) ∙ sym (columns_empty c)
columns_four c (b ∷ l) = go (space_or_tab b) refl (columns_four (c + width c b) l)
  where
    go : (x : Bool) → space_or_tab b ≡ x → columns (c + width c b + 4) l ≡ columns (c + width c b) l → columns (c + 4) (b ∷ l) ≡ columns c (b ∷ l)
    go false e f = columns_none (c + 4) (b ∷ l) e ∙ sym (columns_none c (b ∷ l) e)
    go true e f =
        let s : columns (c + 4 + width (c + 4) b) l ≡ columns (c + width c b + 4) l = columns_same (omega (arith, width_four c b)) refl in
        omega (arith, columns_on (c + 4) b l e, columns_on c b l e, width_four c b)

pub every_four : EveryFour
every_four max c l = (reach_four max c l, columns_four c l)

pub ends_on_stop : EndsOnStop
unfolding every
ends_on_stop c [] e = omega (arith, columns_on c 9 [] (tab_blank 9 refl), columns_empty (c + width c 9), width_tab c 9 refl)
ends_on_stop c (b ∷ l) e =
    let h = columns_on c b (l ++ (9 ∷ [])) (and_left _ _ e) in
    omega (arith, ends_on_stop (c + width c b) l (and_right _ _ e))

-- going on, case by case; from inside a tab there are the columns left of it, so that it is whole or cut the second time as it would have been at one go
goes_none : (m c : ℕ) (l : List ℕ) → (space_or_tab (get_or l 0 0) ≡ false) ⊎ (m ≡ 0) → GoesOn c l m nothing
goes_none m c l e =
    record {
      left_over = λ h. absurd (omega arith);
      all = let s : columns (c + 0) l ≡ columns c l = columns_same (omega arith) refl in omega arith;
      more = λ n h. ⊎_elim (stays n) (λ z. reach_at (omega arith) (omega arith) refl ∙ sym (behind_none (reach n (c + 0) l))) e;
    }
  where
    stays : (n : ℕ) → space_or_tab (get_or l 0 0) ≡ false → reach (m + n) c l ≡ behind 0 0 (reach n (c + 0) l)
    stays n z = first_none (m + n) c l z ∙ sym (first_none n (c + 0) l z) ∙ sym (behind_none (reach n (c + 0) l))

goes_whole : (m c b : ℕ) (l : List ℕ) (r : Reach) → space_or_tab b ≡ true → width c b ≤ m → GoesOn (c + width c b) l (m - width c b) r →
    GoesOn c (b ∷ l) m (behind 1 (width c b) r)
goes_whole m c b l r e h g =
    record {
      left_over = λ k. let z : c + (width c b + r.columns) ≡ c + width c b + r.columns = omega arith in ap to_stop z ∙ g.left_over k;
      all = omega (arith, columns_on c b l e, g.all, behind_both);
      more = λ n k.
          first_whole (m + n) c (b ∷ l) (omega arith) e (omega arith) ∙
          ap (behind 1 (width c b)) (reach_at (omega arith) refl refl ∙ g.more n k) ∙
          behind_behind 1 (width c b) r.bytes r.columns _ ∙
          ap (behind (1 + r.bytes) (width c b + r.columns)) (reach_at refl (omega arith) (sym (drop_more r.bytes b l)));
    }
  where
    behind_both : columns (c + (width c b + r.columns)) (drop (1 + r.bytes) (b ∷ l)) ≡ columns (c + width c b + r.columns) (drop r.bytes l)
    behind_both = columns_same (omega arith) (drop_more r.bytes b l)

goes_part : (m c b : ℕ) (l : List ℕ) → b ≡ 9 → 0 < m → m < to_stop c → GoesOn c (b ∷ l) m (record { bytes = 0; columns = m; left = to_stop c - m })
goes_part m c b l e z h =
    record {
      left_over = λ k. (tab_widths c).inside m h;
      all =
          let s : columns (c + m + width (c + m) b) l ≡ columns (c + width c b) l = columns_same (omega (arith, here, inside)) refl in
          omega (arith, here, inside, columns_on c b l (tab_blank b e), columns_on (c + m) b l (tab_blank b e));
      more = λ n k. go n k (leb (width c b) (m + n)) refl;
    }
  where
    here : width c b ≡ to_stop c
    here = width_tab c b e

    inside : width (c + m) b ≡ to_stop c - m
    inside = width_tab (c + m) b e ∙ (tab_widths c).inside m h

    go : (n : ℕ) → 1 ≤ n → (y : Bool) → leb (width c b) (m + n) ≡ y → reach (m + n) c (b ∷ l) ≡ behind 0 m (reach n (c + m) (b ∷ l))
    go n k true q =
        let w : width c b ≤ m + n = leb-true _ _ q in
        first_whole (m + n) c (b ∷ l) (omega arith) (tab_blank b e) w ∙
        behind_at _ _ _ _ _ _ refl (omega (arith, here, inside)) (reach_at (omega (arith, here, inside)) (omega (arith, here, inside)) refl) ∙
        sym (behind_behind 0 m 1 (width (c + m) b) _) ∙
        ap (behind 0 m) (sym (first_whole n (c + m) (b ∷ l) (omega arith) (tab_blank b e) (omega (arith, here, inside))))
    go n k false q =
        let w : m + n < width c b = leb-false _ _ q in
        first_cut (m + n) c (b ∷ l) (omega arith) (tab_blank b e) w ∙
        cut_some (m + n) (width c b) (omega arith) ∙
        reach_is refl refl (omega (arith, here, inside)) ∙
        ap (behind 0 m) (sym (first_cut n (c + m) (b ∷ l) (omega arith) (tab_blank b e) (omega (arith, here, inside)) ∙ cut_some n (width (c + m) b) k))

pub going_on : GoingOn
going_on = by_cases (λ m c l r. GoesOn c l m r) goes_none goes_whole goes_part

-- by places, case by case
counted_none : (m c : ℕ) (l : List ℕ) → (space_or_tab (get_or l 0 0) ≡ false) ⊎ (m ≡ 0) → ReachTo m c l nothing
counted_none m c l e =
    record {
      within = omega arith;
      before = λ p h. absurd (omega arith);
      at_most = omega arith;
      there = omega arith;
      reached = ⊎_elim (λ z. inr (sym (columns_none c l z))) (λ z. inl (sym z)) e;
      whole = λ h. sym (columns_empty c);
      tab_cut = λ h. absurd (omega arith);
      parted = λ h. absurd (omega arith);
    }

counted_whole : (m c b : ℕ) (l : List ℕ) (r : Reach) → space_or_tab b ≡ true → width c b ≤ m → ReachTo (m - width c b) (c + width c b) l r →
    ReachTo m c (b ∷ l) (behind 1 (width c b) r)
counted_whole m c b l r e h g =
    record {
      within = omega (arith, g.within);
      before = blank_more r.bytes b l e g.before;
      at_most = omega (arith, g.at_most);
      there = omega (arith, g.there, on);
      reached = ⊎_elim (λ z. inl (omega arith)) (λ z. inr (omega (arith, on))) g.reached;
      whole = λ z. omega (arith, g.whole z, front);
      tab_cut = λ z. (get_d_more r.bytes b l ∙ (g.tab_cut z).0, omega (arith, (g.tab_cut z).1));
      parted = λ z. (omega (arith, (g.parted z).0, front), omega (arith, (g.parted z).1, front));
    }
  where
    on : columns c (b ∷ l) ≡ width c b + columns (c + width c b) l
    on = columns_on c b l e

    front : columns c (take (1 + r.bytes) (b ∷ l)) ≡ width c b + columns (c + width c b) (take r.bytes l)
    front = columns_same refl (take_more r.bytes b l) ∙ columns_on c b (take r.bytes l) e

counted_part : (m c b : ℕ) (l : List ℕ) → b ≡ 9 → 0 < m → m < to_stop c → ReachTo m c (b ∷ l) (record { bytes = 0; columns = m; left = to_stop c - m })
counted_part m c b l e z h =
    record {
      within = omega arith;
      before = λ p k. absurd (omega arith);
      at_most = omega arith;
      there = omega (arith, columns_on c b l (tab_blank b e), width_tab c b e);
      reached = inl refl;
      whole = λ k. absurd (omega arith);
      tab_cut = λ k. (e, omega arith);
      parted = λ k. (omega (arith, columns_empty c), omega (arith, columns_empty c));
    }

pub reach_counted : ReachCounted
reach_counted = by_cases ReachTo counted_none counted_whole counted_part
