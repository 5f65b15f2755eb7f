-- A group is written down: the memory then holds one group more.
--     joined_word, joined-byte          what it keeps
--     last_opened_more, first_closed_more where a run's groups are, when one more is made
--     joined-grouped                    all of it
-- Assumes nothing.
use Prim.Native.Nat.{ℕ, zero, suc, ◌+◌, ◌*◌, ◌<◌, ◌≤◌}
use mathlib.Core.Path.{◌≡◌, refl, ◌∙◌, sym, ap}
use mathlib.Core.List.{List, [], ◌∷◌, ◌++◌}
use mathlib.Core.Bool.{Bool, true, false}
use native.Mathlib.Omega.{arith}
use lib.Dec.{eqb}
use lib.ListN.{length, get_or, take, length-append, get_or-append}
use lib.Seq.{get_or-append-add, take-append-le, take-length}
use borrow.Author.Tests.{eq-eqb, ne_eqb, eqb-true, eqb-false}
use Rattle.record.specs.Choice.{choose}
use Rattle.runs.specs.Plain.{Group, group, group_at}
use Rattle.slots.specs.Words.{get16, put16}
use Rattle.slots.specs.Layout.{group_opener, group_closer, group_taken, group_earlier, first_group_of, latest_group_of}
use Rattle.slots.proofs.Laws.{Apart, Beside, length_put, get_put_same, word_after_word, byte_after_word}
use Rattle.chains.specs.Step.{joined}
use Rattle.matcher.specs.Groups.{first_closed, last_opened, Grouped}
use Rattle.chains.proofs.Pops.{joined_first, joined_later}

module _ (w : List ℕ) (g o c k : ℕ) where
  abbrev at₀ : ℕ
  at₀ = 30726 + g * 8

  abbrev w₁ : List ℕ
  w₁ = put16 w at₀ o

  abbrev w₂ : List ℕ
  w₂ = put16 w₁ (at₀ + 2) c

  abbrev w₃ : List ℕ
  w₃ = put16 w₂ (at₀ + 4) k

  abbrev w₄ : List ℕ
  w₄ = put16 w₃ (at₀ + 6) (latest_group_of w o)

  abbrev w₅ : List ℕ
  w₅ = put16 w₄ (o * 16 + 14) (g + 1)

  len₅ : length w₅ ≡ length w
  len₅ = simp length_put

  len₄ : length w₄ ≡ length w
  len₄ = simp length_put

  len₃ : length w₃ ≡ length w
  len₃ = simp length_put

  len₂ : length w₂ ≡ length w
  len₂ = simp length_put

  len₁ : length w₁ ≡ length w
  len₁ = simp length_put

  -- the words of a group
  abbrev Outside : ℕ → Type 0
  Outside p = ((p + 1 < at₀) → ⊥) → ((at₀ + 7 < p) → ⊥) → ⊥

  word₄ : (p : ℕ) → Outside p → get16 w₄ p ≡ get16 w p
  word₄ p a =
      word_after_word w₃ (at₀ + 6) (latest_group_of w o) p (λ x y. a (λ z. omega arith) (λ z. omega arith))
      ∙ word_after_word w₂ (at₀ + 4) k p (λ x y. a (λ z. omega arith) (λ z. omega arith))
      ∙ word_after_word w₁ (at₀ + 2) c p (λ x y. a (λ z. omega arith) (λ z. omega arith))
      ∙ word_after_word w at₀ o p (λ x y. a (λ z. omega arith) (λ z. omega arith))

  byte₄ : (p : ℕ) → p < 30726 → get_or w₄ p 0 ≡ get_or w p 0
  byte₄ p a =
      byte_after_word w₃ (at₀ + 6) (latest_group_of w o) p (λ x y. omega arith)
      ∙ byte_after_word w₂ (at₀ + 4) k p (λ x y. omega arith)
      ∙ byte_after_word w₁ (at₀ + 2) c p (λ x y. omega arith)
      ∙ byte_after_word w at₀ o p (λ x y. omega arith)

  -- the closer's first group is written or not
  last : (p : ℕ) → Apart p (c * 16 + 12) → get16 (joined w g o c k) p ≡ get16 w₅ p
  last p a = go (eqb (first_group_of w c) 0) refl
    where
      go : (z : Bool) → eqb (first_group_of w c) 0 ≡ z → get16 (joined w g o c k) p ≡ get16 w₅ p
      go true e = rw (joined_first w g o c k e) (word_after_word w₅ (c * 16 + 12) (g + 1) p a)
      go false e = rw (joined_later w g o c k e)

  pub joined_length : length (joined w g o c k) ≡ length w
  joined_length = go (eqb (first_group_of w c) 0) refl
    where
      go : (z : Bool) → eqb (first_group_of w c) 0 ≡ z → length (joined w g o c k) ≡ length w
      go true e = rw (joined_first w g o c k e) (length_put w₅ (c * 16 + 12) (g + 1) ∙ len₅)
      go false e = rw (joined_later w g o c k e) len₅

  pub joined_word : (p : ℕ) → Outside p → Apart p (o * 16 + 14) → Apart p (c * 16 + 12) → get16 (joined w g o c k) p ≡ get16 w p
  joined_word p a b d = last p d ∙ word_after_word w₄ (o * 16 + 14) (g + 1) p b ∙ word₄ p a

  pub joined_byte : (p : ℕ) → p < 30726 → Beside p (o * 16 + 14) → Beside p (c * 16 + 12) → get_or (joined w g o c k) p 0 ≡ get_or w p 0
  joined_byte p a b d = go (eqb (first_group_of w c) 0) refl
    where
      before : get_or w₅ p 0 ≡ get_or w p 0
      before = byte_after_word w₄ (o * 16 + 14) (g + 1) p b ∙ byte₄ p a

      go : (z : Bool) → eqb (first_group_of w c) 0 ≡ z → get_or (joined w g o c k) p 0 ≡ get_or w p 0
      go true e = rw (joined_first w g o c k e) (byte_after_word w₅ (c * 16 + 12) (g + 1) p d ∙ before)
      go false e = rw (joined_later w g o c k e) before

  -- what is written
  module _ (lo : o < 1024) (lc : c < 1024) (lg : g < 1000) (room : 38726 ≤ length w) where
    up : (p : ℕ) → 30726 ≤ p → get16 (joined w g o c k) p ≡ get16 w₄ p
    up p a = last p (λ x y. omega arith) ∙ word_after_word w₄ (o * 16 + 14) (g + 1) p (λ x y. omega arith)

    own_opener : group_opener (joined w g o c k) g ≡ o
    own_opener =
        up at₀ (omega arith) ∙ word_after_word w₃ (at₀ + 6) (latest_group_of w o) at₀ (λ x y. omega arith) ∙ word_after_word w₂ (at₀ + 4) k at₀ (λ x y. omega arith)
        ∙ word_after_word w₁ (at₀ + 2) c at₀ (λ x y. omega arith) ∙ get_put_same w at₀ o (omega arith)

    own_closer : group_closer (joined w g o c k) g ≡ c
    own_closer =
        up (at₀ + 2) (omega arith) ∙ word_after_word w₃ (at₀ + 6) (latest_group_of w o) (at₀ + 2) (λ x y. omega arith) ∙ word_after_word w₂ (at₀ + 4) k (at₀ + 2) (λ x y. omega arith)
        ∙ get_put_same w₁ (at₀ + 2) c (omega (arith, len₁))

    own_taken : group_taken (joined w g o c k) g ≡ k
    own_taken =
        up (at₀ + 4) (omega arith) ∙ word_after_word w₃ (at₀ + 6) (latest_group_of w o) (at₀ + 4) (λ x y. omega arith) ∙ get_put_same w₂ (at₀ + 4) k (omega (arith, len₂))

    own_earlier : group_earlier (joined w g o c k) g ≡ latest_group_of w o
    own_earlier = up (at₀ + 6) (omega arith) ∙ get_put_same w₃ (at₀ + 6) (latest_group_of w o) (omega (arith, len₃))

    own_latest : latest_group_of (joined w g o c k) o ≡ g + 1
    own_latest = last (o * 16 + 14) (λ x y. omega arith) ∙ get_put_same w₄ (o * 16 + 14) (g + 1) (omega (arith, len₄))

    other_latest : (q : ℕ) → q < 1024 → (q ≡ o → ⊥) → latest_group_of (joined w g o c k) q ≡ latest_group_of w q
    other_latest q h ne = joined_word (q * 16 + 14) (λ x y. omega arith) (λ x y. ne (omega arith)) (λ x y. omega arith)

    own_first : first_group_of w c ≡ 0 → first_group_of (joined w g o c k) c ≡ g + 1
    own_first e = rw (joined_first w g o c k (eq-eqb (first_group_of w c) 0 e)) (get_put_same w₅ (c * 16 + 12) (g + 1) (omega (arith, len₅)))

    kept_first : (first_group_of w c ≡ 0 → ⊥) → first_group_of (joined w g o c k) c ≡ first_group_of w c
    kept_first ne =
        rw (joined_later w g o c k (ne_eqb (first_group_of w c) 0 ne))
        (word_after_word w₄ (o * 16 + 14) (g + 1) (c * 16 + 12) (λ x y. omega arith) ∙ word₄ (c * 16 + 12) (λ x y. omega arith))

    other_first : (q : ℕ) → q < 1024 → (q ≡ c → ⊥) → first_group_of (joined w g o c k) q ≡ first_group_of w q
    other_first q h ne = joined_word (q * 16 + 12) (λ x y. omega arith) (λ x y. omega arith) (λ x y. ne (omega arith))

    other_group : (j b : ℕ) → j < g → b < 7 → get16 (joined w g o c k) (30726 + j * 8 + b) ≡ get16 w (30726 + j * 8 + b)
    other_group j b h l = joined_word (30726 + j * 8 + b) (λ x y. omega arith) (λ x y. omega arith) (λ x y. omega arith)

-- where a run's groups are, when one more is made
pub last_opened_more : (gs : List Group) (x : Group) (q i before : ℕ) → last_opened (gs ++ (x ∷ [])) q i before ≡ choose (eqb x.opener q) (i + length gs + 1) (last_opened gs q i before)
unfolding last_opened
last_opened_more [] x q i before = let e : i + 0 + 1 ≡ i + 1 = omega arith in rw e
last_opened_more (g ∷ gs) x q i before =
    let e : i + suc (length gs) + 1 ≡ i + 1 + length gs + 1 = omega arith in
    rw e (last_opened_more gs x q (i + 1) (choose (eqb g.opener q) (i + 1) before))

first_closed_cons : (g : Group) (gs : List Group) (q i : ℕ) → first_closed (g ∷ gs) q i ≡ choose (eqb g.closer q) (i + 1) (first_closed gs q (i + 1))
unfolding first_closed
first_closed_cons g gs q i = refl

pub first_closed_more : (gs : List Group) (x : Group) (q i : ℕ)
    → first_closed (gs ++ (x ∷ [])) q i ≡ choose (eqb (first_closed gs q i) 0) (choose (eqb x.closer q) (i + length gs + 1) 0) (first_closed gs q i)
unfolding first_closed choose
first_closed_more [] x q i = let e : i + 0 + 1 ≡ i + 1 = omega arith in rw e
first_closed_more (g ∷ gs) x q i = go (first_closed_more gs x q (i + 1)) (eqb g.closer q) refl
  where
    go : first_closed (gs ++ (x ∷ [])) q (i + 1) ≡ choose (eqb (first_closed gs q (i + 1)) 0) (choose (eqb x.closer q) (i + 1 + length gs + 1) 0) (first_closed gs q (i + 1))
        → (z : Bool) → eqb g.closer q ≡ z
        → choose (eqb g.closer q) (i + 1) (first_closed (gs ++ (x ∷ [])) q (i + 1))
        ≡ choose (eqb (choose (eqb g.closer q) (i + 1) (first_closed gs q (i + 1))) 0) (choose (eqb x.closer q) (i + suc (length gs) + 1) 0)
        (choose (eqb g.closer q) (i + 1) (first_closed gs q (i + 1)))
    go ih true e = rw (e, ne_eqb (i + 1) 0 (λ y. omega arith))
    go ih false e = let f : i + suc (length gs) + 1 ≡ i + 1 + length gs + 1 = omega arith in rw (e, f) ih

-- no number plus 1 is none
flat : (x : ℕ) → choose (eqb x 0) 0 x ≡ x
unfolding choose
flat zero = refl
flat (suc x) = rw (ne_eqb (suc x) 0 (λ e. omega arith))

-- the memory holds one group more
module _ (w : List ℕ) (gs : List Group) (n o c k : ℕ) (d : Grouped w gs n) (few : n ≤ 1024) (lo : o < n) (lc : c < n) (lg : length gs < 1000) (room : 38726 ≤ length w) where
  abbrev more : List Group
  more = gs ++ (group o c k ∷ [])

  abbrev v : List ℕ
  v = joined w (length gs) o c k

  long : length more ≡ length gs + 1
  long = length-append gs (group o c k ∷ [])

  old : (j : ℕ) → j < length gs → group_at more j ≡ group_at gs j
  old j h = get_or-append gs (group o c k ∷ []) (group 0 0 0) j h

  new : group_at more (length gs) ≡ group o c k
  new = let e : length gs + 0 ≡ length gs = omega arith in rw e at (get_or-append-add gs (group o c k ∷ []) 0 (group 0 0 0))

  ko : o < 1024
  ko = omega arith

  kc : c < 1024
  kc = omega arith

  -- each group by its place: one of the old, or the new
  each : (A : ℕ → Type 0) → ((j : ℕ) → j < length gs → A j) → A (length gs) → (j : ℕ) → j < length more → A j
  each A f x j h = go (eqb j (length gs)) refl
    where
      go : (z : Bool) → eqb j (length gs) ≡ z → A j
      go true e = let y : j ≡ length gs = eqb-true j (length gs) e in rw y x
      go false e = let y : j ≡ length gs → ⊥ = eqb-false j (length gs) e in f j (omega (arith, long))

  pub joined_grouped : Grouped v more n
  unfolding choose
  joined_grouped =
      record {
        opener =
            each (λ j. group_opener v j ≡ (group_at more j).opener)
            (λ j h. let z : 30726 + j * 8 + 0 ≡ 30726 + j * 8 = omega arith in rw z at (other_group w (length gs) o c k ko kc lg room j 0 h (omega arith)) ∙ d.opener j h ∙ ap (λ x. x.opener) (sym (old j h)))
            (own_opener w (length gs) o c k ko kc lg room ∙ ap (λ x. x.opener) (sym new));
        closer =
            each (λ j. group_closer v j ≡ (group_at more j).closer)
            (λ j h. other_group w (length gs) o c k ko kc lg room j 2 h (omega arith) ∙ d.closer j h ∙ ap (λ x. x.closer) (sym (old j h)))
            (own_closer w (length gs) o c k ko kc lg room ∙ ap (λ x. x.closer) (sym new));
        taken =
            each (λ j. group_taken v j ≡ (group_at more j).taken)
            (λ j h. other_group w (length gs) o c k ko kc lg room j 4 h (omega arith) ∙ d.taken j h ∙ ap (λ x. x.taken) (sym (old j h)))
            (own_taken w (length gs) o c k ko kc lg room ∙ ap (λ x. x.taken) (sym new));
        earlier =
            each (λ j. group_earlier v j ≡ last_opened (take j more) (group_at more j).opener 0 0)
            (λ j h.
            other_group w (length gs) o c k ko kc lg room j 6 h (omega arith) ∙ d.earlier j h
            ∙ rw (old j h, take-append-le j gs (group o c k ∷ []) (omega arith)))
            (own_earlier w (length gs) o c k ko kc lg room ∙ d.latest o lo
            ∙ rw (new, take-append-le (length gs) gs (group o c k ∷ []) (omega arith), take-length gs));
        first = first;
        latest = latest;
        fits = omega (arith, long);
      }
    where
      first : (q : ℕ) → q < n → first_group_of v q ≡ first_closed more q 0
      first q h = go (eqb c q) refl (eqb (first_group_of w c) 0) refl
        where
          go : (y : Bool) → eqb c q ≡ y → (z : Bool) → eqb (first_group_of w c) 0 ≡ z → first_group_of v q ≡ first_closed more q 0
          go false e z f =
              let ne : q ≡ c → ⊥ = λ x. eqb-false c q e (sym x) in
              other_first w (length gs) o c k ko kc lg room q (omega arith) ne ∙ d.first q h ∙ sym (first_closed_more gs (group o c k) q 0 ∙ rw e (flat (first_closed gs q 0)))
          go true e true f =
              let y : c ≡ q = eqb-true c q e in
              let x : first_group_of w c ≡ 0 = eqb-true (first_group_of w c) 0 f in
              let u : first_closed gs q 0 ≡ 0 = ap (λ i. first_closed gs i 0) (sym y) ∙ sym (d.first c lc) ∙ x in
              ap (λ i. first_group_of v i) (sym y) ∙ own_first w (length gs) o c k ko kc lg room x ∙ sym (first_closed_more gs (group o c k) q 0 ∙ rw (u, e) (omega arith))
          go true e false f =
              let y : c ≡ q = eqb-true c q e in
              let x : first_group_of w c ≡ 0 → ⊥ = eqb-false (first_group_of w c) 0 f in
              let u : first_closed gs q 0 ≡ first_group_of w c = ap (λ i. first_closed gs i 0) (sym y) ∙ sym (d.first c lc) in
              ap (λ i. first_group_of v i) (sym y) ∙ kept_first w (length gs) o c k ko kc lg room x ∙ sym (first_closed_more gs (group o c k) q 0 ∙ rw (u, f))

      latest : (q : ℕ) → q < n → latest_group_of v q ≡ last_opened more q 0 0
      latest q h = go (eqb o q) refl
        where
          go : (y : Bool) → eqb o q ≡ y → latest_group_of v q ≡ last_opened more q 0 0
          go true e =
              let y : o ≡ q = eqb-true o q e in
              let z : 0 + length gs + 1 ≡ length gs + 1 = omega arith in
              ap (λ i. latest_group_of v i) (sym y) ∙ own_latest w (length gs) o c k ko kc lg room ∙ sym (last_opened_more gs (group o c k) q 0 0 ∙ rw (e, z))
          go false e =
              let ne : q ≡ o → ⊥ = λ x. eqb-false o q e (sym x) in
              other_latest w (length gs) o c k ko kc lg room q (omega arith) ne ∙ d.latest q h ∙ sym (last_opened_more gs (group o c k) q 0 0 ∙ rw e)
