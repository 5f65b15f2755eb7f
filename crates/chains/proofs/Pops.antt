-- What the pieces of a match write, case by case as the code takes them: a run off its chain, the open runs above an opener, the group.
--     amount-one, amount-two, amount-le            how many are taken
--     unchained-.., popped-..                      a run leaves its chain: one head changes, and its own flag
--     cleared-end, cleared-stop, cleared-on        from the top of the open runs down
--     leaves-.., lowered-.., joined-..             the emptied opener, the group
-- Assumes nothing.
use Prim.Native.Nat.{ℕ, zero, suc, ◌+◌, ◌-◌, ◌*◌, ◌<◌, ◌≤◌}
use mathlib.Core.Path.{◌≡◌, refl, ◌∙◌, sym, ap}
use mathlib.Core.List.{List}
use mathlib.Core.Bool.{Bool, true, false, not}
use native.Mathlib.Omega.{arith}
use lib.Dec.{eqb, ltb, leb}
use lib.ListN.{length, get_or, length-set}
use lib.Seq.{get_or-set_same, get_or-set_other}
use borrow.Author.Tests.{eq-eqb, ne_eqb, lt-ltb, le-ltb, le-leb, lt-leb, leb-true, leb-false, ltb-true, ltb-false}
use Rattle.record.specs.Choice.{choose, and}
use Rattle.runs.specs.Plain.{amount}
use Rattle.slots.specs.Words.{get16}
use Rattle.slots.specs.Layout.{opens_of, chain_of, link_of, head_of, open_at, first_group_of, latest_group_of, with_first_group, with_latest_group, with_group}
use Rattle.slots.proofs.Laws.{Apart, Beside, length_put, get_put_same, word_after_word, byte_after_word, word_after_byte}
use Rattle.chains.specs.Step.{unchained, popped, cleared, leaves, lowered, joined, Ranged}

-- how many are taken
module _ (a b : ℕ) where
  pub amount_few : a < 2 → amount a b ≡ 1
  unfolding amount choose and
  amount_few h = rw (lt-leb 2 a h)

  pub amount_one : 2 ≤ a → b < 2 → amount a b ≡ 1
  unfolding amount choose and
  amount_one h l = rw (le-leb 2 a h, lt-leb 2 b l)

  pub amount_two : 2 ≤ a → 2 ≤ b → amount a b ≡ 2
  unfolding amount choose and
  amount_two h l = rw (le-leb 2 a h, le-leb 2 b l)

  -- no more than either has, and at least 1
  pub amount_le : 0 < a → 0 < b → (amount a b ≤ a) × ((amount a b ≤ b) × ((0 < amount a b) × (amount a b ≤ 2)))
  amount_le p q = go (leb 2 a) refl (leb 2 b) refl
    where
      go : (x : Bool) → leb 2 a ≡ x → (y : Bool) → leb 2 b ≡ y → (amount a b ≤ a) × ((amount a b ≤ b) × ((0 < amount a b) × (amount a b ≤ 2)))
      go false e y f = rw (amount_few (leb-false 2 a e)) (omega arith)
      go true e false f = rw (amount_one (leb-true 2 a e) (leb-false 2 b f)) (omega arith)
      go true e true f = let g = leb-true 2 a e in let h = leb-true 2 b f in rw (amount_two g h) (omega arith)

-- from the top of the open runs down
pub cleared_end : (w : List ℕ) (o : ℕ) → cleared 0 w o ≡ (w, 0)
unfolding cleared
cleared_end w o = refl

cleared_suc : (h : ℕ) (w : List ℕ) (o : ℕ) → cleared (suc h) w o ≡ choose (ltb o (open_at w h)) (cleared h (popped w (open_at w h)) o) (w, suc h)
unfolding cleared
cleared_suc h w o = refl

pub cleared_stop : (h : ℕ) (w : List ℕ) (o : ℕ) → open_at w h ≤ o → cleared (suc h) w o ≡ (w, suc h)
unfolding choose
cleared_stop h w o l = rw (cleared_suc, le-ltb o (open_at w h) l)

pub cleared_pop : (h : ℕ) (w : List ℕ) (o : ℕ) → o < open_at w h → cleared (suc h) w o ≡ cleared h (popped w (open_at w h)) o
unfolding choose
cleared_pop h w o l = rw (cleared_suc, lt-ltb o (open_at w h) l)

-- the same by the height itself, as the loop has it
pub cleared_stop' : (h : ℕ) (w : List ℕ) (o : ℕ) → 0 < h → open_at w (h - 1) ≤ o → cleared h w o ≡ (w, h)
cleared_stop' zero w o p l = absurd (omega arith)
cleared_stop' (suc h) w o p l = let e : suc h - 1 ≡ h = omega arith in cleared_stop h w o (rw e at l)

pub cleared_pop' : (h : ℕ) (w : List ℕ) (o : ℕ) → 0 < h → o < open_at w (h - 1) → cleared h w o ≡ cleared (h - 1) (popped w (open_at w (h - 1))) o
cleared_pop' zero w o p l = absurd (omega arith)
cleared_pop' (suc h) w o p l = let e : suc h - 1 ≡ h = omega arith in rw e (cleared_pop h w o (rw e at l))

-- a run leaves its chain: the head changes, and nothing else
module _ (w : List ℕ) (q : ℕ) where
  pub unchained_length : length (unchained w q) ≡ length w
  unfolding unchained
  unchained_length = length_put w (16384 + chain_of w q * 2) (link_of w q)

  pub unchained_word : (p : ℕ) → Apart p (16384 + chain_of w q * 2) → get16 (unchained w q) p ≡ get16 w p
  unfolding unchained
  unchained_word p a = word_after_word w (16384 + chain_of w q * 2) (link_of w q) p a

  pub unchained_byte : (p : ℕ) → Beside p (16384 + chain_of w q * 2) → get_or (unchained w q) p 0 ≡ get_or w p 0
  unfolding unchained
  unchained_byte p a = byte_after_word w (16384 + chain_of w q * 2) (link_of w q) p a

  pub unchained_own : chain_of w q < 6147 → 38726 ≤ length w → head_of (unchained w q) (chain_of w q) ≡ link_of w q
  unfolding unchained
  unchained_own k r = get_put_same w (16384 + chain_of w q * 2) (link_of w q) (omega arith)

  pub unchained_other : (k : ℕ) → (chain_of w q ≡ k → ⊥) → head_of (unchained w q) k ≡ head_of w k
  unchained_other k ne = unchained_word (16384 + k * 2) (λ x y. ne (omega arith))

  -- and it can open no more
  pub popped_length : length (popped w q) ≡ length w
  unfolding popped
  popped_length = length-set (unchained w q) (q * 16 + 5) 0 ∙ unchained_length

  pub popped_word : (p : ℕ) → Apart p (16384 + chain_of w q * 2) → Beside (q * 16 + 5) p → get16 (popped w q) p ≡ get16 w p
  unfolding popped
  popped_word p a b = word_after_byte (unchained w q) (q * 16 + 5) 0 p b ∙ unchained_word p a

  pub popped_byte : (p : ℕ) → Beside p (16384 + chain_of w q * 2) → (p ≡ q * 16 + 5 → ⊥) → get_or (popped w q) p 0 ≡ get_or w p 0
  unfolding popped
  popped_byte p a ne = get_or-set_other (unchained w q) (q * 16 + 5) p 0 0 ne ∙ unchained_byte p a

  pub popped_own : q < 1024 → 38726 ≤ length w → opens_of (popped w q) q ≡ false
  unfolding popped
  popped_own h r = ap (λ x. not (eqb x 0)) (get_or-set_same (unchained w q) (q * 16 + 5) 0 0 (omega (arith, unchained_length)))

  pub popped_head : (k : ℕ) → k < 6147 → q < 1024 → head_of (popped w q) k ≡ head_of (unchained w q) k
  unfolding popped
  popped_head k l h = word_after_byte (unchained w q) (q * 16 + 5) 0 (16384 + k * 2) (λ x y. omega arith)

  -- chains and open runs are as they were
  pub popped_chain : (j : ℕ) → j < 1024 → q < 1024 → chain_of w q < 6147 → chain_of (popped w q) j ≡ chain_of w j
  popped_chain j l h k = popped_word (j * 16 + 8) (λ y z. omega arith) (λ y z. omega arith)

  pub popped_stack : (x : ℕ) → x < 1024 → q < 1024 → chain_of w q < 6147 → open_at (popped w q) x ≡ open_at w x
  popped_stack x l h k = popped_word (28678 + x * 2) (λ y z. omega arith) (λ y z. omega arith)

-- numbers stay in range
pub popped_ranged : (w : List ℕ) (h : ℕ) → 0 < h → Ranged w h → Ranged (popped w (open_at w (h - 1))) (h - 1)
popped_ranged w h p r =
    record {
      room = omega (arith, popped_length w (open_at w (h - 1)), r.room);
      low = omega (arith, r.low);
      runs = λ x l. omega (arith, stack x l, r.runs x (omega arith));
      chains = λ x l. rw (stack x l) (omega (arith, popped_chain w (open_at w (h - 1)) (open_at w x) (r.runs x (omega arith)) hq hk, r.chains x (omega arith)));
    }
  where
    hq : open_at w (h - 1) < 1024
    hq = r.runs (h - 1) (omega arith)

    hk : chain_of w (open_at w (h - 1)) < 6147
    hk = r.chains (h - 1) (omega arith)

    stack : (x : ℕ) → x < h - 1 → open_at (popped w (open_at w (h - 1))) x ≡ open_at w x
    stack x l = popped_stack w (open_at w (h - 1)) x (omega (arith, r.low)) hq hk

-- what the loop keeps: the whole answer is the answer from here on
pub record Downward (w₀ : List ℕ) (height o : ℕ) (w : List ℕ) (h : ℕ) : Type 0 where
  pub same : cleared height w₀ o ≡ cleared h w o
  pub ranged : Ranged w h

pub downward_again : {w₀ : List ℕ} {height o : ℕ} {w : List ℕ} {h : ℕ} {v : List ℕ} (q : ℕ) → Downward w₀ height o w h → 0 < h → q ≡ open_at w (h - 1) → o < q → v ≡ popped w q →
    Downward w₀ height o v (h - 1)
downward_again {w₀} {height} {o} {w} {h} {v} q d p e l f =
    let f' : v ≡ popped w (open_at w (h - 1)) = f ∙ ap (λ x. popped w x) e in
    rw f' (record {
      same = d.same ∙ cleared_pop' h w o p (omega arith);
      ranged = popped_ranged w h p d.ranged;
    })

pub downward_stop : {w₀ : List ℕ} {height o : ℕ} {w : List ℕ} {h : ℕ} (q : ℕ) → Downward w₀ height o w h → 0 < h → q ≡ open_at w (h - 1) → q ≤ o → (w, h - 1 + 1) ≡ cleared height w₀ o
downward_stop {w₀} {height} {o} {w} {h} q d p e l =
    let n : h - 1 + 1 ≡ h = omega arith in
    rw n (sym (d.same ∙ cleared_stop' h w o p (omega arith)))

pub downward_end : {w₀ : List ℕ} {height o : ℕ} {w : List ℕ} {h : ℕ} → Downward w₀ height o w h → h ≡ 0 → (w, 0) ≡ cleared height w₀ o
downward_end {w₀} {height} {o} {w} {h} d e = sym (d.same ∙ rw (e, cleared_end w o))

-- an opener that stands among the open runs stays there
pub record Cleared (w : List ℕ) (x : ℕ) (v : List ℕ × ℕ) : Type 0 where
  pub len : length v.0 ≡ length w
  pub high : x < v.1
  pub chain : (j : ℕ) → j < 1024 → chain_of v.0 j ≡ chain_of w j

pub cleared_kept : (h : ℕ) (w : List ℕ) (o x : ℕ) → Ranged w h → x < h → open_at w x ≡ o → Cleared w x (cleared h w o)
cleared_kept zero w o x r l e = absurd (omega arith)
cleared_kept (suc h) w o x r l e = go (cleared_kept h (popped w (open_at w h)) o x) (ltb o (open_at w h)) refl
  where
    hq : open_at w h < 1024
    hq = r.runs h (omega arith)

    hk : chain_of w (open_at w h) < 6147
    hk = r.chains h (omega arith)

    go : (Ranged (popped w (open_at w h)) h → x < h → open_at (popped w (open_at w h)) x ≡ o → Cleared (popped w (open_at w h)) x (cleared h (popped w (open_at w h)) o))
        → (z : Bool) → ltb o (open_at w h) ≡ z → Cleared w x (cleared (suc h) w o)
    go ih false f = rw (cleared_stop h w o (ltb-false o (open_at w h) f)) (record { len = refl; high = l; chain = λ j b. refl })
    go ih true f =
        let f' : o < open_at w h = ltb-true o (open_at w h) f in
        let n : suc h - 1 ≡ h = omega arith in
        let ne : x ≡ h → ⊥ = λ y. let z : open_at w h ≡ o = ap (λ i. open_at w i) (sym y) ∙ e in omega arith in
        let a = ih (rw n at (popped_ranged w (suc h) (omega arith) r)) (omega arith) (popped_stack w (open_at w h) x (omega (arith, r.low)) hq hk ∙ e) in
        rw (cleared_pop h w o f') (record {
          len = a.len ∙ popped_length w (open_at w h);
          high = a.high;
          chain = λ j b. a.chain j b ∙ popped_chain w (open_at w h) j b hq hk;
        })

-- the emptied opener
module _ (w : List ℕ) (o a k : ℕ) where
  pub leaves_on : a ≡ k → leaves w o a k ≡ unchained w o
  unfolding leaves choose
  leaves_on e = rw (eq-eqb a k e)

  pub leaves_off : (a ≡ k → ⊥) → leaves w o a k ≡ w
  unfolding leaves choose
  leaves_off e = rw (ne_eqb a k e)

module _ (height a k : ℕ) where
  pub lowered_on : a ≡ k → lowered height a k ≡ height - 1
  unfolding lowered choose
  lowered_on e = rw (eq-eqb a k e)

  pub lowered_off : (a ≡ k → ⊥) → lowered height a k ≡ height
  unfolding lowered choose
  lowered_off e = rw (ne_eqb a k e)

-- the group
module _ (w : List ℕ) (g o c k : ℕ) where
  pub joined_first : eqb (first_group_of w c) 0 ≡ true → joined w g o c k ≡ with_first_group (with_latest_group (with_group w g o c k (latest_group_of w o)) o (g + 1)) c (g + 1)
  unfolding joined choose
  joined_first e = rw e

  pub joined_later : eqb (first_group_of w c) 0 ≡ false → joined w g o c k ≡ with_latest_group (with_group w g o c k (latest_group_of w o)) o (g + 1)
  unfolding joined choose
  joined_later e = rw e
