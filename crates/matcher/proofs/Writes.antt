-- What clearing above an opener and taking a match leave as it was, by the memory alone, with no list of runs in sight.
--     popped-..                      a run that is popped: one head changes, and its own flag
--     Lasting, cleared-lasting       the open runs above an opener: heads change, and their flags
--     match-..                       a match: besides, markers left of two runs, and the group
-- Assumes nothing.
use Prim.Native.Nat.{ℕ, zero, suc, ◌+◌, ◌-◌, ◌*◌, ◌<◌, ◌≤◌}
use mathlib.Core.Path.{◌≡◌, refl, ◌∙◌, sym, ap}
use mathlib.Core.List.{List}
use mathlib.Core.Bool.{Bool, true, false, not}
use native.Mathlib.Omega.{arith}
use lib.Dec.{eqb, ltb}
use lib.ListN.{length, get_or}
use borrow.Author.Tests.{eqb-true, eqb-false, ltb-true, ltb-false}
use Rattle.runs.specs.Plain.{amount}
use Rattle.slots.specs.Words.{get16}
use Rattle.slots.specs.Layout.{left_of, opens_of, link_of, chain_of, open_at, with_left}
use Rattle.slots.proofs.Laws.{Apart, length_put, get_put_same, word_after_word, byte_after_word}
use Rattle.chains.specs.Step.{unchained, popped, cleared, leaves, joined, taken_at, Ranged, Takable}
use Rattle.chains.proofs.Pops.{amount_le, cleared_end, cleared_stop, cleared_pop, unchained_word, unchained_byte, unchained_length, popped_word, popped_byte, popped_head, popped_length, popped_stack, popped_ranged, leaves_on, leaves_off}
use Rattle.matcher.proofs.Frames.{SameRuns, SameLeft, SameGroups, SameChains, same_runs, runs_then, groups_then}
use Rattle.matcher.proofs.Joins.{joined_word, joined_byte, joined_length}

-- a run that is popped
module _ (w : List ℕ) (q : ℕ) (lq : q < 1024) (lk : chain_of w q < 6147) where
  popped_runs : SameRuns w (popped w q)
  popped_runs =
      same_runs w (popped w q)
      (λ j h. popped_word w q (j * 16) (λ y z. omega arith) (λ y z. omega arith))
      (λ j h. popped_word w q (j * 16 + 8) (λ y z. omega arith) (λ y z. omega arith))
      (λ j h. popped_byte w q (j * 16 + 4) (λ y z. omega arith) (λ y. omega arith))
      (λ j h. popped_byte w q (j * 16 + 6) (λ y z. omega arith) (λ y. omega arith))

  popped_left : SameLeft w (popped w q)
  popped_left j h = popped_word w q (j * 16 + 2) (λ y z. omega arith) (λ y z. omega arith)

  popped_groups : SameGroups w (popped w q)
  popped_groups =
      record {
        first = λ j h. popped_word w q (j * 16 + 12) (λ y z. omega arith) (λ y z. omega arith);
        latest = λ j h. popped_word w q (j * 16 + 14) (λ y z. omega arith) (λ y z. omega arith);
        group = λ p h. popped_word w q p (λ y z. omega arith) (λ y z. omega arith);
      }

  popped_links : (j : ℕ) → j < 1024 → link_of (popped w q) j ≡ link_of w j
  popped_links j h = popped_word w q (j * 16 + 10) (λ y z. omega arith) (λ y z. omega arith)

  pub popped_opens : (j : ℕ) → j < 1024 → (j ≡ q → ⊥) → opens_of (popped w q) j ≡ opens_of w j
  popped_opens j h ne = ap (λ x. not (eqb x 0)) (popped_byte w q (j * 16 + 5) (λ y z. omega arith) (λ y. ne (omega arith)))

  -- the flag touches no chain
  pub popped_chains : SameChains (unchained w q) (popped w q)
  popped_chains =
      record {
        link = λ j h. popped_links j h ∙ sym (unchained_word w q (j * 16 + 10) (λ y z. omega arith));
        head = λ k h. popped_head w q k h lq;
        stack = λ x h. popped_stack w q x h lq lk ∙ sym (unchained_word w q (28678 + x * 2) (λ y z. omega arith));
      }

-- all but heads and flags
pub record Lasting (w v : List ℕ) : Type 0 where
  pub runs : SameRuns w v
  pub left : SameLeft w v
  pub groups : SameGroups w v
  pub links : (j : ℕ) → j < 1024 → link_of v j ≡ link_of w j
  pub stack : (x : ℕ) → x < 1024 → open_at v x ≡ open_at w x
  pub len : length v ≡ length w

lasting_self : (w : List ℕ) → Lasting w w
lasting_self w =
    record {
      runs = same_runs w w (λ j x. refl) (λ j x. refl) (λ j x. refl) (λ j x. refl);
      left = λ j x. refl;
      groups = record { first = λ j x. refl; latest = λ j x. refl; group = λ p x. refl };
      links = λ j x. refl;
      stack = λ j x. refl;
      len = refl;
    }

lasting_then : {w v u : List ℕ} → Lasting w v → Lasting v u → Lasting w u
lasting_then {w} {v} {u} a b =
    record {
      runs = runs_then a.runs b.runs;
      left = λ j x. b.left j x ∙ a.left j x;
      groups = groups_then a.groups b.groups;
      links = λ j x. b.links j x ∙ a.links j x;
      stack = λ j x. b.stack j x ∙ a.stack j x;
      len = b.len ∙ a.len;
    }

pub popped_lasting : (w : List ℕ) (q : ℕ) → q < 1024 → chain_of w q < 6147 → Lasting w (popped w q)
popped_lasting w q lq lk =
    record {
      runs = popped_runs w q lq lk;
      left = popped_left w q lq lk;
      groups = popped_groups w q lq lk;
      links = popped_links w q lq lk;
      stack = λ x h. popped_stack w q x h lq lk;
      len = popped_length w q;
    }

pub cleared_lasting : (h : ℕ) (w : List ℕ) (o : ℕ) → Ranged w h → Lasting w (cleared h w o).0
cleared_lasting zero w o r = rw (cleared_end w o) (lasting_self w)
cleared_lasting (suc h) w o r = go (cleared_lasting h (popped w (open_at w h)) o) (ltb o (open_at w h)) refl
  where
    go : (Ranged (popped w (open_at w h)) h → Lasting (popped w (open_at w h)) (cleared h (popped w (open_at w h)) o).0) → (z : Bool) → ltb o (open_at w h) ≡ z → Lasting w (cleared (suc h) w o).0
    go ih false e = rw (cleared_stop h w o (ltb-false o (open_at w h) e)) (lasting_self w)
    go ih true e =
        let n : suc h - 1 ≡ h = omega arith in
        rw (cleared_pop h w o (ltb-true o (open_at w h) e))
        (lasting_then (popped_lasting w (open_at w h) (r.runs h (omega arith)) (r.chains h (omega arith))) (ih (rw n at (popped_ranged w (suc h) (omega arith) r))))

-- a match
module _ (w : List ℕ) (height o c g : ℕ) (t : Takable w height o c g) where
  abbrev a : ℕ
  a = left_of w o

  abbrev b : ℕ
  b = left_of w c

  abbrev k : ℕ
  k = taken_at w o c

  abbrev v : List ℕ
  v = (cleared height w o).0

  abbrev u : List ℕ
  u = leaves v o a k

  abbrev x₁ : List ℕ
  x₁ = with_left u o (a - k)

  abbrev x₂ : List ℕ
  x₂ = with_left x₁ c (b - k)

  abbrev f : List ℕ
  f = joined x₂ g o c k

  ko : o < 1024
  ko = omega (arith, t.before, t.within)

  kc : c < 1024
  kc = t.within

  lasting : Lasting w v
  lasting = cleared_lasting height w o t.ranged

  pub match_amount : (amount (left_of w o) (left_of w c) ≤ left_of w o) × ((amount (left_of w o) (left_of w c) ≤ left_of w c) × ((0 < amount (left_of w o) (left_of w c)) × (amount (left_of w o) (left_of w c) ≤ 2)))
  match_amount = amount_le (left_of w o) (left_of w c) t.some t.some'

  -- the emptied opener leaves: only heads change
  pub match_chain : chain_of v o < 6147
  match_chain =
      let h : chain_of w o < 6147 = rw t.stands at (t.ranged.chains t.place t.below) in
      omega (arith, lasting.runs.chain o ko)

  u_word : (p : ℕ) → ((p + 1 < 16384 → ⊥) → (28677 < p → ⊥) → ⊥) → get16 u p ≡ get16 v p
  u_word p d = go (eqb a k) refl
    where
      go : (z : Bool) → eqb (left_of w o) (taken_at w o c) ≡ z → get16 u p ≡ get16 v p
      go true e = rw (leaves_on v o a k (eqb-true a k e)) (unchained_word v o p (λ y z. d (λ q. omega arith) (λ q. omega (arith, match_chain))))
      go false e = rw (leaves_off v o a k (eqb-false a k e))

  u_byte : (p : ℕ) → p < 16384 → get_or u p 0 ≡ get_or v p 0
  u_byte p d = go (eqb a k) refl
    where
      go : (z : Bool) → eqb (left_of w o) (taken_at w o c) ≡ z → get_or u p 0 ≡ get_or v p 0
      go true e = rw (leaves_on v o a k (eqb-true a k e)) (unchained_byte v o p (λ y z. omega arith))
      go false e = rw (leaves_off v o a k (eqb-false a k e))

  u_length : length u ≡ length v
  u_length = go (eqb a k) refl
    where
      go : (z : Bool) → eqb (left_of w o) (taken_at w o c) ≡ z → length u ≡ length v
      go true e = rw (leaves_on v o a k (eqb-true a k e)) (unchained_length v o)
      go false e = rw (leaves_off v o a k (eqb-false a k e))

  pub match_room : length x₂ ≡ length w
  match_room = length_put x₁ (c * 16 + 2) (b - k) ∙ length_put u (o * 16 + 2) (a - k) ∙ u_length ∙ lasting.len

  pub match_length : length f ≡ length w
  match_length = joined_length x₂ g o c k ∙ match_room

  x_word : (p : ℕ) → Apart p (o * 16 + 2) → Apart p (c * 16 + 2) → get16 x₂ p ≡ get16 u p
  x_word p d e = word_after_word x₁ (c * 16 + 2) (b - k) p e ∙ word_after_word u (o * 16 + 2) (a - k) p d

  -- below the groups, what is neither a size nor a run's place of groups
  f_word : (p : ℕ) → p < 30725 → Apart p (o * 16 + 2) → Apart p (c * 16 + 2) → Apart p (o * 16 + 14) → Apart p (c * 16 + 12) → get16 f p ≡ get16 u p
  f_word p h d e i l = joined_word x₂ g o c k p (λ y z. omega arith) i l ∙ x_word p d e

  f_slot : (p : ℕ) → p < 16383 → Apart p (o * 16 + 2) → Apart p (c * 16 + 2) → Apart p (o * 16 + 14) → Apart p (c * 16 + 12) → get16 f p ≡ get16 v p
  f_slot p h d e i l = f_word p (omega arith) d e i l ∙ u_word p (λ y z. omega arith)

  f_byte : (j s : ℕ) → j < 1024 → 3 < s → s < 8 → get_or f (j * 16 + s) 0 ≡ get_or v (j * 16 + s) 0
  f_byte j s h d e =
      joined_byte x₂ g o c k (j * 16 + s) (omega arith) (λ y z. omega arith) (λ y z. omega arith)
      ∙ byte_after_word x₁ (c * 16 + 2) (b - k) (j * 16 + s) (λ y z. omega arith)
      ∙ byte_after_word u (o * 16 + 2) (a - k) (j * 16 + s) (λ y z. omega arith)
      ∙ u_byte (j * 16 + s) (omega arith)

  pub match_runs : SameRuns w f
  match_runs =
      runs_then lasting.runs
      (same_runs v f
      (λ j h. f_slot (j * 16) (omega arith) (λ y z. omega arith) (λ y z. omega arith) (λ y z. omega arith) (λ y z. omega arith))
      (λ j h. f_slot (j * 16 + 8) (omega arith) (λ y z. omega arith) (λ y z. omega arith) (λ y z. omega arith) (λ y z. omega arith))
      (λ j h. f_byte j 4 h (omega arith) (omega arith))
      (λ j h. f_byte j 6 h (omega arith) (omega arith)))

  pub match_opens : (j : ℕ) → j < 1024 → opens_of f j ≡ opens_of v j
  match_opens j h = ap (λ x. not (eqb x 0)) (f_byte j 5 h (omega arith) (omega arith))

  pub match_links : (j : ℕ) → j < 1024 → link_of f j ≡ link_of w j
  match_links j h = f_slot (j * 16 + 10) (omega arith) (λ y z. omega arith) (λ y z. omega arith) (λ y z. omega arith) (λ y z. omega arith) ∙ lasting.links j h

  -- markers left
  pub match_left_own : left_of f o ≡ left_of w o - taken_at w o c
  match_left_own =
      let h = t.before in
      joined_word x₂ g o c k (o * 16 + 2) (λ y z. omega (arith, ko)) (λ y z. omega arith) (λ y z. omega arith)
      ∙ word_after_word x₁ (c * 16 + 2) (b - k) (o * 16 + 2) (λ y z. omega arith)
      ∙ get_put_same u (o * 16 + 2) (a - k) (omega (arith, ko, u_length, lasting.len, t.ranged.room))

  pub match_left_closer : left_of f c ≡ left_of w c - taken_at w o c
  match_left_closer =
      joined_word x₂ g o c k (c * 16 + 2) (λ y z. omega (arith, kc)) (λ y z. omega arith) (λ y z. omega arith)
      ∙ get_put_same x₁ (c * 16 + 2) (b - k) (omega (arith, kc, length_put u (o * 16 + 2) (a - k), u_length, lasting.len, t.ranged.room))

  pub match_left_other : (j : ℕ) → j < 1024 → (j ≡ o → ⊥) → (j ≡ c → ⊥) → left_of f j ≡ left_of w j
  match_left_other j h d e =
      f_slot (j * 16 + 2) (omega arith) (λ y z. d (omega arith)) (λ y z. e (omega arith)) (λ y z. omega arith) (λ y z. omega arith) ∙ lasting.left j h

  -- the chains, once the opener has left if it does
  pub match_chains : SameChains u f
  match_chains =
      record {
        link = λ j h. f_word (j * 16 + 10) (omega arith) (λ y z. omega arith) (λ y z. omega arith) (λ y z. omega arith) (λ y z. omega arith);
        head = λ i h. f_word (16384 + i * 2) (omega arith) (λ y z. omega (arith, ko)) (λ y z. omega (arith, kc)) (λ y z. omega (arith, ko)) (λ y z. omega (arith, kc));
        stack = λ x h. f_word (28678 + x * 2) (omega arith) (λ y z. omega (arith, ko)) (λ y z. omega (arith, kc)) (λ y z. omega (arith, ko)) (λ y z. omega (arith, kc));
      }

  pub match_stack : (x : ℕ) → x < 1024 → open_at f x ≡ open_at w x
  match_stack x h = match_chains.stack x h ∙ u_word (28678 + x * 2) (λ y z. omega arith) ∙ lasting.stack x h

  -- the groups made before
  pub match_groups : SameGroups w x₂
  match_groups =
      groups_then lasting.groups
      (record {
        first = λ j h. x_word (j * 16 + 12) (λ y z. omega arith) (λ y z. omega arith) ∙ u_word (j * 16 + 12) (λ y z. omega arith);
        latest = λ j h. x_word (j * 16 + 14) (λ y z. omega arith) (λ y z. omega arith) ∙ u_word (j * 16 + 14) (λ y z. omega arith);
        group = λ p h. x_word p (λ y z. omega (arith, ko)) (λ y z. omega (arith, kc)) ∙ u_word p (λ y z. omega arith);
      })
