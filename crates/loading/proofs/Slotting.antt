-- One slot written, field after field: what each field then holds, and that no other slot changed.
-- Assumes nothing.
use mathlib.Core.Path.{◌≡◌, refl, ap, ◌∙◌}
use mathlib.Core.Bool.{Bool, true, false, not}
use mathlib.Core.List.{List}
use Prim.Native.Nat.{ℕ, ◌+◌, ◌*◌, ◌≤◌, ◌<◌}
use native.Mathlib.Omega.{arith}
use lib.Dec.{eqb}
use lib.ListN.{get_or, set, length-set}
use lib.Seq.{get_or-set_same, get_or-set_other}
use Rattle.slots.specs.Words.{get16}
use Rattle.slots.specs.Layout.{Room, chain_of, with_whole, with_left, with_marker, with_opens, with_closes, with_chain, with_first_group, with_latest_group, with_link, bit}
use Rattle.slots.proofs.Laws.{length_put, get_put_same, get_put_other, byte_put_other, get_set_other}
use Rattle.loading.specs.Filling.{Keeps, Filled}

-- a flag's byte is read back as the flag
pub bit_flag : (b : Bool) → not (eqb (bit b) 0) ≡ b
bit_flag true = refl
bit_flag false = refl

-- the writes, in their order; o and c are the flags as bytes
abbrev sized : List ℕ → ℕ → ℕ → List ℕ
sized w n size = with_left (with_whole w n size) n size

abbrev marked : List ℕ → ℕ → ℕ → ℕ → List ℕ
marked w n size m = with_marker (sized w n size) n m

abbrev opening : List ℕ → ℕ → ℕ → ℕ → ℕ → List ℕ
opening w n size m o = with_opens (marked w n size m) n o

abbrev pub filled : List ℕ → ℕ → ℕ → ℕ → ℕ → ℕ → ℕ → List ℕ
filled w n size m o c k = with_latest_group (with_first_group (with_link (with_chain (with_closes (opening w n size m o) n c) n k) n 0) n 0) n 0

byte_set_other : (s : List ℕ) (at v b : ℕ) → (b ≡ at → ⊥) → get_or (set s at v) b 0 ≡ get_or s b 0
byte_set_other s at v b n = get_or-set_other s at b v 0 n

module _ (w : List ℕ) (n size m o c k : ℕ) where
  -- a byte that does not stand in the slot
  byte_kept : (b : ℕ) → (n * 16 ≤ b → b < n * 16 + 16 → ⊥) → get_or (filled w n size m o c k) b 0 ≡ get_or w b 0
  byte_kept b f =
      byte_put_other _ _ _ _ (λ e. f (omega arith) (omega arith)) (λ e. f (omega arith) (omega arith))
      ∙ byte_put_other _ _ _ _ (λ e. f (omega arith) (omega arith)) (λ e. f (omega arith) (omega arith))
      ∙ byte_put_other _ _ _ _ (λ e. f (omega arith) (omega arith)) (λ e. f (omega arith) (omega arith))
      ∙ byte_put_other _ _ _ _ (λ e. f (omega arith) (omega arith)) (λ e. f (omega arith) (omega arith))
      ∙ byte_set_other (opening w n size m o) (n * 16 + 6) c b (λ e. f (omega arith) (omega arith))
      ∙ byte_set_other (marked w n size m) (n * 16 + 5) o b (λ e. f (omega arith) (omega arith))
      ∙ byte_set_other (sized w n size) (n * 16 + 4) m b (λ e. f (omega arith) (omega arith))
      ∙ byte_put_other _ _ _ _ (λ e. f (omega arith) (omega arith)) (λ e. f (omega arith) (omega arith))
      ∙ byte_put_other _ _ _ _ (λ e. f (omega arith) (omega arith)) (λ e. f (omega arith) (omega arith))

  -- two bytes
  pair_kept : (b : ℕ) → (n * 16 ≤ b + 1 → b < n * 16 + 16 → ⊥) → get16 (filled w n size m o c k) b ≡ get16 w b
  unfolding get16
  pair_kept b f =
      let low : get_or (filled w n size m o c k) b 0 ≡ get_or w b 0 = byte_kept b (λ x y. f (omega arith) y) in
      let high : get_or (filled w n size m o c k) (b + 1) 0 ≡ get_or w (b + 1) 0 = byte_kept (b + 1) (λ x y. f x (omega arith)) in
      cc

  module _ (slot : n < 1024) (known : k < 6147) (room : Room w) where
    pub keeps : Keeps w n (filled w n size m o c k)
    keeps =
        record {
          others = λ j h ne r i.
              let same_chain : chain_of (filled w n size m o c k) j ≡ chain_of w j = pair_kept (j * 16 + 8) (λ x y. ne (omega arith)) in
              record {
                marked = i.marked;
                whole = pair_kept (j * 16) (λ x y. ne (omega arith)) ∙ i.whole;
                left = pair_kept (j * 16 + 2) (λ x y. ne (omega arith)) ∙ i.left;
                marker = byte_kept (j * 16 + 4) (λ x y. ne (omega arith)) ∙ i.marker;
                opens = ap (λ (x : ℕ). not (eqb x 0)) (byte_kept (j * 16 + 5) (λ x y. ne (omega arith))) ∙ i.opens;
                closes = ap (λ (x : ℕ). not (eqb x 0)) (byte_kept (j * 16 + 6) (λ x y. ne (omega arith))) ∙ i.closes;
                chain = same_chain ∙ i.chain;
                chain_known = rw same_chain i.chain_known;
                first_group = pair_kept (j * 16 + 12) (λ x y. ne (omega arith)) ∙ i.first_group;
                latest_group = pair_kept (j * 16 + 14) (λ x y. ne (omega arith)) ∙ i.latest_group;
                link = pair_kept (j * 16 + 10) (λ x y. ne (omega arith)) ∙ i.link;
              };
        }

    pub holds_now : (p q : Bool) → not (eqb o 0) ≡ p → not (eqb c 0) ≡ q → Filled w n size m p q k (filled w n size m o c k)
    holds_now p q ep eq =
        record {
          whole =
              get_put_other _ _ _ _ (λ e. omega arith) (λ e. omega arith) (λ e. omega arith)
              ∙ get_put_other _ _ _ _ (λ e. omega arith) (λ e. omega arith) (λ e. omega arith)
              ∙ get_put_other _ _ _ _ (λ e. omega arith) (λ e. omega arith) (λ e. omega arith)
              ∙ get_put_other _ _ _ _ (λ e. omega arith) (λ e. omega arith) (λ e. omega arith)
              ∙ get_set_other (opening w n size m o) (n * 16 + 6) c _ (λ e. omega arith) (λ e. omega arith)
              ∙ get_set_other (marked w n size m) (n * 16 + 5) o _ (λ e. omega arith) (λ e. omega arith)
              ∙ get_set_other (sized w n size) (n * 16 + 4) m _ (λ e. omega arith) (λ e. omega arith)
              ∙ get_put_other _ _ _ _ (λ e. omega arith) (λ e. omega arith) (λ e. omega arith)
              ∙ get_put_same _ _ _ (omega arith);
          left =
              get_put_other _ _ _ _ (λ e. omega arith) (λ e. omega arith) (λ e. omega arith)
              ∙ get_put_other _ _ _ _ (λ e. omega arith) (λ e. omega arith) (λ e. omega arith)
              ∙ get_put_other _ _ _ _ (λ e. omega arith) (λ e. omega arith) (λ e. omega arith)
              ∙ get_put_other _ _ _ _ (λ e. omega arith) (λ e. omega arith) (λ e. omega arith)
              ∙ get_set_other (opening w n size m o) (n * 16 + 6) c _ (λ e. omega arith) (λ e. omega arith)
              ∙ get_set_other (marked w n size m) (n * 16 + 5) o _ (λ e. omega arith) (λ e. omega arith)
              ∙ get_set_other (sized w n size) (n * 16 + 4) m _ (λ e. omega arith) (λ e. omega arith)
              ∙ get_put_same _ _ _ (simp length_put (omega arith));
          marker_byte =
              byte_put_other _ _ _ _ (λ e. omega arith) (λ e. omega arith)
              ∙ byte_put_other _ _ _ _ (λ e. omega arith) (λ e. omega arith)
              ∙ byte_put_other _ _ _ _ (λ e. omega arith) (λ e. omega arith)
              ∙ byte_put_other _ _ _ _ (λ e. omega arith) (λ e. omega arith)
              ∙ byte_set_other (opening w n size m o) (n * 16 + 6) c _ (λ e. omega arith)
              ∙ byte_set_other (marked w n size m) (n * 16 + 5) o _ (λ e. omega arith)
              ∙ get_or-set_same (sized w n size) (n * 16 + 4) m 0 (simp length_put (omega arith));
          can_open =
              ap (λ (x : ℕ). not (eqb x 0))
              (byte_put_other _ _ _ _ (λ e. omega arith) (λ e. omega arith)
              ∙ byte_put_other _ _ _ _ (λ e. omega arith) (λ e. omega arith)
              ∙ byte_put_other _ _ _ _ (λ e. omega arith) (λ e. omega arith)
              ∙ byte_put_other _ _ _ _ (λ e. omega arith) (λ e. omega arith)
              ∙ byte_set_other (opening w n size m o) (n * 16 + 6) c _ (λ e. omega arith)
              ∙ get_or-set_same (marked w n size m) (n * 16 + 5) o 0 (simp (length_put, length-set) (omega arith)))
              ∙ ep;
          can_close =
              ap (λ (x : ℕ). not (eqb x 0))
              (byte_put_other _ _ _ _ (λ e. omega arith) (λ e. omega arith)
              ∙ byte_put_other _ _ _ _ (λ e. omega arith) (λ e. omega arith)
              ∙ byte_put_other _ _ _ _ (λ e. omega arith) (λ e. omega arith)
              ∙ byte_put_other _ _ _ _ (λ e. omega arith) (λ e. omega arith)
              ∙ get_or-set_same (opening w n size m o) (n * 16 + 6) c 0 (simp (length_put, length-set) (omega arith)))
              ∙ eq;
          chain_number =
              get_put_other _ _ _ _ (λ e. omega arith) (λ e. omega arith) (λ e. omega arith)
              ∙ get_put_other _ _ _ _ (λ e. omega arith) (λ e. omega arith) (λ e. omega arith)
              ∙ get_put_other _ _ _ _ (λ e. omega arith) (λ e. omega arith) (λ e. omega arith)
              ∙ get_put_same _ _ _ (simp (length_put, length-set) (omega arith));
          link =
              get_put_other _ _ _ _ (λ e. omega arith) (λ e. omega arith) (λ e. omega arith)
              ∙ get_put_other _ _ _ _ (λ e. omega arith) (λ e. omega arith) (λ e. omega arith)
              ∙ get_put_same _ _ _ (simp (length_put, length-set) (omega arith));
          first_group =
              get_put_other _ _ _ _ (λ e. omega arith) (λ e. omega arith) (λ e. omega arith)
              ∙ get_put_same _ _ _ (simp (length_put, length-set) (omega arith));
          latest_group = get_put_same _ _ _ (simp (length_put, length-set) (omega arith));
          kept = keeps;
        }

-- the calls that write a slot, one after the other
pub written : {w w₁ w₂ w₃ w₄ w₅ w₆ : List ℕ} {n size m k : ℕ} {p q : Bool} → n < 1024 → k < 6147 → Room w →
    w₁ ≡ with_whole w n size → w₂ ≡ with_left w₁ n size → w₃ ≡ with_marker w₂ n m → w₄ ≡ with_opens w₃ n (bit p) → w₅ ≡ with_closes w₄ n (bit q) →
    w₆ ≡ with_latest_group (with_first_group (with_link (with_chain w₅ n k) n 0) n 0) n 0 → Filled w n size m p q k w₆
written {w} {w₁} {w₂} {w₃} {w₄} {w₅} {w₆} {n} {size} {m} {k} {p} {q} slot known room e₁ e₂ e₃ e₄ e₅ e₆ =
    let e : w₆ ≡ filled w n size m (bit p) (bit q) k = cc in
    rw e (holds_now w n size m (bit p) (bit q) k slot known room p q (bit_flag p) (bit_flag q))
