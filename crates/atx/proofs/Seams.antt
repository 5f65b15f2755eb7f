-- The pieces of some bytes as runs, each as long as it can be (Cut): bytes have one such cut, and their pieces are it. So the pieces of two parts are
-- those of the whole where one part has a space or tab at the seam and the other has none; and bytes that do not end with a space or tab end with
-- Data, or with a run of `#` that follows a break.
-- Assumes nothing.
use mathlib.Core.Path.{◌≡◌, refl, sym, ap, subst, ◌∙◌}
use mathlib.Core.Bool.{Bool, true, false}
use mathlib.Core.Logic.{◌⊎◌, inl, inr}
use mathlib.Core.List.{List, [], ◌∷◌, ◌++◌, reverse, append-nil, append_assoc}
use Prim.Native.Nat.{ℕ, zero, suc, ◌+◌, ◌≤◌}
use native.Mathlib.Omega.{arith}
use lib.ListN.{length, length-append}
use lib.Seq.{drop-append_seam}
use Rattle.record.proofs.Bools.{clash}
use Rattle.scan.specs.Run.{space_or_tab, filled, hash, leading, blanks}
use Rattle.scan.proofs.ByteKinds.{a_hash, hash_filled, filled_otherwise, blank_filled, unfilled_no_hash}
use Rattle.atx.specs.Heading.{piece, piece_of, pieces, split}
use Rattle.atx.specs.Content.{strip_front}
use Rattle.atx.specs.declared.Piece.{Piece}
use Rattle.atx.proofs.Pieces.{data_piece}
use Rattle.atx.proofs.Covering.{hash_first, blank_first, split_first}
use Rattle.atx.proofs.Stripped.{not_empty, All, more, Stops, end, at, front_stripped}
use Rattle.atx.proofs.Stripped.{all_as, all_reverse, all_ends, all_others, stops_as, stops_append, ends_append, ends_behind, run_length}

-- the kind and the name of the piece that a byte begins
pub data Sort (b : ℕ) : (ℕ → Bool) → ℕ → Type 0 where
  blank : Sort b space_or_tab 14
  hashed : Sort b hash 12
  word : space_or_tab b ≡ false → hash b ≡ false → Sort b filled 0

-- runs, each as long as it can be
pub data Cut : List ℕ → List Piece → Type 0 where
  done : Cut [] []
  run : {kind : ℕ → Bool} {name b : ℕ} {r m : List ℕ} {ps : List Piece} → Sort b kind name → All kind (b ∷ r) → Stops kind m → Cut m ps →
      Cut (b ∷ (r ++ m)) (piece name (suc (length r)) ∷ ps)

-- every byte begins one
sorted : (b : ℕ) → (kind : ℕ → Bool) × (name : ℕ) × Sort b kind name × (kind b ≡ true)
sorted b = go (space_or_tab b) (hash b) refl refl
  where
    go : (y z : Bool) → space_or_tab b ≡ y → hash b ≡ z → (kind : ℕ → Bool) × (name : ℕ) × Sort b kind name × (kind b ≡ true)
    go true z p q = (space_or_tab, 14, blank, p)
    go false true p q = (hash, 12, hashed, q)
    go false false p q = (filled, 0, word p q, filled_otherwise b p)

front_piece : {kind : ℕ → Bool} {name b : ℕ} → Sort b kind name → kind b ≡ true → (l : List ℕ) → piece_of (b ∷ l) ≡ piece name (leading kind (b ∷ l))
unfolding blanks
front_piece {b = b} blank e l = blank_first (b ∷ l) e
front_piece {b = b} hashed e l = hash_first (b ∷ l) e
front_piece {b = b} (word s h) e l = sym (data_piece (b ∷ l) _ s (λ q. clash (a_hash b q) h) refl)

-- a cut is the pieces, so there is one; and there is one of any bytes
pub cut_pieces : {l : List ℕ} {ps : List Piece} → Cut l ps → split l ≡ ps
unfolding split pieces
cut_pieces done = refl
cut_pieces (run {kind} {name} {b} {r} {m} {ps} s (more e p) t c) =
    split_first (b ∷ (r ++ m)) (piece name (suc (length r))) (omega arith) (front_piece s e (r ++ m) ∙ ap (piece name) (run_length (more e p) t))
    ∙ ap (λ (qs : List Piece). piece name (suc (length r)) ∷ qs) (ap split (drop-append_seam r m) ∙ cut_pieces c)

pub cut : (l : List ℕ) → Cut l (split l)
cut l = let c = within (length l) l (omega arith) in rw (cut_pieces c.1) c.1
  where
    within : (n : ℕ) (l : List ℕ) → length l ≤ n → (ps : List Piece) × Cut l ps
    within zero [] h = ([], done)
    within zero (b ∷ l) h = absurd (omega arith)
    within (suc n) [] h = ([], done)
    within (suc n) (b ∷ l) h =
        let s = sorted b in
        let f = front_stripped s.0 l in
        let c = within n (strip_front s.0 l) (omega (arith, ap length f.whole, length-append f.off (strip_front s.0 l))) in
        subst (λ (x : List ℕ). (ps : List Piece) × Cut (b ∷ x) ps) (sym f.whole) (_, run s.2 (more s.3 f.all) f.stops c.1)

-- two parts, one of which has a space or tab at the seam and the other none
pub data Seam (a b : List ℕ) : Type 0 where
  rises : Stops filled (reverse a) → Stops space_or_tab b → Seam a b
  falls : Stops space_or_tab (reverse a) → Stops filled b → Seam a b

seam_behind : (a b c : List ℕ) → Seam (a ++ b) c → Seam b c
seam_behind a b c (rises s t) = rises (ends_behind a b s) t
seam_behind a b c (falls s t) = falls (ends_behind a b s) t

-- a run that reaches the seam does not go on behind it
run_ends : {kind : ℕ → Bool} {name b : ℕ} {r m : List ℕ} → Sort b kind name → All kind (b ∷ r) → Seam (b ∷ r) m → Stops kind m
run_ends blank p (rises s t) = t
run_ends hashed p (rises s t) = absurd (not_empty (all_ends (all_as (λ b e. filled_otherwise b (hash_filled b e)) p) s))
run_ends (word y z) p (rises s t) = absurd (not_empty (all_ends p s))
run_ends blank p (falls s t) = absurd (not_empty (all_ends p s))
run_ends hashed p (falls s t) = stops_as unfilled_no_hash t
run_ends (word y z) p (falls s t) = t

cut_seam : {a b : List ℕ} {ps qs : List Piece} → Cut a ps → Cut b qs → Seam a b → Cut (a ++ b) (ps ++ qs)
cut_seam done d s = d
cut_seam {b = y} (run {b = b} {r} {m} o p t c) d s =
    rw (append_assoc r m y)
    (run o p (stops_append t (λ e. run_ends o p (rw (e, append-nil r) at s))) (cut_seam c d (seam_behind (b ∷ r) m y s)))

pub split_seam : (a b : List ℕ) → Seam a b → split (a ++ b) ≡ split a ++ split b
split_seam a b s = cut_pieces (cut_seam (cut a) (cut b) s)

-- the last piece of bytes that do not end with a space or tab: Data, or the run of `#` that they end with, which has a space or tab before it, or
-- nothing
pub data Last (l : List ℕ) : List Piece → Type 0 where
  data_last : (qs : List Piece) (n : ℕ) → Last l (qs ++ (piece 0 n ∷ []))
  hash_last : (qs : List Piece) (n : ℕ) (a : List ℕ) {h : ℕ} {r : List ℕ} → l ≡ a ++ (h ∷ r) → All hash (h ∷ r) → Stops filled (reverse a) →
      Last l (qs ++ (piece 12 n ∷ []))

-- one run
last_run : {kind : ℕ → Bool} {name b : ℕ} {r : List ℕ} → Sort b kind name → All kind (b ∷ r) → (n : ℕ) → Stops space_or_tab (reverse (b ∷ r)) →
    Last (b ∷ r) (piece name n ∷ [])
last_run blank p n e = absurd (not_empty (all_ends p e))
last_run hashed p n e = hash_last [] n [] refl p end
last_run (word y z) p n e = data_last [] n

-- behind a run a `#` may begin one only if the run is of spaces and tabs
hash_behind : {kind : ℕ → Bool} {name b x : ℕ} {r l : List ℕ} → Sort b kind name → All kind (b ∷ r) → Stops kind (x ∷ l) → hash x ≡ true →
    Stops filled (reverse (b ∷ r))
hash_behind blank p t h = all_others blank_filled (all_reverse p)
hash_behind hashed p (at q) h = absurd (clash h q)
hash_behind {x = x} (word y z) p (at q) h = absurd (clash h (unfilled_no_hash x q))

last_behind : {kind : ℕ → Bool} {name b : ℕ} {r m : List ℕ} {ps : List Piece} → Sort b kind name → All kind (b ∷ r) → Stops kind m → (p : Piece) →
    Last m ps → Last (b ∷ (r ++ m)) (p ∷ ps)
last_behind s p t q (data_last qs n) = data_last (q ∷ qs) n
last_behind {b = b} {r} s p t q (hash_last qs n a {h} {r = l} e (more x u) k) =
    hash_last (q ∷ qs) n ((b ∷ r) ++ a) (ap (λ (x : List ℕ). b ∷ (r ++ x)) e ∙ sym (append_assoc (b ∷ r) a (h ∷ l))) (more x u)
    (ends_append (b ∷ r) a k (λ z. hash_behind s p (rw (e ∙ ap (λ (x : List ℕ). x ++ (h ∷ l)) z) at t) x))

pub last : {l : List ℕ} {ps : List Piece} → Cut l ps → (l ≡ [] → ⊥) → Stops space_or_tab (reverse l) → Last l ps
last done n e = absurd (n refl)
last (run s p t c) n e = go s p t c e (λ k u. last c k u)
  where
    go : {kind : ℕ → Bool} {name b : ℕ} {r m : List ℕ} {ps : List Piece} → Sort b kind name → All kind (b ∷ r) → Stops kind m → Cut m ps →
        Stops space_or_tab (reverse (b ∷ (r ++ m))) → ((m ≡ [] → ⊥) → Stops space_or_tab (reverse m) → Last m ps) →
        Last (b ∷ (r ++ m)) (piece name (suc (length r)) ∷ ps)
    go {b = b} {r = r} s p t done e f = rw (append-nil r) (last_run s p _ (rw (append-nil r) at e))
    go {b = b} {r = r} s p t (run o q u c) e f = last_behind s p t _ (f not_empty (ends_behind (b ∷ r) _ e))

-- the pieces of some bytes have as many bytes in all
unfoldable pub total : List Piece → ℕ
total [] = 0
total (p ∷ ps) = p.size + total ps

cut_total : {l : List ℕ} {ps : List Piece} → Cut l ps → total ps ≡ length l
unfolding total
cut_total done = refl
cut_total (run {r = r} {m} s p t c) = omega (arith, cut_total c, length-append r m)

pub split_total : (l : List ℕ) → total (split l) ≡ length l
split_total l = cut_total (cut l)

-- and each of them is Data, a run of `#`, or spaces and tabs
pub data Named : List Piece → Type 0 where
  no_piece : Named []
  one_piece : {p : Piece} {ps : List Piece} → (p.name ≡ 0) ⊎ (p.name ≡ 12) ⊎ (p.name ≡ 14) → Named ps → Named (p ∷ ps)

sort_named : {kind : ℕ → Bool} {name b : ℕ} → Sort b kind name → (name ≡ 0) ⊎ (name ≡ 12) ⊎ (name ≡ 14)
sort_named blank = inr (inr refl)
sort_named hashed = inr (inl refl)
sort_named (word y z) = inl refl

cut_named : {l : List ℕ} {ps : List Piece} → Cut l ps → Named ps
cut_named done = no_piece
cut_named (run s p t c) = one_piece (sort_named s) (cut_named c)

pub split_named : (l : List ℕ) → Named (split l)
split_named l = cut_named (cut l)
