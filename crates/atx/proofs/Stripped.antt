-- Bytes all of a kind (All), and bytes that do not begin with one of a kind (Stops); and what stripping leaves (specs/Content.antt): the first are
-- taken off, and what is kept is the second, forwards or backwards.
-- Assumes nothing.
use mathlib.Core.Path.{◌≡◌, refl, sym, ap, ◌∙◌}
use mathlib.Core.Bool.{Bool, true, false}
use mathlib.Core.List.{List, [], ◌∷◌, ◌++◌, reverse, reverse-cons, reverse-append, reverse-reverse}
use Prim.Native.Nat.{ℕ, suc}
use native.Mathlib.Omega.{arith}
use lib.ListN.{length, take, drop, take-append-drop}
use lib.Seq.{drop-append_seam}
use Rattle.record.specs.Choice.{choose}
use Rattle.record.proofs.Bools.{clash}
use Rattle.scan.specs.Run.{leading, first}
use Rattle.atx.specs.Content.{strip_front, strip_end}

-- all bytes are of a kind
pub data All (kind : ℕ → Bool) : List ℕ → Type 0 where
  none : All kind []
  more : {b : ℕ} {l : List ℕ} → kind b ≡ true → All kind l → All kind (b ∷ l)

-- the first one, if there is one, is not
pub data Stops (kind : ℕ → Bool) : List ℕ → Type 0 where
  end : Stops kind []
  at : {b : ℕ} {l : List ℕ} → kind b ≡ false → Stops kind (b ∷ l)

-- a list with a byte is not empty
pub not_empty : {b : ℕ} {l : List ℕ} → b ∷ l ≡ [] → ⊥
not_empty e = let z : ◌≡◌ {A = ℕ} 0 1 = cc in omega arith

pub reverse_none : (l : List ℕ) → reverse l ≡ [] → l ≡ []
reverse_none l e = sym (reverse-reverse l) ∙ ap reverse e

module _ {kind other : ℕ → Bool} where
  pub all_as : ((b : ℕ) → kind b ≡ true → other b ≡ true) → {l : List ℕ} → All kind l → All other l
  all_as f none = none
  all_as f (more e p) = more (f _ e) (all_as f p)

  pub stops_as : ((b : ℕ) → kind b ≡ false → other b ≡ false) → {l : List ℕ} → Stops kind l → Stops other l
  stops_as f end = end
  stops_as f (at e) = at (f _ e)

  pub all_others : ((b : ℕ) → kind b ≡ true → other b ≡ false) → {l : List ℕ} → All kind l → Stops other l
  all_others f none = end
  all_others f (more e p) = at (f _ e)

module _ {kind : ℕ → Bool} where
  all_append : {a b : List ℕ} → All kind a → All kind b → All kind (a ++ b)
  all_append none q = q
  all_append (more e p) q = more e (all_append p q)

  pub all_reverse : {l : List ℕ} → All kind l → All kind (reverse l)
  all_reverse none = none
  all_reverse (more {b = b} {l = l} e p) = rw (reverse-cons b l) (all_append (all_reverse p) (more e none))

  pub stops_append : {a b : List ℕ} → Stops kind a → (a ≡ [] → Stops kind b) → Stops kind (a ++ b)
  stops_append end f = f refl
  stops_append (at e) f = at e

  pub stops_first : kind 0 ≡ false → {l : List ℕ} → Stops kind l → kind (first l) ≡ false
  stops_first z end = z
  stops_first z (at e) = e

  pub first_stops : (l : List ℕ) → kind (first l) ≡ false → Stops kind l
  first_stops [] e = end
  first_stops (b ∷ l) e = at e

  pub stops_before : (a b : List ℕ) → Stops kind (a ++ b) → Stops kind a
  stops_before [] b s = end
  stops_before (x ∷ a) b (at e) = at e

  pub ends_append : (a b : List ℕ) → Stops kind (reverse b) → (b ≡ [] → Stops kind (reverse a)) → Stops kind (reverse (a ++ b))
  ends_append a b s f = rw (reverse-append a b) (stops_append s (λ e. f (reverse_none b e)))

  -- what ends with no byte of the kind does so without its front too
  pub ends_behind : (a b : List ℕ) → Stops kind (reverse (a ++ b)) → Stops kind (reverse b)
  ends_behind a b s = stops_before (reverse b) (reverse a) (rw (reverse-append a b) at s)

  -- what is all of a kind and ends with no byte of it is nothing
  pub all_ends : {l : List ℕ} → All kind l → Stops kind (reverse l) → l ≡ []
  all_ends {l} p s = reverse_none l (neither (all_reverse p) s)
    where
      neither : {l : List ℕ} → All kind l → Stops kind l → l ≡ []
      neither none end = refl
      neither (more e p) (at q) = absurd (clash e q)

  pub run_length : {a m : List ℕ} → All kind a → Stops kind m → leading kind (a ++ m) ≡ length a
  unfolding leading choose
  run_length none end = refl
  run_length none (at e) = rw e
  run_length (more e p) s = rw (e, run_length p s)

  -- what is stripped is determined by what is left
  pub front_off : {off kept : List ℕ} → All kind off → Stops kind kept → strip_front kind (off ++ kept) ≡ kept
  unfolding strip_front
  front_off {off} {kept} p s = rw (run_length p s) (drop-append_seam off kept)

  pub end_off : {off kept : List ℕ} → All kind off → Stops kind (reverse kept) → strip_end kind (kept ++ off) ≡ kept
  unfolding strip_end
  end_off {off} {kept} p s = rw (reverse-append kept off, front_off (all_reverse p) s) (reverse-reverse kept)

module _ (kind : ℕ → Bool) where
  run_all : (l : List ℕ) → All kind (take (leading kind l) l)
  unfolding leading choose
  run_all [] = none
  run_all (b ∷ l) = go (kind b) refl (run_all l)
    where
      go : (z : Bool) → kind b ≡ z → All kind (take (leading kind l) l) → All kind (take (choose z (suc (leading kind l)) 0) (b ∷ l))
      go true q p = more q p
      go false q p = none

  rest_stops : (l : List ℕ) → Stops kind (drop (leading kind l) l)
  unfolding leading choose
  rest_stops [] = end
  rest_stops (b ∷ l) = go (kind b) refl (rest_stops l)
    where
      go : (z : Bool) → kind b ≡ z → Stops kind (drop (leading kind l) l) → Stops kind (drop (choose z (suc (leading kind l)) 0) (b ∷ l))
      go true q s = s
      go false q s = at q

-- the bytes without those of a kind at their front
pub record FrontOff (kind : ℕ → Bool) (l kept : List ℕ) : Type 0 where
  pub off : List ℕ
  pub whole : l ≡ off ++ kept
  pub all : All kind off
  pub stops : Stops kind kept

-- and without those at their end
pub record EndOff (kind : ℕ → Bool) (l kept : List ℕ) : Type 0 where
  pub off : List ℕ
  pub whole : l ≡ kept ++ off
  pub all : All kind off
  pub stops : Stops kind (reverse kept)

pub front_stripped : (kind : ℕ → Bool) (l : List ℕ) → FrontOff kind l (strip_front kind l)
unfolding strip_front
front_stripped kind l =
    record { off = take (leading kind l) l; whole = sym (take-append-drop (leading kind l) l); all = run_all kind l; stops = rest_stops kind l }

pub end_stripped : (kind : ℕ → Bool) (l : List ℕ) → EndOff kind l (strip_end kind l)
unfolding strip_end
end_stripped kind l =
    let f = front_stripped kind (reverse l) in
    record {
      off = reverse f.off;
      whole = sym (reverse-reverse l) ∙ ap reverse f.whole ∙ reverse-append f.off (strip_front kind (reverse l));
      all = all_reverse f.all;
      stops = rw (reverse-reverse (strip_front kind (reverse l))) f.stops;
    }
