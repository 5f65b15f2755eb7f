-- The pieces of a heading line: each has at least one byte, so that they are as many as are asked for; and the loops over them.
-- Assumes nothing.
use mathlib.Core.Path.{◌≡◌, refl, sym, ap, ◌∙◌}
use mathlib.Core.Bool.{Bool, true, false}
use mathlib.Core.Logic.{⊎_elim}
use mathlib.Core.List.{List, [], ◌∷◌, ◌++◌, append-nil, append_assoc}
use Prim.Native.Nat.{ℕ, zero, suc, ◌+◌, ◌*◌, ◌-◌, ◌≤◌, ◌<◌}
use native.Mathlib.Nat.{zero-add}
use native.Mathlib.Omega.{arith}
use lib.ListN.{length, take, drop, length-drop, length-append, drop_of_length-le}
use lib.Seq.{drop-drop}
use Rattle.record.specs.Choice.{choose}
use Rattle.record.specs.Bytes.{Wrote}
use Rattle.record.specs.Event.{enter, exit, event_bytes, flat}
use Rattle.record.specs.declared.event.Event.{Event}
use Rattle.record.proofs.Chosen.{chosen}
use Rattle.record.proofs.Splice.{wrote_then, wrote_none, wrote_length}
use Rattle.record.proofs.Sections.{length_flat, flat_append}
use Rattle.scan.specs.Run.{space_or_tab, filled, hash, leading, first, blanks}
use Rattle.atx.specs.Heading.{piece, piece_of, pieces, split, events_from}
use Rattle.atx.specs.declared.Piece.{Piece}
use Rattle.scan.proofs.Leading.{leading_short, run_some}
use Rattle.scan.proofs.ByteKinds.{a_hash, no_hash, filled_otherwise}
use Rattle.scan.proofs.Blanks.{rest_of}

-- the piece in front, case by case
module _ (l : List ℕ) (n : ℕ) where
  pub blank_piece : space_or_tab (first l) ≡ true → n ≡ blanks l → piece 14 n ≡ piece_of l
  unfolding piece_of choose
  blank_piece e k = rw (e, ← k)

  module _ (e : space_or_tab (first l) ≡ false) where
    pub hash_piece : first l ≡ 35 → n ≡ leading hash l → piece 12 n ≡ piece_of l
    unfolding piece_of choose
    hash_piece h k = rw (e, a_hash _ h, ← k)

    pub data_piece : (first l ≡ 35 → ⊥) → n ≡ leading filled l → piece 0 n ≡ piece_of l
    unfolding piece_of choose
    data_piece h k = rw (e, no_hash _ h, ← k)

-- its size
pub record Sized (l : List ℕ) (p : Piece) : Type 0 where
  pub some : 1 ≤ p.size
  pub fits : p.size ≤ length l

run_sized : (kind : ℕ → Bool) (l : List ℕ) (name : ℕ) (p : Piece) → 0 < length l → kind (first l) ≡ true → p ≡ piece name (leading kind l) → Sized l p
run_sized kind l name p h e q =
    let s : p.size ≡ leading kind l = ap (λ (x : Piece). x.size) q in
    record { some = omega (arith, run_some kind l h e); fits = omega (arith, leading_short kind l) }

pub sized : (l : List ℕ) (p : Piece) → 0 < length l → p ≡ piece_of l → Sized l p
unfolding piece_of blanks
sized l p h q =
    ⊎_elim
    (λ w. run_sized space_or_tab l 14 p h w.0 w.1)
    (λ w.
    ⊎_elim
    (λ v. run_sized hash l 12 p h v.0 v.1)
    (λ v. run_sized filled l 0 p h (filled_otherwise _ w.0) v.1)
    (chosen _ _ _ _ w.1))
    (chosen _ _ _ _ q)

-- any number that suffices gives the same pieces
pub pieces_enough : (n m : ℕ) (l : List ℕ) → length l ≤ n → length l ≤ m → pieces n l ≡ pieces m l
unfolding pieces
pieces_enough zero zero l h k = refl
pieces_enough zero (suc m) [] h k = refl
pieces_enough zero (suc m) (b ∷ l) h k = absurd (omega arith)
pieces_enough (suc n) zero [] h k = refl
pieces_enough (suc n) zero (b ∷ l) h k = absurd (omega arith)
pieces_enough (suc n) (suc m) [] h k = refl
pieces_enough (suc n) (suc m) (b ∷ l) h k =
    let s = sized (b ∷ l) (piece_of (b ∷ l)) (omega arith) refl in
    let d : length (drop (piece_of (b ∷ l)).size (b ∷ l)) ≤ length l = omega (arith, s.some, length-drop (piece_of (b ∷ l)).size (b ∷ l)) in
    ap (λ (ps : List Piece). piece_of (b ∷ l) ∷ ps) (pieces_enough n m (drop (piece_of (b ∷ l)).size (b ∷ l)) (omega arith) (omega arith))

pub split_none : (l : List ℕ) (at : ℕ) → length l ≤ at → split (drop at l) ≡ []
unfolding split pieces
split_none l at h = rw (drop_of_length-le l {i = at} h)

pub split_cons : (l : List ℕ) → 0 < length l → split l ≡ piece_of l ∷ split (drop (piece_of l).size l)
unfolding split pieces
split_cons [] h = absurd (omega arith)
split_cons (b ∷ l) h =
    let s = sized (b ∷ l) (piece_of (b ∷ l)) h refl in
    let d : length (drop (piece_of (b ∷ l)).size (b ∷ l)) ≤ length l = omega (arith, s.some, length-drop (piece_of (b ∷ l)).size (b ∷ l)) in
    ap (λ (ps : List Piece). piece_of (b ∷ l) ∷ ps) (pieces_enough (length l) (length (drop (piece_of (b ∷ l)).size (b ∷ l))) (drop (piece_of (b ∷ l)).size (b ∷ l)) d (omega arith))

-- one piece at a place of a line, as a slice from there on has it
module _ (l : List ℕ) (at : ℕ) (p : Piece) (h : at < length l) (q : p ≡ piece_of (take (length l - at) (drop at l))) where
  here : p ≡ piece_of (drop at l)
  here = q ∙ ap piece_of (rest_of l at)

  split_at : split (drop at l) ≡ p ∷ split (drop (at + p.size) l)
  split_at =
      split_cons (drop at l) (omega (arith, length-drop at l))
      ∙ ap (λ (x : Piece). x ∷ split (drop x.size (drop at l))) (sym here)
      ∙ ap (λ (x : List ℕ). p ∷ split x) (drop-drop p.size at l)

  piece_some : 1 ≤ p.size
  piece_some = (sized (drop at l) p (omega (arith, length-drop at l)) here).some

  piece_fits : at + p.size ≤ length l
  piece_fits = omega (arith, (sized (drop at l) p (omega (arith, length-drop at l)) here).fits, length-drop at l)

-- counting them: n pieces are passed
pub record Split (l : List ℕ) (at n : ℕ) : Type 0 where
  pub low : at ≤ length l
  pub few : n ≤ at
  pub rest : n + length (split (drop at l)) ≡ length (split l)

pub split_start : (l : List ℕ) → Split l 0 0
split_start l = record { low = omega arith; few = omega arith; rest = zero-add (length (split l)) }

-- the step that a piece makes
pub record Step (l : List ℕ) (at : ℕ) (p : Piece) : Type 0 where
  pub some : 1 ≤ p.size
  pub fits : at + p.size ≤ length l

module _ {l : List ℕ} {at n : ℕ} (i : Split l at n) where
  pub split_step : (p : Piece) → at < length l → p ≡ piece_of (take (length l - at) (drop at l)) → Step l at p
  split_step p h q = record { some = piece_some l at p h q; fits = piece_fits l at p h q }

  pub split_turn : (p : Piece) → at < length l → p ≡ piece_of (take (length l - at) (drop at l)) → Split l (at + p.size) (n + 1)
  split_turn p h q =
      record {
        low = piece_fits l at p h q;
        few = omega (arith, piece_some l at p h q);
        rest = omega (arith, i.rest, ap length (split_at l at p h q));
      }

  pub split_done : length l ≤ at → n ≡ length (split l)
  split_done h = omega (arith, i.rest, ap length (split_none l at h))

-- writing them: those passed are written
pub record Putting (out₀ : List ℕ) (from : ℕ) (l out : List ℕ) (at to : ℕ) : Type 0 where
  pub low : at ≤ length l
  pub same : length out ≡ length out₀
  pub room : to + 16 * length (split (drop at l)) ≤ length out
  pub done : List Event
  pub place : to ≡ from + 8 * length done
  pub rest : done ++ events_from at (split (drop at l)) ≡ events_from 0 (split l)
  pub wrote : Wrote out₀ from (flat done) out

pub put_start : (out : List ℕ) (from : ℕ) (l : List ℕ) → from + 16 * length (split l) ≤ length out → Putting out from l out 0 from
unfolding flat
put_start out from l h =
    record {
      low = omega arith;
      same = refl;
      room = h;
      done = [];
      place = omega arith;
      rest = refl;
      wrote = wrote_none out from;
    }

module _ {out₀ : List ℕ} {from : ℕ} {l out : List ℕ} {at to : ℕ} (i : Putting out₀ from l out at to) where
  pub put_step : (p : Piece) → at < length l → p ≡ piece_of (take (length l - at) (drop at l)) → Step l at p
  put_step p h q = record { some = piece_some l at p h q; fits = piece_fits l at p h q }

  pub put_room : (p : Piece) → at < length l → p ≡ piece_of (take (length l - at) (drop at l)) → to + 16 ≤ length out
  put_room p h q = omega (arith, i.room, ap length (split_at l at p h q))

  pub put_turn : (p : Piece) → at < length l → p ≡ piece_of (take (length l - at) (drop at l)) → (out₁ out₂ : List ℕ) →
      Wrote out to (event_bytes 0 p.name at) out₁ → Wrote out₁ (to + 8) (event_bytes 1 p.name (at + p.size)) out₂ →
      Putting out₀ from l out₂ (at + p.size) (to + 16)
  unfolding flat events_from
  put_turn p h q out₁ out₂ v w =
      let pair : List Event = enter p.name at ∷ exit p.name (at + p.size) ∷ [] in
      let n : length (flat i.done) ≡ 8 * length i.done = length_flat i.done in
      let k : length out₂ ≡ length out = wrote_length w ∙ wrote_length v in
      let both : Wrote out to (flat pair) out₂ = wrote_then v w refl in
      record {
        low = piece_fits l at p h q;
        same = k ∙ i.same;
        room = omega (arith, i.room, ap length (split_at l at p h q));
        done = i.done ++ pair;
        place = omega (arith, i.place, length-append i.done pair);
        rest =
            append_assoc i.done pair (events_from (at + p.size) (split (drop (at + p.size) l)))
            ∙ ap (λ (ps : List Piece). i.done ++ events_from at ps) (sym (split_at l at p h q))
            ∙ i.rest;
        wrote = rw (flat_append i.done pair) (wrote_then i.wrote both (omega arith));
      }

  pub put_done : length l ≤ at → Wrote out₀ from (flat (events_from 0 (split l))) out
  unfolding events_from
  put_done h =
      let e : i.done ≡ events_from 0 (split l) =
      sym (append-nil i.done) ∙ ap (λ (ps : List Piece). i.done ++ events_from at ps) (sym (split_none l at h)) ∙ i.rest
      in
      rw e at i.wrote
