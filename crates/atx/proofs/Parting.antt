-- The content of a heading parts its pieces (specs/Parted.antt): what stands before it and behind it is what §4.2 takes off.
-- Assumes nothing.
use mathlib.Core.Path.{◌≡◌, refl, sym, ap, ◌∙◌}
use mathlib.Core.Logic.{◌⊎◌, inl, inr, ⊎_elim}
use mathlib.Core.List.{List, [], ◌∷◌, ◌++◌, reverse, append-nil, append_assoc}
use Prim.Native.Nat.{ℕ, suc}
use native.Mathlib.Omega.{arith}
use lib.ListN.{length, take, drop, length-append}
use lib.Seq.{take_at, drop_at, take-append_seam, drop-append_seam, drop-drop}
use Rattle.record.proofs.Bools.{clash}
use Rattle.scan.specs.Run.{space_or_tab, filled, hash}
use Rattle.scan.proofs.ByteKinds.{hash_filled, blank_filled, unfilled_no_hash}
use Rattle.atx.specs.Heading.{piece, split}
use Rattle.atx.specs.Content.{strip_front, behind_opening, content, content_from, content_to}
use Rattle.atx.specs.Parted.{Blank, Opened, bare, indented, Closed, closing, DataOrRun, Filled, Empty, PartedByContent}
use Rattle.atx.specs.declared.Piece.{Piece}
use Rattle.atx.proofs.Stripped.{not_empty, All, none, more, Stops, end, at}
use Rattle.atx.proofs.Stripped.{all_reverse, all_others, stops_append, stops_before, ends_append, ends_behind, front_off}
use Rattle.atx.proofs.Seams.{Cut, done, run, blank, hashed, word, cut, cut_pieces, rises, falls, split_seam, Last, data_last, hash_last, last}
use Rattle.atx.proofs.Enclosed.{Begun, begun, Closing, closed, TakenOff, rest, only_behind, neither_begins, none_left}

-- the pieces of spaces and tabs
blank_cut : {l : List ℕ} → All space_or_tab l → (ps : List Piece) × Blank ps × Cut l ps
blank_cut none = ([], Blank.none, done)
blank_cut (more {l = l} e p) = (_, Blank.some, rw (append-nil l) at (run blank (more e p) end done))

-- with a run of `#` before them
hash_cut : {h : ℕ} {r l : List ℕ} → All hash (h ∷ r) → All space_or_tab l →
    (ps : List Piece) × Blank ps × Cut (h ∷ (r ++ l)) (piece 12 (suc (length r)) ∷ ps)
hash_cut p q =
    let c = blank_cut q in
    (_, c.1, run hashed p (all_others (λ b e. unfilled_no_hash b (blank_filled b e)) q) c.2)

-- and spaces or tabs before that
between_cut : {b h : ℕ} {s r l : List ℕ} → All space_or_tab (b ∷ s) → All hash (h ∷ r) → All space_or_tab l →
    (ps : List Piece) × Blank ps × Cut (b ∷ (s ++ (h ∷ (r ++ l)))) (piece 14 (suc (length s)) ∷ piece 12 (suc (length r)) ∷ ps)
between_cut o (more e p) q = let c = hash_cut (more e p) q in (_, c.1, run blank o (at (hash_filled _ e)) c.2)

blank_pieces : {l : List ℕ} → All space_or_tab l → Blank (split l)
blank_pieces q = let c = blank_cut q in rw (cut_pieces c.2) c.1

closing_pieces : {l : List ℕ} → Closing l → Closed (split l)
closing_pieces (closed p q o) = let c = between_cut p q o in rw (cut_pieces c.2) (closing c.1)

closing_broken : {l : List ℕ} → Closing l → Stops filled l
closing_broken (closed (more e p) q o) = at (blank_filled _ e)

-- the opening sequence and what follows it
module _ {l : List ℕ} (g : Begun l) where
  abbrev opens : List ℕ → List ℕ
  opens m = g.indent ++ (g.sign ∷ (g.signs ++ m))

  opens_append : (a b : List ℕ) → opens (a ++ b) ≡ opens a ++ b
  opens_append a b = simp append_assoc

  opened_pieces : {m : List ℕ} → All space_or_tab m → Opened (split (opens m))
  opened_pieces {m} q = go g.blank g.hashes
    where
      go : {i r : List ℕ} {h : ℕ} → All space_or_tab i → All hash (h ∷ r) → Opened (split (i ++ (h ∷ (r ++ m))))
      go none p = let c = hash_cut p q in rw (cut_pieces c.2) (bare c.1)
      go (more e o) p = let c = between_cut (more e o) p q in rw (cut_pieces c.2) (indented c.1)

  -- spaces and tabs part it from anything else
  parts_off : {b : ℕ} {s m : List ℕ} → All space_or_tab (b ∷ s) → Stops space_or_tab m → split (opens ((b ∷ s) ++ m)) ≡ split (opens (b ∷ s)) ++ split m
  parts_off {b} {s} {m} q t =
      let e : opens (b ∷ s) ≡ opens [] ++ (b ∷ s) = opens_append [] (b ∷ s) in
      let u = ends_append (opens []) (b ∷ s) (all_others blank_filled (all_reverse q)) (λ e. absurd (not_empty e)) in
      ap split (opens_append (b ∷ s) m) ∙ split_seam (opens (b ∷ s)) m (rises (rw e u) t)

  -- a line without content
  empty_line : {b : List ℕ} → l ≡ opens b → All space_or_tab b ⊎ Closing b → Empty l
  empty_line w (inl q) =
      record { front = split l; back = []; parts = sym (append-nil (split l)); opened = rw w (opened_pieces q); behind = inl refl }
  empty_line w (inr (closed {b = b} {s = s} q (more e u) t)) =
      let c = hash_cut (more e u) t in
      record {
        front = split (opens (b ∷ s));
        back = _;
        parts = ap split w ∙ parts_off q (at (hash_filled _ e)) ∙ ap (λ (x : List Piece). split (opens (b ∷ s)) ++ x) (cut_pieces c.2);
        opened = opened_pieces q;
        behind = inr (_, c.0, refl, c.1);
      }

-- bytes that begin with no space or tab begin with Data or a run of `#`
begins_with : {l : List ℕ} {ps : List Piece} → Cut l ps → (l ≡ [] → ⊥) → Stops space_or_tab l →
    (q : Piece) × (qs : List Piece) × (ps ≡ q ∷ qs) × DataOrRun q.name
begins_with done n t = absurd (n refl)
begins_with (run blank (more e p) s c) n (at f) = absurd (clash e f)
begins_with (run hashed p s c) n t = (_, _, refl, inr refl)
begins_with (run (word y z) p s c) n t = (_, _, refl, inl refl)

-- where the content stands in the line, between `a` and `b`
module _ (l a b : List ℕ) (w : l ≡ a ++ (content l ++ b))
    (k : strip_front space_or_tab (behind_opening l) ≡ content l ++ b) where
  from_place : content_from l ≡ length a
  unfolding content_from
  from_place = omega (arith, ap length k, ap length w, length-append a (content l ++ b))

  at_front : take (content_from l) l ≡ a
  at_front = ap (take (content_from l)) w ∙ take_at a (content l ++ b) (content_from l) (sym from_place)

  at_content : drop (content_from l) l ≡ content l ++ b
  at_content = ap (drop (content_from l)) w ∙ drop_at a (content l ++ b) (content_from l) (sym from_place)

  at_behind : drop (content_to l) l ≡ b
  unfolding content_to
  at_behind =
      sym (drop-drop (length (content l)) (content_from l) l)
      ∙ ap (drop (length (content l))) at_content
      ∙ drop-append_seam (content l) b

-- a line with content
module _ (l : List ℕ) (g : Begun l) (n : content l ≡ [] → ⊥) (t : Stops space_or_tab (content l)) where
  abbrev c : List ℕ
  c = content l

  module _ {b : ℕ} {s m : List ℕ} (q : All space_or_tab (b ∷ s)) (w : behind_opening l ≡ ((b ∷ s) ++ c) ++ m) (u : Stops filled m) where
    stops : Stops space_or_tab (c ++ m)
    stops = stops_append t (λ e. absurd (n e))

    follows : behind_opening l ≡ (b ∷ s) ++ (c ++ m)
    follows = w ∙ append_assoc (b ∷ s) c m

    -- its last piece z says what may follow it
    fill : Stops space_or_tab (reverse c) → (qs : List Piece) (z : Piece) → split c ≡ qs ++ (z ∷ []) → DataOrRun z.name →
        (Blank (split m) × (z.name ≡ 0)) ⊎ Closed (split m) → Filled l
    fill e qs z x y k =
        let begin = begins_with (cut c) n t in
        let line : l ≡ opens g ((b ∷ s) ++ (c ++ m)) = g.parts ∙ ap (opens g) follows in
        let apart : l ≡ opens g (b ∷ s) ++ (c ++ m) = line ∙ opens_append g (b ∷ s) (c ++ m) in
        let r : strip_front space_or_tab (behind_opening l) ≡ c ++ m = ap (strip_front space_or_tab) follows ∙ front_off q stops in
        let f = at_front l (opens g (b ∷ s)) m apart r in
        let h = at_behind l (opens g (b ∷ s)) m apart r in
        record {
          parts = rw (f, h) (ap split line ∙ parts_off g q stops ∙ ap (λ (x : List Piece). split (opens g (b ∷ s)) ++ x) (split_seam c m (falls e u)));
          there = ap (take (length c)) (at_content l (opens g (b ∷ s)) m apart r) ∙ take-append_seam c m;
          opened = rw f (opened_pieces g q);
          begin = begin.0;
          onward = begin.1;
          begins = begin.2;
          begins_with = begin.3;
          end = z;
          before = qs;
          ends = x;
          ends_with = y;
          behind = rw h k;
        }

  -- spaces or tabs are before the content, since something has to part it from the opening sequence
  filled_line : {off m : List ℕ} → behind_opening l ≡ (off ++ c) ++ m → All space_or_tab off → Stops space_or_tab (reverse (off ++ c)) →
      TakenOff (off ++ c) m → Filled l
  filled_line {m = m} w none e k = absurd (n (neither_begins (stops_before c m (rw w at g.broken)) t))
  filled_line {m = m} w (more {b = b} {l = s} x y) e k = go (last (cut c) n ends) refl
    where
      ends : Stops space_or_tab (reverse c)
      ends = ends_behind (b ∷ s) c e

      broken : Stops filled m
      broken = ⊎_elim (λ o. all_others blank_filled o.0) closing_broken k

      go : {ps : List Piece} → Last c ps → split c ≡ ps → Filled l
      go (data_last qs z) d =
          fill (more x y) w broken ends qs (piece 0 z) d (inl refl) (⊎_elim (λ o. inl (blank_pieces o.0, refl)) (λ o. inr (closing_pieces o)) k)
      go (hash_last qs z a v p i) d =
          fill (more x y) w broken ends qs (piece 12 z) d (inr refl)
          (⊎_elim (λ o. absurd (none_left (more x y) a v p i o.1)) (λ o. inr (closing_pieces o)) k)

pub parted_by_content : PartedByContent
unfolding content
parted_by_content options column l h =
    let g = begun options column l h in
    let k = rest (behind_opening l) in
    record {
      filled = λ n. filled_line l g n k.begins k.parts k.blank k.ends k.taken;
      empty = λ e. empty_line g (g.parts ∙ ap (opens g) (only_behind k e)) (⊎_elim (λ o. inl o.0) inr k.taken);
    }
