-- The laws of specs/Laws.antt for the heading reader: its section is sound and balanced, and its pieces cover the line without a gap; and the
-- line begins with at most one 14 and then a 12, and not behind more than three columns with option 32.
-- Assumes nothing.
use mathlib.Core.Path.{◌≡◌, refl, sym, ap, ◌∙◌}
use mathlib.Core.Bool.{Bool, true, false}
use mathlib.Core.Logic.{◌⊎◌, inl, inr, ⊎_elim}
use mathlib.Core.List.{List, [], ◌∷◌, ◌++◌}
use Prim.Native.Nat.{ℕ, zero, suc, ◌+◌, ◌≤◌, ◌<◌}
use native.Mathlib.Nat.{add-zero}
use native.Mathlib.Omega.{arith}
use lib.ListN.{length, get_or, drop, length-drop}
use lib.Seq.{take-length, get_or-drop}
use borrow.Author.Tests.{le-leb, lt-ltb, eq-eqb, leb-true}
use Rattle.record.specs.Choice.{choose, and}
use Rattle.record.specs.Event.{enter, exit}
use Rattle.record.specs.Stack.{fits_open, after}
use Rattle.record.specs.Sound.{placed, sound_from}
use Rattle.record.specs.declared.event.Event.{Event}
use Rattle.record.proofs.Bools.{and_left, and_right}
use Rattle.record.proofs.Chosen.{chosen}
use Rattle.scan.specs.Run.{space_or_tab, hash, leading, first, blanks}
use Rattle.scan.specs.Columns.{reach, indentation}
use Rattle.atx.specs.Heading.{opening, is_heading, piece, piece_of, pieces, split, events_from, heading_events}
use Rattle.atx.specs.Laws.{gapless, HeadingLaws, HeadingShape, TooDeep, EveryFour}
use Rattle.atx.specs.declared.Piece.{Piece}
use Rattle.scan.proofs.Leading.{leading_short, first_of, front_passed}
use Rattle.scan.proofs.Blanks.{blanks_length}
use Rattle.scan.proofs.ByteKinds.{hash_filled}
use Rattle.scan.proofs.InColumns.{passed_stop, columns_none, going_on, reach_counted}
use Rattle.scan.proofs.Taken.{indent_reach, indent_four}
use Rattle.atx.proofs.Pieces.{sized, split_cons}

-- an event that fits, before a sound rest
module _ (deep d last name at : ℕ) (held : List ℕ) (es : List Event) (n : name ≤ 24) (h : at ≤ d) (k : last ≤ at) where
  enter_sound : length held < deep → sound_from deep d at (name ∷ held) es ≡ true → sound_from deep d last held (enter name at ∷ es) ≡ true
  unfolding sound_from placed fits_open after choose and
  enter_sound l t = rw (le-leb name 24 n, le-leb at d h, le-leb last at k, lt-ltb (length held) deep l) t

  exit_sound : sound_from deep d at held es ≡ true → sound_from deep d last (name ∷ held) (exit name at ∷ es) ≡ true
  unfolding sound_from placed fits_open after choose and
  exit_sound t = rw (le-leb name 24 n, le-leb at d h, le-leb last at k, eq-eqb name name refl) t

-- a piece's name
name_small : (l : List ℕ) (p : Piece) → p ≡ piece_of l → p.name ≤ 24
unfolding piece_of
name_small l p q =
    ⊎_elim
    (λ w. let e : p.name ≡ 14 = ap (λ (x : Piece). x.name) w.1 in omega arith)
    (λ w.
    ⊎_elim
    (λ v. let e : p.name ≡ 12 = ap (λ (x : Piece). x.name) v.1 in omega arith)
    (λ v. let e : p.name ≡ 0 = ap (λ (x : Piece). x.name) v.1 in omega arith)
    (chosen _ _ _ _ w.1))
    (chosen _ _ _ _ q)

-- the end of a heading, where 11 alone is open
ends_sound : (d last : ℕ) → last ≤ d → sound_from 2 d last (11 ∷ []) (exit 11 d ∷ []) ≡ true
unfolding sound_from
ends_sound d last h = exit_sound 2 d last 11 d [] [] (omega arith) (omega arith) h refl

-- one piece more
piece_sound : (d at : ℕ) (p : Piece) (es : List Event) → p.name ≤ 24 → at + p.size ≤ d → sound_from 2 d (at + p.size) (11 ∷ []) es ≡ true →
    sound_from 2 d at (11 ∷ []) (enter p.name at ∷ exit p.name (at + p.size) ∷ es) ≡ true
piece_sound d at p es n h t =
    enter_sound 2 d at p.name at (11 ∷ []) (exit p.name (at + p.size) ∷ es) n (omega arith) (omega arith) (omega arith)
    (exit_sound 2 d at p.name (at + p.size) (11 ∷ []) es n h (omega arith) t)

pieces_sound : (n : ℕ) (l : List ℕ) (d at : ℕ) → length l ≤ n → at + length l ≡ d →
    sound_from 2 d at (11 ∷ []) (events_from at (pieces n l) ++ (exit 11 d ∷ [])) ≡ true
unfolding pieces events_from
pieces_sound zero [] d at h e = ends_sound d at (omega arith)
pieces_sound zero (b ∷ l) d at h e = absurd (omega arith)
pieces_sound (suc n) [] d at h e = ends_sound d at (omega arith)
pieces_sound (suc n) (b ∷ l) d at h e =
    let s = sized (b ∷ l) (piece_of (b ∷ l)) (omega arith) refl in
    let k = length-drop (piece_of (b ∷ l)).size (b ∷ l) in
    piece_sound d at (piece_of (b ∷ l)) (events_from (at + (piece_of (b ∷ l)).size) (pieces n (drop (piece_of (b ∷ l)).size (b ∷ l))) ++ (exit 11 d ∷ []))
    (name_small (b ∷ l) (piece_of (b ∷ l)) refl)
    (omega (arith, s.fits))
    (pieces_sound n (drop (piece_of (b ∷ l)).size (b ∷ l)) d (at + (piece_of (b ∷ l)).size) (omega (arith, s.some)) (omega (arith, s.fits)))

gapless_more : (from to : ℕ) (p : Piece) (es : List Event) → 1 ≤ p.size → gapless (from + p.size) to es ≡ true →
    gapless from to (enter p.name from ∷ exit p.name (from + p.size) ∷ es) ≡ true
unfolding gapless and
gapless_more from to p es h t = rw (eq-eqb from from refl, lt-ltb from (from + p.size) (omega arith)) t

pieces_gapless : (n : ℕ) (l : List ℕ) (d at : ℕ) → length l ≤ n → at + length l ≡ d → gapless at d (events_from at (pieces n l)) ≡ true
unfolding pieces events_from gapless
pieces_gapless zero [] d at h e = eq-eqb at d (omega arith)
pieces_gapless zero (b ∷ l) d at h e = absurd (omega arith)
pieces_gapless (suc n) [] d at h e = eq-eqb at d (omega arith)
pieces_gapless (suc n) (b ∷ l) d at h e =
    let s = sized (b ∷ l) (piece_of (b ∷ l)) (omega arith) refl in
    let k = length-drop (piece_of (b ∷ l)).size (b ∷ l) in
    gapless_more at d (piece_of (b ∷ l)) (events_from (at + (piece_of (b ∷ l)).size) (pieces n (drop (piece_of (b ∷ l)).size (b ∷ l)))) s.some
    (pieces_gapless n (drop (piece_of (b ∷ l)).size (b ∷ l)) d (at + (piece_of (b ∷ l)).size) (omega (arith, s.some)) (omega (arith, s.fits)))

pub heading_lawful : (l : List ℕ) → HeadingLaws l
unfolding heading_events split
heading_lawful l =
    record {
      balanced =
          enter_sound 2 (length l) 0 11 0 [] (events_from 0 (pieces (length l) l) ++ (exit 11 (length l) ∷ [])) (omega arith) (omega arith) (omega arith) (omega arith)
          (pieces_sound (length l) l (length l) 0 (omega arith) (omega arith));
      covers = pieces_gapless (length l) l (length l) 0 (omega arith) (omega arith);
    }

-- what opens a heading is a `#`
opening_hash : (l : List ℕ) → opening l ≡ true → hash (first l) ≡ true
unfolding opening
opening_hash l o = first_of hash l (leb-true _ _ (and_left _ _ o))

module _ (options column : ℕ) (l : List ℕ) where
  -- what stands behind the indentation
  abbrev inside : List ℕ
  inside = drop (indentation options column l).bytes l

  pub heading_opening : is_heading l options column ≡ true → opening inside ≡ true
  unfolding is_heading
  heading_opening t = and_right _ _ t

  pub heading_hash : is_heading l options column ≡ true → hash (first inside) ≡ true
  heading_hash t = opening_hash inside (heading_opening t)

  -- before a byte that is neither, the indentation is all of the spaces and tabs
  indent_all : space_or_tab (get_or l (indentation options column l).bytes 0) ≡ false → blanks l ≡ (indentation options column l).bytes
  unfolding blanks
  indent_all e =
      let r = (indent_reach options column l).1 in
      sym
      (front_passed (omega arith) (passed_stop (omega arith) r.within (record { each = λ p n h. r.before p h }) e)
      ∙ ap (leading space_or_tab) (take-length l))

  -- and so it is in a heading
  pub indent_blanks : is_heading l options column ≡ true → blanks l ≡ (indentation options column l).bytes
  indent_blanks t =
      let n = (indentation options column l).bytes in
      let at : first inside ≡ get_or l n 0 = get_or-drop n l 0 0 ∙ ap (λ (k : ℕ). get_or l k 0) (add-zero n) in
      indent_all (ap space_or_tab (sym at) ∙ hash_filled _ (heading_hash t))

-- with option 32, of more than three columns in front some are behind the indentation, and so no `#` is there
pub too_deep : TooDeep
unfolding indentation choose
too_deep l options column e h = go (is_heading l options column) refl
  where
    three : indentation options column l ≡ reach 3 column l
    three = rw e

    go : (z : Bool) → is_heading l options column ≡ z → is_heading l options column ≡ false
    go true q =
        let f : hash (first (drop (reach 3 column l).bytes l)) ≡ true = rw three at (heading_hash options column l q) in
        let none = columns_none (column + (reach 3 column l).columns) (drop (reach 3 column l).bytes l) (hash_filled _ f) in
        absurd (omega (arith, (going_on 3 column l).all, none, (reach_counted 3 column l).at_most))
    go false q = q

pub hash_first : (l : List ℕ) → hash (first l) ≡ true → piece_of l ≡ piece 12 (leading hash l)
unfolding piece_of choose
hash_first l e = rw (hash_filled _ e, e)

pub blank_first : (l : List ℕ) → space_or_tab (first l) ≡ true → piece_of l ≡ piece 14 (blanks l)
unfolding piece_of choose
blank_first l e = rw e

blank_there : (l : List ℕ) (i : ℕ) → blanks l ≡ suc i → space_or_tab (first l) ≡ true
unfolding blanks
blank_there l i e = first_of space_or_tab l (omega arith)

pub split_first : (l : List ℕ) (p : Piece) → 0 < length l → piece_of l ≡ p → split l ≡ p ∷ split (drop p.size l)
split_first l p h q = split_cons l h ∙ ap (λ (x : Piece). x ∷ split (drop x.size l)) q

pub heading_shaped : (l : List ℕ) (options column : ℕ) → is_heading l options column ≡ true → HeadingShape l options column
unfolding opening
heading_shaped l options column t =
    let m : List ℕ = drop (indentation options column l).bytes l in
    let o = heading_opening options column l t in
    let some : 1 ≤ leading hash m = leb-true _ _ (and_left _ _ o) in
    let six : leading hash m ≤ 6 = leb-true _ _ (and_left _ _ (and_right _ _ o)) in
    let f : hash (first m) ≡ true = heading_hash options column l t in
    let there : split m ≡ piece 12 (leading hash m) ∷ split (drop (leading hash m) m) =
    split_first m (piece 12 (leading hash m)) (omega (arith, leading_short hash m)) (hash_first m f)
    in
    record {
      level = leading hash m;
      one_to_six = (some, six);
      rest = split (drop (leading hash m) m);
      begins =
          begins l (indentation options column l).bytes (indent_blanks options column l t) (piece 12 (leading hash m) ∷ split (drop (leading hash m) m)) there;
    }
  where
    begins : (l : List ℕ) (i : ℕ) → blanks l ≡ i → (ps : List Piece) → split (drop i l) ≡ ps → (split l ≡ ps) ⊎ (split l ≡ piece 14 i ∷ ps)
    begins l zero e ps q = inl q
    begins l (suc i) e ps q =
        inr (split_first l (piece 14 (suc i)) (omega (arith, blanks_length l)) (blank_first l (blank_there l i e) ∙ ap (piece 14) e) ∙ ap (λ (x : List Piece). piece 14 (suc i) ∷ x) q)

-- four columns further on
pub heading_four : EveryFour
unfolding is_heading
heading_four l options column = rw (indent_four options column l)
