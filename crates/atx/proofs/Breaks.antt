-- The law of specs/Laws.antt on runs of `#`: a 12 of a heading is a whole run of them that follows a break, and each that follows one is a 12.
-- Assumes nothing.
use mathlib.Core.Path.{◌≡◌, refl, sym, ap, ◌∙◌}
use mathlib.Core.Bool.{Bool, true, false}
use mathlib.Core.Logic.{◌⊎◌, inl, inr, ⊎_elim}
use mathlib.Core.List.{List, [], ◌∷◌, ◌++◌}
use Prim.Native.Nat.{ℕ, zero, suc, ◌+◌, ◌-◌, ◌≤◌, ◌<◌}
use native.Mathlib.Omega.{arith}
use lib.ListN.{length, get_or, drop, length-drop, get_or-eq_default}
use lib.Seq.{get_or-drop, drop-drop}
use lib.Dec.{eqb, ltb}
use borrow.Author.Tests.{eqb-true, eqb-false, ltb-true, ltb-false}
use Rattle.record.specs.Event.{enter, exit}
use Rattle.record.specs.Stack.{nth}
use Rattle.record.specs.declared.event.Event.{Event}
use Rattle.record.proofs.Bools.{clash}
use Rattle.record.proofs.Chosen.{chosen}
use Rattle.scan.specs.Run.{space_or_tab, filled, hash, leading, first, blanks}
use Rattle.scan.proofs.Leading.{run_some, in_run, run_stops}
use Rattle.scan.proofs.ByteKinds.{hash_filled, filled_otherwise, blank_filled, unfilled_no_hash}
use Rattle.atx.specs.Heading.{piece, piece_of, pieces, split, events_from, heading_events}
use Rattle.atx.specs.Laws.{after_break, HashRun, Entered, HashRuns}
use Rattle.atx.specs.declared.Piece.{Piece}

-- the piece in front of m: spaces and tabs, a run of `#`, or Data up to the next space or tab
pub data Front (m : List ℕ) (p : Piece) : Type 0 where
  blank : space_or_tab (first m) ≡ true → p ≡ piece 14 (leading space_or_tab m) → Front m p
  hashed : hash (first m) ≡ true → p ≡ piece 12 (leading hash m) → Front m p
  word : space_or_tab (first m) ≡ false → hash (first m) ≡ false → p ≡ piece 0 (leading filled m) → Front m p

front : (m : List ℕ) → Front m (piece_of m)
unfolding piece_of blanks
front m =
    ⊎_elim
    (λ w. blank w.0 w.1)
    (λ w. ⊎_elim (λ v. hashed v.0 v.1) (λ v. word w.0 v.0 v.1) (chosen _ _ _ _ w.1))
    (chosen _ _ _ _ refl)

-- an exit, and what stands for no event, are no enter of a 12
no_enter : (name place from : ℕ) → exit name place ≡ enter 12 from → ⊥
no_enter name place from e = let q : ◌≡◌ {A = ℕ} 1 0 = ap (λ (x : Event). x.kind) e in omega arith

nothing_there : (from : ℕ) → record { kind = 0; name = 0; place = 0 } ≡ enter 12 from → ⊥
nothing_there from e = let q : ◌≡◌ {A = ℕ} 0 12 = ap (λ (x : Event). x.name) e in omega arith

-- two places
from : (at i : ℕ) → at ≤ i → (i ≡ at) ⊎ (at < i)
from at i h = go (eqb i at) refl
  where
    go : (z : Bool) → eqb i at ≡ z → (i ≡ at) ⊎ (at < i)
    go true q = inl (eqb-true i at q)
    go false q = inr (let n = eqb-false i at q in omega arith)

before : (i to : ℕ) → (i < to) ⊎ (to ≤ i)
before i to = go (ltb i to) refl
  where
    go : (z : Bool) → ltb i to ≡ z → (i < to) ⊎ (to ≤ i)
    go true q = inl (ltb-true i to q)
    go false q = inr (ltb-false i to q)

module _ (l : List ℕ) where
  blank_before : (i j : ℕ) → i ≡ suc j → after_break l i ≡ space_or_tab (get_or l j 0)
  unfolding after_break
  blank_before i j q = rw q

  module _ (at : ℕ) (m : List ℕ) (here : drop at l ≡ m) (h : 0 < length m) where
    -- a byte of what is left is one of the line
    byte : (i : ℕ) → get_or m i 0 ≡ get_or l (at + i) 0
    byte i = ap (λ (x : List ℕ). get_or x i 0) (sym here) ∙ get_or-drop at l i 0

    byte_at : (k i : ℕ) → k ≡ at + i → get_or m i 0 ≡ get_or l k 0
    byte_at k i q = byte i ∙ ap (λ (x : ℕ). get_or l x 0) (sym q)

    -- behind a piece a run of `#` may begin only if the piece is a 14
    behind_piece : (p : Piece) → Front m p → hash (get_or l (at + p.size) 0) ≡ true →
        (after_break l (at + p.size) ≡ true) × ((at + p.size ≡ 0) ⊎ (exit p.name (at + p.size) ≡ exit 14 (at + p.size)))
    unfolding hash
    behind_piece p (blank e q) t =
        let n : p.size ≡ leading space_or_tab m = ap (λ (x : Piece). x.size) q in
        let some = run_some space_or_tab m h e in
        let last = in_run space_or_tab m (p.size - 1) (omega arith) in (
          blank_before (at + p.size) (at + p.size - 1) (omega arith) ∙ ap space_or_tab (sym (byte_at (at + p.size - 1) (p.size - 1) (omega arith))) ∙ last,
          inr (ap (λ (x : Piece). exit x.name (at + p.size)) q),
        )
    behind_piece p (hashed e q) t =
        let n : p.size ≡ leading hash m = ap (λ (x : Piece). x.size) q in
        absurd (clash t (ap hash (sym (byte_at (at + p.size) (leading hash m) (omega arith))) ∙ run_stops hash hash refl (λ b x. x) m))
    behind_piece p (word z e q) t =
        let n : p.size ≡ leading filled m = ap (λ (x : Piece). x.size) q in
        absurd (clash t (ap hash (sym (byte_at (at + p.size) (leading filled m) (omega arith))) ∙ run_stops filled hash refl unfilled_no_hash m))

    -- a 12 in front, where a break is before it
    run_here : (p : Piece) → Front m p → p.name ≡ 12 → (es : List Event) (k : ℕ) → nth es (suc (suc k)) ≡ exit p.name (at + p.size) →
        (hash (get_or l at 0) ≡ true → (after_break l at ≡ true) × ((at ≡ 0) ⊎ (nth es k ≡ exit 14 at))) → HashRun l es k at
    unfolding hash
    run_here p (blank e q) twelve es k left may =
        let n : p.name ≡ 14 = ap (λ (x : Piece). x.name) q in
        absurd (omega arith)
    run_here p (word z e q) twelve es k left may =
        let n : p.name ≡ 0 = ap (λ (x : Piece). x.name) q in
        absurd (omega arith)
    run_here p (hashed e q) twelve es k left may =
        let n : p.size ≡ leading hash m = ap (λ (x : Piece). x.size) q in
        let there = may (ap hash (sym (byte_at at 0 (omega arith))) ∙ e) in
        record {
          to = at + p.size;
          left = left ∙ ap (λ (x : ℕ). exit x (at + p.size)) twelve;
          some = omega (arith, run_some hash m h e);
          hashes = λ i lo hi. ap hash (sym (byte_at i (i - at) (omega arith))) ∙ in_run hash m (i - at) (omega arith);
          whole = ap hash (sym (byte_at (at + p.size) (leading hash m) (omega arith))) ∙ run_stops hash hash refl (λ b x. x) m;
          broken = there.0;
          behind = there.1;
        }

    -- no `#` that follows a break stands within a piece
    not_within : (p : Piece) → Front m p → (i : ℕ) → at < i → i < at + p.size → hash (get_or l i 0) ≡ true → after_break l i ≡ true → ⊥
    not_within p (blank e q) i lo hi t a =
        let n : p.size ≡ leading space_or_tab m = ap (λ (x : Piece). x.size) q in
        clash (ap space_or_tab (sym (byte_at i (i - at) (omega arith))) ∙ in_run space_or_tab m (i - at) (omega arith)) (hash_filled _ t)
    not_within p (hashed e q) i lo hi t a =
        let n : p.size ≡ leading hash m = ap (λ (x : Piece). x.size) q in
        clash (sym (blank_before i (i - 1) (omega arith)) ∙ a)
        (hash_filled _ (ap hash (sym (byte_at (i - 1) (i - 1 - at) (omega arith))) ∙ in_run hash m (i - 1 - at) (omega arith)))
    not_within p (word z e q) i lo hi t a =
        let n : p.size ≡ leading filled m = ap (λ (x : Piece). x.size) q in
        clash (ap filled (sym (byte_at (i - 1) (i - 1 - at) (omega arith))) ∙ in_run filled m (i - 1 - at) (omega arith))
        (blank_filled _ (sym (blank_before i (i - 1) (omega arith)) ∙ a))

    -- and a piece in front that begins with one is a 12
    hash_here : (p : Piece) → Front m p → hash (get_or l at 0) ≡ true → p.name ≡ 12
    hash_here p (blank e q) t = absurd (clash e (hash_filled _ (ap hash (byte_at at 0 (omega arith)) ∙ t)))
    hash_here p (hashed e q) t = ap (λ (x : Piece). x.name) q
    hash_here p (word z e q) t = absurd (clash (ap hash (byte_at at 0 (omega arith)) ∙ t) e)

    front_some : (p : Piece) → Front m p → 1 ≤ p.size
    front_some p (blank e q) = let n : p.size ≡ leading space_or_tab m = ap (λ (x : Piece). x.size) q in omega (arith, run_some space_or_tab m h e)
    front_some p (hashed e q) = let n : p.size ≡ leading hash m = ap (λ (x : Piece). x.size) q in omega (arith, run_some hash m h e)
    front_some p (word z e q) = let n : p.size ≡ leading filled m = ap (λ (x : Piece). x.size) q in omega (arith, run_some filled m h (filled_otherwise _ z))

  -- the events of what is left, behind the event `last`
  abbrev onward : ℕ → ℕ → List ℕ → Event → List Event
  onward n at m last = last ∷ (events_from at (pieces n m) ++ (exit 11 (length l) ∷ []))

  each_from : (n at : ℕ) (m : List ℕ) → drop at l ≡ m → (last : Event) →
      (hash (get_or l at 0) ≡ true → (after_break l at ≡ true) × ((at ≡ 0) ⊎ (last ≡ exit 14 at))) → (k from : ℕ) →
      nth (onward n at m last) (suc k) ≡ enter 12 from → HashRun l (onward n at m last) k from
  unfolding pieces events_from
  each_from zero at m here last may zero from e = absurd (no_enter _ _ _ e)
  each_from zero at m here last may (suc k) from e = absurd (nothing_there _ e)
  each_from (suc n) at [] here last may zero from e = absurd (no_enter _ _ _ e)
  each_from (suc n) at [] here last may (suc k) from e = absurd (nothing_there _ e)
  each_from (suc n) at (b ∷ m) here last may zero from e =
      let p : Piece = piece_of (b ∷ m) in
      let same : at ≡ from = ap (λ (x : Event). x.place) e in
      rw (← same) (run_here at (b ∷ m) here (omega arith) p (front (b ∷ m)) (ap (λ (x : Event). x.name) e) (onward (suc n) at (b ∷ m) last) 0 refl may)
  each_from (suc n) at (b ∷ m) here last may (suc zero) from e = absurd (no_enter _ _ _ e)
  each_from (suc n) at (b ∷ m) here last may (suc (suc k)) from e =
      let p : Piece = piece_of (b ∷ m) in
      let on : drop (at + p.size) l ≡ drop p.size (b ∷ m) = sym (drop-drop p.size at l) ∙ ap (drop p.size) here in
      let r = each_from n (at + p.size) (drop p.size (b ∷ m)) on (exit p.name (at + p.size))
      (behind_piece at (b ∷ m) here (omega arith) p (front (b ∷ m))) k from e
      in
      record { to = r.to; left = r.left; some = r.some; hashes = r.hashes; whole = r.whole; broken = r.broken; behind = r.behind }

  all_from : (n at : ℕ) (m : List ℕ) → drop at l ≡ m → length m ≤ n → (i : ℕ) → at ≤ i → hash (get_or l i 0) ≡ true → after_break l i ≡ true →
      Entered (events_from at (pieces n m) ++ (exit 11 (length l) ∷ [])) i
  unfolding pieces events_from hash
  all_from zero at m here few i lo t a =
      let d = length-drop at l in
      let k = ap length here in
      let z : get_or l i 0 ≡ 0 = get_or-eq_default l 0 (omega arith) in
      absurd (clash t (ap hash z))
  all_from (suc n) at [] here few i lo t a =
      let d = length-drop at l in
      let k = ap length here in
      let z : get_or l i 0 ≡ 0 = get_or-eq_default l 0 (omega arith) in
      absurd (clash t (ap hash z))
  all_from (suc n) at (b ∷ m) here few i lo t a =
      let p : Piece = piece_of (b ∷ m) in
      let on : drop (at + p.size) l ≡ drop p.size (b ∷ m) = sym (drop-drop p.size at l) ∙ ap (drop p.size) here in
      let some = front_some at (b ∷ m) here (omega arith) p (front (b ∷ m)) in
      ⊎_elim
      (λ same. record { number = 0; enters = ap (λ (x : ℕ). enter x at) (hash_here at (b ∷ m) here (omega arith) p (front (b ∷ m)) (rw same at t)) ∙ ap (enter 12) (sym same) })
      (λ more.
      ⊎_elim
      (λ within. absurd (not_within at (b ∷ m) here (omega arith) p (front (b ∷ m)) i more within t a))
      (λ past.
      let r = all_from n (at + p.size) (drop p.size (b ∷ m)) on (omega (arith, length-drop p.size (b ∷ m))) i past t a in
      record { number = suc (suc r.number); enters = r.enters })
      (before i (at + p.size)))
      (from at i lo)

pub hash_runs : (l : List ℕ) → HashRuns l
unfolding heading_events split after_break
hash_runs l =
    record {
      each = each_from l (length l) 0 l refl (enter 11 0) (λ t. (refl, inl refl));
      all = λ i t a.
          let r = all_from l (length l) 0 l refl (omega arith) i (omega arith) t a in
          record { number = suc r.number; enters = r.enters };
    }
