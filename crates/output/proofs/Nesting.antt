-- The output nests. Between matches a run is live if it is the closer in turn or a later one, or if it can still open. From what is open after
-- one live run's leftover to what is open before the next one's, the output does what the record does there: groups that begin between the two
-- end between them. A match of o and c puts its group round what lies between them, and they have one container, so that the record opens
-- and closes there nothing but its own; and it makes the runs between no longer live.
-- Assumes nothing.
use Prim.Native.Nat.{ℕ, zero, suc, ◌+◌, ◌-◌, ◌≤◌, ◌<◌}
use mathlib.Core.Path.{◌≡◌, refl, sym, ap, ◌∙◌}
use mathlib.Core.Bool.{Bool, true, false}
use mathlib.Core.List.{List, [], ◌∷◌, ◌++◌, append_assoc, append-nil}
use mathlib.Core.Logic.{◌⊎◌, inl, inr}
use native.Mathlib.Omega.{arith}
use lib.ListN.{length}
use Rattle.record.specs.Choice.{choose}
use Rattle.record.specs.declared.event.Event.{Event}
use Rattle.record.proofs.Bools.{clash}
use Rattle.runs.specs.Runs.{Run}
use Rattle.runs.specs.Rule.{Rule}
use Rattle.runs.specs.Plain.{Standing, Group, at, group, taken_by, matched}
use Rattle.runs.specs.Pieces.{Piece, group_name, closings, openings, closing_pieces, opening_pieces, remains}
use Rattle.runs.specs.Output.{closing_events, opening_events, leftover_events, run_events}
use Rattle.groups.specs.Matches.{Found, Matches, start, then}
use Rattle.groups.specs.Places.{run_at}
use Rattle.groups.proofs.Laws.{below, between_shut, open_was}
use Rattle.groups.proofs.Accounts.{matches_account}
use Rattle.output.proofs.Proper.{last_within, none_closed, matches_proper}
use Rattle.output.proofs.Walks.{Walks, stay, into, out, walks_append, walks_split, walks_over, walks_same}
use Rattle.output.proofs.Weave.{weave, bare, weave_for, weave_split}
use Rattle.output.proofs.Aligned.{stands_for}
use Rattle.output.proofs.Added.{Joins, closings_own, openings_own, closings_other, openings_other, run_still, closing_append}

-- what the run q closes, before its leftover
abbrev closes_at : List Run → List Group → ℕ → List Event
closes_at runs gs q = closing_events (closing_pieces gs q (run_at runs q))

-- what the run before gap i opens, after its leftover; before gap 0 there is none
abbrev opens_at : List Run → List Group → ℕ → List Event
opens_at runs gs zero = []
opens_at runs gs (suc q) = opening_events (opening_pieces gs q (run_at runs q))

-- one group more
abbrev add : List Group → ℕ → ℕ → ℕ → List Group
add gs o c k = gs ++ (group o c k ∷ [])

-- the output from gap i over m runs, from after the leftover before up to the leftover of the run b
abbrev stretch : (ℕ → List Event) → List Run → List Group → ℕ → ℕ → ℕ → List Event
stretch gaps runs gs i m b = opens_at runs gs i ++ (weave gaps (stands_for runs gs) i i m ++ closes_at runs gs b)

-- it does to what is open what the record does there
record Follows (gaps : ℕ → List Event) (runs : List Run) (gs : List Group) (i m b : ℕ) : Type 0 where
  walks : (h k : List ℕ) → Walks (weave gaps bare i i m) h k → Walks (stretch gaps runs gs i m b) h k

-- a live run, where the run c is in turn
data Live (rs : List Standing) (c q : ℕ) : Type 0 where
  turn : c ≤ q → Live rs c q
  still : (at rs q).opens ≡ true → Live rs c q

-- a gap after a live run, or the first
data After (rs : List Standing) (c : ℕ) : ℕ → Type 0 where
  begin : After rs c 0
  after : {q : ℕ} → Live rs c q → After rs c (suc q)

-- a leftover opens and closes only itself
leftover_stays : (gs : List Group) (q : ℕ) (r : Run) (h : List ℕ) → Walks (leftover_events gs q r) h h
unfolding leftover_events choose
leftover_stays gs q r h = go (remains gs q r) refl
  where
    go : (z : Bool) → remains gs q r ≡ z → Walks (leftover_events gs q r) h h
    go true e = rw e (into refl (out refl refl stay))
    go false e = rw e stay

-- with no group a run is its leftover
none_stays : (q : ℕ) (r : Run) (h : List ℕ) → Walks (run_events [] q r) h h
unfolding run_events closings openings closing_events opening_events
none_stays q r h = rw append-nil (leftover_stays [] q r h)

-- a group's two pieces round what opens and closes only itself
around : (p r : Piece) (ps : List Piece) (xs ys : List Event) (h : List ℕ) → r.name ≡ p.name →
    Walks (opening_events ps ++ (xs ++ ys)) ((p.name + 2) ∷ p.name ∷ h) ((p.name + 2) ∷ p.name ∷ h) →
    Walks (opening_events (p ∷ ps) ++ (xs ++ (ys ++ closing_events (r ∷ [])))) h h
unfolding opening_events closing_events
around p r ps xs ys h e w =
    into refl (into refl (out refl refl (into refl (simp append_assoc at (walks_append w last)))))
  where
    last : Walks (closing_events (r ∷ [])) ((p.name + 2) ∷ p.name ∷ h) h
    last = out refl (ap (λ (n : ℕ). n + 2) (sym e)) (into refl (out refl refl (out refl (sym e) stay)))

module _ (gaps : ℕ → List Event) (runs : List Run) where
  none_follows : (m i q : ℕ) (h k : List ℕ) → Walks (weave gaps bare i q m) h k → Walks (weave gaps (stands_for runs []) i q m) h k
  unfolding weave
  none_follows zero i q h k w = w
  none_follows (suc m) i q h k w =
      let s = walks_split (gaps i) w in
      walks_append s.1
      (walks_append (none_stays q (run_at runs q) s.0) (none_follows m (suc i) (suc q) s.0 k s.2))

  at_start : (i m b : ℕ) → Follows gaps runs [] i m b
  unfolding closings openings closing_events opening_events
  at_start zero m b = record { walks = λ h k w. rw append-nil (none_follows m 0 0 h k w) }
  at_start (suc i) m b = record { walks = λ h k w. rw append-nil (none_follows m (suc i) (suc i) h k w) }

  module _ (gs : List Group) where
    -- two stretches with the leftover of the run p between them
    joined : (i m p s b w : ℕ) → i + m ≡ p → w ≡ m + suc s → Follows gaps runs gs i m p → Follows gaps runs gs (suc p) s b → Follows gaps runs gs i w b
    unfolding run_events
    joined i m p s b w e f u v =
        record {
          walks = λ h k y.
              let t = walks_split (weave gaps bare i i m) (rw (weave_split gaps bare m s w i i p f (sym e) p (sym e)) at y) in
              rw (weave_split gaps (stands_for runs gs) m s w i i p f (sym e) p (sym e))
              (simp append_assoc
              (simp append_assoc at
              (walks_append (u.walks h t.0 t.1) (walks_append (leftover_stays gs p (run_at runs p) t.0) (v.walks t.0 k t.2)))));
        }

  module _ (gs : List Group) (o c k : ℕ) (order : o < c) where
    -- away from the new group's two runs a stretch stays as it is
    opens_still : (i : ℕ) → (i ≡ suc o → ⊥) → opens_at runs (add gs o c k) i ≡ opens_at runs gs i
    opens_still zero e = refl
    opens_still (suc q) e =
        ap opening_events (openings_other (group o c k) q (run_at runs q).marker (λ z. e (omega arith)) gs ((run_at runs q).start + (run_at runs q).size))

    closes_still : (b : ℕ) → (b ≡ c → ⊥) → closes_at runs (add gs o c k) b ≡ closes_at runs gs b
    closes_still b e = ap closing_events (closings_other (group o c k) b (run_at runs b).marker (λ z. e (sym z)) gs (run_at runs b).start)

    inner_still : (i m : ℕ) → ((j : ℕ) → i ≤ j → j < i + m → (o ≡ j → ⊥) × (c ≡ j → ⊥)) →
        weave gaps (stands_for runs (add gs o c k)) i i m ≡ weave gaps (stands_for runs gs) i i m
    inner_still i m e =
        weave_for gaps (stands_for runs (add gs o c k)) (stands_for runs gs) m i i
        (λ j a b. run_still (group o c k) gs j (run_at runs j) (e j a b).0 (e j a b).1)

    kept : (i m b : ℕ) → (i ≡ suc o → ⊥) → ((j : ℕ) → i ≤ j → j < i + m → (o ≡ j → ⊥) × (c ≡ j → ⊥)) → (b ≡ c → ⊥) →
        Follows gaps runs gs i m b → Follows gaps runs (add gs o c k) i m b
    kept i m b x y z f = record { walks = λ h u w. rw (opens_still i x, inner_still i m y, closes_still b z) (f.walks h u w) }

    kept_before : (i m b : ℕ) → i + m ≡ b → b ≤ o → Follows gaps runs gs i m b → Follows gaps runs (add gs o c k) i m b
    kept_before i m b e l = kept i m b (λ z. omega arith) (λ j x y. (λ z. omega arith, λ z. omega arith)) (λ z. omega arith)

    kept_after : (i m b : ℕ) → i + m ≡ b → c < i → Follows gaps runs gs i m b → Follows gaps runs (add gs o c k) i m b
    kept_after i m b e l = kept i m b (λ z. omega arith) (λ j x y. (λ z. omega arith, λ z. omega arith)) (λ z. omega arith)

    -- the new group goes round what lies between its two runs
    wrapped : (m : ℕ) → suc o + m ≡ c → (run_at runs o).marker ≡ (run_at runs c).marker → Walks (weave gaps bare (suc o) (suc o) m) [] [] →
        Follows gaps runs gs (suc o) m c → Follows gaps runs (add gs o c k) (suc o) m c
    wrapped m e same own f = record { walks = go }
      where
        opening : Joins (group_name (run_at runs o).marker k) (λ p. p ∷ opening_pieces gs o (run_at runs o)) (opening_pieces (add gs o c k) o (run_at runs o))
        opening = openings_own (group o c k) o (run_at runs o).marker refl gs ((run_at runs o).start + (run_at runs o).size)

        closing : Joins (group_name (run_at runs c).marker k) (λ p. closing_pieces gs c (run_at runs c) ++ (p ∷ [])) (closing_pieces (add gs o c k) c (run_at runs c))
        closing = closings_own (group o c k) c (run_at runs c).marker refl gs (run_at runs c).start

        named : closing.new.name ≡ opening.new.name
        named = closing.named ∙ (ap (λ (n : ℕ). group_name n k) (sym same) ∙ sym opening.named)

        inside : (h : List ℕ) → Walks (weave gaps bare (suc o) (suc o) m) h h
        inside h = walks_over h own

        go : (h u : List ℕ) → Walks (weave gaps bare (suc o) (suc o) m) h u → Walks (stretch gaps runs (add gs o c k) (suc o) m c) h u
        go h u w =
            let v : h ≡ u = walks_same (inside h) w in
            let n = opening.new.name in
            rw (
              ← v,
              opening.beside,
              closing.beside,
              closing_append (closing_pieces gs c (run_at runs c)) (closing.new ∷ []),
              inner_still (suc o) m (λ j x y. (λ z. omega arith, λ z. omega arith)),
            )
            (around opening.new closing.new (opening_pieces gs o (run_at runs o)) (weave gaps (stands_for runs gs) (suc o) (suc o) m)
            (closes_at runs gs c) h named (f.walks ((n + 2) ∷ n ∷ h) ((n + 2) ∷ n ∷ h) (inside ((n + 2) ∷ n ∷ h))))

-- what was live before a match of o and c and is live after it
live_was : {rule : Rule} {rs : List Standing} {from o c q : ℕ} → Found rule rs from o c → Live (matched rs o c) c q → ((q ≤ o) × Live rs from q) ⊎ (c ≤ q)
live_was f (turn h) = inr h
live_was {rule} {rs} {from} {o} {c} {q} f (still e) = go (below q c) (below o q)
  where
    go : (q < c) ⊎ (c ≤ q) → (o < q) ⊎ (q ≤ o) → ((q ≤ o) × Live rs from q) ⊎ (c ≤ q)
    go (inr h) y = inr h
    go (inl h) (inl y) = absurd (clash e (between_shut rs o c q y h (omega (arith, f.within))))
    go (inl h) (inr y) = inl (y, still (open_was rs o c q e))

after_was : {rule : Rule} {rs : List Standing} {from o c i : ℕ} → Found rule rs from o c → After (matched rs o c) c i →
    After rs from i × ((i ≤ suc o) ⊎ (c < i))
after_was f begin = (begin, inl (omega arith))
after_was {rule} {rs} {from} {o} {c} f (after {q} l) = go (live_was f l)
  where
    go : ((q ≤ o) × Live rs from q) ⊎ (c ≤ q) → After rs from (suc q) × ((suc q ≤ suc o) ⊎ (c < suc q))
    go (inl x) = (after x.1, inl (omega (arith, x.0)))
    go (inr h) = let t : from ≤ q = omega (arith, f.onward) in (after (turn t), inr (omega arith))

-- between any two live runs, and before the first gap, the output does what the record does
abbrev Spans : (ℕ → List Event) → List Run → List Standing → ℕ → List Group → ℕ → Type 0
Spans gaps runs rs c gs n = (i m b : ℕ) → i + m ≡ b → b ≤ n → After rs c i → Live rs c b → Follows gaps runs gs i m b

module _ (gaps : ℕ → List Event) (runs : List Run) (n : ℕ) where
  module _ {rule : Rule} {rs : List Standing} {from : ℕ} (gs : List Group) (o c : ℕ) (f : Found rule rs from o c) (within : c < n)
      (same : (run_at runs o).marker ≡ (run_at runs c).marker) (own : Walks (weave gaps bare (suc o) (suc o) (c - suc o)) [] [])
      (old : Spans gaps runs rs from gs n) where
    -- the groups with the new one
    abbrev now : List Group
    now = add gs o c (taken_by rs o c)

    order : o < c
    order = f.earlier

    here : Live rs from c
    here = turn f.onward

    -- from the opener to the closer
    middle : Follows gaps runs now (suc o) (c - suc o) c
    middle =
        let l = f.earlier in
        wrapped gaps runs gs o c (taken_by rs o c) order (c - suc o) (omega arith) same own
        (old (suc o) (c - suc o) c (omega arith) (omega arith) (after (still f.opens)) here)

    -- and on to a later run
    onward : (b w : ℕ) → c ≤ b → b ≤ n → suc o + w ≡ b → Follows gaps runs now (suc o) w b
    onward b w h l e = go (below c b)
      where
        go : (c < b) ⊎ (b ≤ c) → Follows gaps runs now (suc o) w b
        go (inl x) =
            let y = f.earlier in
            let z : from ≤ b = omega (arith, f.onward) in
            joined gaps runs now (suc o) (c - suc o) c (b - suc c) b w (omega arith) (omega arith) middle
            (kept_after gaps runs gs o c (taken_by rs o c) order (suc c) (b - suc c) b (omega arith) (omega arith)
            (old (suc c) (b - suc c) b (omega arith) l (after here) (turn z)))
        go (inr x) =
            let y : b ≡ c = omega arith in
            let z : w ≡ c - suc o = omega arith in
            rw (y, z) middle

    -- and from an earlier one
    across : (i m b : ℕ) → i ≤ suc o → c ≤ b → b ≤ n → i + m ≡ b → After rs from i → Follows gaps runs now i m b
    across i m b x h l e a = go (below i (suc o))
      where
        go : (i < suc o) ⊎ (suc o ≤ i) → Follows gaps runs now i m b
        go (inl y) =
            let z = f.earlier in
            joined gaps runs now i (o - i) o (b - suc o) b m (omega arith) (omega arith)
            (kept_before gaps runs gs o c (taken_by rs o c) order i (o - i) o (omega arith) (omega arith)
            (old i (o - i) o (omega arith) (omega arith) a (still f.opens)))
            (onward b (b - suc o) h l (omega arith))
        go (inr y) =
            let z : i ≡ suc o = omega arith in
            rw z (onward b m h l (omega arith))

    one_more : Spans gaps runs (matched rs o c) c now n
    one_more i m b e l a v = go (after_was f a).1 (live_was f v)
      where
        a' : After rs from i
        a' = (after_was f a).0

        go : (i ≤ suc o) ⊎ (c < i) → ((b ≤ o) × Live rs from b) ⊎ (c ≤ b) → Follows gaps runs now i m b
        go x (inl (h, w)) =
            kept_before gaps runs gs o c (taken_by rs o c) order i m b e h (old i m b e l a' w)
        go (inl x) (inr h) = across i m b x h l e a'
        go (inr x) (inr h) =
            let z = f.earlier in
            let t : from ≤ b = omega (arith, f.onward) in
            kept_after gaps runs gs o c (taken_by rs o c) order i m b e x (old i m b e l a' (turn t))

  module _ (rule : Rule) (rs₀ : List Standing) (many : length rs₀ ≡ n) (markers : (q : ℕ) → q < n → (at rs₀ q).marker ≡ (run_at runs q).marker)
      (balanced : (o m p : ℕ) → suc o + m ≡ p → p < n → (at rs₀ o).container ≡ (at rs₀ p).container → Walks (weave gaps bare (suc o) (suc o) m) [] []) where
    spans : {gs : List Group} {rs : List Standing} {c : ℕ} → Matches rule rs₀ gs rs c → Spans gaps runs rs c gs n
    spans start = λ i m b e l a v. at_start gaps runs i m b
    spans (then {gs} {rs} {from} o c w f) =
        let a = matches_account w in
        let l : c < n = omega (arith, f.within, a.as_many) in
        let x = f.earlier in
        let same : (run_at runs o).marker ≡ (run_at runs c).marker =
        sym (markers o (omega arith)) ∙ (sym (a.marker o) ∙ (f.same_marker ∙ (a.marker c ∙ markers c l))) in
        let one : (at rs₀ o).container ≡ (at rs₀ c).container = sym (a.container o) ∙ (f.same_container_lem ∙ a.container c) in
        one_more gs o c f l same (balanced o (c - suc o) c (omega arith) l one) (spans w)

    -- so the whole output leads from nothing to nothing, as the record does
    pub nests : {gs : List Group} {rs : List Standing} {c : ℕ} → Matches rule rs₀ gs rs c → Walks (weave gaps bare 0 0 n) [] [] →
        Walks (weave gaps (stands_for runs gs) 0 0 n) [] []
    unfolding closing_events
    nests {gs} {rs} {c} w own =
        let l : c ≤ n = omega (arith, last_within w) in
        let x = (spans w 0 n n (omega arith) (omega arith) begin (turn l)).walks [] [] own in
        let y : closing_pieces gs n (run_at runs n) ≡ [] = none_closed n (run_at runs n).marker (run_at runs n).start (rw many at (matches_proper w)) in
        rw (y, append-nil) at x
