-- The table's "given exactly when": the check refuses with n at p just where (n, p) is the least row that holds, and is good where none does.
-- Proved by going through the check's own tests, each of which says that a row holds or that it holds nowhere.
-- Assumes nothing.
use Rattle.std.specs.Prelude.{Some, None, Option}
use mathlib.Core.Path.{◌≡◌, refl, sym, ap, ◌∙◌}
use mathlib.Core.Bool.{Bool, true, false}
use mathlib.Core.Logic.{◌⊎◌, inl, inr, ⊎_elim}
use mathlib.Core.List.{List, []}
use Prim.Native.Nat.{ℕ, zero, suc, ◌+◌, ◌*◌, ◌≤◌, ◌<◌}
use native.Mathlib.Nat.{mul-le-mul_left}
use native.Mathlib.Omega.{arith}
use lib.ListN.{length, get_or}
use lib.Dec.{leb, ltb, eqb}
use borrow.Author.Tests.{leb-true, leb-false, ltb-true, ltb-false, eqb-true, eqb-false}
use Rattle.record.specs.Choice.{choose, and}
use Rattle.record.specs.Bytes.{u32_at}
use Rattle.record.specs.Form.{place_in, mate_in}
use Rattle.record.specs.Handed.{form_of}
use Rattle.record.specs.declared.form.Form.{Form}
use Rattle.record.specs.Event.{all_stored_at}
use Rattle.record.specs.Stack.{none}
use Rattle.record.specs.Check.{refuse, count_at, fitting, first_return, judge, inside_of, end_of, event_count_of, checked_in, fronted, admitted, Reading, accept}
use Rattle.record.specs.Order.{rank, Least}
use Rattle.record.specs.Rows.{document_count_in, event_count_in, Section, the_document, the_events, Misfits, no_room, over, past, follow, Returns, open_names, open_numbers, place_before, Broken, Unsound, an_event, left_open, Inner, in_3, in_4, in_5, OptionsRow, row_2, FirstSectionRow, other_count, over_options, no_count, runs_past, FrontRow, Row, row_1, front, inner, Exactly}
use Rattle.record.specs.declared.form.Handed.{Handed}
use Rattle.record.specs.declared.form.Handed.TheVariants.{Old, Second}
use Rattle.record.specs.declared.check.Refusal.{Refusal}
use Rattle.record.proofs.Good.{same_counts}
use Rattle.record.proofs.Bools.{and_split, clash}
use Rattle.record.proofs.Counts.{Fitted, fitted}
use Rattle.record.proofs.Order.{lower_first, least_only}
use Rattle.record.proofs.Verdict.{Verdict, all_good, one_bad, some_left, verdict}

-- what a check comes to, of the rows R
pub data Found (fm : Form) (R : ℕ → ℕ → Type 0) (s : List ℕ) (r : Reading) : Type 0 where
  least_row : (n p : ℕ) → r ≡ refuse n p → Least R n p → Found fm R s r
  no_row : r ≡ accept (document_count_in fm s) (event_count_in fm s) → ((n p : ℕ) → R n p → ⊥) → Found fm R s r

misfit_test : (b : Bool) (m : ℕ) → choose b (Some m) None ≡ None → b ≡ false
unfolding choose
misfit_test true m q = let z : ◌≡◌ {A = ℕ} 0 1 = cc in absurd (omega arith)
misfit_test false m q = refl

-- a count that is a misfit is one by row 3
misfits : (fm : Form) (s : List ℕ) (at limit width : ℕ) → Section fm s at limit width → count_at s at limit width ≡ None → Misfits fm s at
unfolding count_at and
misfits fm s at limit width sec q = go (leb (at + 4) (length s)) refl (misfit_test _ _ q)
  where
    go : (z : Bool) → leb (at + 4) (length s) ≡ z → and z (and (leb (u32_at s at) limit) (leb (at + 4 + width * u32_at s at) (length s))) ≡ false → Misfits fm s at
    go true e t =
        let room : at + 4 ≤ length s = leb-true _ _ e in
        ⊎_elim (λ x. over sec room (leb-false _ _ x)) (λ x. past sec room (leb-false _ _ x)) (and_split _ _ t)
    go false e t = no_room sec (leb-false _ _ e)

-- row 3 at a section's count, whichever section it is
data Ill (s : List ℕ) (at limit width : ℕ) : Type 0 where
  ill_room : length s < at + 4 → Ill s at limit width
  ill_over : limit < u32_at s at → Ill s at limit width
  ill_past : length s < at + 4 + width * u32_at s at → Ill s at limit width

fitted_well : (s : List ℕ) (at limit width n : ℕ) → Fitted s at limit width n → Ill s at limit width → ⊥
fitted_well s at limit width n f (ill_room h) = omega (arith, f.room)
fitted_well s at limit width n f (ill_over h) = omega (arith, f.within, f.count)
fitted_well s at limit width n f (ill_past h) =
    let e : width * u32_at s at ≡ width * n = ap (λ (m : ℕ). width * m) f.count in
    omega (arith, f.whole)

-- row 3 is at the document's count, at the events' count, or after both sections
data Where (fm : Form) (s : List ℕ) (p : ℕ) : Type 0 where
  at_document : p ≡ fm.front → Ill s fm.front 16384 1 → Where fm s p
  at_events : p ≡ 4 + fm.front + document_count_in fm s → Ill s (4 + fm.front + document_count_in fm s) 2048 fm.width → Where fm s p
  at_end : p ≡ place_in fm (document_count_in fm s) (event_count_in fm s) → p < length s → Where fm s p

where_is : (fm : Form) (s : List ℕ) (p : ℕ) → Misfits fm s p → Where fm s p
where_is fm s p (no_room (the_document a b c) h) = at_document a (ill_room (rw a at h))
where_is fm s p (no_room (the_events w a b c) h) = at_events a (ill_room (rw a at h))
where_is fm s p (over (the_document a b c) r h) = at_document a (ill_over (rw (a, b) at h))
where_is fm s p (over (the_events w a b c) r h) = at_events a (ill_over (rw (a, b) at h))
where_is fm s p (past (the_document a b c) r h) = at_document a (ill_past (rw (a, c) at h))
where_is fm s p (past (the_events w a b c) r h) = at_events a (ill_past (rw (a, c) at h))
where_is fm s p (follow a h) = at_end a h

-- a lower bound that is not reached
strict : (a b : ℕ) → a ≤ b → (a ≡ b → ⊥) → a + 1 ≤ b
strict a b h ne = go (leb (a + 1) b) refl
  where
    go : (z : Bool) → leb (a + 1) b ≡ z → a + 1 ≤ b
    go true e = leb-true _ _ e
    go false e =
        let f : b < a + 1 = leb-false _ _ e in
        absurd (ne (omega arith))

-- the first carriage return: at or after the place, there, and before any other
pub first_low : (n : ℕ) (s : List ℕ) (at : ℕ) → at ≤ first_return n s at
unfolding first_return choose
first_low zero s at = omega arith
first_low (suc n) s at = go (eqb (get_or s at 0) 13) (first_low n s (at + 1))
  where
    go : (z : Bool) → at + 1 ≤ first_return n s (at + 1) → at ≤ choose z at (first_return n s (at + 1))
    go true h = omega arith
    go false h = omega arith

pub first_there : (n : ℕ) (s : List ℕ) (at : ℕ) → first_return n s at < at + n → get_or s (first_return n s at) 0 ≡ 13
unfolding first_return choose
first_there zero s at h = absurd (omega arith)
first_there (suc n) s at h = go (eqb (get_or s at 0) 13) refl (first_there n s (at + 1)) h
  where
    go : (z : Bool) → eqb (get_or s at 0) 13 ≡ z → (first_return n s (at + 1) < at + 1 + n → get_or s (first_return n s (at + 1)) 0 ≡ 13) →
        choose z at (first_return n s (at + 1)) < at + suc n → get_or s (choose z at (first_return n s (at + 1))) 0 ≡ 13
    go true e f h = eqb-true _ _ e
    go false e f h = f (omega arith)

pub first_least : (n : ℕ) (s : List ℕ) (at q : ℕ) → at ≤ q → get_or s q 0 ≡ 13 → first_return n s at ≤ q ⊎ (at + n ≤ q)
unfolding first_return choose
first_least zero s at q h e = inr (omega arith)
first_least (suc n) s at q h e = go (eqb (get_or s at 0) 13) refl (first_least n s (at + 1) q)
  where
    later : (z : Bool) → eqb at q ≡ z → eqb (get_or s at 0) 13 ≡ false → at + 1 ≤ q
    later true x y = absurd (eqb-false _ _ y (ap (λ (m : ℕ). get_or s m 0) (eqb-true at q x) ∙ e))
    later false x y =
        let ne : at ≡ q → ⊥ = eqb-false at q x in
        strict at q h ne

    go : (z : Bool) → eqb (get_or s at 0) 13 ≡ z → (at + 1 ≤ q → get_or s q 0 ≡ 13 → first_return n s (at + 1) ≤ q ⊎ (at + 1 + n ≤ q)) →
        choose z at (first_return n s (at + 1)) ≤ q ⊎ (at + suc n ≤ q)
    go true x f = inl h
    go false x f = ⊎_elim (λ y. inl y) (λ y. inr (omega arith)) (f (later (eqb at q) refl x) e)

-- where the record ends with its events and event i is the first that is broken, row 5 is nowhere before it
first_broken : (fm : Form) (s : List ℕ) (i : ℕ) → length s ≡ place_in fm (document_count_in fm s) (event_count_in fm s) → i < 0 + event_count_in fm s →
    ((j : ℕ) → 0 ≤ j → j < i → Broken fm s (document_count_in fm s) j → ⊥) → (q : ℕ) → Unsound fm s q → place_in fm (document_count_in fm s) i ≤ q
first_broken fm s i ends l f q (an_event k h b e) = go (leb i k) refl
  where
    go : (z : Bool) → leb i k ≡ z → place_in fm (document_count_in fm s) i ≤ q
    go true x =
        let y : fm.width * i ≤ fm.width * k = mul-le-mul_left fm.width (leb-true _ _ x) in
        omega arith
    go false x =
        let y : k < i = leb-false _ _ x in
        absurd (f k (omega arith) y b)
first_broken fm s i ends l f q (left_open o e) =
    let y : fm.width * i ≤ fm.width * event_count_in fm s = mul-le-mul_left fm.width (omega arith) in
    omega arith

-- where none is broken, it is at the record's end only
none_broken : (fm : Form) (s : List ℕ) → ((j : ℕ) → 0 ≤ j → j < 0 + event_count_in fm s → Broken fm s (document_count_in fm s) j → ⊥) → (q : ℕ) → Unsound fm s q →
    (q ≡ length s) × (none (open_names fm s (document_count_in fm s) (event_count_in fm s)) ≡ false)
none_broken fm s f q (an_event k h b e) = absurd (f k (omega arith) (omega arith) b)
none_broken fm s f q (left_open o e) = (e, o)

module _ (fm : Form) (s : List ℕ) where
  at_3 : (p : ℕ) → Misfits fm s p → ((q : ℕ) → Misfits fm s q → p ≤ q) → Least (Inner fm s) 3 p
  at_3 p h f = record { holds = in_3 h refl; least = go }
    where
      go : (m q : ℕ) → Inner fm s m q → (rank 3 < rank m) ⊎ ((3 ≡ m) × (p ≤ q))
      go m q (in_3 w a) = inr (sym a, f q w)
      go m q (in_4 w a) = inl (lower_first _ _ (omega arith) (omega arith) (omega arith))
      go m q (in_5 w a) = inl (lower_first _ _ (omega arith) (omega arith) (omega arith))

  module _ (no_3 : (q : ℕ) → Misfits fm s q → ⊥) where
    at_4 : (p : ℕ) → Returns fm s p → ((q : ℕ) → Returns fm s q → p ≤ q) → Least (Inner fm s) 4 p
    at_4 p h f = record { holds = in_4 h refl; least = go }
      where
        go : (m q : ℕ) → Inner fm s m q → (rank 4 < rank m) ⊎ ((4 ≡ m) × (p ≤ q))
        go m q (in_3 w a) = absurd (no_3 q w)
        go m q (in_4 w a) = inr (sym a, f q w)
        go m q (in_5 w a) = inl (lower_first _ _ (omega arith) (omega arith) (omega arith))

    module _ (no_4 : (q : ℕ) → Returns fm s q → ⊥) where
      at_5 : (p : ℕ) → Unsound fm s p → ((q : ℕ) → Unsound fm s q → p ≤ q) → Least (Inner fm s) 5 p
      at_5 p h f = record { holds = in_5 h refl; least = go }
        where
          go : (m q : ℕ) → Inner fm s m q → (rank 5 < rank m) ⊎ ((5 ≡ m) × (p ≤ q))
          go m q (in_3 w a) = absurd (no_3 q w)
          go m q (in_4 w a) = absurd (no_4 q w)
          go m q (in_5 w a) = inr (sym a, f q w)

      no_rows : ((q : ℕ) → Unsound fm s q → ⊥) → (m q : ℕ) → Inner fm s m q → ⊥
      no_rows no-5 m q (in_3 w a) = no_3 q w
      no_rows no-5 m q (in_4 w a) = no_4 q w
      no_rows no-5 m q (in_5 w a) = no-5 q w

      -- row 5, where the record ends with its events
      module _ (ends : length s ≡ place_in fm (document_count_in fm s) (event_count_in fm s)) where
        by_verdict : {r : Reading} → Verdict fm s (document_count_in fm s) 0 (event_count_in fm s) (accept (document_count_in fm s) (event_count_in fm s)) r → Found fm (Inner fm s) s r
        by_verdict (all_good q f o) =
            let all : 0 + event_count_in fm s ≡ event_count_in fm s = omega arith in
            no_row q (no_rows (λ p u. clash (rw all at o) (none_broken fm s f p u).1))
        by_verdict (one_bad i q h l b f) =
            least_row 5 (place_in fm (document_count_in fm s) i) q (at_5 _ (an_event i (omega arith) b refl) (first_broken fm s i ends l f))
        by_verdict (some_left q f o) =
            let all : 0 + event_count_in fm s ≡ event_count_in fm s = omega arith in
            least_row 5 (length s) (rw (all, ← ends) at q)
            (at_5 _ (left_open (rw all at o) refl) (λ p u. let e = (none_broken fm s f p u).0 in omega arith))

        found_events : Found fm (Inner fm s) s
            (judge fm.width (mate_in fm s (document_count_in fm s)) (all_stored_at fm.width (event_count_in fm s) s (8 + fm.front + document_count_in fm s)) (document_count_in fm s) 0 (8 + fm.front + document_count_in fm s) 0 [] [] (accept (document_count_in fm s) (event_count_in fm s)))
        unfolding open_names open_numbers place_before
        found_events =
            let start : place_in fm (document_count_in fm s) 0 ≡ 8 + fm.front + document_count_in fm s = omega arith in
            by_verdict (rw start at (verdict fm (event_count_in fm s) s (document_count_in fm s) 0 (accept (document_count_in fm s) (event_count_in fm s))))

  -- row 4 and then row 5, where both counts fit and nothing follows
  module _ (fd : Fitted s fm.front 16384 1 (document_count_in fm s)) (fe : Fitted s (4 + fm.front + document_count_in fm s) 2048 fm.width (event_count_in fm s)) where
    place_of_misfit : (q : ℕ) → Misfits fm s q → (q ≡ place_in fm (document_count_in fm s) (event_count_in fm s)) × (q < length s)
    place_of_misfit q m = go (where_is fm s q m)
      where
        go : Where fm s q → (q ≡ place_in fm (document_count_in fm s) (event_count_in fm s)) × (q < length s)
        go (at_document e i) = absurd (fitted_well _ _ _ _ _ fd i)
        go (at_events e i) = absurd (fitted_well _ _ _ _ _ fe i)
        go (at_end e h) = (e, h)

    module _ (ends : length s ≡ place_in fm (document_count_in fm s) (event_count_in fm s)) where
      no_misfit : (q : ℕ) → Misfits fm s q → ⊥
      no_misfit q m = let w = place_of_misfit q m in omega arith

      returned : (q : ℕ) → Returns fm s q → first_return (document_count_in fm s) s (4 + fm.front) ≤ q
      returned q r = ⊎_elim (λ h. h) (λ h. absurd (omega (arith, r.to))) (first_least (document_count_in fm s) s (4 + fm.front) q r.from r.there)

      none_there : 4 + fm.front + document_count_in fm s ≤ first_return (document_count_in fm s) s (4 + fm.front) → (q : ℕ) → Returns fm s q → ⊥
      none_there h q r = let l = returned q r in omega (arith, r.to)

      found_inside : Found fm (Inner fm s) s (inside_of fm s (document_count_in fm s) (event_count_in fm s))
      unfolding inside_of choose
      found_inside = go (ltb (first_return (document_count_in fm s) s (4 + fm.front)) (4 + fm.front + document_count_in fm s)) refl
        where
          go : (z : Bool) → ltb (first_return (document_count_in fm s) s (4 + fm.front)) (4 + fm.front + document_count_in fm s) ≡ z →
              Found fm (Inner fm s) s (choose z (refuse 4 (first_return (document_count_in fm s) s (4 + fm.front)))
              (judge fm.width (mate_in fm s (document_count_in fm s)) (all_stored_at fm.width (event_count_in fm s) s (8 + fm.front + document_count_in fm s)) (document_count_in fm s) 0 (8 + fm.front + document_count_in fm s) 0 [] [] (accept (document_count_in fm s) (event_count_in fm s))))
          go true e =
              let h : first_return (document_count_in fm s) s (4 + fm.front) < 4 + fm.front + document_count_in fm s = ltb-true _ _ e in
              least_row 4 (first_return (document_count_in fm s) s (4 + fm.front)) refl
              (at_4 no_misfit _ record { from = first_low (document_count_in fm s) s (4 + fm.front); to = h; there = first_there (document_count_in fm s) s (4 + fm.front) h } returned)
          go false e = found_events no_misfit (none_there (ltb-false _ _ e)) ends

    -- "bytes follow the last section"
    found_end : Found fm (Inner fm s) s (end_of fm s (document_count_in fm s) (event_count_in fm s))
    unfolding end_of choose
    found_end = go (eqb (length s) (place_in fm (document_count_in fm s) (event_count_in fm s))) refl
      where
        go : (z : Bool) → eqb (length s) (place_in fm (document_count_in fm s) (event_count_in fm s)) ≡ z →
            Found fm (Inner fm s) s (choose z (inside_of fm s (document_count_in fm s) (event_count_in fm s)) (refuse 3 (place_in fm (document_count_in fm s) (event_count_in fm s))))
        go true e = found_inside (eqb-true _ _ e)
        go false e =
            let ne : length s ≡ place_in fm (document_count_in fm s) (event_count_in fm s) → ⊥ = eqb-false _ _ e in
            let le : place_in fm (document_count_in fm s) (event_count_in fm s) + 1 ≤ length s = strict _ _ (omega (arith, fe.whole)) (λ x. ne (sym x)) in
            least_row 3 _ refl (at_3 _ (follow refl (omega arith)) (λ q m. let w = place_of_misfit q m in omega arith))

  -- the events' count
  found_second : Fitted s fm.front 16384 1 (document_count_in fm s) → Found fm (Inner fm s) s (event_count_of fm s (document_count_in fm s))
  unfolding event_count_of
  found_second fd = go (count_at s (4 + fm.front + document_count_in fm s) 2048 fm.width) refl
    where
      there : 4 + fm.front + document_count_in fm s ≤ length s
      there = omega (arith, fd.whole)

      before : (q : ℕ) → Where fm s q → 4 + fm.front + document_count_in fm s ≤ q
      before q (at_document e i) = absurd (fitted_well _ _ _ _ _ fd i)
      before q (at_events e i) = omega arith
      before q (at_end e h) = omega arith

      go : (c : Option ℕ) → count_at s (4 + fm.front + document_count_in fm s) 2048 fm.width ≡ c →
          Found fm (Inner fm s) s (fitting c (refuse 3 (4 + fm.front + document_count_in fm s)) (λ e. end_of fm s (document_count_in fm s) e))
      go (Some e) x =
          let f = fitted _ _ _ _ _ x in
          let y : e ≡ event_count_in fm s = sym f.count in
          rw y (found_end fd (rw y at f))
      go None x =
          least_row 3 _ refl (at_3 _ (misfits fm s (4 + fm.front + document_count_in fm s) 2048 fm.width (the_events there refl refl refl) x) (λ q m. before q (where_is fm s q m)))

  -- the document's count
  pub found_first : Found fm (Inner fm s) s (checked_in fm s)
  unfolding checked_in
  found_first = go (count_at s fm.front 16384 1) refl
    where
      before : (q : ℕ) → Where fm s q → fm.front ≤ q
      before q (at_document e i) = omega arith
      before q (at_events e i) = omega arith
      before q (at_end e h) = omega arith

      go : (c : Option ℕ) → count_at s fm.front 16384 1 ≡ c → Found fm (Inner fm s) s (fitting c (refuse 3 fm.front) (λ d. event_count_of fm s d))
      go (Some d) x =
          let f = fitted _ _ _ _ _ x in
          let y : d ≡ document_count_in fm s = sym f.count in
          rw y (found_second (rw y at f))
      go None x = least_row 3 _ refl (at_3 _ (misfits fm s fm.front 16384 1 (the_document refl refl refl) x) (λ q m. before q (where_is fm s q m)))

-- the rows that follow the front have numbers from 3 to 5, those of the front 2 and 3
inner_low : {fm : Form} {s : List ℕ} {n p : ℕ} → Inner fm s n p → (3 ≤ n) × (n ≤ 5)
inner_low (in_3 w a) = (omega arith, omega arith)
inner_low (in_4 w a) = (omega arith, omega arith)
inner_low (in_5 w a) = (omega arith, omega arith)

pub front_low : (h : Handed) (s : List ℕ) (n p : ℕ) → FrontRow h s n p → (2 ≤ n) × (n ≤ 3)
front_low (Old options) s n p (row_2 w a b) = (omega arith, omega arith)
front_low Second s n p (other_count r w a b) = (omega arith, omega arith)
front_low Second s n p (over_options r w a b) = (omega arith, omega arith)
front_low Second s n p (no_count w a b) = (omega arith, omega arith)
front_low Second s n p (runs_past w a b) = (omega arith, omega arith)

-- what the front comes to: a row of it, which none that holds comes before, or what follows it
data Fronted (h : Handed) (s : List ℕ) (rest r : Reading) : Type 0 where
  front_row : (n p : ℕ) → r ≡ refuse n p → FrontRow h s n p → ((m q : ℕ) → FrontRow h s m q → (rank n < rank m) ⊎ ((n ≡ m) × (p ≤ q))) →
      ((m q : ℕ) → Inner (form_of h) s m q → (rank n < rank m) ⊎ ((n ≡ m) × (p ≤ q))) → Fronted h s rest r
  front_none : r ≡ rest → ((m q : ℕ) → FrontRow h s m q → ⊥) → Fronted h s rest r

behind_2 : {fm : Form} {s : List ℕ} (m q : ℕ) → Inner fm s m q → (rank 2 < rank m) ⊎ ((2 ≡ m) × (0 ≤ q))
behind_2 m q i = let l = inner_low i in inl (lower_first _ _ (omega arith) (omega arith) (omega arith))

behind_3 : {fm : Form} {s : List ℕ} (m q : ℕ) → Inner fm s m q → (rank 3 < rank m) ⊎ ((3 ≡ m) × (0 ≤ q))
behind_3 m q (in_3 w a) = inr (sym a, omega arith)
behind_3 m q (in_4 w a) = inl (lower_first _ _ (omega arith) (omega arith) (omega arith))
behind_3 m q (in_5 w a) = inl (lower_first _ _ (omega arith) (omega arith) (omega arith))

options_found : (options : ℕ) (s : List ℕ) (rest : Reading) → Fronted (Old options) s rest (fronted (Old options) s rest)
unfolding fronted choose
options_found options s rest = go (ltb 63 options) refl
  where
    only : (m q : ℕ) → OptionsRow options m q → (rank 2 < rank m) ⊎ ((2 ≡ m) × (0 ≤ q))
    only m q (row_2 w a b) = inr (sym a, omega arith)

    no_more : options ≤ 63 → (m q : ℕ) → OptionsRow options m q → ⊥
    no_more l m q (row_2 w a b) = omega arith

    go : (z : Bool) → ltb 63 options ≡ z → Fronted (Old options) s rest (choose z (refuse 2 0) rest)
    go true e = front_row 2 0 refl (row_2 (ltb-true _ _ e) refl refl) only behind_2
    go false e = front_none refl (no_more (ltb-false _ _ e))

module _ (s : List ℕ) (rest : Reading) where
  at_2 : FirstSectionRow s 2 0 → Fronted Second s rest (refuse 2 0)
  at_2 h = front_row 2 0 refl h go behind_2
    where
      go : (m q : ℕ) → FirstSectionRow s m q → (rank 2 < rank m) ⊎ ((2 ≡ m) × (0 ≤ q))
      go m q (other_count r w a b) = inr (sym a, omega arith)
      go m q (over_options r w a b) = inr (sym a, omega arith)
      go m q (no_count w a b) = inl (lower_first _ _ (omega arith) (omega arith) (omega arith))
      go m q (runs_past w a b) = inl (lower_first _ _ (omega arith) (omega arith) (omega arith))

  at_3_0 : FirstSectionRow s 3 0 → (4 ≤ length s → u32_at s 0 ≡ 1) → length s < 5 → Fronted Second s rest (refuse 3 0)
  at_3_0 h one short = front_row 3 0 refl h go behind_3
    where
      go : (m q : ℕ) → FirstSectionRow s m q → (rank 3 < rank m) ⊎ ((3 ≡ m) × (0 ≤ q))
      go m q (other_count r w a b) = absurd (w (one r))
      go m q (over_options r w a b) = absurd (omega arith)
      go m q (no_count w a b) = inr (sym a, omega arith)
      go m q (runs_past w a b) = inr (sym a, omega arith)

  first_section_found : Fronted Second s rest (fronted Second s rest)
  unfolding fronted choose
  first_section_found = first (ltb (length s) 4) refl
    where
      no_more : u32_at s 0 ≡ 1 → 5 ≤ length s → get_or s 4 0 ≤ 63 → (m q : ℕ) → FirstSectionRow s m q → ⊥
      no_more one room known m q (other_count r w a b) = w one
      no_more one room known m q (over_options r w a b) = omega arith
      no_more one room known m q (no_count w a b) = omega arith
      no_more one room known m q (runs_past w a b) = omega arith

      fourth : (z : Bool) → ltb 63 (get_or s 4 0) ≡ z → u32_at s 0 ≡ 1 → 5 ≤ length s → Fronted Second s rest (choose z (refuse 2 0) rest)
      fourth true e one r = at_2 (over_options r (ltb-true _ _ e) refl refl)
      fourth false e one r = front_none refl (no_more one r (ltb-false _ _ e))

      third : (z : Bool) → ltb (length s) 5 ≡ z → u32_at s 0 ≡ 1 → Fronted Second s rest (choose z (refuse 3 0) (choose (ltb 63 (get_or s 4 0)) (refuse 2 0) rest))
      third true e one =
          let h : length s < 5 = ltb-true _ _ e in
          at_3_0 (runs_past (omega arith) refl refl) (λ r. one) h
      third false e one = fourth (ltb 63 (get_or s 4 0)) refl one (ltb-false _ _ e)

      next : (z : Bool) → eqb (u32_at s 0) 1 ≡ z → 4 ≤ length s →
          Fronted Second s rest (choose z (choose (ltb (length s) 5) (refuse 3 0) (choose (ltb 63 (get_or s 4 0)) (refuse 2 0) rest)) (refuse 2 0))
      next true e r = third (ltb (length s) 5) refl (eqb-true _ _ e)
      next false e r = at_2 (other_count r (eqb-false _ _ e) refl refl)

      first : (z : Bool) → ltb (length s) 4 ≡ z →
          Fronted Second s rest (choose z (refuse 3 0) (choose (eqb (u32_at s 0) 1) (choose (ltb (length s) 5) (refuse 3 0) (choose (ltb 63 (get_or s 4 0)) (refuse 2 0) rest)) (refuse 2 0)))
      first true e =
          let h : length s < 4 = ltb-true _ _ e in
          at_3_0 (no_count h refl refl) (λ r. absurd (omega arith)) (omega arith)
      first false e = next (eqb (u32_at s 0) 1) refl (ltb-false _ _ e)

front_found : (h : Handed) (s : List ℕ) (rest : Reading) → Fronted h s rest (fronted h s rest)
front_found (Old options) s rest = options_found options s rest
front_found Second s rest = first_section_found s rest

module _ (h : Handed) (s : List ℕ) (works : ℕ) where
  -- where no row stands before them, the rows of the whole check are those that follow the front
  outward : 65536 ≤ works → ((m q : ℕ) → FrontRow h s m q → ⊥) → {r : Reading} → Found (form_of h) (Inner (form_of h) s) s r → Found (form_of h) (Row h s works) s r
  outward memory none_before (least_row n p q l) = least_row n p q record { holds = inner l.holds; least = λ m x y. l.least m x (back y) }
    where
      back : {m x : ℕ} → Row h s works m x → Inner (form_of h) s m x
      back (row_1 w a b) = absurd (omega arith)
      back (front r) = absurd (none_before _ _ r)
      back (inner i) = i
  outward memory none_before (no_row q f) = no_row q none_there
    where
      none_there : (m x : ℕ) → Row h s works m x → ⊥
      none_there m x (row_1 w a b) = omega arith
      none_there m x (front r) = none_before m x r
      none_there m x (inner i) = f m x i

  -- the whole check
  pub found : Found (form_of h) (Row h s works) s (admitted h s works)
  unfolding admitted choose
  found = first (ltb works 65536) refl
    where
      second : 65536 ≤ works → {r : Reading} → Fronted h s (checked_in (form_of h) s) r → Found (form_of h) (Row h s works) s r
      second memory (front_row n p e r f i) = least_row n p e record { holds = front r; least = go }
        where
          go : (m q : ℕ) → Row h s works m q → (rank n < rank m) ⊎ ((n ≡ m) × (p ≤ q))
          go m q (row_1 w a b) = absurd (omega arith)
          go m q (front x) = f m q x
          go m q (inner x) = i m q x
      second memory (front_none e f) = rw e (outward memory f (found_first (form_of h) s))

      first : (z : Bool) → ltb works 65536 ≡ z → Found (form_of h) (Row h s works) s (choose z (refuse 1 0) (fronted h s (checked_in (form_of h) s)))
      first true e = least_row 1 0 refl record { holds = row_1 (ltb-true _ _ e) refl refl; least = go }
        where
          go : (m q : ℕ) → Row h s works m q → (rank 1 < rank m) ⊎ ((1 ≡ m) × (0 ≤ q))
          go m q (row_1 w a b) = inr (sym a, omega arith)
          go m q (front r) = let l = front_low h s m q r in inl (lower_first _ _ (omega arith) (omega arith) (omega arith))
          go m q (inner i) = let l = inner_low i in inl (lower_first _ _ (omega arith) (omega arith) (omega arith))
      first false e = second (ltb-false _ _ e) (front_found h s (checked_in (form_of h) s))

-- the numbers of the check's rows
pub row_low : {h : Handed} {s : List ℕ} {works n p : ℕ} → Row h s works n p → (0 < n) × (n ≤ 5)
row_low (row_1 w a b) = (omega arith, omega arith)
row_low {h} {s} {works} {n} {p} (front r) = let l = front_low h s n p r in (omega arith, omega arith)
row_low (inner i) = let l = inner_low i in (omega arith, omega arith)

pub same_refusal : (n p m q : ℕ) → refuse n p ≡ refuse m q → (n ≡ m) × (p ≡ q)
same_refusal n p m q e =
    let r : ◌≡◌ {A = Refusal} (record { number = n; place = p }) (record { number = m; place = q }) = cc in
    (ap (λ (x : Refusal). x.number) r, ap (λ (x : Refusal). x.place) r)

pub apart : (n p d e : ℕ) → refuse n p ≡ accept d e → ⊥
apart n p d e q = let z : ◌≡◌ {A = ℕ} 0 1 = cc in omega arith

-- "Given exactly when"
pub exactly : (h : Handed) (s : List ℕ) (works : ℕ) → Exactly h s works
exactly h s works = by (found h s works)
  where
    by : Found (form_of h) (Row h s works) s (admitted h s works) → Exactly h s works
    by (least_row n p r l) =
        record {
          refused = λ m q e. let x = same_refusal n p m q (sym r ∙ e) in rw (x.0, x.1) at l;
          given = λ m q k. let x = least_only l k in r ∙ rw (x.0, x.1);
          good = λ d e q. absurd (apart n p d e (sym r ∙ q));
          accepted = λ f. absurd (f n p l.holds);
        }
    by (no_row r f) =
        record {
          refused = λ m q e. absurd (apart m q (document_count_in (form_of h) s) (event_count_in (form_of h) s) (sym e ∙ r));
          given = λ m q k. absurd (f m q k.holds);
          good = λ d e q. let x = same_counts d e (document_count_in (form_of h) s) (event_count_in (form_of h) s) (sym q ∙ r) in (x.0, x.1, f);
          accepted = λ g. r;
        }
