-- The table's "given exactly when" for a call that writes: on top of the check's, by the three tests of `settled`.
-- Assumes nothing.
use mathlib.Core.Path.{◌≡◌, refl, sym, ap, ◌∙◌}
use mathlib.Core.Bool.{Bool, true, false}
use mathlib.Core.Logic.{◌⊎◌, inl, inr}
use mathlib.Core.List.{List}
use Prim.Native.Nat.{ℕ, ◌+◌, ◌*◌, ◌≤◌, ◌<◌}
use native.Mathlib.Nat.{mul-le-mul_left}
use native.Mathlib.Omega.{arith}
use lib.ListN.{length}
use lib.Dec.{ltb}
use borrow.Author.Tests.{ltb-true, ltb-false}
use Rattle.record.specs.Choice.{choose}
use Rattle.record.specs.Check.{admitted, accept}
use Rattle.record.specs.Form.{place_in}
use Rattle.record.specs.Handed.{form_of}
use Rattle.record.specs.Order.{rank, Least}
use Rattle.record.specs.Rows.{Row, document_count_in, event_count_in}
use Rattle.record.specs.Outcome.{Resolution, offends, gives, Outcome, accepted, refusing, sized, settled, outcome}
use Rattle.record.specs.Written.{Judges, WrittenRow, by_check, row_6, row_7, row_8, ExactlyWritten}
use Rattle.record.specs.declared.event.Event.{Event}
use Rattle.record.specs.declared.form.Handed.{Handed}
use Rattle.record.specs.declared.check.Refusal.{Refusal}
use Rattle.record.proofs.Order.{lower_first, least_only}
use Rattle.record.proofs.Exactly.{Found, least_row, no_row, found, row_low}

-- what a call comes to
data Came (R : ℕ → ℕ → Type 0) (made : Resolution) (o : Outcome) : Type 0 where
  least_row' : (n p : ℕ) → o ≡ refusing n p → Least R n p → Came R made o
  no_row' : (es : List Event) → o ≡ accepted es → made ≡ gives es → ((n p : ℕ) → R n p → ⊥) → Came R made o

same_gives : (es fs : List Event) → gives es ≡ gives fs → es ≡ fs
same_gives es fs e = cc

module _ (h : Handed) (s : List ℕ) (works : ℕ) (none : (n p : ℕ) → Row h s works n p → ⊥) (Offends : ℕ → Type 0) (outs : ℕ) where
  came_offends : (k : ℕ) → Judges Offends (offends k) → Came (WrittenRow h s works Offends (offends k) outs) (offends k) (refusing 6 (place_in (form_of h) (document_count_in (form_of h) s) k))
  came_offends k j = least_row' 6 _ refl record { holds = row_6 k (j.earliest k refl).0 refl refl; least = go }
    where
      go : (m q : ℕ) → WrittenRow h s works Offends (offends k) outs m q → (rank 6 < rank m) ⊎ ((6 ≡ m) × (place_in (form_of h) (document_count_in (form_of h) s) k ≤ q))
      go m q (by_check r) = absurd (none m q r)
      go m q (row_6 i e a b) =
          let x : (form_of h).width * k ≤ (form_of h).width * i = mul-le-mul_left (form_of h).width ((j.earliest k refl).1 i e) in
          inr (sym a, omega arith)
      go m q (row_7 es e g a b) = inl (lower_first _ _ (omega arith) (omega arith) (omega arith))
      go m q (row_8 es e g a b) = inl (lower_first _ _ (omega arith) (omega arith) (omega arith))

  came_gives : (es : List Event) → Judges Offends (gives es) → Came (WrittenRow h s works Offends (gives es) outs) (gives es) (sized (form_of h) es outs)
  unfolding sized choose
  came_gives es j = first (ltb 8000 (length es)) refl
    where
      same_length : (fs : List Event) → gives es ≡ gives fs → length es ≡ length fs
      same_length fs e = ap length (same_gives es fs e)

      second : (z : Bool) → ltb outs (4 + (form_of h).width * length es) ≡ z → length es ≤ 8000 →
          Came (WrittenRow h s works Offends (gives es) outs) (gives es) (choose z (refusing 8 0) (accepted es))
      second true t few = least_row' 8 0 refl record { holds = row_8 es refl (ltb-true _ _ t) refl refl; least = go }
        where
          go : (m q : ℕ) → WrittenRow h s works Offends (gives es) outs m q → (rank 8 < rank m) ⊎ ((8 ≡ m) × (0 ≤ q))
          go m q (by_check r) = absurd (none m q r)
          go m q (row_6 i e a b) = absurd (j.none es refl i e)
          go m q (row_7 fs e g a b) = let l = same_length fs e in absurd (omega arith)
          go m q (row_8 fs e g a b) = inr (sym a, omega arith)
      second false t few = no_row' es refl refl go
        where
          fits : 4 + (form_of h).width * length es ≤ outs
          fits = ltb-false _ _ t

          go : (m q : ℕ) → WrittenRow h s works Offends (gives es) outs m q → ⊥
          go m q (by_check r) = none m q r
          go m q (row_6 i e a b) = j.none es refl i e
          go m q (row_7 fs e g a b) = let l = same_length fs e in omega arith
          go m q (row_8 fs e g a b) = let l : (form_of h).width * length es ≡ (form_of h).width * length fs = ap (λ (n : ℕ). (form_of h).width * n) (same_length fs e) in omega (arith, fits)

      first : (z : Bool) → ltb 8000 (length es) ≡ z →
          Came (WrittenRow h s works Offends (gives es) outs) (gives es) (choose z (refusing 7 0) (choose (ltb outs (4 + (form_of h).width * length es)) (refusing 8 0) (accepted es)))
      first true t = least_row' 7 0 refl record { holds = row_7 es refl (ltb-true _ _ t) refl refl; least = go }
        where
          go : (m q : ℕ) → WrittenRow h s works Offends (gives es) outs m q → (rank 7 < rank m) ⊎ ((7 ≡ m) × (0 ≤ q))
          go m q (by_check r) = absurd (none m q r)
          go m q (row_6 i e a b) = absurd (j.none es refl i e)
          go m q (row_7 fs e g a b) = inr (sym a, omega arith)
          go m q (row_8 fs e g a b) = inl (lower_first _ _ (omega arith) (omega arith) (omega arith))
      first false t = second (ltb outs (4 + (form_of h).width * length es)) refl (ltb-false _ _ t)

  came_settled : (made : Resolution) → Judges Offends made → Came (WrittenRow h s works Offends made outs) made (settled (form_of h) (document_count_in (form_of h) s) made outs)
  came_settled (offends k) j = came_offends k j
  came_settled (gives es) j = came_gives es j

came : (h : Handed) (s : List ℕ) (works : ℕ) (Offends : ℕ → Type 0) (resolve : ℕ → ℕ → Resolution) (outs : ℕ) →
    (admitted h s works ≡ accept (document_count_in (form_of h) s) (event_count_in (form_of h) s) → Judges Offends (resolve (document_count_in (form_of h) s) (event_count_in (form_of h) s))) →
    Came (WrittenRow h s works Offends (resolve (document_count_in (form_of h) s) (event_count_in (form_of h) s)) outs) (resolve (document_count_in (form_of h) s) (event_count_in (form_of h) s)) (outcome (form_of h) (admitted h s works) resolve outs)
came h s works Offends resolve outs j = by (found h s works)
  where
    made : Resolution
    made = resolve (document_count_in (form_of h) s) (event_count_in (form_of h) s)

    by : Found (form_of h) (Row h s works) s (admitted h s works) → Came (WrittenRow h s works Offends made outs) made (outcome (form_of h) (admitted h s works) resolve outs)
    by (least_row n p r l) = least_row' n p (rw r) record { holds = by_check l.holds; least = go }
      where
        go : (m q : ℕ) → WrittenRow h s works Offends made outs m q → (rank n < rank m) ⊎ ((n ≡ m) × (p ≤ q))
        go m q (by_check x) = l.least m q x
        go m q (row_6 i e a b) = let y = row_low l.holds in inl (lower_first _ _ (omega arith) (omega arith) (omega arith))
        go m q (row_7 fs e g a b) = let y = row_low l.holds in inl (lower_first _ _ (omega arith) (omega arith) (omega arith))
        go m q (row_8 fs e g a b) = let y = row_low l.holds in inl (lower_first _ _ (omega arith) (omega arith) (omega arith))
    by (no_row r f) = rw r (came_settled h s works f Offends outs made (j r))

same_refusing : (n p m q : ℕ) → refusing n p ≡ refusing m q → (n ≡ m) × (p ≡ q)
same_refusing n p m q e =
    let r : ◌≡◌ {A = Refusal} (record { number = n; place = p }) (record { number = m; place = q }) = cc in
    (ap (λ (x : Refusal). x.number) r, ap (λ (x : Refusal). x.place) r)

apart : (n p : ℕ) (es : List Event) → refusing n p ≡ accepted es → ⊥
apart n p es q = let z : ◌≡◌ {A = ℕ} 0 1 = cc in omega arith

same_accepted : (es fs : List Event) → accepted es ≡ accepted fs → es ≡ fs
same_accepted es fs q = cc

-- "Given exactly when"
pub exactly_written : (h : Handed) (s : List ℕ) (works : ℕ) (Offends : ℕ → Type 0) (resolve : ℕ → ℕ → Resolution) (outs : ℕ) →
    (admitted h s works ≡ accept (document_count_in (form_of h) s) (event_count_in (form_of h) s) → Judges Offends (resolve (document_count_in (form_of h) s) (event_count_in (form_of h) s))) →
    ExactlyWritten h s works Offends resolve outs
exactly_written h s works Offends resolve outs j = by (came h s works Offends resolve outs j)
  where
    made : Resolution
    made = resolve (document_count_in (form_of h) s) (event_count_in (form_of h) s)

    by : Came (WrittenRow h s works Offends made outs) made (outcome (form_of h) (admitted h s works) resolve outs) → ExactlyWritten h s works Offends resolve outs
    by (least_row' n p r l) =
        record {
          refused = λ m q e. let x = same_refusing n p m q (sym r ∙ e) in rw (x.0, x.1) at l;
          given = λ m q k. let x = least_only l k in r ∙ rw (x.0, x.1);
          good = λ es q. absurd (apart n p es (sym r ∙ q));
          written = λ es e f. absurd (f n p l.holds);
        }
    by (no_row' es r m f) =
        record {
          refused = λ n q e. absurd (apart n q es (sym e ∙ r));
          given = λ n q k. absurd (f n q k.holds);
          good = λ fs q. let x = same_accepted es fs (sym r ∙ q) in (m ∙ ap (λ (l : List Event). gives l) x, f);
          written = λ fs e g. r ∙ ap (λ (l : List Event). accepted l) (same_gives es fs (sym m ∙ e));
        }
