-- The heading reader, case by case, and what its writes together leave.
-- Assumes nothing.
use mathlib.Core.Path.{◌≡◌, refl, sym, ap, ◌∙◌}
use mathlib.Core.Bool.{Bool, true, false}
use mathlib.Core.List.{List, [], ◌∷◌, ◌++◌}
use Prim.Native.Nat.{ℕ, ◌+◌, ◌*◌, ◌-◌, ◌≤◌, ◌<◌, ◌/◌, ◌%◌}
use native.Mathlib.Omega.{arith}
use lib.ListN.{length, get_or, take, drop, length-append, drop_of_length-le}
use lib.Seq.{drop-cons}
use borrow.Author.Tests.{le-leb, lt-leb, lt-ltb, le-ltb}
use Rattle.std.specs.Prelude.{Ok, Err, None, Some}
use Rattle.record.specs.Choice.{choose, and}
use Rattle.record.specs.Bytes.{Wrote, u32_bytes}
use Rattle.record.specs.Event.{enter, exit, event_bytes, bytes_of, flat, section_bytes}
use Rattle.record.specs.Outcome.{sized, onto}
use Rattle.record.specs.declared.event.Event.{Event}
use Rattle.record.specs.declared.check.Refusal.{Refusal}
use Rattle.record.proofs.Splice.{wrote_then}
use Rattle.record.proofs.Sections.{length_flat, flat_append, section}
use Rattle.scan.specs.Run.{space_or_tab, hash, leading}
use Rattle.scan.specs.Columns.{indentation}
use Rattle.scan.specs.Line.{line_of, checked_line, refusal}
use Rattle.atx.specs.Heading.{broken_off, opening, is_heading, split, events_from, heading_events, Reply, nothing, headed_in, headed_of, Headed}
use Rattle.atx.specs.Promise.{HeadedIn, HeadedBy}
use Rattle.scan.specs.declared.columns.Reach.{Reach}
use Rattle.atx.specs.declared.Piece.{Piece}
use Rattle.scan.proofs.Checks.{refused_by, found_by}
use Rattle.scan.proofs.Blanks.{rest_of, is_on, is_off}

-- the opening sequence
module _ (l : List ℕ) (n : ℕ) (k : n ≡ leading hash l) where
  pub no_hashes : n < 1 → false ≡ opening l
  unfolding opening and
  no_hashes h = rw (← k, lt-leb _ _ h)

  module _ (s : 1 ≤ n) where
    pub too_many_hashes : 6 < n → false ≡ opening l
    unfolding opening and
    too_many_hashes h = rw (← k, le-leb _ _ s, lt-leb _ _ h)

    module _ (h : n ≤ 6) where
      pub line_ends : length l ≤ n → true ≡ opening l
      unfolding opening broken_off and
      line_ends e = rw (← k, le-leb _ _ s, le-leb _ _ h, drop_of_length-le l {i = n} e)

      pub line_goes_on : n < length l → (r : Bool) → r ≡ space_or_tab (get_or l n 0) → r ≡ opening l
      unfolding opening broken_off and
      line_goes_on e r q = rw (← k, le-leb _ _ s, le-leb _ _ h, drop-cons l n 0 e) q

module _ (l : List ℕ) (options column : ℕ) where
  pub headings_off : (options / 8 % 2 ≡ 1 → ⊥) → false ≡ is_heading l options column
  unfolding is_heading and
  headings_off o = rw (is_off options 8 o)

  pub headings_on : options / 8 % 2 ≡ 1 → (indent : Reach) → indent ≡ indentation options column l → (r : Bool) →
      r ≡ opening (take (length l - indent.bytes) (drop indent.bytes l)) → r ≡ is_heading l options column
  unfolding is_heading and
  headings_on o indent e r q = let p = rw (rest_of l indent.bytes) at q in rw (is_on options 8 o, ← e) p

-- how many events
pub events_length : (at : ℕ) (ps : List Piece) → length (events_from at ps) ≡ 2 * length ps
unfolding events_from
events_length at [] = refl
events_length at (p ∷ ps) = omega (arith, events_length (at + p.size) ps)

pub heading_length : (l : List ℕ) → length (heading_events l) ≡ 2 + 2 * length (split l)
unfolding heading_events
heading_length l = omega (arith, length-append (events_from 0 (split l)) (exit 11 (length l) ∷ []), events_length 0 (split l))

-- the result on a line
module _ (l : List ℕ) (options column outs : ℕ) where
  no_heading : is_heading l options column ≡ false → headed_in l options column outs ≡ nothing (Ok None)
  unfolding headed_in choose
  no_heading e = rw e

  module _ (e : is_heading l options column ≡ true) (n : ℕ) (k : n ≡ 2 + 2 * length (split l)) where
    many_events : 8000 < n → headed_in l options column outs ≡ nothing (Err (refusal 7 0))
    unfolding headed_in sized choose
    many_events h = rw (e, heading_length l, ← k, lt-ltb _ _ h)

    module _ (h : n ≤ 8000) where
      little_room : outs < 4 + 8 * n → headed_in l options column outs ≡ nothing (Err (refusal 8 0))
      unfolding headed_in sized choose
      little_room r = rw (e, heading_length l, ← k, le-ltb _ _ h, lt-ltb _ _ r)

      all_there : 4 + 8 * n ≤ outs → headed_in l options column outs ≡ record { answer = Ok (Some n); bytes = section_bytes (heading_events l) }
      unfolding headed_in sized choose
      all_there r = rw (e, heading_length l, ← k, le-ltb _ _ h, le-ltb _ _ r, heading_length l, ← k)

-- an answer that writes nothing
unchanged : (l : List ℕ) (options column : ℕ) (out : List ℕ) (r : Headed) → headed_in l options column (length out) ≡ nothing r →
    HeadedIn l options column out r out
unfolding onto
unchanged l options column out r q =
    record { answer = sym (ap (λ (x : Reply). x.answer) q); output = sym (ap (λ (x : Reply). onto x.bytes out) q) }

module _ (l : List ℕ) (options column : ℕ) (out : List ℕ) where
  pub answers_no : is_heading l options column ≡ false → HeadedIn l options column out (Ok None) out
  answers_no e = unchanged l options column out (Ok None) (no_heading l options column (length out) e)

  module _ (e : is_heading l options column ≡ true) (m : ℕ) (k : m ≡ length (split l)) where
    pub answers_seven : 8000 < 2 + 2 * m → HeadedIn l options column out (Err (refusal 7 0)) out
    answers_seven h = unchanged l options column out _ (many_events l options column (length out) e (2 + 2 * m) (omega arith) h)

    module _ (h : 2 + 2 * m ≤ 8000) where
      pub answers_eight : length out < 4 + 8 * (2 + 2 * m) → HeadedIn l options column out (Err (refusal 8 0)) out
      answers_eight r = unchanged l options column out _ (little_room l options column (length out) e (2 + 2 * m) (omega arith) h r)

      pub answers_heading : 4 + 8 * (2 + 2 * m) ≤ length out → (d₁ d₂ d₃ d₄ : List ℕ) →
          Wrote out 0 (u32_bytes (2 + 2 * m)) d₁ → Wrote d₁ 4 (event_bytes 0 11 0) d₂ → Wrote d₂ 12 (flat (events_from 0 (split l))) d₃ →
          Wrote d₃ (12 + 16 * m) (event_bytes 1 11 (length l)) d₄ → HeadedIn l options column out (Ok (Some (2 + 2 * m))) d₄
      unfolding onto heading_events flat
      answers_heading r d₁ d₂ d₃ d₄ w₁ w₂ w₃ w₄ =
          let q = all_there l options column (length out) e (2 + 2 * m) (omega arith) h r in
          let es : List Event = events_from 0 (split l) in
          let last : List Event = exit 11 (length l) ∷ [] in
          let n : length (flat es) ≡ 16 * m = omega (arith, length_flat es, events_length 0 (split l), k) in
          let w : Wrote d₁ 4 (bytes_of (enter 11 0) ++ flat es) d₃ = wrote_then w₂ w₃ refl in
          let v : Wrote d₁ 4 ((bytes_of (enter 11 0) ++ flat es) ++ flat last) d₄ = wrote_then w w₄ (omega (arith, length-append (bytes_of (enter 11 0)) (flat es))) in
          let f : (bytes_of (enter 11 0) ++ flat es) ++ flat last ≡ flat (heading_events l) =
          ap (λ (x : List ℕ). bytes_of (enter 11 0) ++ x) (sym (flat_append es last))
          in
          let u : Wrote d₁ 4 (flat (heading_events l)) d₄ = rw f at v in
          record {
            answer = sym (ap (λ (x : Reply). x.answer) q);
            output =
                section (heading_events l) (2 + 2 * m) (heading_length l ∙ ap (λ (x : ℕ). 2 + 2 * x) (sym k)) r w₁ u
                ∙ sym (ap (λ (x : Reply). onto x.bytes out) q);
          }

-- of a line as it is lent
module _ (s : List ℕ) (options column : ℕ) (out : List ℕ) where
  pub heading_refused : (r : Refusal) → Err r ≡ checked_line s options column → HeadedBy s options column out (Err r) out
  unfolding headed_of onto
  heading_refused r q =
      let e = refused_by s options column (λ (x : Refusal). nothing (Err x)) (headed_in (line_of s) options column (length out)) r q in
      record { answer = ap (λ (x : Reply). x.answer) e; output = ap (λ (x : Reply). onto x.bytes out) e }

  pub heading_found : (n : ℕ) → Ok n ≡ checked_line s options column → (r : Headed) (out' : List ℕ) →
      HeadedIn (take n s) options column out r out' → HeadedBy s options column out r out'
  unfolding headed_of
  heading_found n q r out' p =
      let e = found_by s options column (λ (x : Refusal). nothing (Err x)) (λ (l : List ℕ). headed_in l options column (length out)) n _ q refl in
      record { answer = p.answer ∙ ap (λ (x : Reply). x.answer) e; output = p.output ∙ ap (λ (x : Reply). onto x.bytes out) e }
