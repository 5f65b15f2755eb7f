-- The check of a record that was written, step by step, answers what is found of its options, its document and its events, in the form's places. Where events
-- carry partner numbers, an exit that fits what is open carries its enter's number and that one carries the exit's, however the list goes on: so no
-- event is refused for its numbers.
-- Assumes nothing.
use mathlib.Core.Path.{◌≡◌, refl, sym, ap, ◌∙◌}
use mathlib.Core.Bool.{Bool, true, false}
use mathlib.Core.Logic.{◌⊎◌, inl, inr}
use mathlib.Core.List.{List, [], ◌∷◌}
use Prim.Native.Nat.{ℕ, zero, suc, ◌+◌, ◌*◌, ◌≤◌, ◌<◌}
use native.Mathlib.Omega.{arith}
use lib.ListN.{length, get_or}
use lib.Dec.{ltb, eqb}
use borrow.Author.Tests.{eq-eqb, ne_eqb, ltb-true, ltb-false}
use Rattle.record.specs.Check.{refuse, first_return, formed, paired, truly, judge, inside_of, end_of, event_count_of, checked_in, fronted, admitted, Reading, accept}
use Rattle.record.specs.Choice.{choose, and}
use Rattle.record.specs.Event.{Stored, stored_at, all_stored_at}
use Rattle.record.specs.Form.{second, place_in, mate_in}
use Rattle.record.specs.Handed.{form_of}
use Rattle.record.specs.Partners.{closing, partners_from, front_in, record_in}
use Rattle.record.specs.ReadsBack.{stored}
use Rattle.record.specs.Sound.{placed}
use Rattle.record.specs.Stack.{innermost, innermost_of, none, outer, fits_open, after, nth}
use Rattle.record.specs.declared.event.Event.{Event}
use Rattle.record.specs.declared.form.Form.{Form}
use Rattle.record.specs.declared.form.Handed.{Handed}
use Rattle.record.specs.declared.form.Handed.TheVariants.{Second}
use Rattle.record.proofs.Bools.{and_both}
use Rattle.record.proofs.Counts.{over, fits}
use Rattle.record.proofs.Parts.{document_byte}
use Rattle.record.proofs.Soundness.{after_enter}
use Rattle.record.proofs.Whole.{document_misfit, document_fits, events_misfit, events_fit, ends, returned, inside, wrong_options, rest_checked}
use Rattle.partners.specs.EitherForm.{Finding, little_memory, options_over, document_over, events_over, return_at, broken, left_open, nothing}
use Rattle.partners.specs.EitherForm.{broken_from, found, answer_in, CheckedInEither}
use Rattle.partners.specs.Records.{With, beside, within}
use Rattle.partners.proofs.Laid.{Laid, laid_out}
use Rattle.partners.proofs.Walk.{same, closing_enter, closing_inner, closing_here, rest_enter, rest_exit}

-- the open enters, innermost first, of which m are inside the first: each carries the number of the exit that closes it, if the list goes on so
data Owed (mates : ℕ → ℕ) (left : List Event) (i : ℕ) : ℕ → List ℕ → Type 0 where
  closed : {m : ℕ} → Owed mates left i m []
  opened : {m h : ℕ} {hs : List ℕ} → mates h ≡ closing m left i → Owed mates left i (m + 1) hs → Owed mates left i m (h ∷ hs)

owed_enter : {mates : ℕ → ℕ} {e : Event} {es : List Event} {i m : ℕ} {hs : List ℕ} → e.kind ≡ 0 → Owed mates (e ∷ es) i m hs →
    Owed mates es (i + 1) (m + 1) hs
owed_enter z closed = closed
owed_enter {mates} {e} {es} {i} {m} z (opened q r) = opened (q ∙ closing_enter e es m (m + 1) i z refl) (owed_enter z r)

owed_exit : {mates : ℕ → ℕ} {e : Event} {es : List Event} {i m n : ℕ} {hs : List ℕ} → (e.kind ≡ 0 → ⊥) → n ≡ m + 1 →
    Owed mates (e ∷ es) i n hs → Owed mates es (i + 1) m hs
owed_exit z q closed = closed
owed_exit {mates} {e} {es} {i} {m} {n} z q (opened p r) = opened (p ∙ closing_inner e es n m i z q) (owed_exit {m = m + 1} z (ap (λ (x : ℕ). x + 1) q) r)

owed_outer : {mates : ℕ → ℕ} {e : Event} {es : List Event} {i : ℕ} {opens : List ℕ} → (e.kind ≡ 0 → ⊥) → Owed mates (e ∷ es) i 0 opens →
    Owed mates es (i + 1) 0 (outer opens)
owed_outer z closed = closed
owed_outer z (opened p r) = owed_exit z refl r

owed_first : {mates : ℕ → ℕ} {left : List Event} {i m h : ℕ} {hs : List ℕ} → Owed mates left i m (h ∷ hs) → mates h ≡ closing m left i
owed_first (opened q r) = q

-- an exit takes away the innermost, whatever its kind's number
after_leave : (e : Event) (x : ℕ) (held : List ℕ) → (e.kind ≡ 0 → ⊥) → after e x held ≡ outer held
unfolding after choose
after_leave e x held z = rw (ne_eqb e.kind 0 z)

outer_lengths : (xs ys : List ℕ) → length xs ≡ length ys → length (outer xs) ≡ length (outer ys)
outer_lengths [] [] l = refl
outer_lengths [] (y ∷ ys) l = absurd (omega arith)
outer_lengths (x ∷ xs) [] l = absurd (omega arith)
outer_lengths (x ∷ xs) (y ∷ ys) l = omega arith

-- one event, where event k is next and the enters `opens` are open
module _ {mates : ℕ → ℕ} {e : Event} {es : List Event} {k : ℕ} {opens : List ℕ} where
  owed_after : mates k ≡ get_or (partners_from (e ∷ es) k opens) 0 0 → Owed mates (e ∷ es) k 0 opens → Owed mates es (k + 1) 0 (after e k opens)
  owed_after m o = go (same e.kind 0)
    where
      go : (e.kind ≡ 0) ⊎ (e.kind ≡ 0 → ⊥) → Owed mates es (k + 1) 0 (after e k opens)
      go (inl z) = rw (after_enter e k opens z) (opened (m ∙ ap (λ (l : List ℕ). get_or l 0 0) (rest_enter e es k opens z)) (owed_enter z o))
      go (inr z) = rw (after_leave e k opens z) (owed_outer z o)

lengths_after : (e : Event) (x y : ℕ) (xs ys : List ℕ) → length xs ≡ length ys → length (after e x xs) ≡ length (after e y ys)
lengths_after e x y xs ys l = go (same e.kind 0)
  where
    go : (e.kind ≡ 0) ⊎ (e.kind ≡ 0 → ⊥) → length (after e x xs) ≡ length (after e y ys)
    go (inl z) = rw (after_enter e x xs z, after_enter e y ys z) (omega arith)
    go (inr z) = rw (after_leave e x xs z, after_leave e y ys z) (outer_lengths xs ys l)

-- numbers that are each other's, where events carry any
paired_so : (w a b i k : ℕ) → (12 ≤ w → (a ≡ i) × (b ≡ k)) → paired w a b i k ≡ true
unfolding paired choose
paired_so w a b i k f = go (ltb w 12) refl
  where
    go : (t : Bool) → ltb w 12 ≡ t → choose t true (and (eqb a i) (eqb b k)) ≡ true
    go true q = refl
    go false q =
        let p = f (ltb-false w 12 q) in
        and_both _ _ (eq-eqb a i p.0) (eq-eqb b k p.1)

exit_so : (w : ℕ) (mates : ℕ → ℕ) (e : Event) (es : List Event) (k : ℕ) (held opens : List ℕ) → (e.kind ≡ 0 → ⊥) → innermost e.name held ≡ true →
    length opens ≡ length held → (12 ≤ w → mates k ≡ get_or (partners_from (e ∷ es) k opens) 0 0) → (12 ≤ w → Owed mates (e ∷ es) k 0 opens) →
    paired w (mates k) (mates (innermost_of opens)) (innermost_of opens) k ≡ true
exit_so w mates e es k [] opens z q l m o = let y : ◌≡◌ {A = ℕ} 0 1 = cc in absurd (omega arith)
exit_so w mates e es k (x ∷ held) [] z q l m o = absurd (omega arith)
exit_so w mates e es k (x ∷ held) (h ∷ hs) z q l m o =
    paired_so w (mates k) (mates h) h k
    (λ g. (m g ∙ ap (λ (l : List ℕ). get_or l 0 0) (rest_exit e es k (h ∷ hs) z), owed_first (o g) ∙ closing_here e es k z))

truly_so : (w : ℕ) (mates : ℕ → ℕ) (e : Event) (es : List Event) (k : ℕ) (held opens : List ℕ) → fits_open 64 e held ≡ true →
    length opens ≡ length held → (12 ≤ w → mates k ≡ get_or (partners_from (e ∷ es) k opens) 0 0) → (12 ≤ w → Owed mates (e ∷ es) k 0 opens) →
    truly w mates e k opens ≡ true
unfolding truly fits_open choose
truly_so w mates e es k held opens q l m o = go (same e.kind 0)
  where
    go : (e.kind ≡ 0) ⊎ (e.kind ≡ 0 → ⊥) →
        choose (eqb e.kind 0) true (paired w (mates k) (mates (innermost_of opens)) (innermost_of opens) k) ≡ true
    go (inl z) = rw (eq-eqb _ _ z)
    go (inr z) = rw (ne_eqb e.kind 0 z) (exit_so w mates e es k held opens z (rw (ne_eqb e.kind 0 z) at q) l m o)

-- so the tests of an event come to what they are without numbers
same_test : (p q t : Bool) → (q ≡ true → t ≡ true) → and p (and q t) ≡ and p q
unfolding and
same_test p true t f = rw (f refl)
same_test p false t f = refl

stored_formed : (e : Event) (d last : ℕ) → formed (stored e) d last ≡ placed e d last
unfolding formed and
stored_formed e d last = refl

-- a choice among findings is one among answers
answer_choice : (f : Form) (d e : ℕ) (b : Bool) (x y : Finding) → answer_in f d e (choose b x y) ≡ choose b (answer_in f d e x) (answer_in f d e y)
unfolding choose
answer_choice f d e true x y = refl
answer_choice f d e false x y = refl

later_partner : (e : Event) (es : List Event) (k : ℕ) (opens : List ℕ) (j : ℕ) →
    get_or (partners_from (e ∷ es) k opens) (suc j) 0 ≡ get_or (partners_from es (k + 1) (after e k opens)) j 0
unfolding partners_from
later_partner e es k opens j = refl

-- number 5: the events from number k on
judged : (f : Form) (s : List ℕ) (mates : ℕ → ℕ) (d n : ℕ) (es : List Event) (k at last : ℕ) (held opens : List ℕ) → at ≡ place_in f d k → n ≡ k + length es →
    ((j : ℕ) → j < length es → stored_at s (at + f.width * j) ≡ stored (nth es j)) →
    (12 ≤ f.width → (j : ℕ) → j < length es → mates (k + j) ≡ get_or (partners_from es k opens) j 0) →
    (12 ≤ f.width → Owed mates es k 0 opens) → length opens ≡ length held →
    judge f.width mates (all_stored_at f.width (length es) s at) d k at last held opens (accept d n) ≡ answer_in f d n (broken_from d k last held es)
unfolding judge all_stored_at broken_from
judged f s mates d n [] k at last held opens a c each m o l =
    let y : place_in f d k ≡ place_in f d n = ap (λ (x : ℕ). place_in f d x) (omega arith) in
    ap (λ (x : ℕ). choose (none held) (accept d n) (refuse 5 x)) (a ∙ y) ∙ sym (answer_choice f d n (none held) nothing left_open)
judged f s mates d n (e ∷ es) k at last held opens a c each m o l =
    let y : at + f.width * 0 ≡ at = omega arith in
    let v : stored_at s at ≡ stored e = rw y at (each 0 (omega arith)) in
    let own : 12 ≤ f.width → mates k ≡ get_or (partners_from (e ∷ es) k opens) 0 0 =
    λ g. let x : k + 0 ≡ k = omega arith in rw x at (m g 0 (omega arith)) in
    let later : Reading =
    judge f.width mates (all_stored_at f.width (length es) s (at + f.width)) d (k + 1) (at + f.width) e.place (after e e.name held)
    (after e k opens) (accept d n) in
    let further : Finding = broken_from d (k + 1) e.place (after e e.name held) es in
    let rest : later ≡ answer_in f d n further =
    judged f s mates d n es (k + 1) (at + f.width) e.place (after e e.name held) (after e k opens)
    (omega arith) (omega arith)
    (λ j h. let x : at + f.width * suc j ≡ at + f.width + f.width * j = omega arith in rw x at (each (suc j) (omega arith)))
    (λ g j h. let x : k + suc j ≡ k + 1 + j = omega arith in rw x at (m g (suc j) (omega arith)) ∙ later_partner e es k opens j)
    (λ g. owed_after (own g) (o g))
    (lengths_after e k e.name opens held l) in
    let test : and (formed (stored e) d last) (and (fits_open 64 e held) (truly f.width mates e k opens)) ≡ and (placed e d last) (fits_open 64 e held) =
    ap (λ (b : Bool). and b (and (fits_open 64 e held) (truly f.width mates e k opens))) (stored_formed e d last)
    ∙ same_test (placed e d last) (fits_open 64 e held) (truly f.width mates e k opens)
    (λ q. truly_so f.width mates e es k held opens q l own o) in
    ap (λ (x : Stored). judge f.width mates (x ∷ all_stored_at f.width (length es) s (at + f.width)) d k at last held opens (accept d n)) v
    ∙ ap (λ (b : Bool). choose b later (refuse 5 at)) test
    ∙ ap (λ (r : Reading). choose (and (placed e d last) (fits_open 64 e held)) r (refuse 5 at)) rest
    ∙ ap (λ (x : ℕ). choose (and (placed e d last) (fits_open 64 e held)) (answer_in f d n further) (refuse 5 x)) a
    ∙ sym (answer_choice f d n (and (placed e d last) (fits_open 64 e held)) further (broken k))

choice_behind : (front : ℕ) (b : Bool) (x y : ℕ) → choose b (front + x) (front + y) ≡ front + choose b x y
unfolding choose
choice_behind front true x y = refl
choice_behind front false x y = refl

-- a carriage return of the document, in a list that has the document behind `front` bytes
returns_there : (n : ℕ) (s t : List ℕ) (front i : ℕ) → ((k : ℕ) → k < n → get_or s (front + (i + k)) 0 ≡ get_or t (i + k) 0) →
    first_return n s (front + i) ≡ front + first_return n t i
unfolding first_return
returns_there zero s t front i f = refl
returns_there (suc n) s t front i f =
    let x : i + 0 ≡ i = omega arith in
    let y : front + i + 1 ≡ front + (i + 1) = omega arith in
    let here : get_or s (front + i) 0 ≡ get_or t i 0 = rw x at (f 0 (omega arith)) in
    let rest : first_return n s (front + i + 1) ≡ front + first_return n t (i + 1) =
    ap (λ (m : ℕ). first_return n s m) y
    ∙ returns_there n s t front (i + 1) (λ k h. let z : i + suc k ≡ i + 1 + k = omega arith in rw z at (f (suc k) (omega arith))) in
    ap (λ (b : ℕ). choose (eqb b 13) (front + i) (first_return n s (front + i + 1))) here
    ∙ ap (λ (r : ℕ). choose (eqb (get_or t i 0) 13) (front + i) r) rest
    ∙ choice_behind front (eqb (get_or t i 0) 13) i (first_return n t (i + 1))

-- a record that lies so
module _ {f : Form} {s document : List ℕ} {es : List Event} (l : Laid f s document es) where
  long : length s ≡ 8 + f.front + length document + f.width * length es
  long = l.whole

  document_found : checked_in f s ≡ choose (ltb 16384 (length document)) (refuse 3 f.front) (event_count_of f s (length document))
  unfolding choose
  document_found = go (ltb 16384 (length document)) refl
    where
      go : (b : Bool) → ltb 16384 (length document) ≡ b → checked_in f s ≡ choose b (refuse 3 f.front) (event_count_of f s (length document))
      go true q =
          let n : length s ≡ 8 + f.front + length document + f.width * length es = long in
          sym (document_misfit f s (sym (over s f.front 16384 1 (length document) (sym l.document_count) (omega arith) (ltb-true _ _ q))))
      go false q =
          let n : length s ≡ 8 + f.front + length document + f.width * length es = long in
          sym (document_fits f s (length document)
          (sym (fits s f.front 16384 1 (length document) (sym l.document_count) (omega arith) (ltb-false _ _ q) (omega arith))))

  events_found : event_count_of f s (length document)
      ≡ choose (ltb 2048 (length es)) (refuse 3 (4 + f.front + length document)) (end_of f s (length document) (length es))
  unfolding choose
  events_found = go (ltb 2048 (length es)) refl
    where
      go : (b : Bool) → ltb 2048 (length es) ≡ b →
          event_count_of f s (length document) ≡ choose b (refuse 3 (4 + f.front + length document)) (end_of f s (length document) (length es))
      go true q =
          let n : length s ≡ 8 + f.front + length document + f.width * length es = long in
          sym (events_misfit f s (length document)
          (sym (over s (4 + f.front + length document) 2048 f.width (length es) (sym l.its_section.count) (omega arith) (ltb-true _ _ q))))
      go false q =
          let n : length s ≡ 8 + f.front + length document + f.width * length es = long in
          sym (events_fit f s (length document) (length es)
          (sym (fits s (4 + f.front + length document) 2048 f.width (length es) (sym l.its_section.count) (omega arith) (ltb-false _ _ q)
          (omega arith))))

  return_found : first_return (length document) s (4 + f.front) ≡ 4 + f.front + first_return (length document) document 0
  return_found =
      let z : 4 + f.front + 0 ≡ 4 + f.front = omega arith in
      ap (λ (m : ℕ). first_return (length document) s m) (sym z)
      ∙ returns_there (length document) s document (4 + f.front) 0
      (λ k h. let x : 0 + k ≡ k = omega arith in rw x (sym (document_byte f s (length document) k h) ∙ ap (λ (t : List ℕ). get_or t k 0) l.its_document))

  judge_found : judge f.width (mate_in f s (length document)) (all_stored_at f.width (length es) s (8 + f.front + length document)) (length document) 0
      (8 + f.front + length document) 0 [] [] (accept (length document) (length es))
      ≡ answer_in f (length document) (length es) (broken_from (length document) 0 0 [] es)
  judge_found =
      let at : 4 + f.front + length document + 4 ≡ 8 + f.front + length document = omega arith in
      judged f s (mate_in f s (length document)) (length document) (length es) es 0 (8 + f.front + length document) 0 [] [] (omega arith) (omega arith)
      (rw at at l.its_section.each)
      (λ g j h. let x : 0 + j ≡ j = omega arith in rw x (rw at at (l.its_section.mates g j h)))
      (λ g. closed)
      refl

  inside_found : inside_of f s (length document) (length es)
      ≡ choose (ltb (first_return (length document) document 0) (length document)) (refuse 4 (4 + f.front + first_return (length document) document 0))
      (answer_in f (length document) (length es) (broken_from (length document) 0 0 [] es))
  unfolding choose
  inside_found = go (ltb (first_return (length document) document 0) (length document)) refl
    where
      go : (b : Bool) → ltb (first_return (length document) document 0) (length document) ≡ b →
          inside_of f s (length document) (length es)
          ≡ choose b (refuse 4 (4 + f.front + first_return (length document) document 0))
          (answer_in f (length document) (length es) (broken_from (length document) 0 0 [] es))
      go true q =
          let r : first_return (length document) document 0 < length document = ltb-true _ _ q in
          sym (returned f s (length document) (length es) (4 + f.front + first_return (length document) document 0) (sym return_found) (omega arith))
      go false q =
          let r : length document ≤ first_return (length document) document 0 = ltb-false _ _ q in
          sym (inside f s (length document) (length es) (4 + f.front + first_return (length document) document 0) (sym return_found) (omega arith))
          ∙ judge_found

  -- all that follows the front
  pub rest_found : checked_in f s
      ≡ answer_in f (length document) (length es)
      (choose (ltb 16384 (length document)) document_over
      (choose (ltb 2048 (length es)) events_over
      (choose (ltb (first_return (length document) document 0) (length document)) (return_at (first_return (length document) document 0))
      (broken_from (length document) 0 0 [] es))))
  rest_found =
      let d : ℕ = length document in
      let e : ℕ = length es in
      let r : ℕ = first_return (length document) document 0 in
      let last : Finding = broken_from (length document) 0 0 [] es in
      let within : end_of f s d e ≡ answer_in f d e (choose (ltb r d) (return_at r) last) =
      sym (ends f s d e l.whole) ∙ inside_found ∙ sym (answer_choice f d e (ltb r d) (return_at r) last) in
      let events : event_count_of f s d ≡ answer_in f d e (choose (ltb 2048 e) events_over (choose (ltb r d) (return_at r) last)) =
      events_found
      ∙ ap (λ (x : Reading). choose (ltb 2048 e) (refuse 3 (4 + f.front + d)) x) within
      ∙ sym (answer_choice f d e (ltb 2048 e) events_over (choose (ltb r d) (return_at r) last)) in
      document_found
      ∙ ap (λ (x : Reading). choose (ltb 16384 d) (refuse 3 f.front) x) events
      ∙ sym (answer_choice f d e (ltb 16384 d) document_over (choose (ltb 2048 e) events_over (choose (ltb r d) (return_at r) last)))

-- the front, where the options stand in the record, and where they stand beside it
first_section : (options : ℕ) (document : List ℕ) (es : List Event) (rest : Reading) →
    fronted Second (record_in second options document es) rest ≡ choose (ltb 63 options) (refuse 2 0) rest
unfolding record_in front_in choose
first_section options document es rest = go (ltb 63 options) refl
  where
    go : (b : Bool) → ltb 63 options ≡ b → fronted Second (record_in second options document es) rest ≡ choose b (refuse 2 0) rest
    go true q = sym (wrong_options (record_in second options document es) rest (omega arith) 1 refl refl (omega arith) (ltb-true _ _ q))
    go false q = sym (rest_checked (record_in second options document es) rest (omega arith) 1 refl refl (omega arith) (ltb-false _ _ q))

front_found : (h : Handed) (options : ℕ) (document : List ℕ) (es : List Event) (rest : Reading) → With h options →
    fronted h (record_in (form_of h) options document es) rest ≡ choose (ltb 63 options) (refuse 2 0) rest
unfolding fronted
front_found h options document es rest beside = refl
front_found h options document es rest within = first_section options document es rest

pub checked_in_either : CheckedInEither
unfolding admitted found
checked_in_either h options document es works o b =
    let f : Form = form_of h in
    let d : ℕ = length document in
    let e : ℕ = length es in
    let r : ℕ = first_return (length document) document 0 in
    let rest : Finding =
    choose (ltb 16384 d) document_over
    (choose (ltb 2048 e) events_over
    (choose (ltb r d) (return_at r)
    (broken_from d 0 0 [] es))) in
    let s : List ℕ = record_in (form_of h) options document es in
    ap (λ (x : Reading). choose (ltb works 65536) (refuse 1 0) x)
    (front_found h options document es (checked_in f s) o
    ∙ ap (λ (x : Reading). choose (ltb 63 options) (refuse 2 0) x) (rest_found (laid_out h options document es b))
    ∙ sym (answer_choice f d e (ltb 63 options) options_over rest))
    ∙ sym (answer_choice f d e (ltb works 65536) little_memory (choose (ltb 63 options) options_over rest))
