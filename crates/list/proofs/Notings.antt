-- The first pass: the notes so far, and those from here on, are the notes of the whole; no item so far offends.
-- Assumes nothing.
use mathlib.Core.Path.{◌≡◌, refl, sym, ap, ◌∙◌}
use mathlib.Core.Bool.{Bool, true, false}
use mathlib.Core.Logic.{◌⊎◌, inl, inr}
use mathlib.Core.List.{List, [], ◌∷◌, ◌++◌, append_assoc, append-nil}
use Prim.Native.Nat.{ℕ, zero, suc, ◌+◌, ◌-◌, ◌≤◌, ◌<◌}
use native.Mathlib.Numerals.{add-one}
use native.Mathlib.Omega.{arith}
use native.Mathlib.Nat.{zero-add}
use Rattle.std.proofs.Common.{Result, Ok, Err, Option, Some, None, IsSome, nat_eq, drop-cons}
use Rattle.std.specs.Option.{option_eq}
use Rattle.std.proofs.lemmas.Option.{none-some}
use Rattle.std.proofs.lemmas.Bool.{cases_order}
use Rattle.std.proofs.lemmas.List.{drop_all}
use lib.ListN.{length, get_or, set, take, drop, length-set}
use lib.Seq.{take-suc-set, get_or-set_same, get_or-set_other}
use lib.Dec.{eqb}
use borrow.Author.Tests.{eq-eqb, ne_eqb}
use Rattle.record.specs.Choice.{choose, and}
use Rattle.record.specs.Stack.{nth, up_to, outer, after}
use Rattle.record.specs.Sound.{sound, sound_from}
use Rattle.record.specs.declared.event.Event.{Event}
use Rattle.record.specs.declared.listed.Offender.{Offender}
use Rattle.record.proofs.Bools.{and_false}
use Rattle.record.proofs.Names.{pushed, popped}
use Rattle.record.proofs.Soundness.{Stands, stands, sound_rest, after_enter, after_exit}
use Rattle.list.specs.Walk.{marked, nearest, mark_in, offenders_in, note, notes, adds, added}
use Rattle.list.specs.Noting.{Noted}
use Rattle.list.proofs.Nearest.{Found, nothing_found, found_behind, found_on, found_here}

-- a mark as the code has it
some_mark : (k : ℕ) → IsSome (marked k) → k ≡ 0 → ⊥
some_mark zero s z = cc
some_mark (suc k) s z = omega arith

no_mark : (k : ℕ) → None ≡ marked k → k ≡ 0
no_mark zero q = refl
no_mark (suc k) q = absurd (none-some _ q)

the_mark : (m k : ℕ) → Some m ≡ marked k → (m ≡ k) × (m ≡ 0 → ⊥)
the_mark m zero q = absurd (none-some _ (sym q))
the_mark m (suc k) q = let e : m ≡ suc k = cc in (e, λ z. omega arith)

same_mark : (k m : ℕ) → (m ≡ 0 → ⊥) → option_eq nat_eq (marked k) (Some m) ≡ eqb k m
same_mark zero m z = sym (ne_eqb 0 m (λ q. z (sym q)))
same_mark (suc k) m z = refl

-- one more open mark
marks_in : (n : ℕ) (ms : List ℕ) (m : ℕ) → (m ≡ 0 → ⊥) → n < length ms → ((j : ℕ) → j < n → get_or ms j 0 ≡ 0 → ⊥) → (j : ℕ) → j < n + 1 → get_or (set ms n m) j 0 ≡ 0 → ⊥
marks_in n ms m z h v j l q = go (cases_order j n)
  where
    go : (j ≡ n) ⊎ ((j < n) ⊎ (n < j)) → ⊥
    go (inl e) = z (sym (get_or-set_same ms n m 0 h) ∙ sym (ap (λ (k : ℕ). get_or (set ms n m) k 0) e) ∙ q)
    go (inr (inl a)) = v j a (sym (get_or-set_other ms n j m 0 (λ e. omega arith)) ∙ q)
    go (inr (inr a)) = omega arith

-- how many of some open names are items
unfoldable pub items : List ℕ → ℕ
items [] = 0
items (n ∷ ns) = choose (eqb n 15) (items ns + 1) (items ns)

item_more : (n : ℕ) (ns : List ℕ) → n ≡ 15 → items (n ∷ ns) ≡ items ns + 1
unfolding items choose
item_more n ns h = rw (eq-eqb _ _ h)

other_more : (n : ℕ) (ns : List ℕ) → (n ≡ 15 → ⊥) → items (n ∷ ns) ≡ items ns
unfolding items choose
other_more n ns h = rw (ne_eqb _ _ h)

by_name : (b : Bool) (k m : ℕ) → k ≤ m → choose b (k + 1) k ≤ suc m
unfolding choose
by_name true k m h = omega arith
by_name false k m h = omega arith

items_few : (ns : List ℕ) → items ns ≤ length ns
unfolding items
items_few [] = omega arith
items_few (n ∷ ns) = by_name (eqb n 15) (items ns) (length ns) (items_few ns)

kinds : (n : ℕ) → n ≤ 1 → (n ≡ 0) ⊎ (n ≡ 1)
kinds zero h = inl refl
kinds (suc n) h = inr (omega arith)

-- what an event does to the number of open items
module _ {deep d last : ℕ} {held : List ℕ} {x : Event} (st : Stands deep d last held x) where
  pub items_other : (x.name ≡ 15 → ⊥) → items (after x x.name held) ≡ items held
  items_other h = go (kinds x.kind st.kind)
    where
      go : (x.kind ≡ 0) ⊎ (x.kind ≡ 1) → items (after x x.name held) ≡ items held
      go (inl z) = ap items (after_enter x x.name held z) ∙ other_more _ _ h
      go (inr z) = ap items (after_exit x x.name held z) ∙ sym (ap items (st.partner z) ∙ other_more _ _ h)

  pub items_enter : x.name ≡ 15 → x.kind ≡ 0 → items (after x x.name held) ≡ items held + 1
  items_enter h z = ap items (after_enter x x.name held z) ∙ item_more _ _ h

  pub items_exit : x.name ≡ 15 → (x.kind ≡ 0 → ⊥) → items held ≡ items (after x x.name held) + 1
  items_exit h z = go (kinds x.kind st.kind)
    where
      go : (x.kind ≡ 0) ⊎ (x.kind ≡ 1) → items held ≡ items (after x x.name held) + 1
      go (inl y) = absurd (z y)
      go (inr y) =
          let p : items held ≡ items (outer held) + 1 = ap items (st.partner y) ∙ item_more _ _ h in
          p ∙ sym (ap (λ (ns : List ℕ). items ns + 1) (after_exit x x.name held y))

-- a store behind what was stored, before what is still to come
store : (w : List ℕ) (i v : ℕ) (r : List ℕ) → i < length w → take (i + 1) (set w i v) ++ r ≡ take i w ++ (v ∷ r)
store w i v r h =
    ap (λ (k : ℕ). take k (set w i v) ++ r) (add-one i)
    ∙ ap (λ (l : List ℕ). l ++ r) (take-suc-set w i v h)
    ∙ append_assoc (take i w) (v ∷ []) r

-- the loop's invariant; `held` are the open names, and `sight` is the mark that was found as a number, with 0 for none
pub record Noting (document : List ℕ) (es : List Event) (work marks : List ℕ) (opened : ℕ) (found : Option ℕ) (joined behind : Bool) (count i : ℕ) : Type 0 where
  pub within : i ≤ length es
  pub room : 2048 ≤ length work
  pub array : length marks ≡ 64
  pub few : count ≤ i
  pub shallow : opened ≤ 64
  pub last : ℕ
  pub held : List ℕ
  pub good : sound_from 64 (length document) last held (drop i es) ≡ true
  pub open_items : items held ≡ opened
  pub bad : offenders_in document i behind (drop i es) ≡ offenders_in document 0 false es
  pub open_marks : (j : ℕ) → j < opened → get_or marks j 0 ≡ 0 → ⊥
  pub sight : ℕ
  pub found_sight : found ≡ marked sight
  pub seen : Found document sight (drop i es)
  pub noted : take i work ++ notes document joined (up_to opened marks) (drop i es) ≡ notes document false [] es
  pub sum : count + added (notes document joined (up_to opened marks) (drop i es)) ≡ added (notes document false [] es)

pub start : (document : List ℕ) (es : List Event) (work marks : List ℕ) → sound 64 (length document) es ≡ true → 2048 ≤ length work → length marks ≡ 64 →
    Noting document es work marks 0 None false false 0 0
unfolding items
start document es work marks c r l =
    record {
      within = omega arith;
      room = r;
      array = l;
      few = omega arith;
      shallow = omega arith;
      last = 0;
      held = [];
      good = c;
      open_items = refl;
      bad = refl;
      open_marks = λ j h. absurd (omega arith);
      sight = 0;
      found_sight = refl;
      seen = nothing_found _ _;
      noted = refl;
      sum = zero-add _;
    }

offence_never : (i : Offender) (n : ℕ) → ◌≡◌ {A = Result ℕ Offender} (Err i) (Ok n) → ⊥
offence_never i n q = let z : ◌≡◌ {A = ℕ} 0 1 = cc in omega arith

event_in : Result ℕ Offender → ℕ
event_in (Ok n) = n
event_in (Err o) = o.event

same_offence : (i k : ℕ) → ◌≡◌ {A = Result ℕ Offender} (Err (record { event = i })) (Err (record { event = k })) → i ≡ k
unfolding event_in
same_offence i k q = ap event_in q

same_added : (m n : ℕ) → ◌≡◌ {A = Result ℕ Offender} (Ok m) (Ok n) → m ≡ n
same_added m n q = cc

module _ {document : List ℕ} {es : List Event} {work marks : List ℕ} {opened : ℕ} {found : Option ℕ} {joined behind : Bool} {count i : ℕ} (v : Noting document es work marks opened found joined behind count i) where
  -- the end
  pub finished : length es ≤ i → Noted document es (Ok count) work
  unfolding offenders_in notes added
  finished h =
      let k : i ≡ length es = omega (arith, v.within) in
      let none : drop i es ≡ [] = drop_all i es h in
      let bad' : [] ≡ offenders_in document 0 false es = sym (ap (λ ys. offenders_in document i behind ys) none) ∙ v.bad in
      let noted' : take i work ++ [] ≡ notes document false [] es =
      sym (ap (λ ys. take i work ++ notes document joined (up_to opened marks) ys) none) ∙ v.noted in
      let sum' : count + 0 ≡ added (notes document false [] es) =
      sym (ap (λ ys. count + added (notes document joined (up_to opened marks) ys)) none) ∙ v.sum in
      let whole : take (length es) work ≡ notes document false [] es = ap (λ (m : ℕ). take m work) (sym k) ∙ sym (append-nil (take i work)) ∙ noted' in
      let total : count ≡ added (notes document false [] es) = omega arith in
      record {
        answer = rw (← bad') (ap (λ (m : ℕ). Ok m) total);
        kept = λ n q. (whole, (let z = same_added count n q in omega (arith, v.few)));
        early = λ k q. absurd (offence_never (record { event = k }) count (sym q));
      }

  offends_here : (ks : List ℕ) → i < length es → i ∷ ks ≡ offenders_in document 0 false es → Noted document es (Err (record { event = i })) work
  offends_here ks more q =
      record {
        answer = rw (← q);
        kept = λ n z. absurd (offence_never (record { event = i }) n z);
        early = λ k z. (let w = same_offence i k z in omega arith);
      }

  module _ (more : i < length es) (x : Event) (ex : x ≡ nth es i) where
    on : drop i es ≡ x ∷ drop (i + 1) es
    on = rw (ex, add-one i) (drop-cons es i (record { kind = 0; name = 0; place = 0 }) more)

    good_here : sound_from 64 (length document) v.last v.held (x ∷ drop (i + 1) es) ≡ true
    good_here = sym (ap (λ ys. sound_from 64 (length document) v.last v.held ys) on) ∙ v.good

    here : Stands 64 (length document) v.last v.held x
    here = stands 64 (length document) v.last v.held x (drop (i + 1) es) good_here

    next : sound_from 64 (length document) x.place (after x x.name v.held) (drop (i + 1) es) ≡ true
    next = sound_rest 64 (length document) v.last v.held x (drop (i + 1) es) good_here

    bad_here : offenders_in document i behind (x ∷ drop (i + 1) es) ≡ offenders_in document 0 false es
    bad_here = sym (ap (λ ys. offenders_in document i behind ys) on) ∙ v.bad

    seen_here : Found document v.sight (x ∷ drop (i + 1) es)
    seen_here = rw on at v.seen

    -- the next note is n, and then come ns
    module _ (n : ℕ) (ns : List ℕ) (q : notes document joined (up_to opened marks) (x ∷ drop (i + 1) es) ≡ n ∷ ns) where
      from_here : notes document joined (up_to opened marks) (drop i es) ≡ n ∷ ns
      from_here = ap (λ es. notes document joined (up_to opened marks) es) on ∙ q

      noted_next : i < length work → take (i + 1) (set work i n) ++ ns ≡ notes document false [] es
      noted_next h = store work i n ns h ∙ sym (ap (λ (l : List ℕ). take i work ++ l) from_here) ∙ v.noted

      sum_next : (m : ℕ) → m ≡ adds n → count + m + added ns ≡ added (notes document false [] es)
      unfolding added
      sum_next m em =
          let t : count + (adds n + added ns) ≡ added (notes document false [] es) = sym (ap (λ (l : List ℕ). count + added l) from_here) ∙ v.sum in
          let u : count + (m + added ns) ≡ added (notes document false [] es) = ap (λ (k : ℕ). count + (k + added ns)) em ∙ t in
          omega arith

    -- an event of another name
    pub other : (x.name ≡ 15 → ⊥) → 2048 ≤ length work → length es ≤ 2048 → Noting document es (set work i 0) marks opened found joined false count (i + 1)
    unfolding offenders_in notes choose and
    other h r limit =
        let t : and (eqb (x.kind) 0) false ≡ false = and_false (eqb (x.kind) 0) false refl in
        let u : and (eqb (x.kind) 1) false ≡ false = and_false (eqb (x.kind) 1) false refl in
        let q : notes document joined (up_to opened marks) (x ∷ drop (i + 1) es) ≡ 0 ∷ notes document joined (up_to opened marks) (drop (i + 1) es) = rw (ne_eqb _ _ h) in
        let total = sum_next 0 (notes document joined (up_to opened marks) (drop (i + 1) es)) q 0 refl in
        record {
          within = omega arith;
          room = simp length-set (omega arith);
          array = v.array;
          few = omega (arith, v.few);
          shallow = v.shallow;
          last = x.place;
          held = after x x.name v.held;
          good = next;
          open_items = items_other here h ∙ v.open_items;
          bad = rw (ne_eqb _ _ h, t, u) at bad_here;
          open_marks = v.open_marks;
          sight = v.sight;
          found_sight = v.found_sight;
          seen = found_on seen_here h;
          noted = noted_next 0 _ q (omega arith);
          sum = omega arith;
        }

    module _ (h : x.name ≡ 15) where
      -- an item enters
      module _ (k : x.kind ≡ 0) where
        pub room_inside : opened < 64
        room_inside = let r = here.room k in omega (arith, items_few v.held, v.open_items)

        pub coming : IsSome found → found ≡ marked (mark_in document (drop (i + 1) es))
        coming z =
            let seen : v.sight ≡ mark_in document (drop (i + 1) es) = found_here seen_here h k (some_mark v.sight (rw v.found_sight at z)) in
            v.found_sight ∙ ap marked seen

        pub right_behind : behind ≡ true → Noted document es (Err (record { event = i })) work
        unfolding offenders_in choose and
        right_behind b =
            offends_here _ more (rw (eq-eqb _ _ h, eq-eqb _ _ k, b) at bad_here)

        module _ (b : behind ≡ false) where
          pub broken : None ≡ marked (mark_in document (drop (i + 1) es)) → Noted document es (Err (record { event = i })) work
          unfolding offenders_in choose and
          broken none =
              let y : mark_in document (drop (i + 1) es) ≡ 0 = no_mark _ none in
              offends_here _ more (rw (eq-eqb _ _ h, eq-eqb _ _ k, b, eq-eqb _ _ y) at bad_here)

          pub entered : (mark : ℕ) → Some mark ≡ marked (mark_in document (drop (i + 1) es)) → 2048 ≤ length work → length es ≤ 2048 → (n m : ℕ) → n ≡ note joined mark → m ≡ adds n → m ≤ 1 →
              Noting document es (set work i n) (set marks opened mark) (opened + 1) None false behind (count + m) (i + 1)
          unfolding offenders_in notes choose and
          entered mark some r limit n m en em' l =
              let em : mark ≡ mark_in document (drop (i + 1) es) = (the_mark _ _ some).0 in
              let z : mark ≡ 0 → ⊥ = (the_mark _ _ some).1 in
              let y : mark_in document (drop (i + 1) es) ≡ 0 → ⊥ = λ w. z (em ∙ w) in
              let p : mark ∷ up_to opened marks ≡ up_to (opened + 1) (set marks opened mark) = sym (pushed opened marks mark (omega (arith, room_inside, v.array))) in
              let q : notes document joined (up_to opened marks) (x ∷ drop (i + 1) es) ≡ n ∷ notes document false (up_to (opened + 1) (set marks opened mark)) (drop (i + 1) es) =
              rw (eq-eqb _ _ h, eq-eqb _ _ k, ← em, ← en, p) in
              record {
                within = omega arith;
                room = simp length-set (omega arith);
                array = length-set marks opened mark ∙ v.array;
                few = omega (arith, v.few);
                shallow = omega (arith, room_inside);
                last = x.place;
                held = after x x.name v.held;
                good = next;
                open_items = items_enter here h k ∙ ap (λ (j : ℕ). j + 1) v.open_items;
                bad = rw b (rw (eq-eqb _ _ h, eq-eqb _ _ k, b, ne_eqb _ _ y, ne_eqb (x.kind) 1 (λ w. omega arith)) at bad_here);
                open_marks = marks_in opened marks mark z (omega (arith, room_inside, v.array)) v.open_marks;
                sight = 0;
                found_sight = refl;
                seen = nothing_found _ _;
                noted = noted_next n _ q (omega arith);
                sum = sum_next n _ q m em';
              }

      -- an item is left
      module _ (k : x.kind ≡ 0 → ⊥) where
        pub some_open : 0 < opened
        some_open = omega (arith, items_exit here h k, v.open_items)

        one : x.kind ≡ 1
        one = let z = here.kind in omega arith

        pub left_one : 2048 ≤ length work → length es ≤ 2048 → (mark : ℕ) (found' : Option ℕ) → mark ≡ get_or marks (opened - 1) 0 → found' ≡ marked (nearest document 0 (drop (i + 1) es)) →
            (same : Bool) → same ≡ option_eq nat_eq found' (Some mark) →
            (n m : ℕ) → n ≡ note same mark → m ≡ adds n → m ≤ 1 →
            Noting document es (set work i n) marks (opened - 1) found' same true (count + m) (i + 1)
        unfolding offenders_in notes choose and
        left_one r limit mark found' ea eb same es' n m en em l =
            let w = some_open in
            let z : mark ≡ 0 → ⊥ = λ y. v.open_marks (opened - 1) (omega arith) (sym ea ∙ y) in
            let j : same ≡ eqb (nearest document 0 (drop (i + 1) es)) mark = es' ∙ ap (λ o. option_eq nat_eq o (Some mark)) eb ∙ same_mark _ mark z in
            let p : up_to opened marks ≡ mark ∷ up_to (opened - 1) marks = popped opened marks w ∙ ap (λ (j : ℕ). j ∷ up_to (opened - 1) marks) (sym ea) in
            let q : notes document joined (up_to opened marks) (x ∷ drop (i + 1) es) ≡ n ∷ notes document same (up_to (opened - 1) marks) (drop (i + 1) es) =
            rw (eq-eqb _ _ h, ne_eqb _ _ k, p, ← j, ← en) in
            let u = items_exit here h k in
            record {
              within = omega arith;
              room = simp length-set (omega arith);
              array = v.array;
              few = omega (arith, v.few);
              shallow = omega (arith, v.shallow);
              last = x.place;
              held = after x x.name v.held;
              good = next;
              open_items = omega (arith, v.open_items, u);
              bad = rw (eq-eqb _ _ h, ne_eqb _ _ k, eq-eqb _ _ one) at bad_here;
              open_marks = λ a b. v.open_marks a (omega arith);
              sight = nearest document 0 (drop (i + 1) es);
              found_sight = eb;
              seen = found_behind _ _ _ refl;
              noted = noted_next n _ q (omega arith);
              sum = sum_next n _ q m em;
            }
