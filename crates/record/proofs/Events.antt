-- The loop over the events: what is left to judge from here finds what the whole judgement finds.
-- Assumes nothing.
use mathlib.Core.Path.{◌≡◌, refl, sym, ap, ◌∙◌}
use mathlib.Core.Bool.{Bool, true, false}
use mathlib.Core.Logic.{◌⊎◌, inl, inr}
use mathlib.Core.List.{List, []}
use Prim.Native.Nat.{ℕ, zero, suc, ◌+◌, ◌*◌, ◌-◌, ◌≤◌, ◌<◌}
use native.Mathlib.Omega.{arith}
use lib.ListN.{length, get_or, set, length-set}
use lib.Seq.{get_or-set_same, get_or-set_other}
use borrow.Author.Tests.{eq-eqb, ne_eqb, lt-ltb, le-ltb}
use Rattle.record.specs.Choice.{choose, and}
use Rattle.record.specs.Bytes.{u32_at}
use Rattle.record.specs.Form.{form, mate_in}
use Rattle.record.specs.Event.{stored_at, all_stored_at}
use Rattle.record.specs.Stack.{up_to, none, fits_open, after}
use Rattle.record.specs.Check.{formed, paired, truly, judge, refuse, Reading, accept}
use Rattle.record.proofs.Bools.{and_both, and_false}
use Rattle.record.proofs.Parts.{less, further, spread_out}
use Rattle.record.proofs.Names.{up_to_length, pushed, popped, empty, some}

-- what the judgement finds of n events that stand at a place, the first of which has number k
unfoldable pub judge_at : ℕ → (ℕ → ℕ) → ℕ → List ℕ → ℕ → ℕ → ℕ → ℕ → List ℕ → List ℕ → Reading → Reading
judge_at w mates n s d k at last held opens good = judge w mates (all_stored_at w n s at) d k at last held opens good

-- one step of the definition
module _ (w : ℕ) (mates : ℕ → ℕ) where
  step_bad : (n : ℕ) (s : List ℕ) (d k at last : ℕ) (held opens : List ℕ) (good : Reading) →
      0 < n → and (formed (stored_at s at) d last) (and (fits_open 64 (stored_at s at).what held) (truly w mates (stored_at s at).what k opens)) ≡ false →
      judge_at w mates n s d k at last held opens good ≡ refuse 5 at
  unfolding judge_at judge all_stored_at choose
  step_bad zero s d k at last held opens good h e = absurd (omega arith)
  step_bad (suc n) s d k at last held opens good h e = rw e

  step_good : (n m : ℕ) (s : List ℕ) (d k at last : ℕ) (held opens : List ℕ) (good : Reading) →
      n ≡ m + 1 → and (formed (stored_at s at) d last) (and (fits_open 64 (stored_at s at).what held) (truly w mates (stored_at s at).what k opens)) ≡ true →
      judge_at w mates n s d k at last held opens good
      ≡ judge_at w mates m s d (k + 1) (at + w) (u32_at s (at + 4)) (after (stored_at s at).what (get_or s (at + 1) 0) held) (after (stored_at s at).what k opens) good
  unfolding judge_at judge all_stored_at choose
  step_good zero m s d k at last held opens good h e = absurd (omega arith)
  step_good (suc n) m s d k at last held opens good h e = let j : n ≡ m = omega arith in rw (e, j)

  step_none : (n : ℕ) (s : List ℕ) (d k at last : ℕ) (held opens : List ℕ) (good : Reading) → n ≡ 0 → held ≡ [] →
      judge_at w mates n s d k at last held opens good ≡ good
  unfolding judge_at judge all_stored_at choose
  step_none n s d k at last held opens good h e = rw (h, e)

  step_left : (n : ℕ) (s : List ℕ) (d k at last : ℕ) (held opens : List ℕ) (good : Reading) → n ≡ 0 → none held ≡ false →
      judge_at w mates n s d k at last held opens good ≡ refuse 5 at
  unfolding judge_at judge all_stored_at choose
  step_left n s d k at last held opens good h e = rw (h, e)

-- the loop's invariant: the names are an array of 64, of which the first `depth` are open, and the numbers beside them are theirs
pub record Judging (s : List ℕ) (b w d e : ℕ) (names numbers : List ℕ) (depth first at number last left : ℕ) : Type 0 where
  pub place : at + w * left ≡ 8 + b + d + w * e
  pub begins : first ≡ 8 + b + d
  pub stands : at ≡ 8 + b + d + w * number
  pub room : 8 + b + d + w * e ≤ length s
  pub wide : 8 ≤ w
  pub spread : at + 8 * left ≤ length s
  pub counted : number + left ≡ e
  pub deep : depth ≤ 64
  pub array : length names ≡ 64
  pub array2 : length numbers ≡ 64
  pub lower : (j : ℕ) → j < depth → get_or numbers j 0 < number
  pub rest : judge_at w (mate_in (form b w) s d) left s d number at last (up_to depth names) (up_to depth numbers) (accept d e)
      ≡ judge_at w (mate_in (form b w) s d) e s d 0 (8 + b + d) 0 [] [] (accept d e)

-- the judgement of the whole, as the contract has it
abbrev pub whole : List ℕ → ℕ → ℕ → ℕ → ℕ → Reading
whole s b w d e = judge w (mate_in (form b w) s d) (all_stored_at w e s (8 + b + d)) d 0 (8 + b + d) 0 [] [] (accept d e)

same_whole : (s : List ℕ) (b w d e : ℕ) → judge_at w (mate_in (form b w) s d) e s d 0 (8 + b + d) 0 [] [] (accept d e) ≡ whole s b w d e
unfolding judge_at
same_whole s b w d e = refl

pub start : (s : List ℕ) (b w d e : ℕ) (names numbers : List ℕ) (depth : ℕ) → 8 ≤ w → 8 + b + d + w * e ≤ length s → depth ≡ 0 → length names ≡ 64 → length numbers ≡ 64 →
    Judging s b w d e names numbers depth (8 + b + d) (8 + b + d) 0 0 e
start s b w d e names numbers depth wd r h l m =
    record {
      place = refl;
      begins = refl;
      stands = omega arith;
      room = r;
      wide = wd;
      spread = spread_out w e (8 + b + d) (length s) wd r;
      counted = omega arith;
      deep = omega arith;
      array = l;
      array2 = m;
      lower = λ j g. absurd (omega arith);
      rest = rw h;
    }

split_lt : (k i : ℕ) → k < i + 1 → (k < i) ⊎ (k ≡ i)
split_lt zero zero h = inr refl
split_lt zero (suc i) h = inl (omega arith)
split_lt (suc k) zero h = absurd (omega arith)
split_lt (suc k) (suc i) h = go (split_lt k i (omega arith))
  where
    go : (k < i) ⊎ (k ≡ i) → (suc k < suc i) ⊎ (suc k ≡ suc i)
    go (inl l) = inl (omega arith)
    go (inr e) = inr (ap suc e)

false_and : (x y : Bool) → x ≡ false → and x y ≡ false
unfolding and
false_and x y q = rw q

-- one number more
lower_set : (numbers : List ℕ) (depth number : ℕ) → depth < length numbers → ((j : ℕ) → j < depth → get_or numbers j 0 < number) →
    (j : ℕ) → j < depth + 1 → get_or (set numbers depth number) j 0 < number + 1
lower_set numbers depth number h f j g = go (split_lt j depth g)
  where
    go : (j < depth) ⊎ (j ≡ depth) → get_or (set numbers depth number) j 0 < number + 1
    go (inl l) =
        let x : get_or numbers j 0 < number = f j l in
        rw (get_or-set_other numbers depth j number 0 (λ e. omega arith)) (omega arith)
    go (inr e) = rw (e, get_or-set_same numbers depth number 0 h) (omega arith)

module _ {s : List ℕ} {b w d e : ℕ} {names numbers : List ℕ} {depth first at number last left : ℕ} (i : Judging s b w d e names numbers depth first at number last left) where
  pub finished : left ≤ 0 → depth ≡ 0 → accept d e ≡ whole s b w d e
  finished h k =
      sym (step_none w (mate_in (form b w) s d) left s d number at last (up_to depth names) (up_to depth numbers) (accept d e) (omega arith) (empty depth names k))
      ∙ i.rest
      ∙ same_whole s b w d e

  pub unclosed : left ≤ 0 → (depth ≡ 0 → ⊥) → refuse 5 at ≡ whole s b w d e
  unclosed h k =
      sym (step_left w (mate_in (form b w) s d) left s d number at last (up_to depth names) (up_to depth numbers) (accept d e) (omega arith) (some depth names k))
      ∙ i.rest
      ∙ same_whole s b w d e

  module _ (more : 0 < left) where
    -- one event of those left
    next_event : at + w + w * (left - 1) ≡ 8 + b + d + w * e
    next_event = let z : w * left ≡ w + w * (left - 1) = less w left more in omega (arith, i.place)

    pub here : at + w ≤ length s
    here = omega (arith, next_event, i.room)

    -- the innermost open enter, and where it stands
    pub mate_room : (first' : ℕ) → first' ≡ first → 0 < depth → first' + w * get_or numbers (depth - 1) 0 + w ≤ length s
    mate_room first' fe h =
        let l : get_or numbers (depth - 1) 0 < number = i.lower (depth - 1) (omega arith) in
        let m : w * get_or numbers (depth - 1) 0 + w ≤ w * number = further w (get_or numbers (depth - 1) 0) number l in
        omega (arith, here, i.begins, i.stands)

    broken : and (formed (stored_at s at) d last) (and (fits_open 64 (stored_at s at).what (up_to depth names)) (truly w (mate_in (form b w) s d) (stored_at s at).what number (up_to depth numbers))) ≡ false →
        refuse 5 at ≡ whole s b w d e
    broken k =
        sym (step_bad w (mate_in (form b w) s d) left s d number at last (up_to depth names) (up_to depth numbers) (accept d e) more k) ∙ i.rest ∙ same_whole s b w d e

    pub ill_formed : formed (stored_at s at) d last ≡ false → refuse 5 at ≡ whole s b w d e
    unfolding and
    ill_formed k = broken (rw k)

    unfit : fits_open 64 (stored_at s at).what (up_to depth names) ≡ false → refuse 5 at ≡ whole s b w d e
    unfit k = broken (and_false _ _ (false_and _ _ k))

    pub too_deep : get_or s at 0 ≡ 0 → 64 ≤ depth → refuse 5 at ≡ whole s b w d e
    unfolding fits_open choose
    too_deep k h = unfit (rw (eq-eqb _ _ k, up_to_length, le-ltb _ _ h))

    pub none_open : (get_or s at 0 ≡ 0 → ⊥) → depth ≡ 0 → refuse 5 at ≡ whole s b w d e
    unfolding fits_open choose
    none_open k h = unfit (rw (ne_eqb _ _ k, empty depth names h))

    pub other_open : (get_or s at 0 ≡ 0 → ⊥) → 0 < depth → (get_or names (depth - 1) 0 ≡ get_or s (at + 1) 0 → ⊥) → refuse 5 at ≡ whole s b w d e
    unfolding fits_open choose
    other_open k h o = unfit (rw (ne_eqb _ _ k, popped depth names h, ne_eqb _ _ o))

    -- what is tested of the pair is what the definition asks
    pair_test : (there mate : ℕ) → (get_or s at 0 ≡ 0 → ⊥) → 0 < depth → mate ≡ get_or numbers (depth - 1) 0 → there ≡ first + w * mate →
        truly w (mate_in (form b w) s d) (stored_at s at).what number (up_to depth numbers) ≡ paired w (u32_at s (at + 8)) (u32_at s (there + 8)) mate number
    unfolding truly choose
    pair_test there mate k h m t =
        let p : 8 + b + d + w * number ≡ at = sym i.stands in
        let q : 8 + b + d + w * mate ≡ there = omega (arith, i.begins, t) in
        rw (ne_eqb _ _ k, popped depth numbers h, ← m, p, q)

    pub untrue : (there mate : ℕ) → (get_or s at 0 ≡ 0 → ⊥) → 0 < depth → mate ≡ get_or numbers (depth - 1) 0 → there ≡ first + w * mate →
        paired w (u32_at s (at + 8)) (u32_at s (there + 8)) mate number ≡ false → refuse 5 at ≡ whole s b w d e
    untrue there mate k h m t q = broken (and_false _ _ (and_false _ _ (pair_test there mate k h m t ∙ q)))

    module _ (good : formed (stored_at s at) d last ≡ true) (last' : ℕ) (la : last' ≡ u32_at s (at + 4)) where
      pub entered : get_or s at 0 ≡ 0 → depth < 64 → (v n : ℕ) → v ≡ get_or s (at + 1) 0 → n ≡ number →
          Judging s b w d e (set names depth v) (set numbers depth n) (depth + 1) first (at + w) (number + 1) last' (left - 1)
      unfolding fits_open truly after choose
      entered k h v n ev en =
          let fit : fits_open 64 (stored_at s at).what (up_to depth names) ≡ true = rw (eq-eqb _ _ k, up_to_length, lt-ltb _ _ h) in
          let right : truly w (mate_in (form b w) s d) (stored_at s at).what number (up_to depth numbers) ≡ true = rw (eq-eqb _ _ k) in
          let next : after (stored_at s at).what (get_or s (at + 1) 0) (up_to depth names) ≡ up_to (depth + 1) (set names depth v) = rw (eq-eqb _ _ k, pushed depth names v (omega (arith, i.array)), ev) in
          let next2 : after (stored_at s at).what number (up_to depth numbers) ≡ up_to (depth + 1) (set numbers depth n) = rw (eq-eqb _ _ k, pushed depth numbers n (omega (arith, i.array2)), en) in
          record {
            place = next_event;
            begins = i.begins;
            stands = let z : w * (number + 1) ≡ w * number + w = omega arith in omega (arith, i.stands);
            room = i.room;
            wide = i.wide;
            spread = spread_out w (left - 1) (at + w) (length s) i.wide (omega (arith, next_event, i.room));
            counted = omega (arith, i.counted);
            deep = omega arith;
            array = length-set names depth v ∙ i.array;
            array2 = length-set numbers depth n ∙ i.array2;
            lower = rw en (lower_set numbers depth number (omega (arith, i.array2)) i.lower);
            rest =
                rw (la, ← next, ← next2)
                (sym (step_good w (mate_in (form b w) s d) left (left - 1) s d number at last (up_to depth names) (up_to depth numbers) (accept d e) (omega arith) (and_both _ _ good (and_both _ _ fit right))) ∙ i.rest);
          }

      pub left_one : (there mate : ℕ) → (get_or s at 0 ≡ 0 → ⊥) → 0 < depth → get_or names (depth - 1) 0 ≡ get_or s (at + 1) 0 → mate ≡ get_or numbers (depth - 1) 0 → there ≡ first + w * mate →
          paired w (u32_at s (at + 8)) (u32_at s (there + 8)) mate number ≡ true →
          Judging s b w d e names numbers (depth - 1) first (at + w) (number + 1) last' (left - 1)
      unfolding fits_open after choose
      left_one there mate k h o m t q =
          let fit : fits_open 64 (stored_at s at).what (up_to depth names) ≡ true = rw (ne_eqb _ _ k, popped depth names h, eq-eqb _ _ o) in
          let right : truly w (mate_in (form b w) s d) (stored_at s at).what number (up_to depth numbers) ≡ true = pair_test there mate k h m t ∙ q in
          let next : after (stored_at s at).what (get_or s (at + 1) 0) (up_to depth names) ≡ up_to (depth - 1) names = rw (ne_eqb _ _ k, popped depth names h) in
          let next2 : after (stored_at s at).what number (up_to depth numbers) ≡ up_to (depth - 1) numbers = rw (ne_eqb _ _ k, popped depth numbers h) in
          record {
            place = next_event;
            begins = i.begins;
            stands = let z : w * (number + 1) ≡ w * number + w = omega arith in omega (arith, i.stands);
            room = i.room;
            wide = i.wide;
            spread = spread_out w (left - 1) (at + w) (length s) i.wide (omega (arith, next_event, i.room));
            counted = omega (arith, i.counted);
            deep = omega (arith, i.deep);
            array = i.array;
            array2 = i.array2;
            lower = λ j g. let x : get_or numbers j 0 < number = i.lower j (omega arith) in omega arith;
            rest =
                rw (la, ← next, ← next2)
                (sym (step_good w (mate_in (form b w) s d) left (left - 1) s d number at last (up_to depth names) (up_to depth numbers) (accept d e) (omega arith) (and_both _ _ good (and_both _ _ fit right))) ∙ i.rest);
          }
