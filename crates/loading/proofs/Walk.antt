-- The pass with its stack of numbers and its memory: where it stands, and what each turn makes of that.
-- Assumes nothing.
use mathlib.Core.Path.{◌≡◌, refl, sym, ap, subst, ◌∙◌}
use mathlib.Core.Bool.{Bool, true, false}
use mathlib.Core.List.{List, [], ◌∷◌, ◌++◌, map}
use mathlib.Core.Option.{some}
use Prim.Native.Nat.{ℕ, zero, suc, ◌+◌, ◌-◌, ◌*◌, ◌≤◌, ◌<◌}
use native.Mathlib.Omega.{arith}
use lib.Dec.{eqb}
use lib.ListN.{length, get_or, set, take, length-set, length-map, length-append}
use lib.Seq.{get_or-set_same, get_or-set_other}
use borrow.Author.Tests.{eqb-true, eqb-false}
use Rattle.std.specs.Prelude.{Result, Ok, Err, Option, Some, None, slice_get}
use Rattle.std.proofs.lemmas.Option.{none-some, slice_get-get_or}
use Rattle.std.proofs.lemmas.List.{length-take-le, get_or-take}
use Rattle.record.specs.Bytes.{u32_at}
use Rattle.record.specs.Form.{place_in}
use Rattle.record.specs.Event.{document_in, event_at, events_by, events_in}
use Rattle.record.specs.Stack.{up_to, outer, after}
use Rattle.record.specs.declared.form.Form.{Form}
use Rattle.record.specs.Good.{GoodIn}
use Rattle.record.proofs.Names.{pushed, popped, empty}
use Rattle.record.proofs.Parts.{further, events_cons}
use Rattle.record.proofs.Soundness.{Stands, after_enter, after_exit}
use Rattle.runs.specs.Runs.{Run, innermost_of, run_of, runs_of, shaped, offender}
use Rattle.runs.specs.Rule.{Profile}
use Rattle.runs.specs.Plain.{Standing, at}
use Rattle.runs.specs.Chains.{container_number}
use Rattle.runs.specs.Pieces.{standing}
use Rattle.slots.specs.Layout.{Room}
use Rattle.loading.specs.Held.{Slotted, Holds}
use Rattle.loading.specs.Filling.{numbered, Keeps, Settling, Settled}
use Rattle.loading.specs.Promise.{Ready, Loads, Passes, at_event}
use Rattle.loading.specs.declared.pass.Offender.{Offender}
use Rattle.loading.proofs.Steps.{Reached, Shape, enters, no_enter, other_enter, none_left, all_found, standing_here, passed, followed, next_inside, offends, run_entered, next_alone, shape_tells}

-- one run more at the end of a list
module _ (f : Run → Standing) where
  length_more : (done : List Run) (r : Run) → length (map f (done ++ (r ∷ []))) ≡ length done + 1
  length_more [] r = refl
  length_more (x ∷ done) r =
      let e : length (map f (done ++ (r ∷ []))) ≡ length done + 1 = length_more done r in
      omega arith

  at_old : (done : List Run) (r : Run) (j : ℕ) → j < length done → at (map f (done ++ (r ∷ []))) j ≡ at (map f done) j
  at_old [] r j h = absurd (omega arith)
  at_old (x ∷ done) r zero h = refl
  at_old (x ∷ done) r (suc j) h = at_old done r j (omega arith)

  at_new : (done : List Run) (r : Run) (j : ℕ) → j ≡ length done → at (map f (done ++ (r ∷ []))) j ≡ f r
  at_new [] r j h = rw h
  at_new (x ∷ done) r zero h = absurd (omega arith)
  at_new (x ∷ done) r (suc j) h = at_new done r j (omega arith)

  holds_more : (w w' : List ℕ) (n : ℕ) (done : List Run) (r : Run) → length done ≡ n → n < 1024 → Holds w (map f done) → Keeps w n w' →
      Slotted w' n (f r) → Holds w' (map f (done ++ (r ∷ [])))
  holds_more w w' n done r c h q k o =
      let l : length (map f (done ++ (r ∷ []))) ≡ length done + 1 = length_more done r in
      record { few = omega arith; slots = λ j g. go j (eqb j n) refl (omega arith) }
    where
      go : (j : ℕ) (z : Bool) → eqb j n ≡ z → j < length done + 1 → Slotted w' j (at (map f (done ++ (r ∷ []))) j)
      go j true t g =
          let e : j ≡ n = eqb-true j n t in
          rw (at_new done r j (omega arith), e) o
      go j false t g =
          let ne : j ≡ n → ⊥ = eqb-false j n t in
          let below : j < length done = omega arith in
          let m : length (map f done) ≡ length done = length-map done f in
          rw (at_old done r j below) (k.others j (omega arith) ne (at (map f done) j) (q.slots j (omega arith)))

ok_err : {n : ℕ} {o : Offender} → ◌≡◌ {A = Result ℕ Offender} (Ok n) (Err o) → ⊥
ok_err {n} {o} q =
    let z : ◌≡◌ {A = ℕ} 0 1 = cc in
    omega arith

-- where a turn begins
pub record Walking (profile : Profile) (f : Form) (s : List ℕ) (d e options : ℕ) (w₀ w numbers : List ℕ) (depth i n : ℕ) : Type 0 where
  pub good : GoodIn f s d e
  pub names : List ℕ
  pub last : ℕ
  pub done : List Run
  pub reached : Reached f.width (document_in f s d) (events_in f s d e) s d options (e - i) (place_in f d i) i (up_to depth numbers) names last done
  pub within : i ≤ e
  pub array : length numbers ≡ 64
  pub low : (k : ℕ) → k < depth → get_or numbers k 0 < e
  pub deep : length names ≡ depth
  pub count : length done ≡ n
  pub pairs : 2 * n ≤ i
  pub holds : Holds w (map (standing profile options) done)
  pub same_length : length w ≡ length w₀

pub start : (profile : Profile) (f : Form) (s : List ℕ) (d e options : ℕ) (w numbers : List ℕ) (depth : ℕ) →
    GoodIn f s d e → depth ≡ 0 → length numbers ≡ 64 →
    Walking profile f s d e options w w numbers depth 0 0
unfolding events_in offender runs_of
start profile f s d e options w numbers depth g z l =
    let a : e - 0 ≡ e = omega arith in
    let b : place_in f d 0 ≡ 8 + f.front + d = omega arith in
    record {
      good = g;
      names = [];
      last = 0;
      done = [];
      reached = rw (a, b, empty depth numbers z) (record { sound = g.sound_events; judged = refl; found = refl });
      within = omega arith;
      array = l;
      low = λ k h. absurd (omega arith);
      deep = sym z;
      count = refl;
      pairs = omega arith;
      holds = record { few = omega arith; slots = λ j h. absurd (omega arith) };
      same_length = refl;
    }

-- the container of a run, as a number
pub record Container (numbers : List ℕ) (depth container : ℕ) : Type 0 where
  pub number : container_number (innermost_of (up_to depth numbers)) ≡ container
  pub known : container ≤ 2048

module _ {profile : Profile} {f : Form} {s : List ℕ} {d e options : ℕ} {w₀ w numbers : List ℕ} {depth i n : ℕ}
    (v : Walking profile f s d e options w₀ w numbers depth i n) where
  -- the end
  pub finished : e ≤ i → Ready profile (document_in f s d) (events_in f s d e) options n w
  finished h =
      let a : v.done ≡ runs_of (document_in f s d) (events_in f s d e) = all_found v.reached (omega (arith, v.within)) in
      let b : length v.done ≡ n = v.count in
      let p : e ≤ 2048 = v.good.few in
      let q : 2 * n ≤ i = v.pairs in
      let r : i ≤ e = v.within in
      record {
        none_offends = none_left v.reached (omega arith);
        count = sym b ∙ ap length a;
        few = omega arith;
        holds = rw a at v.holds;
      }

  container_none : depth ≤ 0 → Container numbers depth 0
  container_none h =
      let z : depth ≡ 0 = omega arith in
      record { number = rw (empty depth numbers z); known = omega arith }

  container_top : 0 < depth → Container numbers depth (get_or numbers (depth - 1) 0 + 1)
  container_top h =
      let l : get_or numbers (depth - 1) 0 < e = v.low (depth - 1) (omega arith) in
      let p : e ≤ 2048 = v.good.few in
      record { number = rw (popped depth numbers h); known = omega arith }

  -- it is the last of the numbers that are open
  pub innermost : {r : Option ℕ} → depth < 64 → r ≡ slice_get (take depth numbers) (length (take depth numbers) - 1) → Container numbers depth (numbered r)
  innermost {r} h e = go depth refl
    where
      whole : length (take depth numbers) ≡ depth
      whole = length-take-le depth numbers (omega (arith, v.array))

      go : (k : ℕ) → depth ≡ k → Container numbers depth (numbered r)
      go zero z =
          let none : r ≡ None = e ∙ rw z in
          rw none (container_none (omega arith))
      go (suc k) z =
          let top : slice_get (take depth numbers) (depth - 1) ≡ Some (get_or numbers (depth - 1) 0) =
          slice_get-get_or (take depth numbers) (depth - 1) 0 (omega (arith, whole)) ∙ ap (λ (x : ℕ). Some x) (get_or-take depth numbers (depth - 1) 0 (omega arith)) in
          let some : r ≡ Some (get_or numbers (depth - 1) 0) = e ∙ ap (λ (i : ℕ). slice_get (take depth numbers) (i - 1)) whole ∙ top in
          rw some (container_top (omega arith))

  pub document_whole : 4 + f.front + d ≤ length s
  document_whole =
      let l : length s ≡ place_in f d e = v.good.whole in
      omega arith

  -- the event that is next stands at a place; it is whole
  module _ (more : i < e) (place : ℕ) (next_at : place ≡ place_in f d i) where
    reached_here : Reached f.width (document_in f s d) (events_in f s d e) s d options (e - i) place i (up_to depth numbers) v.names v.last v.done
    reached_here = rw next_at v.reached

    pub whole_here : place + f.width ≤ length s
    whole_here =
        let l : length s ≡ place_in f d e = v.good.whole in
        let r : f.width * i + f.width ≤ f.width * e = further f.width i e more in
        omega arith

    here : Stands 64 d v.last v.names (event_at s place)
    here = standing_here reached_here (e - (i + 1)) (omega arith)

    -- an exit
    exits : (get_or s place 0 ≡ 0 → ⊥) → get_or s place 0 ≡ 1
    exits k =
        let a : get_or s place 0 ≤ 1 = here.kind in
        omega arith

    pub inner : (get_or s place 0 ≡ 0 → ⊥) → 0 < depth
    inner k =
        let a : v.names ≡ get_or s (place + 1) 0 ∷ outer v.names = here.partner (exits k) in
        let b : length v.names ≡ suc (length (outer v.names)) = ap length a in
        let c : length v.names ≡ depth = v.deep in
        omega arith

    pub left_one : (get_or s place 0 ≡ 0 → ⊥) → Walking profile f s d e options w₀ w numbers (depth - 1) (i + 1) n
    left_one k =
        let a : v.names ≡ get_or s (place + 1) 0 ∷ outer v.names = here.partner (exits k) in
        let b : length v.names ≡ suc (length (outer v.names)) = ap length a in
        let c : length v.names ≡ depth = v.deep in
        let p : place_in f d (i + 1) ≡ place + f.width = omega arith in
        let o : outer (up_to depth numbers) ≡ up_to (depth - 1) numbers = rw (popped depth numbers (inner k)) in
        let x : after (event_at s place) i (up_to depth numbers) ≡ up_to (depth - 1) numbers =
        after_exit (event_at s place) i (up_to depth numbers) (exits k) ∙ o in
        let y : after (event_at s place) (get_or s (place + 1) 0) v.names ≡ outer v.names =
        after_exit (event_at s place) (get_or s (place + 1) 0) v.names (exits k) in
        let z = passed reached_here (e - (i + 1)) (omega arith) (no_enter (event_at s place) k) in
        record {
          good = v.good;
          names = outer v.names;
          last = u32_at s (place + 4);
          done = v.done;
          reached = rw p (rw (x, y) at z);
          within = omega arith;
          array = v.array;
          low = λ q h. v.low q (omega arith);
          deep = omega arith;
          count = v.count;
          pairs = omega (arith, v.pairs);
          holds = v.holds;
          same_length = v.same_length;
        }

    module _ (k : get_or s place 0 ≡ 0) where
      pub shallow : depth < 64
      shallow =
          let a : length v.names < 64 = here.room k in
          let c : length v.names ≡ depth = v.deep in
          omega arith

      -- an enter that is no run's
      pub entered : (get_or s (place + 1) 0 ≡ 1 → ⊥) → Walking profile f s d e options w₀ w (set numbers depth i) (depth + 1) (i + 1) n
      entered m =
          let c : length v.names ≡ depth = v.deep in
          let l : length numbers ≡ 64 = v.array in
          let h : depth < 64 = shallow in
          let p : place_in f d (i + 1) ≡ place + f.width = omega arith in
          let x : after (event_at s place) i (up_to depth numbers) ≡ up_to (depth + 1) (set numbers depth i) =
          after_enter (event_at s place) i (up_to depth numbers) k ∙ sym (pushed depth numbers i (omega arith)) in
          let y : after (event_at s place) (get_or s (place + 1) 0) v.names ≡ get_or s (place + 1) 0 ∷ v.names =
          after_enter (event_at s place) (get_or s (place + 1) 0) v.names k in
          let z = passed reached_here (e - (i + 1)) (omega arith) (other_enter (event_at s place) k m) in
          record {
            good = v.good;
            names = get_or s (place + 1) 0 ∷ v.names;
            last = u32_at s (place + 4);
            done = v.done;
            reached = rw p (rw (x, y) at z);
            within = omega arith;
            array = length-set numbers depth i ∙ l;
            low = λ q g. go q (eqb q depth) refl g;
            deep = omega arith;
            count = v.count;
            pairs = omega (arith, v.pairs);
            holds = v.holds;
            same_length = v.same_length;
          }
        where
          go : (q : ℕ) (z : Bool) → eqb q depth ≡ z → q < depth + 1 → get_or (set numbers depth i) q 0 < e
          go q true t g =
              let a : q ≡ depth = eqb-true q depth t in
              let l : length numbers ≡ 64 = v.array in
              let h : depth < 64 = shallow in
              rw (a, get_or-set_same numbers depth i 0 (omega arith)) more
          go q false t g =
              let ne : q ≡ depth → ⊥ = eqb-false q depth t in
              rw (get_or-set_other numbers depth q i 0 ne) (v.low q (omega arith))

      -- an enter is not the last event, and the next one stands in the document
      pub not_last : i + 1 < e
      not_last =
          let next : 0 < e - (i + 1) = followed reached_here (e - (i + 1)) (omega arith) k in
          omega arith

      pub whole_next : place + f.width + 8 ≤ length s
      whole_next =
          let next : i + 1 < e = not_last in
          let w : 8 ≤ f.width = v.good.known.wide in
          let l : length s ≡ place_in f d e = v.good.whole in
          let r : f.width * (i + 1) + f.width ≤ f.width * e = further f.width (i + 1) e next in
          omega arith

      pub next_place : u32_at s (place + f.width + 4) ≤ d
      next_place =
          let next : i + 1 < e = not_last in
          next_inside reached_here (e - (i + 1)) (omega arith) (e - (i + 2)) (omega arith)

      module _ (m : get_or s (place + 1) 0 ≡ 1) where
        -- a run that is none
        pub broken : shaped (document_in f s d) options (event_at s place) (events_by f.width 1 s (place + f.width)) ≡ false →
            offender (document_in f s d) options (events_in f s d e) ≡ some i
        broken q =
            let next : i + 1 < e = not_last in
            offends reached_here (e - (i + 1)) (omega arith) (enters (event_at s place) k m)
            (sym (next_alone f.width s (document_in f s d) options (e - (i + 1)) (place + f.width) (event_at s place) (omega arith)) ∙ q)

        module _ (q : shaped (document_in f s d) options (event_at s place) (events_by f.width 1 s (place + f.width)) ≡ true) where
          tells : Shape f.width (document_in f s d) s place
          tells = shape_tells f.width (document_in f s d) s options place q

          pub slot_free : n < 1024
          slot_free =
              let next : i + 1 < e = not_last in
              let p : e ≤ 2048 = v.good.few in
              let r : 2 * n ≤ i = v.pairs in
              omega arith

          pub settling : {container : ℕ} → Container numbers depth container → Room w → Settling f s d place container w n
          settling {container} c room =
              record {
                document = document_whole;
                small = v.good.small;
                events = whole_next;
                later = tells.later;
                inside = next_place;
                known = c.known;
                slot = slot_free;
                room = room;
              }

          -- a run leaves what was open before it
          out_again : (a b : ℕ) (held : List ℕ) → get_or s (place + f.width) 0 ≡ 1 →
              after (event_at s (place + f.width)) b (after (event_at s place) a held) ≡ held
          out_again a b held x =
              after_exit (event_at s (place + f.width)) b (after (event_at s place) a held) x
              ∙ ap (λ (h : List ℕ). outer h) (after_enter (event_at s place) a held k)

          -- a run, in its slot
          pub run_passed : {container : ℕ} {w' : List ℕ} → Container numbers depth container →
              Settled profile f s d options place container w n w' → length w' ≡ length w →
              Walking profile f s d e options w₀ w' numbers depth (i + 2) (n + 1)
          run_passed {container} {w'} c t g =
              let next : i + 1 < e = not_last in
              let x : get_or s (place + f.width) 0 ≡ 1 = tells.next_exits in
              let p : place_in f d (i + 2) ≡ place + f.width + f.width = omega arith in
              let o : i + 2 ≡ i + 1 + 1 = omega arith in
              let u = sym (next_alone f.width s (document_in f s d) options (e - (i + 1)) (place + f.width) (event_at s place) (omega arith)) ∙ q in
              let r = run_entered reached_here (e - (i + 1)) (omega arith) (enters (event_at s place) k m) u in
              let z = passed r (e - (i + 1 + 1)) (omega arith)
              (no_enter (event_at s (place + f.width)) (λ (y : get_or s (place + f.width) 0 ≡ 0). omega arith)) in
              let es = events_cons f.width (e - (i + 1)) (e - (i + 1 + 1)) s (place + f.width) (omega arith) in
              record {
                good = v.good;
                names = v.names;
                last = u32_at s (place + f.width + 4);
                done =
                    v.done
                    ++ (run_of (document_in f s d) (event_at s place) (events_by f.width (e - (i + 1)) s (place + f.width)) i (up_to depth numbers) ∷ []);
                reached =
                    rw (p, o)
                    (rw (out_again i (i + 1) (up_to depth numbers) x, out_again (get_or s (place + 1) 0) (get_or s (place + f.width + 1) 0) v.names x) at z);
                within = omega arith;
                array = v.array;
                low = v.low;
                deep = v.deep;
                count = simp length-append (omega (arith, v.count));
                pairs = omega (arith, v.pairs);
                holds =
                    holds_more (standing profile options) w w' n v.done
                    (run_of (document_in f s d) (event_at s place) (events_by f.width (e - (i + 1)) s (place + f.width)) i (up_to depth numbers))
                    v.count slot_free v.holds t.kept
                    (rw es (t.own (events_by f.width (e - (i + 1 + 1)) s (place + f.width + f.width)) i (up_to depth numbers) c.number tells.marked));
                same_length = g ∙ v.same_length;
              }

  -- the two answers
  pub answers_broken : offender (document_in f s d) options (events_in f s d e) ≡ some i → Loads profile f s d e options w₀ (Err (at_event i)) w
  answers_broken h =
      record {
        offends = λ k q.
            let z : at_event i ≡ at_event k = cc in
            rw (ap (λ (o : Offender). o.event) z) at h;
        runs = λ m q. absurd (ok_err (sym q));
        same_length = v.same_length;
      }

  pub answers_runs : e ≤ i → Loads profile f s d e options w₀ (Ok n) w
  answers_runs h =
      let r : Ready profile (document_in f s d) (events_in f s d e) options n w = finished h in
      record {
        offends = λ k q. absurd (ok_err q);
        runs = λ m q.
            let z : n ≡ m = cc in
            rw z at r;
        same_length = v.same_length;
      }

-- a pass that has an answer, and one that lacks the ranges
pub pass_done : {profile : Profile} {marks : List ℕ} {f : Form} {s : List ℕ} {d e options : ℕ} {w : List ℕ} {l : Result ℕ Offender} {w' : List ℕ} →
    Loads profile f s d e options w l w' →
    Passes profile marks f s d e options w (Some l) w'
pass_done {profile} {marks} {f} {s} {d} {e} {options} {w} {l} {w'} p =
    record {
      done = λ k q.
          let z : l ≡ k = cc in
          subst (λ (x : Result ℕ Offender). Loads profile f s d e options w x w') z p;
      undone = λ q. absurd (none-some _ (sym q));
    }

pub pass_wide : {profile : Profile} {marks : List ℕ} {f : Form} {s : List ℕ} {d e options : ℕ} {w w' : List ℕ} → length marks ≡ 0 →
    Passes profile marks f s d e options w None w'
pass_wide n = record { done = λ k q. absurd (none-some _ q); undone = λ _. n }
