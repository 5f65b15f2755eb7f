-- The search along a chain finds what the plain rule finds, over any rule, and a passed run keeps the chains as they are to be.
--     seek-look       at a run: down its chain is back over all earlier runs, in match and count
--     passed-ready    a run is passed: the chains list the runs up to it
--     onward-went     onward along the chains is onward by the plain rule, in match and count, and the memory then is ready at the closer
--                     that was found, or at the end
-- Assumes nothing.
use Prim.Native.Nat.{ℕ, zero, suc, ◌+◌, ◌-◌, ◌*◌, ◌<◌, ◌≤◌}
use mathlib.Core.Path.{◌≡◌, refl, ◌∙◌, sym, ap}
use mathlib.Core.List.{List}
use mathlib.Core.Bool.{Bool, true, false}
use native.Mathlib.Omega.{arith}
use lib.Dec.{eqb, ltb}
use lib.ListN.{get_or}
use borrow.Author.Tests.{eqb-true, eqb-false, ltb-true}
use Rattle.record.specs.Choice.{choose, and}
use Rattle.record.proofs.Bools.{and_left, clash}
use Rattle.runs.specs.declared.Next.{Next}
use Rattle.runs.specs.declared.Next.TheVariants.{Match, Done}
use Rattle.runs.specs.Rule.{Rule}
use Rattle.runs.specs.Plain.{Standing, Group, at, opener, closer, candidate, takes, Look, hit, miss, settle, back, look, forth}
use Rattle.runs.specs.Chains.{chain_number}
use Rattle.slots.specs.Words.{get16}
use Rattle.slots.specs.Layout.{left_of, opens_of, closes_of, link_of, head_of, chain_of, open_at}
use Rattle.slots.proofs.Laws.{Apart}
use Rattle.chains.specs.Walk.{down, seek, first, takes_at, both_at, closing, opening, passed, raised, onward, Sound}
use Rattle.matcher.specs.Chains.{on, latest, openers, Reads, Listed}
use Rattle.matcher.specs.State.{Ready}
use Rattle.chains.proofs.Flags.{raised_on, raised_off}
use Rattle.chains.proofs.Steps.{Falls, down_end, down_hit, down_on, passed_word, passed_byte, passed_link_same, passed_link_other, passed_head_same, passed_head_other, passed_open_same, passed_open_other, passed_sound}
use Rattle.matcher.proofs.Lists.{on_opener, on_chain, on_yes, latest_on, latest_off, latest_le, openers_le, openers_on, openers_off, openers_past, candidate_on}
use Rattle.matcher.proofs.Frames.{SameRuns, SameGroups, same_runs, same_opens, reads_same, grouped_same}

-- where a walk ends: at the closer of the match, or past all runs
abbrev pub reach : Next → ℕ → ℕ
reach (Match o c t) e = c
reach (Done t) e = e

-- markers left and a flag, of a run that is told by a slot
flag_level : (a b : ℕ) (x y : Bool) → a ≡ b → (0 < a → x ≡ y) → and (ltb 0 a) x ≡ and (ltb 0 b) y
unfolding and
flag_level a b x y e f = rw (← e) (go (ltb 0 a) refl)
  where
    go : (z : Bool) → ltb 0 a ≡ z → and (ltb 0 a) x ≡ and (ltb 0 a) y
    go true q = rw q (f (ltb-true 0 a q))
    go false q = rw q

pub opener_left : (r : Standing) → opener r ≡ true → 0 < r.left
unfolding opener
opener_left r e = ltb-true 0 r.left (and_left (ltb 0 r.left) r.opens e)

pub closer_left : (r : Standing) → closer r ≡ true → 0 < r.left
unfolding closer
closer_left r e = ltb-true 0 r.left (and_left (ltb 0 r.left) r.closes e)

-- a slot tells what the run is
module _ (w : List ℕ) (rs : List Standing) (n : ℕ) (r : Reads w rs n) where
  pub read_opening : (j : ℕ) → j < n → opening w j ≡ opener (at rs j)
  unfolding opening opener
  read_opening j h = flag_level (left_of w j) (at rs j).left (opens_of w j) (at rs j).opens (r.left j h) (r.opens j h)

  pub read_closing : (j : ℕ) → j < n → closing w j ≡ closer (at rs j)
  unfolding closing closer
  read_closing j h = flag_level (left_of w j) (at rs j).left (closes_of w j) (at rs j).closes (r.left j h) (λ _. r.closes j h)

  read_takes : (rule : Rule) (o i : ℕ) → o < n → i < n → 0 < left_of w o → 0 < left_of w i → takes_at rule w o i ≡ takes rule (at rs o) (at rs i)
  unfolding takes_at takes both_at
  read_takes rule o i h l p q =
      simp (r.whole o h, r.whole i l, r.opens o h p, r.opens i l q, r.left o h, r.left i l, r.closes o h, r.closes i l, r.marker i l)

pub back_suc : (rule : Rule) (j : ℕ) (rs : List Standing) (c t : ℕ)
    → back rule (suc j) rs c t
    ≡ choose (candidate (at rs j) (at rs c)) (choose (takes rule (at rs j) (at rs c)) (hit j (t + 1)) (back rule j rs c (t + 1))) (back rule j rs c t)
unfolding back
back_suc rule j rs c t = refl

pub back_zero : (rule : Rule) (rs : List Standing) (c t : ℕ) → back rule zero rs c t ≡ miss t
unfolding back
back_zero rule rs c t = refl

latest_suc : (rs : List Standing) (k j : ℕ) → latest rs k (suc j) ≡ choose (on rs k j) (j + 1) (latest rs k j)
unfolding latest
latest_suc rs k j = refl

-- down the chain of i from its latest run below q: what the plain rule finds below q
module _ (rule : Rule) (w : List ℕ) (height : ℕ) (rs : List Standing) (n i : ℕ) (r : Reads w rs n) (falls : Falls w n) (l : i < n) (ls : Listed w height rs i) (cl : closer (at rs i) ≡ true) where
  abbrev own : ℕ
  own = chain_number (at rs i)

  chain_back : (q t : ℕ) → q ≤ i → down (latest rs own q) rule w i (latest rs own q) t ≡ back rule q rs i t
  unfolding latest choose
  chain_back zero t h = down_end rule w i n falls 0 t refl ∙ sym (back_zero rule rs i t)
  chain_back (suc j) t h = rw (back_suc, candidate_on rs j i (r.known j (omega arith)) (r.known i l)) (go (chain_back j) (on rs own j) refl)
    where
      go : ((u : ℕ) → j ≤ i → down (latest rs own j) rule w i (latest rs own j) u ≡ back rule j rs i u)
          → (z : Bool) → on rs own j ≡ z
          → down (latest rs own (suc j)) rule w i (latest rs own (suc j)) t
          ≡ choose (on rs own j) (choose (takes rule (at rs j) (at rs i)) (hit j (t + 1)) (back rule j rs i (t + 1))) (back rule j rs i t)
      go ih false e = rw e (ih t (omega arith))
      go ih true e = rw e (rw (← same) (hits (takes_at rule w j i) refl))
        where
          b : j + 1 - 1 ≡ j
          b = omega arith

          jn : j < n
          jn = omega arith

          same : takes_at rule w j i ≡ takes rule (at rs j) (at rs i)
          same =
              read_takes w rs n r rule j i jn l
              (omega (arith, r.left j jn, opener_left (at rs j) (on_opener rs own j e)))
              (omega (arith, r.left i l, closer_left (at rs i) cl))

          hits : (y : Bool) → takes_at rule w j i ≡ y
              → down (j + 1) rule w i (j + 1) t ≡ choose (takes_at rule w j i) (hit j (t + 1)) (back rule j rs i (t + 1))
          hits true y = rw y (rw b at (down_hit rule w i n falls (j + 1) t (λ x. omega arith) (rw b y)))
          hits false y =
              let k : link_of w j ≡ latest rs own j = ls.links j (omega arith) (on_opener rs own j e) ∙ ap (λ k. latest rs k j) (on_chain rs own j e) in
              rw y (rw b at (down_on rule w i n falls (j + 1) t (λ x. omega arith) (omega arith) (rw b y)) ∙ ap (λ p. down p rule w i p (t + 1)) k ∙ ih (t + 1) (omega arith))

-- at a run: down its chain is back over all earlier runs
pub seek_look : (rule : Rule) (w : List ℕ) (height : ℕ) (rs : List Standing) (n i t : ℕ) → Reads w rs n → Falls w n → chain_of w i < 6147 → i < n → Listed w height rs i
    → seek rule w i t ≡ look rule rs i t
unfolding seek look choose
seek_look rule w height rs n i t r falls k l ls = rw (read_closing w rs n r i l) (go (closer (at rs i)) refl)
  where
    go : (z : Bool) → closer (at rs i) ≡ z
        → choose (closer (at rs i)) (down (first w i) rule w i (first w i) t) (miss t) ≡ choose (closer (at rs i)) (back rule i rs i t) (miss t)
    go false e = rw e
    go true e =
        let h : first w i ≡ latest rs (chain_number (at rs i)) i = ls.heads (chain_of w i) k ∙ ap (λ x. latest rs x i) (r.chain i l) in
        rw e (ap (λ p. down p rule w i p t) h ∙ chain_back rule w height rs n i r falls l ls e i t (omega arith))

-- what is ready is sound
pub ready_sound : (w : List ℕ) (height : ℕ) (rs : List Standing) (gs : List Group) (n i : ℕ) → Ready w height rs gs n i → Sound w height n i
ready_sound w height rs gs n i r =
    record {
      room = r.room;
      few = r.few;
      within = r.within;
      links = r.falls;
      chains = r.chains;
      heads = λ k h. omega (arith, r.listed.heads k h, latest_le rs k i);
      high = omega (arith, r.listed.high, openers_le rs i);
    }

-- a run is passed
module _ (w : List ℕ) (height : ℕ) (rs : List Standing) (gs : List Group) (n i : ℕ) (r : Ready w height rs gs n i) (l : i < n) where
  s : Sound w height n i
  s = ready_sound w height rs gs n i r

  li : i < 1024
  li = omega (arith, r.few)

  lh : height < 1024
  lh = omega (arith, r.few, s.high)

  lk : chain_of w i < 6147
  lk = r.chains i l

  word : (p : ℕ) → p < 16383 → Apart p (i * 16 + 10) → get16 (passed w height i) p ≡ get16 w p
  word p h a = passed_word w height i li lh lk r.room p a (λ y z. omega arith) (λ y z. omega arith)

  byte : (j b : ℕ) → j < 1024 → b < 9 → get_or (passed w height i) (j * 16 + b) 0 ≡ get_or w (j * 16 + b) 0
  byte j b h x = passed_byte w height i li lh lk r.room (j * 16 + b) (λ p q. omega arith) (λ p q. omega arith) (λ p q. omega arith)

  same : SameRuns w (passed w height i)
  same =
      same_runs w (passed w height i) (λ j h. word (j * 16) (omega arith) (λ y z. omega arith)) (λ j h. word (j * 16 + 8) (omega arith) (λ y z. omega arith))
      (λ j h. byte j 4 h (omega arith)) (λ j h. byte j 6 h (omega arith))

  same_groups : SameGroups w (passed w height i)
  same_groups =
      record {
        first = λ j h. passed_word w height i li lh lk r.room (j * 16 + 12) (λ y z. omega arith) (λ y z. omega arith) (λ y z. omega arith);
        latest = λ j h. passed_word w height i li lh lk r.room (j * 16 + 14) (λ y z. omega arith) (λ y z. omega arith) (λ y z. omega arith);
        group = λ p h. passed_word w height i li lh lk r.room p (λ y z. omega (arith, li)) (λ y z. omega (arith, lk)) (λ y z. omega (arith, lh));
      }

  own_opening : opening w i ≡ opener (at rs i)
  own_opening = read_opening w rs n r.reads i l

  head_listed : (k : ℕ) → k < 6147 → head_of (passed w height i) k ≡ latest rs k (i + 1)
  head_listed k h = go (on rs k i) refl
    where
      go : (z : Bool) → on rs k i ≡ z → head_of (passed w height i) k ≡ latest rs k (i + 1)
      go true e =
          let c : chain_of w i ≡ k = r.reads.chain i l ∙ on_chain rs k i e in
          ap (λ x. head_of (passed w height i) x) (sym c) ∙ passed_head_same w height i li lh lk r.room (own_opening ∙ on_opener rs k i e) ∙ sym (latest_on rs i k e)
      go false e =
          passed_head_other w height i li lh lk r.room k h (λ o c. clash (on_yes rs k i (sym own_opening ∙ o) (sym (r.reads.chain i l) ∙ c)) e)
          ∙ r.listed.heads k h ∙ sym (latest_off rs i k e)

  link_listed : (j : ℕ) → j < i + 1 → opener (at rs j) ≡ true → link_of (passed w height i) j ≡ latest rs (chain_number (at rs j)) j
  link_listed j h o = go (eqb j i) refl
    where
      go : (z : Bool) → eqb j i ≡ z → link_of (passed w height i) j ≡ latest rs (chain_number (at rs j)) j
      go true e =
          let q : j ≡ i = eqb-true j i e in
          rw q (passed_link_same w height i li lh lk r.room (own_opening ∙ rw q at o) ∙ r.listed.heads (chain_of w i) lk ∙ ap (λ x. latest rs x i) (r.reads.chain i l))
      go false e = let q : j ≡ i → ⊥ = eqb-false j i e in passed_link_other w height i li lh lk r.room j (omega arith) q ∙ r.listed.links j (omega arith) o

  stack_listed : (j : ℕ) → j < i + 1 → opener (at rs j) ≡ true → open_at (passed w height i) (openers rs j) ≡ j
  stack_listed j h o = go (eqb j i) refl
    where
      go : (z : Bool) → eqb j i ≡ z → open_at (passed w height i) (openers rs j) ≡ j
      go true e =
          let q : j ≡ i = eqb-true j i e in
          rw (q, ← r.listed.high) (passed_open_same w height i li lh lk r.room (own_opening ∙ rw q at o))
      go false e =
          let q : j ≡ i → ⊥ = eqb-false j i e in
          passed_open_other w height i li lh lk r.room (openers rs j) (omega (arith, openers_le rs j)) (λ x. omega (arith, openers_past rs j i (omega arith) o, r.listed.high))
          ∙ r.listed.stack j (omega arith) o

  high_listed : raised w height i ≡ openers rs (i + 1)
  high_listed = go (opener (at rs i)) refl
    where
      go : (z : Bool) → opener (at rs i) ≡ z → raised w height i ≡ openers rs (i + 1)
      go true e = raised_on w height i (own_opening ∙ e) ∙ ap (λ x. x + 1) r.listed.high ∙ sym (openers_on rs i e)
      go false e = raised_off w height i (own_opening ∙ e) ∙ r.listed.high ∙ sym (openers_off rs i e)

  pub passed_ready : Ready (passed w height i) (raised w height i) rs gs n (i + 1)
  passed_ready =
      let t = passed_sound w height n i s l in
      record {
        room = t.room;
        few = r.few;
        within = omega arith;
        falls = t.links;
        chains = t.chains;
        reads = reads_same w (passed w height i) rs n r.few same (λ j h. word (j * 16 + 2) (omega arith) (λ y z. omega arith)) (same_opens w (passed w height i) (λ j h. byte j 5 h (omega arith))) r.reads;
        listed = record { heads = head_listed; links = link_listed; high = high_listed; stack = stack_listed };
        grouped = grouped_same w (passed w height i) gs n r.few same_groups r.grouped;
      }

pub onward_zero : (rule : Rule) (w : List ℕ) (height i t : ℕ) → onward zero rule w height i t ≡ (Done t, (w, height))
unfolding onward
onward_zero rule w height i t = refl

pub onward_suc : (m : ℕ) (rule : Rule) (w : List ℕ) (height i t : ℕ)
    → onward (suc m) rule w height i t
    ≡ settle (seek rule w i t) (λ o u. (Match o i u, (w, height))) (λ u. onward m rule (passed w height i) (raised w height i) (i + 1) u)
unfolding onward
onward_suc m rule w height i t = refl

pub forth_suc : (rule : Rule) (m : ℕ) (rs : List Standing) (c t : ℕ) → forth rule (suc m) rs c t ≡ settle (look rule rs c t) (λ o u. Match o c u) (λ u. forth rule m rs (c + 1) u)
unfolding forth
forth_suc rule m rs c t = refl

-- what a walk over the runs from i on leaves: the plain rule's next match, and memory that is ready at its closer, or past them
pub record Went (rule : Rule) (rs : List Standing) (gs : List Group) (n m i t : ℕ) (x : Next × (List ℕ × ℕ)) : Type 0 where
  pub next : x.0 ≡ forth rule m rs i t
  pub ready : Ready x.1.0 x.1.1 rs gs n (reach x.0 (i + m))

pub onward_went : (m : ℕ) (rule : Rule) (w : List ℕ) (height : ℕ) (rs : List Standing) (gs : List Group) (n i t : ℕ) → Ready w height rs gs n i → i + m ≤ n
    → Went rule rs gs n m i t (onward m rule w height i t)
unfolding onward forth
onward_went zero rule w height rs gs n i t r h = let e : i + 0 ≡ i = omega arith in record { next = refl; ready = rw e r }
onward_went (suc m) rule w height rs gs n i t r h =
    rw onward_suc
    (go
    (λ u. onward_went m rule (passed w height i) (raised w height i) rs gs n (i + 1) u (passed_ready w height rs gs n i r (omega arith)) (omega arith))
    (seek rule w i t)
    refl)
  where
    l : i < n
    l = omega arith

    found : seek rule w i t ≡ look rule rs i t
    found = seek_look rule w height rs n i t r.reads r.falls (r.chains i l) l r.listed

    go : ((u : ℕ) → Went rule rs gs n m (i + 1) u (onward m rule (passed w height i) (raised w height i) (i + 1) u))
        → (y : Look) → seek rule w i t ≡ y
        → Went rule rs gs n (suc m) i t (settle (seek rule w i t) (λ o u. (Match o i u, (w, height))) (λ u. onward m rule (passed w height i) (raised w height i) (i + 1) u))
    go ih (hit o u) e = rw e (record { next = sym (forth_suc rule m rs i t ∙ ap (λ x. settle x (λ o u. Match o i u) (λ u. forth rule m rs (i + 1) u)) (sym found ∙ e)); ready = r })
    go ih (miss u) e =
        let a = ih u in
        let d : i + 1 + m ≡ i + suc m = omega arith in
        rw e (record {
          next = a.next ∙ sym (forth_suc rule m rs i t ∙ ap (λ x. settle x (λ o u. Match o i u) (λ u. forth rule m rs (i + 1) u)) (sym found ∙ e));
          ready = rw d at a.ready;
        })
