-- Memory that is in order stays so, by the memory alone: when a run is passed, when the open runs above an opener lose open, and by a match. What a walk
-- finds in it can be taken.
--     order-by            another memory with the same links, chain numbers and open runs
--     passed-order        a run is passed
--     cleared-order       down to an opener
--     onward-walks        a walk: what it leaves, what it finds, and how many it tried at most
--     takable             what is found can be taken; match-order: and after that all is in order again
--     ready-order         memory that is ready for some runs is in order
-- Assumes nothing.
use Prim.Native.Nat.{ℕ, zero, suc, ◌+◌, ◌-◌, ◌*◌, ◌<◌, ◌≤◌}
use mathlib.Core.Path.{◌≡◌, refl, ◌∙◌, sym, ap}
use mathlib.Core.List.{List}
use mathlib.Core.Bool.{Bool, true, false}
use native.Mathlib.Omega.{arith}
use lib.Dec.{eqb, ltb}
use lib.ListN.{length}
use borrow.Author.Tests.{eqb-true, eqb-false, ltb-true, ltb-false}
use Rattle.record.specs.Choice.{choose}
use Rattle.record.proofs.Bools.{and_left}
use Rattle.runs.specs.declared.Next.{Next}
use Rattle.runs.specs.declared.Next.TheVariants.{Match, Done}
use Rattle.runs.specs.Rule.{Rule}
use Rattle.runs.specs.Plain.{Standing, Group, at, opener, Look, hit, miss, settle}
use Rattle.runs.specs.Chains.{chain_number}
use Rattle.slots.specs.Layout.{left_of, closes_of, opens_of, link_of, head_of, chain_of, open_at}
use Rattle.chains.specs.Walk.{down, seek, first, takes_at, closing, opening, passed, raised, onward, Sound}
use Rattle.chains.specs.Step.{unchained, popped, cleared, leaves, lowered, taken_at, matched_at, Takable}
use Rattle.chains.proofs.Flags.{passed_off, raised_on, raised_off}
use Rattle.chains.proofs.Steps.{down_suc, down_zero, seek_closing, seek_not, passed_word, passed_link_same, passed_link_other, passed_head_same, passed_head_other, passed_open_same, passed_open_other, passed_sound}
use Rattle.chains.proofs.Pops.{cleared_stop, cleared_pop, unchained_own, unchained_other, popped_head, leaves_on, leaves_off, lowered_on, lowered_off}
use Rattle.matcher.specs.Chains.{latest, openers}
use Rattle.matcher.specs.State.{Ready, OpenOn, InOrder}
use Rattle.matcher.proofs.Lists.{on_opener, on_chain, openers_past, Named, latest_named, Place, place}
use Rattle.matcher.proofs.Writes.{popped_lasting, Lasting, cleared_lasting, match_amount, match_chain, match_runs, match_links, match_left_own, match_left_other, match_chains, match_stack, match_length}
use Rattle.matcher.proofs.Chained.{opener_left, ready_sound, reach, onward_zero, onward_suc}
use Rattle.matcher.proofs.Rounds.{hit_miss, match_done}

-- the same links, chain numbers and open runs
pub record Still (w v : List ℕ) : Type 0 where
  pub len : length v ≡ length w
  pub chain : (j : ℕ) → j < 1024 → chain_of v j ≡ chain_of w j
  pub link : (j : ℕ) → j < 1024 → link_of v j ≡ link_of w j
  pub stack : (x : ℕ) → x < 1024 → open_at v x ≡ open_at w x

lasting_still : {w v : List ℕ} → Lasting w v → Still w v
lasting_still {w} {v} a = record { len = a.len; chain = a.runs.chain; link = a.links; stack = a.stack }

open_wider : {w : List ℕ} {k h h' p : ℕ} → OpenOn w k h p → h ≤ h' → OpenOn w k h' p
open_wider o l = record { place = o.place; below = omega (arith, o.below); stands = o.stands; chain = o.chain }

module _ {w : List ℕ} {height n from : ℕ} (r : InOrder w height n from) where
  order_high : height ≤ 1024
  order_high = omega (arith, r.sound.high, r.sound.within, r.sound.few)

  order_low : (x : ℕ) → x < height → open_at w x < 1024
  order_low x b = omega (arith, r.earlier x b, r.sound.within, r.sound.few)

  order_chain : (x : ℕ) → x < height → chain_of w (open_at w x) < 6147
  order_chain x b = r.sound.chains (open_at w x) (omega (arith, r.earlier x b, r.sound.within))

  -- what a head or a link names is an earlier run
  named_low : {k h p : ℕ} → h ≤ height → OpenOn w k h p → p ≤ from
  named_low l o = omega (arith, o.stands, r.earlier o.place (omega (arith, o.below)))

  open_still : {v : List ℕ} {k h p : ℕ} → Still w v → h ≤ height → OpenOn w k h p → OpenOn v k h p
  open_still {v} s l o =
      let b : o.place < height = omega (arith, o.below) in
      let e : open_at v o.place ≡ open_at w o.place = s.stack o.place (omega (arith, order_high)) in
      record { place = o.place; below = o.below; stands = ap (λ y. y + 1) e ∙ o.stands; chain = ap (λ y. chain_of v y) e ∙ s.chain (open_at w o.place) (order_low o.place b) ∙ o.chain }

  -- no higher than before, where the heads name what is open then and the runs open then have markers left
  pub order_by : {v : List ℕ} {h : ℕ} → Still w v → h ≤ height → ((k : ℕ) → k < 6147 → 0 < head_of v k → OpenOn w k h (head_of v k)) → ((x : ℕ) → x < h → 0 < left_of v (open_at w x)) → InOrder v h n from
  order_by {v} {h} s l heads left =
      record {
        sound =
            record {
              room = omega (arith, s.len, r.sound.room);
              few = r.sound.few;
              within = r.sound.within;
              links = λ j b. omega (arith, s.link j (omega (arith, r.sound.few)), r.sound.links j b);
              chains = λ j b. omega (arith, s.chain j (omega (arith, r.sound.few)), r.sound.chains j b);
              heads = λ k b. low k b (eqb (head_of v k) 0) refl;
              high = omega (arith, r.sound.high);
            };
        earlier = λ x b. omega (arith, same x b, r.earlier x (omega arith));
        rise = λ x y a b. omega (arith, same x (omega arith), same y b, r.rise x y a (omega arith));
        left = λ x b. rw (same x b) (left x b);
        heads = λ k b p. open_still s l (heads k b p);
        links = links;
      }
    where
      same : (x : ℕ) → x < h → open_at v x ≡ open_at w x
      same x b = s.stack x (omega (arith, order_high))

      low : (k : ℕ) → k < 6147 → (z : Bool) → eqb (head_of v k) 0 ≡ z → head_of v k ≤ from
      low k b true e = omega (arith, eqb-true (head_of v k) 0 e)
      low k b false e = let ne : head_of v k ≡ 0 → ⊥ = eqb-false (head_of v k) 0 e in named_low l (heads k b (omega arith))

      links : (x : ℕ) → x < h → 0 < link_of v (open_at v x) → OpenOn v (chain_of v (open_at v x)) x (link_of v (open_at v x))
      links x b p =
          let c : x < height = omega arith in
          let e : link_of v (open_at w x) ≡ link_of w (open_at w x) = s.link (open_at w x) (order_low x c) in
          let f : chain_of v (open_at w x) ≡ chain_of w (open_at w x) = s.chain (open_at w x) (order_low x c) in
          let q : 0 < link_of w (open_at w x) = rw (same x b, e) at p in
          rw (same x b, e, f) (open_still s (omega arith) (r.links x c q))

-- the top of the open runs leaves its chain
dropped_heads : {w : List ℕ} {h n from : ℕ} (v : List ℕ) (q : ℕ) → InOrder w (suc h) n from → q ≡ open_at w h → head_of v (chain_of w q) ≡ link_of w q →
    ((k : ℕ) → k < 6147 → (chain_of w q ≡ k → ⊥) → head_of v k ≡ head_of w k) → (k : ℕ) → k < 6147 → 0 < head_of v k → OpenOn w k h (head_of v k)
dropped_heads {w} {h} {n} {from} v q r t own other k b p = go (eqb (chain_of w q) k) refl
  where
    go : (z : Bool) → eqb (chain_of w q) k ≡ z → OpenOn w k h (head_of v k)
    go true e =
        let y : chain_of w q ≡ k = eqb-true (chain_of w q) k e in
        let f : head_of v k ≡ link_of w q = ap (λ i. head_of v i) (sym y) ∙ own in
        let p' : 0 < link_of w (open_at w h) = rw (f, t) at p in
        let o : OpenOn w (chain_of w (open_at w h)) h (link_of w (open_at w h)) = r.links h (omega arith) p' in
        record { place = o.place; below = o.below; stands = o.stands ∙ sym (f ∙ ap (λ i. link_of w i) t); chain = o.chain ∙ ap (λ i. chain_of w i) (sym t) ∙ y }
    go false e =
        let ne : chain_of w q ≡ k → ⊥ = eqb-false (chain_of w q) k e in
        let f : head_of v k ≡ head_of w k = other k b ne in
        let o : OpenOn w k (suc h) (head_of w k) = r.heads k b (omega arith) in
        let no : o.place ≡ h → ⊥ = λ y. ne (ap (λ i. chain_of w i) (t ∙ ap (λ i. open_at w i) (sym y)) ∙ o.chain) in
        record { place = o.place; below = omega (arith, o.below); stands = o.stands ∙ sym f; chain = o.chain }

-- down to an opener, which then is on top
pub record Down (v : List ℕ × ℕ) (n from x : ℕ) : Type 0 where
  pub order : InOrder v.0 (suc x) n from
  pub high : v.1 ≡ suc x

module _ (w : List ℕ) (h n from : ℕ) (r : InOrder w (suc h) n from) where
  abbrev q : ℕ
  q = open_at w h

  lq : open_at w h < 1024
  lq = order_low r h (omega arith)

  lk : chain_of w (open_at w h) < 6147
  lk = order_chain r h (omega arith)

  popped_still : Lasting w (popped w (open_at w h))
  popped_still = popped_lasting w (open_at w h) lq lk

  popped_order : InOrder (popped w (open_at w h)) h n from
  popped_order =
      order_by r (lasting_still popped_still) (omega arith)
      (dropped_heads (popped w q) q r refl (popped_head w q (chain_of w q) lk lq ∙ unchained_own w q lk r.sound.room) (λ k b ne. popped_head w q k b lq ∙ unchained_other w q k ne))
      (λ x b. omega (arith, popped_still.left (open_at w x) (order_low r x (omega arith)), r.left x (omega arith)))

pub cleared_order : (h : ℕ) (w : List ℕ) (n from o x : ℕ) → InOrder w h n from → x < h → open_at w x ≡ o → Down (cleared h w o) n from x
cleared_order zero w n from o x r l e = absurd (omega arith)
cleared_order (suc h) w n from o x r l e = go (cleared_order h (popped w (open_at w h)) n from o x (popped_order w h n from r)) (ltb o (open_at w h)) refl
  where
    go : (x < h → open_at (popped w (open_at w h)) x ≡ o → Down (cleared h (popped w (open_at w h)) o) n from x) → (z : Bool) → ltb o (open_at w h) ≡ z → Down (cleared (suc h) w o) n from x
    go ih false f =
        let a : open_at w h ≤ o = ltb-false o (open_at w h) f in
        let y : h ≡ x = among (ltb x h) refl a in
        rw (cleared_stop h w o a, y) (record { order = rw y at r; high = refl })
      where
        among : (z : Bool) → ltb x h ≡ z → open_at w h ≤ o → h ≡ x
        among true q a = absurd (omega (arith, e, r.rise x h (ltb-true x h q) (omega arith)))
        among false q a = let b : h ≤ x = ltb-false x h q in omega arith
    go ih true f =
        let a : o < open_at w h = ltb-true o (open_at w h) f in
        let ne : x ≡ h → ⊥ = λ y. let z : open_at w h ≡ o = ap (λ i. open_at w i) (sym y) ∙ e in omega arith in
        rw (cleared_pop h w o a) (ih (omega arith) ((popped_still w h n from r).stack x (omega (arith, order_high r)) ∙ e))

-- a run is passed
module _ (w : List ℕ) (height n i : ℕ) (r : InOrder w height n i) (l : i < n) where
  abbrev v : List ℕ
  v = passed w height i

  li : i < 1024
  li = omega (arith, r.sound.few)

  lh : height < 1024
  lh = omega (arith, r.sound.few, r.sound.high)

  li_chain : chain_of w i < 6147
  li_chain = r.sound.chains i l

  chain : (j : ℕ) → j < 1024 → chain_of v j ≡ chain_of w j
  chain j b = passed_word w height i li lh li_chain r.sound.room (j * 16 + 8) (λ y z. omega arith) (λ y z. omega (arith, li_chain)) (λ y z. omega (arith, lh))

  left : (j : ℕ) → j < 1024 → left_of v j ≡ left_of w j
  left j b = passed_word w height i li lh li_chain r.sound.room (j * 16 + 2) (λ y z. omega arith) (λ y z. omega (arith, li_chain)) (λ y z. omega (arith, lh))

  old : (x : ℕ) → x < height → open_at v x ≡ open_at w x
  old x b = passed_open_other w height i li lh li_chain r.sound.room x (omega (arith, lh)) (λ y. omega arith)

  link : (x : ℕ) → x < height → link_of v (open_at w x) ≡ link_of w (open_at w x)
  link x b = passed_link_other w height i li lh li_chain r.sound.room (open_at w x) (order_low r x b) (λ y. omega (arith, r.earlier x b))

  open_passed : {k h p : ℕ} → h ≤ height → OpenOn w k h p → OpenOn v k h p
  open_passed m o =
      let b : o.place < height = omega (arith, o.below) in
      let e : open_at v o.place ≡ open_at w o.place = old o.place b in
      record { place = o.place; below = o.below; stands = ap (λ y. y + 1) e ∙ o.stands; chain = ap (λ y. chain_of v y) e ∙ chain (open_at w o.place) (order_low r o.place b) ∙ o.chain }

  sound : Sound v (raised w height i) n (i + 1)
  sound = passed_sound w height n i r.sound l

  -- one that does not open
  unopened : opening w i ≡ false → InOrder v (raised w height i) n (i + 1)
  unopened e =
      let a : passed w height i ≡ w = passed_off w height i e in
      let b : raised w height i ≡ height = raised_off w height i e in
      let s : Sound w height n (i + 1) = rw (a, b) at sound in
      rw (a, b) (record { sound = s; earlier = λ x d. omega (arith, r.earlier x d); rise = r.rise; left = r.left; heads = r.heads; links = r.links })

  -- one that opens: it is on top, and the head of its chain
  module _ (e : opening w i ≡ true) where
    new : open_at v height ≡ i
    new = passed_open_same w height i li lh li_chain r.sound.room e

    some : 0 < left_of w i
    unfolding opening
    some = ltb-true 0 (left_of w i) (and_left (ltb 0 (left_of w i)) (opens_of w i) e)

    -- each of the open runs is one of the old, or the new
    each : (A : ℕ → Type 0) → ((x : ℕ) → x < height → A x) → A height → (x : ℕ) → x < height + 1 → A x
    each A f t x b = go (eqb x height) refl
      where
        go : (z : Bool) → eqb x height ≡ z → A x
        go true q = let y : x ≡ height = eqb-true x height q in rw y t
        go false q = let y : x ≡ height → ⊥ = eqb-false x height q in f x (omega arith)

    own_head : head_of v (chain_of w i) ≡ i + 1
    own_head = passed_head_same w height i li lh li_chain r.sound.room e

    heads : (k : ℕ) → k < 6147 → 0 < head_of v k → OpenOn v k (height + 1) (head_of v k)
    heads k b p = go (eqb (chain_of w i) k) refl
      where
        go : (z : Bool) → eqb (chain_of w i) k ≡ z → OpenOn v k (height + 1) (head_of v k)
        go true q =
            let y : chain_of w i ≡ k = eqb-true (chain_of w i) k q in
            record { place = height; below = omega arith; stands = ap (λ j. j + 1) new ∙ sym (ap (λ j. head_of v j) (sym y) ∙ own_head); chain = ap (λ j. chain_of v j) new ∙ chain i li ∙ y }
        go false q =
            let y : chain_of w i ≡ k → ⊥ = eqb-false (chain_of w i) k q in
            let f : head_of v k ≡ head_of w k = passed_head_other w height i li lh li_chain r.sound.room k b (λ _ z. y z) in
            rw f (open_wider (open_passed (omega arith) (r.heads k b (omega arith))) (omega arith))

    links : (x : ℕ) → x < height + 1 → 0 < link_of v (open_at v x) → OpenOn v (chain_of v (open_at v x)) x (link_of v (open_at v x))
    links = each (λ x. 0 < link_of v (open_at v x) → OpenOn v (chain_of v (open_at v x)) x (link_of v (open_at v x))) below top
      where
        below : (x : ℕ) → x < height → 0 < link_of v (open_at v x) → OpenOn v (chain_of v (open_at v x)) x (link_of v (open_at v x))
        below x b p =
            let q : 0 < link_of w (open_at w x) = rw (old x b, link x b) at p in
            rw (old x b, link x b, chain (open_at w x) (order_low r x b)) (open_passed (omega arith) (r.links x b q))

        top : 0 < link_of v (open_at v height) → OpenOn v (chain_of v (open_at v height)) height (link_of v (open_at v height))
        top p =
            let f : link_of v i ≡ first w i = passed_link_same w height i li lh li_chain r.sound.room e in
            let q : 0 < first w i = rw (new, f) at p in
            rw (new, f, chain i li) (open_passed (omega arith) (r.heads (chain_of w i) li_chain q))

    opened : InOrder v (height + 1) n (i + 1)
    opened =
        record {
          sound = rw (raised_on w height i e) at sound;
          earlier = each (λ x. open_at v x < i + 1) (λ x b. omega (arith, old x b, r.earlier x b)) (omega (arith, new));
          rise =
              λ x y a b.
              each (λ y. x < y → open_at v x < open_at v y) (λ y b a. omega (arith, old x (omega arith), old y b, r.rise x y a b))
              (λ a. omega (arith, old x a, r.earlier x a, new)) y b a;
          left =
              each (λ x. 0 < left_of v (open_at v x)) (λ x b. rw (old x b) (omega (arith, left (open_at w x) (order_low r x b), r.left x b)))
              (rw new (omega (arith, left i li, some)));
          heads = heads;
          links = links;
        }

  pub passed_order : InOrder (passed w height i) (raised w height i) n (i + 1)
  passed_order = go (opening w i) refl
    where
      go : (z : Bool) → opening w i ≡ z → InOrder (passed w height i) (raised w height i) n (i + 1)
      go true e = rw (raised_on w height i e) (opened e)
      go false e = unopened e

-- how many candidates were tried
abbrev pub look_tried : Look → ℕ
look_tried (hit o u) = u
look_tried (miss u) = u

abbrev pub tried_by : Next → ℕ
tried_by (Match o c u) = u
tried_by (Done u) = u

-- a search down a chain: what it hits is open, and how many it tries
down_open : (k : ℕ) (rule : Rule) (w : List ℕ) (height n from i p t o u ch : ℕ) → InOrder w height n from → (0 < p → OpenOn w ch height p) → down k rule w i p t ≡ hit o u → OpenOn w ch height (o + 1)
unfolding choose
down_open zero rule w height n from i p t o u ch r s e = absurd (hit_miss (sym e ∙ down_zero rule w i p t))
down_open (suc k) rule w height n from i p t o u ch r s e = go (down_open k rule w height n from i (link_of w (p - 1)) (t + 1) o u ch r) (eqb p 0) refl (takes_at rule w (p - 1) i) refl
  where
    f : choose (eqb p 0) (miss t) (choose (takes_at rule w (p - 1) i) (hit (p - 1) (t + 1)) (down k rule w i (link_of w (p - 1)) (t + 1))) ≡ hit o u
    f = sym (down_suc k rule w i p t) ∙ e

    go : ((0 < link_of w (p - 1) → OpenOn w ch height (link_of w (p - 1))) → down k rule w i (link_of w (p - 1)) (t + 1) ≡ hit o u → OpenOn w ch height (o + 1))
        → (y : Bool) → eqb p 0 ≡ y → (z : Bool) → takes_at rule w (p - 1) i ≡ z → OpenOn w ch height (o + 1)
    go ih true a z b = let g : miss t ≡ hit o u = rw a at f in absurd (hit_miss (sym g))
    go ih false a true b =
        let ne : p ≡ 0 → ⊥ = eqb-false p 0 a in
        let g : hit (p - 1) (t + 1) ≡ hit o u = rw (a, b) at f in
        let h : p - 1 ≡ o = cc in
        let q : p ≡ o + 1 = omega arith in
        rw q at (s (omega arith))
    go ih false a false b =
        let ne : p ≡ 0 → ⊥ = eqb-false p 0 a in
        ih (next (s (omega arith))) (rw (a, b) at f)
      where
        next : OpenOn w ch height p → 0 < link_of w (p - 1) → OpenOn w ch height (link_of w (p - 1))
        next q l =
            let h : p - 1 ≡ open_at w q.place = omega (arith, q.stands) in
            let l' : 0 < link_of w (open_at w q.place) = rw h at l in
            rw (h, ← q.chain) (open_wider (r.links q.place q.below l') (omega (arith, q.below)))

down_count : (k : ℕ) (rule : Rule) (w : List ℕ) (i p t : ℕ) → look_tried (down k rule w i p t) ≤ t + k
unfolding choose
down_count zero rule w i p t = rw (down_zero rule w i p t) (omega arith)
down_count (suc k) rule w i p t = rw (down_suc k rule w i p t) (go (down_count k rule w i (link_of w (p - 1)) (t + 1)) (eqb p 0) (takes_at rule w (p - 1) i))
  where
    go : look_tried (down k rule w i (link_of w (p - 1)) (t + 1)) ≤ t + 1 + k → (y z : Bool)
        → look_tried (choose y (miss t) (choose z (hit (p - 1) (t + 1)) (down k rule w i (link_of w (p - 1)) (t + 1)))) ≤ t + suc k
    go q true z = omega arith
    go q false true = omega arith
    go q false false = omega arith

-- what a walk finds: a closer with markers left, and an open run of its chain
pub record Meets (w : List ℕ) (height i m o c : ℕ) : Type 0 where
  pub from : i ≤ c
  pub within : c < i + m
  pub some : 0 < left_of w c
  pub opener : OpenOn w (chain_of w c) height (o + 1)

module _ (rule : Rule) (w : List ℕ) (height n i t : ℕ) (r : InOrder w height n i) (l : i < n) where
  closing_left : closing w i ≡ true → 0 < left_of w i
  unfolding closing
  closing_left q = ltb-true 0 (left_of w i) (and_left (ltb 0 (left_of w i)) (closes_of w i) q)

  seek_meets : (m o u : ℕ) → 0 < m → seek rule w i t ≡ hit o u → Meets w height i m o i
  seek_meets m o u h e = go (closing w i) refl
    where
      go : (z : Bool) → closing w i ≡ z → Meets w height i m o i
      go true q =
          record {
            from = omega arith;
            within = omega arith;
            some = closing_left q;
            opener = down_open (first w i) rule w height n i i (first w i) t o u (chain_of w i) r (r.heads (chain_of w i) (r.sound.chains i l)) (sym (seek_closing rule w i t q) ∙ e);
          }
      go false q = absurd (hit_miss (sym e ∙ seek_not rule w i t q))

  seek_count : look_tried (seek rule w i t) ≤ t + 1024
  seek_count = go (closing w i) refl
    where
      go : (z : Bool) → closing w i ≡ z → look_tried (seek rule w i t) ≤ t + 1024
      go true q = rw (seek_closing rule w i t q) (omega (arith, down_count (first w i) rule w i (first w i) t, r.sound.heads (chain_of w i) (r.sound.chains i l), r.sound.few))
      go false q = rw (seek_not rule w i t q) (omega arith)

-- what a walk over m runs from i on leaves
pub record Walks (n m i t : ℕ) (x : Next × (List ℕ × ℕ)) : Type 0 where
  pub order : InOrder x.1.0 x.1.1 n (reach x.0 (i + m))
  pub count : tried_by x.0 ≤ t + m * 1024
  pub meets : (o c u : ℕ) → x.0 ≡ Match o c u → Meets x.1.0 x.1.1 i m o c

-- at its end, at a run where an opener is found, and past one where none is
walks_none : {w : List ℕ} {height n i t : ℕ} → InOrder w height n i → Walks n 0 i t (Done t, (w, height))
walks_none {w} {height} {n} {i} {t} r = let e : i + 0 ≡ i = omega arith in record { order = rw e r; count = omega arith; meets = λ o c u z. absurd (match_done (sym z)) }

walks_hit : {w : List ℕ} {height n m i t o u : ℕ} → InOrder w height n i → u ≤ t + 1024 → Meets w height i (suc m) o i → Walks n (suc m) i t (Match o i u, (w, height))
walks_hit {w} {height} {n} {m} {i} {t} {o} {u} r b f = record { order = r; count = omega arith; meets = met }
  where
    met : (p c v : ℕ) → Match o i u ≡ Match p c v → Meets w height i (suc m) p c
    met p c v z =
        let eo : o ≡ p = cc in
        let ec : i ≡ c = cc in
        rw (← eo, ← ec) f

walks_miss : {n m i t u : ℕ} {x : Next × (List ℕ × ℕ)} → u ≤ t + 1024 → Walks n m (i + 1) u x → Walks n (suc m) i t x
walks_miss {n} {m} {i} {t} {u} {x} b a =
    let d : i + 1 + m ≡ i + suc m = omega arith in
    record {
      order = rw d at a.order;
      count = omega (arith, a.count);
      meets = λ o c v z. let f = a.meets o c v z in record { from = omega (arith, f.from); within = omega (arith, f.within); some = f.some; opener = f.opener };
    }

module _ (m : ℕ) (rule : Rule) (w : List ℕ) (height n i t : ℕ) (r : InOrder w height n i) (h : i + suc m ≤ n) where
  low : i < n
  low = omega arith

  on : i + 1 + m ≤ n
  on = omega arith

  next : InOrder (passed w height i) (raised w height i) n (i + 1)
  next = passed_order w height n i r low

  tried : look_tried (seek rule w i t) ≤ t + 1024
  tried = seek_count rule w height n i t r low

  walks_at : ((u : ℕ) → Walks n m (i + 1) u (onward m rule (passed w height i) (raised w height i) (i + 1) u)) → Walks n (suc m) i t (onward (suc m) rule w height i t)
  walks_at ih = rw onward_suc (go (seek rule w i t) refl)
    where
      go : (y : Look) → seek rule w i t ≡ y
          → Walks n (suc m) i t (settle (seek rule w i t) (λ o u. (Match o i u, (w, height))) (λ u. onward m rule (passed w height i) (raised w height i) (i + 1) u))
      go (hit o u) e = rw e (walks_hit r (rw e at tried) (seek_meets rule w height n i t r low (suc m) o u (omega arith) e))
      go (miss u) e = rw e (walks_miss (rw e at tried) (ih u))

pub onward_walks : (m : ℕ) (rule : Rule) (w : List ℕ) (height n i t : ℕ) → InOrder w height n i → i + m ≤ n → Walks n m i t (onward m rule w height i t)
onward_walks zero rule w height n i t r h = rw onward_zero (walks_none r)
onward_walks (suc m) rule w height n i t r h =
    walks_at m rule w height n i t r h
    (λ u. onward_walks m rule (passed w height i) (raised w height i) n (i + 1) u (next m rule w height n i t r h) (on m rule w height n i t r h))

-- what is found can be taken
pub takable : {w : List ℕ} {height n c o k g : ℕ} → InOrder w height n c → c < n → 0 < left_of w c → OpenOn w k height (o + 1) → g < 1000 → Takable w height o c g
takable {w} {height} {n} {c} {o} r l s p f =
    let e : open_at w p.place ≡ o = omega (arith, p.stands) in
    record {
      ranged = record { room = r.sound.room; low = order_high r; runs = order_low r; chains = order_chain r };
      before = omega (arith, r.earlier p.place p.below);
      within = omega (arith, r.sound.few);
      some = rw e at (r.left p.place p.below);
      some' = s;
      few = f;
      place = p.place;
      below = p.below;
      stands = e;
    }

-- after a match all is in order again, at the closer
module _ (w : List ℕ) (height n o c g : ℕ) (r : InOrder w height n c) (t : Takable w height o c g) where
  abbrev after : List ℕ
  after = (matched_at w height o c g).0

  abbrev by : List ℕ
  by = (cleared height w o).0

  down_to : Down (cleared height w o) n c t.place
  down_to = cleared_order height w n c o t.place r t.below t.stands

  lasting : Lasting w by
  lasting = cleared_lasting height w o t.ranged

  high : t.place < 1024
  high = omega (arith, t.below, order_high r)

  on_top : open_at by t.place ≡ o
  on_top = lasting.stack t.place high ∙ t.stands

  still : Still by after
  unfolding matched_at
  still =
      record {
        len = match_length w height o c g t ∙ sym lasting.len;
        chain = λ j h. (match_runs w height o c g t).chain j h ∙ sym (lasting.runs.chain j h);
        link = λ j h. match_links w height o c g t j h ∙ sym (lasting.links j h);
        stack = λ y h. match_stack w height o c g t y h ∙ sym (lasting.stack y h);
      }

  left_other : (j : ℕ) → j < 1024 → (j ≡ o → ⊥) → (j ≡ c → ⊥) → left_of after j ≡ left_of by j
  unfolding matched_at
  left_other j h d e = match_left_other w height o c g t j h d e ∙ sym (lasting.left j h)

  left_opener : left_of after o ≡ left_of w o - taken_at w o c
  unfolding matched_at
  left_opener = match_left_own w height o c g t

  height_then : (matched_at w height o c g).1 ≡ lowered (cleared height w o).1 (left_of w o) (taken_at w o c)
  unfolding matched_at
  height_then = refl

  head : (k : ℕ) → k < 6147 → head_of after k ≡ head_of (leaves by o (left_of w o) (taken_at w o c)) k
  unfolding matched_at
  head k h = (match_chains w height o c g t).head k h

  -- the open runs below the opener have what they had
  left_below : (y : ℕ) → y < t.place → 0 < left_of after (open_at by y)
  left_below y b =
      let d = down_to.order in
      omega (
        arith,
        left_other (open_at by y) (order_low d y (omega arith)) (λ q. omega (arith, on_top, d.rise y t.place b (omega arith))) (λ q. omega (arith, d.earlier y (omega arith))),
        d.left y (omega arith),
      )

  -- the opener is emptied
  gone : left_of w o ≡ taken_at w o c → InOrder after t.place n c
  gone e =
      let d = down_to.order in
      let lk : chain_of by o < 6147 = match_chain w height o c g t in
      let f : leaves by o (left_of w o) (taken_at w o c) ≡ unchained by o = leaves_on by o (left_of w o) (taken_at w o c) e in
      order_by d still (omega arith)
      (dropped_heads after o d (sym on_top) (head (chain_of by o) lk ∙ ap (λ z. head_of z (chain_of by o)) f ∙ unchained_own by o lk d.sound.room) (λ k b ne. head k b ∙ ap (λ z. head_of z k) f ∙ unchained_other by o k ne))
      left_below

  -- or has markers left
  stays : (left_of w o ≡ taken_at w o c → ⊥) → InOrder after (suc t.place) n c
  stays e =
      let d = down_to.order in
      let f : leaves by o (left_of w o) (taken_at w o c) ≡ by = leaves_off by o (left_of w o) (taken_at w o c) e in
      order_by d still (omega arith)
      (λ k b p. let q : head_of after k ≡ head_of by k = head k b ∙ ap (λ z. head_of z k) f in rw q (d.heads k b (omega arith)))
      left
    where
      left : (y : ℕ) → y < suc t.place → 0 < left_of after (open_at by y)
      left y b = go (eqb y t.place) refl
        where
          go : (z : Bool) → eqb y t.place ≡ z → 0 < left_of after (open_at by y)
          go true q =
              let z : open_at by y ≡ o = ap (λ i. open_at by i) (eqb-true y t.place q) ∙ on_top in
              rw z (omega (arith, left_opener, e, match_amount w height o c g t))
          go false q = let z : y ≡ t.place → ⊥ = eqb-false y t.place q in left_below y (omega arith)

  pub match_order : InOrder (matched_at w height o c g).0 (matched_at w height o c g).1 n c
  match_order = go (eqb (left_of w o) (taken_at w o c)) refl
    where
      go : (z : Bool) → eqb (left_of w o) (taken_at w o c) ≡ z → InOrder (matched_at w height o c g).0 (matched_at w height o c g).1 n c
      go true e =
          let q : left_of w o ≡ taken_at w o c = eqb-true (left_of w o) (taken_at w o c) e in
          let s : suc t.place - 1 ≡ t.place = omega arith in
          let h : (matched_at w height o c g).1 ≡ t.place = height_then ∙ lowered_on (cleared height w o).1 (left_of w o) (taken_at w o c) q ∙ ap (λ i. i - 1) down_to.high ∙ s in
          rw h (gone q)
      go false e =
          let q : left_of w o ≡ taken_at w o c → ⊥ = eqb-false (left_of w o) (taken_at w o c) e in
          let h : (matched_at w height o c g).1 ≡ suc t.place = height_then ∙ lowered_off (cleared height w o).1 (left_of w o) (taken_at w o c) q ∙ down_to.high in
          rw h (stays q)

-- memory that is ready for some runs is in order
module _ (w : List ℕ) (height : ℕ) (rs : List Standing) (gs : List Group) (n i : ℕ) (r : Ready w height rs gs n i) where
  at_height : (x : ℕ) → x < height → Place rs i x
  at_height x h = place rs i x (omega (arith, r.listed.high))

  stands : (x : ℕ) → x < height → (p : Place rs i x) → open_at w x ≡ p.run
  stands x h p = ap (λ y. open_at w y) (sym p.count) ∙ r.listed.stack p.run p.below p.opens

  -- a run before q that is on a chain is open, below the count of those before q
  listed_open : (k q p : ℕ) → q ≤ i → Named rs k q p → OpenOn w k (openers rs q) p
  listed_open k q p l a =
      let b = a.below in
      let e : open_at w (openers rs a.run) ≡ a.run = r.listed.stack a.run (omega arith) (on_opener rs k a.run a.there) in
      record {
        place = openers rs a.run;
        below = openers_past rs a.run q b (on_opener rs k a.run a.there);
        stands = ap (λ y. y + 1) e ∙ a.is;
        chain = ap (λ y. chain_of w y) e ∙ r.reads.chain a.run (omega (arith, r.within)) ∙ on_chain rs k a.run a.there;
      }

  pub ready_open : (o : ℕ) → o < i → opener (at rs o) ≡ true → OpenOn w (chain_of w o) height (o + 1)
  ready_open o l op =
      let e : open_at w (openers rs o) ≡ o = r.listed.stack o l op in
      record { place = openers rs o; below = omega (arith, r.listed.high, openers_past rs o i l op); stands = ap (λ y. y + 1) e; chain = ap (λ y. chain_of w y) e }

  pub ready_order : InOrder w height n i
  ready_order =
      record {
        sound = ready_sound w height rs gs n i r;
        earlier = λ x h. omega (arith, stands x h (at_height x h), (at_height x h).below);
        rise = rise;
        left = λ x h. left x h (at_height x h);
        heads = λ k h p. rw (r.listed.high, r.listed.heads k h) (listed_open k i (latest rs k i) (omega arith) (latest_named rs k i (latest rs k i) refl (omega (arith, r.listed.heads k h))));
        links = λ x h. links x h (at_height x h);
      }
    where
      rise : (x y : ℕ) → x < y → y < height → open_at w x < open_at w y
      rise x y a h = go (at_height x (omega arith)) (at_height y h)
        where
          go : Place rs i x → Place rs i y → open_at w x < open_at w y
          go p q = order (ltb p.run q.run) refl
            where
              order : (z : Bool) → ltb p.run q.run ≡ z → open_at w x < open_at w y
              order true e = omega (arith, ltb-true p.run q.run e, stands x (omega arith) p, stands y h q)
              order false e = absurd (again (ltb q.run p.run) refl)
                where
                  again : (z : Bool) → ltb q.run p.run ≡ z → ⊥
                  again true f = omega (arith, openers_past rs q.run p.run (ltb-true q.run p.run f) q.opens, p.count, q.count)
                  again false f =
                      let u : p.run ≡ q.run = omega (arith, ltb-false p.run q.run e, ltb-false q.run p.run f) in
                      let z : openers rs p.run ≡ openers rs q.run = ap (λ j. openers rs j) u in
                      omega (arith, p.count, q.count)

      left : (x : ℕ) → x < height → Place rs i x → 0 < left_of w (open_at w x)
      left x h p = rw (stands x h p) (omega (arith, r.reads.left p.run (omega (arith, p.below, r.within)), opener_left (at rs p.run) p.opens))

      links : (x : ℕ) → x < height → Place rs i x → 0 < link_of w (open_at w x) → OpenOn w (chain_of w (open_at w x)) x (link_of w (open_at w x))
      links x h p l =
          let b = p.below in
          let e : open_at w x ≡ p.run = stands x h p in
          let f : link_of w p.run ≡ latest rs (chain_number (at rs p.run)) p.run = r.listed.links p.run b p.opens in
          let d : chain_of w p.run ≡ chain_number (at rs p.run) = r.reads.chain p.run (omega (arith, r.within)) in
          let l' : 0 < latest rs (chain_number (at rs p.run)) p.run = rw (e, f) at l in
          rw (e, f, d, ← p.count)
          (listed_open (chain_number (at rs p.run)) p.run (latest rs (chain_number (at rs p.run)) p.run) (omega arith) (latest_named rs (chain_number (at rs p.run)) p.run (latest rs (chain_number (at rs p.run)) p.run) refl l'))
