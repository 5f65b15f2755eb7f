-- One closer, turn by turn: what the loop keeps, by the memory alone; and what going along the chains comes to where the memory has runs.
-- Invariant of the loop: the memory is in order at the run to go on from, and going along the chains from here comes to the same as from the start.
-- Measure: the groups for which there is still room.
--     keeps-..                  the loop
--     handled-by-closer-by      on memory that is ready for some runs, `closer_by` finishes the closer as the plain rule does
-- Assumes nothing.
use Prim.Native.Nat.{ℕ, zero, suc, ◌+◌, ◌-◌, ◌*◌, ◌<◌, ◌≤◌}
use mathlib.Core.Path.{◌≡◌, refl, ◌∙◌, sym, ap}
use mathlib.Core.List.{List, [], ◌∷◌}
use mathlib.Core.Bool.{Bool, true, false}
use native.Mathlib.Omega.{arith}
use lib.Dec.{eqb}
use lib.ListN.{length, length-append}
use borrow.Author.Tests.{eqb-true, eqb-false}
use Rattle.std.specs.Prelude.{Result, Ok, Err}
use Rattle.runs.specs.declared.Next.{Next}
use Rattle.runs.specs.declared.Next.TheVariants.{Match, Done}
use Rattle.runs.specs.Rule.{Rule}
use Rattle.runs.specs.Plain.{Standing, Group, group, at, forth, taken_by, matched, total}
use Rattle.chains.specs.Walk.{onward, Sound}
use Rattle.chains.specs.Step.{matched_at, Takable}
use Rattle.matcher.specs.State.{Ready, InOrder}
use Rattle.matcher.specs.Closer.{finish, closer_from}
use Rattle.matcher.specs.Along.{closer_by, closed_at, too_many}
use Rattle.matcher.specs.declared.closers.Closed.{Closed}
use Rattle.matcher.specs.declared.closers.TooMany.{TooMany}
use Rattle.matcher.specs.Promise.{Begun, Handled}
use Rattle.matcher.proofs.Ways.{done_way, full_way, again_way}
use Rattle.matcher.proofs.Chained.{Went, onward_went, reach}
use Rattle.matcher.proofs.Order.{tried_by, Meets, Walks, onward_walks, takable, match_order, ready_order}
use Rattle.matcher.proofs.Taken.{match_ready}
use Rattle.matcher.proofs.Rounds.{Found, forth_found, and_group, finish_match, finish_done, finish_longer}

-- a walk up to some run, in memory that is in order
module _ (rule : Rule) {w : List ℕ} {held n at until : ℕ} (r : InOrder w held n at) (upto : at ≤ until) (within : until ≤ n) {x : Next} {w₁ : List ℕ} {h₁ : ℕ}
    (e : (x, (w₁, h₁)) ≡ onward (until - at) rule w held at 0) where
  walks : Walks n (until - at) at 0 (x, (w₁, h₁))
  walks = rw (← e) at (onward_walks (until - at) rule w held n at 0 r (omega arith))

  tried_few : tried_by x ≤ 1048576
  tried_few = omega (arith, walks.count, r.sound.few)

  walk_done_few : {u : ℕ} → x ≡ Done u → u ≤ 1048576
  walk_done_few d = rw d at tried_few

  module _ {o c u : ℕ} (d : x ≡ Match o c u) where
    walk_few : u ≤ 1048576
    walk_few = rw d at tried_few

    met : Meets w₁ h₁ at (until - at) o c
    met = walks.meets o c u d

    walk_order : InOrder w₁ h₁ n c
    walk_order = rw d at walks.order

    walk_below : c < n
    walk_below = omega (arith, met.within)

    walk_takable : {g : ℕ} → g < 1000 → Takable w₁ h₁ o c g
    walk_takable l = takable walk_order walk_below met.some met.opener l

-- the loop
pub record Keeps (rule : Rule) (w₀ : List ℕ) (height n from groups tried : ℕ) (w : List ℕ) (at until held made count : ℕ) : Type 0 where
  pub order : InOrder w held n at
  pub upto : at ≤ until
  pub within : until ≤ n
  pub low : from < n
  pub room : made ≤ 1000
  pub few : count ≤ (made + from) * 1048576
  pub len : length w ≡ length w₀
  pub way : closer_by rule w₀ height from n groups tried ≡ closer_by rule w held at until made count

pub keeps_start : {rule : Rule} {w : List ℕ} {height n from groups tried : ℕ} → Begun w height n from groups tried → Keeps rule w height n from groups tried w from n height groups tried
keeps_start {rule} {w} {height} {n} {from} {groups} {tried} b =
    record { order = b.order; upto = b.order.sound.within; within = omega arith; low = b.more; room = b.room; few = b.few; len = refl; way = refl }

module _ {rule : Rule} {w₀ : List ℕ} {height n from groups tried : ℕ} {w : List ℕ} {at until held made count : ℕ} (k : Keeps rule w₀ height n from groups tried w at until held made count) where
  -- fewer runs in sight
  pub keeps_sound : Sound w held until at
  keeps_sound =
      let s = k.order.sound in
      record {
        room = s.room;
        few = omega (arith, s.few, k.within);
        within = k.upto;
        links = λ i h. s.links i (omega (arith, k.within));
        chains = λ i h. s.chains i (omega (arith, k.within));
        heads = s.heads;
        high = s.high;
      }

  -- there is room for what is counted
  pub keeps_small : (from < 1024) × ((made ≤ 1000) × (count ≤ (made + from) * 1048576))
  keeps_small = (omega (arith, k.low, k.order.sound.few), (k.room, k.few))

  module _ {x : Next} {w₁ : List ℕ} {h₁ : ℕ} (e : (x, (w₁, h₁)) ≡ onward (until - at) rule w held at 0) where
    pub keeps_done_few : {u : ℕ} → x ≡ Done u → u ≤ 1048576
    keeps_done_few d = walk_done_few rule k.order k.upto k.within e d

    pub keeps_done : {u : ℕ} → x ≡ Done u → (Ok (closed_at until h₁ made (count + u)), w₁) ≡ closer_by rule w₀ height from n groups tried
    keeps_done d = sym (k.way ∙ done_way rule w held at until made count e d)

    module _ {o c u : ℕ} (d : x ≡ Match o c u) where
      pub keeps_few : u ≤ 1048576
      keeps_few = walk_few rule k.order k.upto k.within e d

      pub keeps_below : c < 1024
      keeps_below = omega (arith, walk_below rule k.order k.upto k.within e d, k.order.sound.few)

      pub keeps_full : made ≡ 1000 → (Err too_many, w₁) ≡ closer_by rule w₀ height from n groups tried
      keeps_full m = sym (k.way ∙ full_way rule w held at until made count e d m)

      module _ (m : made ≡ 1000 → ⊥) where
        pub keeps_takable : Takable w₁ h₁ o c made
        keeps_takable = walk_takable rule k.order k.upto k.within e d (omega (arith, k.room))

        pub keeps_again : {w₂ : List ℕ} {h₂ : ℕ} → (w₂, h₂) ≡ matched_at w₁ h₁ o c made → length w₂ ≡ length w → Keeps rule w₀ height n from groups tried w₂ c (c + 1) h₂ (made + 1) (count + u)
        keeps_again {w₂} {h₂} f l =
            record {
              order = rw (← f) at (match_order w₁ h₁ n o c made (walk_order rule k.order k.upto k.within e d) keeps_takable);
              upto = omega arith;
              within = omega (arith, walk_below rule k.order k.upto k.within e d);
              low = k.low;
              room = omega (arith, k.room);
              few = omega (arith, k.few, keeps_few);
              len = l ∙ k.len;
              way = k.way ∙ again_way rule w held at until made count e d m k.room f;
            }

-- what the memory has now, of what it had at the start
pub record Going (rule : Rule) (rs : List Standing) (gs : List Group) (n from tried : ℕ) (w : List ℕ) (at until held made count : ℕ) : Type 0 where
  pub runs : List Standing
  pub groups : List Group
  pub ready : Ready w held runs groups n at
  pub size : length groups ≡ made
  pub upto : at ≤ until
  pub within : until ≤ n
  pub same : finish (total rs + 1) rule rs from n gs tried ≡ finish (total runs + 1) rule runs at until groups count
  pub on : from < until
  pub start : from ≤ at
  pub few : count ≤ (made + from) * 1048576

module _ {rule : Rule} {rs : List Standing} {gs : List Group} {n from tried : ℕ} {w : List ℕ} {at until held made count : ℕ} (g : Going rule rs gs n from tried w at until held made count) where
  order : InOrder w held n at
  order = ready_order w held g.runs g.groups n at g.ready

  long : length g.runs ≡ n
  long = g.ready.reads.len

  going_room : made ≤ 1000
  going_room = let f = g.ready.grouped.fits in let s = g.size in omega arith

  -- the next match is the plain rule's
  module _ {x : Next} {w₁ : List ℕ} {h₁ : ℕ} (e : (x, (w₁, h₁)) ≡ onward (until - at) rule w held at 0) where
    went : Went rule g.runs g.groups n (until - at) at 0 (x, (w₁, h₁))
    went = rw (← e) at (onward_went (until - at) rule w held g.runs g.groups n at 0 g.ready (omega (arith, g.upto, g.within)))

    there : Ready w₁ h₁ g.runs g.groups n (reach x until)
    there = let z : at + (until - at) ≡ until = omega (arith, g.upto) in rw z at went.ready

    -- none up to there: the closer is finished, or all runs are passed
    module _ {u : ℕ} (d : x ≡ Done u) where
      none : forth rule (until - at) g.runs at 0 ≡ Done u
      none = sym went.next ∙ d

      going_done : length rs ≡ n → Handled rule rs gs n from tried (Ok (closed_at until h₁ made (count + u))) w₁
      unfolding closer_from
      going_done en =
          rw (en, g.same, finish_done rule (total g.runs) g.runs at until g.groups count u none)
          (record {
            at = refl;
            made = sym g.size;
            count = refl;
            ready = rw d at there;
            onward = g.on;
            few = omega (arith, walk_done_few rule order g.upto g.within e d, g.few, g.on);
          })

    -- a match
    module _ {o c u : ℕ} (d : x ≡ Match o c u) where
      one : forth rule (until - at) g.runs at 0 ≡ Match o c u
      one = sym went.next ∙ d

      what : Found g.runs at (until - at) o c
      what = forth_found rule (until - at) g.runs at 0 o c u one

      closer_below : c < n
      closer_below = omega (arith, what.within, g.upto, g.within)

      ready : Ready w₁ h₁ g.runs g.groups n c
      ready = rw d at there

      -- for which there is no room
      going_full : made ≡ 1000 → length rs ≡ n → 1000 < length (closer_from rule rs from gs tried).groups
      unfolding closer_from
      going_full m en =
          rw (en, g.same, finish_match rule g.runs at until g.groups count o c u g.upto (omega (arith, long, g.within)) one)
          (omega (
            arith,
            finish_longer rule (total (matched g.runs o c) + 1) (matched g.runs o c) c (c + 1) (and_group g.groups g.runs o c) (count + u),
            length-append g.groups (group o c (taken_by g.runs o c) ∷ []),
            g.size,
          ))

      module _ (m : (made ≡ 1000) → ⊥) where
        room : length g.groups < 1000
        room = let f = g.ready.grouped.fits in let s = g.size in omega arith

        going_again : {w₂ : List ℕ} {h₂ : ℕ} → (w₂, h₂) ≡ matched_at w₁ h₁ o c made → Going rule rs gs n from tried w₂ c (c + 1) h₂ (made + 1) (count + u)
        going_again {w₂} {h₂} f =
            let f' : (w₂, h₂) ≡ matched_at w₁ h₁ o c (length g.groups) = f ∙ ap (λ y. matched_at w₁ h₁ o c y) (sym g.size) in
            record {
              runs = matched g.runs o c;
              groups = and_group g.groups g.runs o c;
              ready = rw (← f') at (match_ready w₁ h₁ g.runs g.groups n o c ready what.before closer_below what.opens what.closes room);
              size = length-append g.groups (group o c (taken_by g.runs o c) ∷ []) ∙ ap (λ y. y + 1) g.size;
              upto = omega arith;
              within = omega (arith, closer_below);
              same = g.same ∙ finish_match rule g.runs at until g.groups count o c u g.upto (omega (arith, long, g.within)) one;
              on = omega (arith, what.from, g.start);
              start = omega (arith, what.from, g.start);
              few = omega (arith, walk_few rule order g.upto g.within e d, g.few);
            }

-- what going along the chains comes to, turn by turn
module _ (rule : Rule) (rs : List Standing) (gs : List Group) (n from tried : ℕ) (long : length rs ≡ n) (step : Result Closed TooMany) (w' : List ℕ) where
  abbrev Goal : Type 0
  Goal = Handled rule rs gs n from tried step w'

  turn : {w : List ℕ} {at until held made count : ℕ} → Going rule rs gs n from tried w at until held made count → (step, w') ≡ closer_by rule w held at until made count
      → ((made ≡ 1000 → ⊥) → (v : List ℕ) (c h u : ℕ) → Going rule rs gs n from tried v c (c + 1) h (made + 1) u → (step, w') ≡ closer_by rule v h c (c + 1) (made + 1) u → Goal) → Goal
  turn {w} {at} {until} {held} {made} {count} g q on = go (onward (until - at) rule w held at 0) refl
    where
      is : (s : Result Closed TooMany) (v : List ℕ) → closer_by rule w held at until made count ≡ (s, v) → Handled rule rs gs n from tried s v → Goal
      is s v f h =
          let a : step ≡ s = ap (λ y. y.0) (q ∙ f) in
          let b : w' ≡ v = ap (λ y. y.1) (q ∙ f) in
          rw (a, b) h

      go : (y : Next × (List ℕ × ℕ)) → onward (until - at) rule w held at 0 ≡ y → Goal
      go (Done u, (v, h)) e = is (Ok (closed_at until h made (count + u))) v (done_way rule w held at until made count (sym e) refl) (going_done g (sym e) refl long)
      go (Match o c u, (v, h)) e = room (eqb made 1000) refl
        where
          room : (z : Bool) → eqb made 1000 ≡ z → Goal
          room true z = let m : made ≡ 1000 = eqb-true made 1000 z in is (Err too_many) v (full_way rule w held at until made count (sym e) refl m) (going_full g (sym e) refl m long)
          room false z =
              let m : made ≡ 1000 → ⊥ = eqb-false made 1000 z in
              let t = matched_at v h o c made in
              on m t.0 c t.1 (count + u) (going_again g (sym e) refl m refl) (q ∙ again_way rule w held at until made count (sym e) refl m (going_room g) refl)

  handled : (j : ℕ) (w : List ℕ) (at until held made count : ℕ) → 1000 - made ≡ j → Going rule rs gs n from tried w at until held made count → (step, w') ≡ closer_by rule w held at until made count → Goal
  handled zero w at until held made count z g q = turn g q (λ m v c h u g' q'. absurd (m (omega (arith, going_room g))))
  handled (suc j) w at until held made count z g q = turn g q (λ m v c h u g' q'. handled j v c (c + 1) h (made + 1) u (omega arith) g' q')

-- on memory that is ready for some runs
pub handled_by_closer_by : (rule : Rule) {w : List ℕ} {height n from groups tried : ℕ} (step : Result Closed TooMany) (w' : List ℕ) → Begun w height n from groups tried → (step, w') ≡ closer_by rule w height from n groups tried
    → (rs : List Standing) (gs : List Group) → Ready w height rs gs n from → length gs ≡ groups → Handled rule rs gs n from tried step w'
handled_by_closer_by rule {w} {height} {n} {from} {groups} {tried} step w' b q rs gs r e =
    handled rule rs gs n from tried r.reads.len step w' (1000 - groups) w from n height groups tried refl
    (record { runs = rs; groups = gs; ready = r; size = e; upto = r.within; within = omega arith; same = refl; on = b.more; start = omega arith; few = b.few }) q
