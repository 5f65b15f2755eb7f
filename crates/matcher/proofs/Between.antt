-- The open runs above an opener lose open, and then the chains list exactly the runs up to that opener.
--     top                 the top of the open runs is the latest run that can open
--     listed-unchained    a run that is the latest on its chain leaves it: the chains list the runs before it
--     listed-down         runs that cannot open may be left out; listed-move: and runs that cannot open may be put on
--     cleared-clears      all of the loop
-- Assumes nothing.
use Prim.Native.Nat.{ℕ, zero, suc, ◌+◌, ◌-◌, ◌*◌, ◌<◌, ◌≤◌}
use mathlib.Core.Path.{◌≡◌, refl, ◌∙◌, sym, ap}
use mathlib.Core.List.{List}
use mathlib.Core.Bool.{Bool, true, false}
use native.Mathlib.Omega.{arith}
use lib.Dec.{eqb, ltb}
use lib.ListN.{length}
use borrow.Author.Tests.{eqb-true, eqb-false, ltb-true, ltb-false}
use Rattle.record.specs.Choice.{choose}
use Rattle.record.proofs.Bools.{clash}
use Rattle.runs.specs.Plain.{Standing, at, opener}
use Rattle.runs.specs.Chains.{chain_number}
use Rattle.slots.specs.Layout.{opens_of, link_of, head_of, chain_of, open_at}
use Rattle.matcher.specs.Chains.{on, latest, openers, Listed}
use Rattle.chains.specs.Step.{unchained, popped, cleared}
use Rattle.matcher.proofs.Lists.{on_chain, on_yes, latest_off, latest_shut, latest_level, openers_on, openers_past, openers_shut, openers_level, Level, level_less, Shut}
use Rattle.matcher.proofs.Frames.{listed_same}
use Rattle.matcher.proofs.Writes.{popped_opens, popped_chains}
use Rattle.chains.proofs.Pops.{cleared_stop, cleared_pop, unchained_word, unchained_own, unchained_other, popped_own, popped_length, popped_chain}

-- the latest run below b that can open, which is the top of the open runs
pub record Top (rs : List Standing) (b h : ℕ) : Type 0 where
  pub run : ℕ
  pub below : run < b
  pub opens : opener (at rs run) ≡ true
  pub count : openers rs run ≡ h
  pub shut : Shut rs (run + 1) b

pub top : (rs : List Standing) (b h : ℕ) → openers rs b ≡ suc h → Top rs b h
unfolding openers choose
top rs zero h e = absurd (omega arith)
top rs (suc b) h e = go (top rs b h) (opener (at rs b)) refl
  where
    go : (openers rs b ≡ suc h → Top rs b h) → (z : Bool) → opener (at rs b) ≡ z → Top rs (suc b) h
    go ih true o = let f : openers rs b + 1 ≡ suc h = rw o at e in record { run = b; below = omega arith; opens = o; count = omega arith; shut = λ j x y. absurd (omega arith) }
    go ih false o =
        let f : openers rs b ≡ suc h = rw o at e in
        let t = ih f in
        record { run = t.run; below = omega (arith, t.below); opens = t.opens; count = t.count; shut = more t }
      where
        more : (t : Top rs b h) → Shut rs (t.run + 1) (suc b)
        more t j x y = at_last (eqb j b) refl
          where
            at_last : (z : Bool) → eqb j b ≡ z → opener (at rs j) ≡ false
            at_last true w = let q : j ≡ b = eqb-true j b w in rw q o
            at_last false w = let q : j ≡ b → ⊥ = eqb-false j b w in t.shut j x (omega arith)

-- runs that cannot open may be left out
pub listed_down : (w : List ℕ) (height : ℕ) (rs : List Standing) (a b : ℕ) → a ≤ b → Shut rs a b → Listed w height rs b → Listed w height rs a
listed_down w height rs a b h s l =
    let e : a + (b - a) ≡ b = omega arith in
    record {
      heads = λ k x. l.heads k x ∙ rw e at (latest_shut rs k a (b - a) (rw e s));
      links = λ j x o. l.links j (omega arith) o;
      high = l.high ∙ rw e at (openers_shut rs a (b - a) (rw e s));
      stack = λ j x o. l.stack j (omega arith) o;
    }

-- of another list, in which the same runs can open below b, and none from there on
pub listed_move : (w : List ℕ) (height : ℕ) (rs ts : List Standing) (b c : ℕ) → b ≤ c → Level rs ts b → Shut ts b c → Listed w height rs b → Listed w height ts c
listed_move w height rs ts b c h v s l =
    record {
      heads = λ k x. l.heads k x ∙ sym ((rw e at (latest_shut ts k b (c - b) (rw e s))) ∙ latest_level rs ts k b v);
      links = links;
      high = l.high ∙ sym ((rw e at (openers_shut ts b (c - b) (rw e s))) ∙ openers_level rs ts b v);
      stack = stack;
    }
  where
    e : b + (c - b) ≡ c
    e = omega arith

    below : (j : ℕ) → j < c → opener (at ts j) ≡ true → j < b
    below j x o = go (ltb j b) refl
      where
        go : (z : Bool) → ltb j b ≡ z → j < b
        go true q = ltb-true j b q
        go false q = absurd (clash o (s j (ltb-false j b q) x))

    links : (j : ℕ) → j < c → opener (at ts j) ≡ true → link_of w j ≡ latest ts (chain_number (at ts j)) j
    links j x o =
        let y : j < b = below j x o in
        l.links j y (sym (v.opens j y) ∙ o) ∙ sym (latest_level rs ts (chain_number (at ts j)) j (level_less rs ts b j (omega arith) v) ∙ ap (λ k. latest rs k j) (v.chain j y))

    stack : (j : ℕ) → j < c → opener (at ts j) ≡ true → open_at w (openers ts j) ≡ j
    stack j x o =
        let y : j < b = below j x o in
        ap (λ z. open_at w z) (openers_level rs ts j (level_less rs ts b j (omega arith) v)) ∙ l.stack j y (sym (v.opens j y) ∙ o)

-- a run that is the latest on its chain leaves it
module _ (w : List ℕ) (h : ℕ) (rs : List Standing) (q : ℕ) (lq : q < 1024) (ch : chain_of w q ≡ chain_number (at rs q)) (lk : chain_of w q < 6147) (room : 38726 ≤ length w) (op : opener (at rs q) ≡ true) where
  pub listed_unchained : Listed w (suc h) rs (q + 1) → Listed (unchained w q) h rs q
  listed_unchained l =
      record {
        heads = heads;
        links = λ j x o. unchained_word w q (j * 16 + 10) (λ y z. omega arith) ∙ l.links j (omega arith) o;
        high = omega (arith, l.high, openers_on rs q op);
        stack = λ j x o. unchained_word w q (28678 + openers rs j * 2) (λ y z. omega arith) ∙ l.stack j (omega arith) o;
      }
    where
      heads : (k : ℕ) → k < 6147 → head_of (unchained w q) k ≡ latest rs k q
      heads k x = go (on rs k q) refl
        where
          go : (z : Bool) → on rs k q ≡ z → head_of (unchained w q) k ≡ latest rs k q
          go true e =
              let c : chain_of w q ≡ k = ch ∙ on_chain rs k q e in
              ap (λ y. head_of (unchained w q) y) (sym c) ∙ unchained_own w q lk room ∙ l.links q (omega arith) op ∙ ap (λ y. latest rs y q) (on_chain rs k q e)
          go false e =
              unchained_other w q k (λ y. clash (on_yes rs k q op (sym ch ∙ y)) e) ∙ l.heads k x ∙ latest_off rs q k e

-- what the loop over the open runs comes to, besides what it leaves as it was
pub record Clears (w : List ℕ) (rs : List Standing) (o b : ℕ) (v : List ℕ) (h : ℕ) : Type 0 where
  pub kept : (j : ℕ) → j < 1024 → (o < j → j < b → opener (at rs j) ≡ true → ⊥) → opens_of v j ≡ opens_of w j
  pub shut : (j : ℕ) → o < j → j < b → opener (at rs j) ≡ true → opens_of v j ≡ false
  pub listed : Listed v h rs (o + 1)

abbrev Clearing : ℕ → Type 0
Clearing h = (w : List ℕ) (rs : List Standing) (o b : ℕ) → b ≤ 1024 → 38726 ≤ length w → ((j : ℕ) → j < b → chain_of w j < 6147)
    → ((j : ℕ) → j < b → chain_of w j ≡ chain_number (at rs j)) → o < b → opener (at rs o) ≡ true → Listed w h rs b → Clears w rs o b (cleared h w o).0 (cleared h w o).1

pub cleared_clears : (h : ℕ) → Clearing h
cleared_clears zero w rs o b lb room lk ch l op ls = absurd (omega (arith, ls.high, openers_past rs o b l op))
cleared_clears (suc h) w rs o b lb room lk ch l op ls = go (cleared_clears h) (top rs b h (sym ls.high))
  where
    go : Clearing h → Top rs b h → Clears w rs o b (cleared (suc h) w o).0 (cleared (suc h) w o).1
    go ih t = by (ltb o (open_at w h)) refl
      where
        tops : open_at w h ≡ t.run
        tops = ap (λ x. open_at w x) (sym t.count) ∙ ls.stack t.run t.below t.opens

        lq : t.run < 1024
        lq = omega (arith, t.below)

        kq : chain_of w t.run < 6147
        kq = lk t.run t.below

        low : Listed w (suc h) rs (t.run + 1)
        low = listed_down w (suc h) rs (t.run + 1) b (omega (arith, t.below)) t.shut ls

        by : (z : Bool) → ltb o (open_at w h) ≡ z → Clears w rs o b (cleared (suc h) w o).0 (cleared (suc h) w o).1
        by false e =
            let f : open_at w h ≤ o = ltb-false o (open_at w h) e in
            rw (cleared_stop h w o f) (record {
              kept = λ j x n. refl;
              shut = λ j x y z. absurd (clash z (t.shut j (omega (arith, tops)) y));
              listed = rw here at low;
            })
          where
            here : t.run ≡ o
            here = among (ltb t.run o) refl
              where
                among : (z : Bool) → ltb t.run o ≡ z → t.run ≡ o
                among true x = absurd (clash op (t.shut o (omega (arith, ltb-true t.run o x)) l))
                among false x = let y : o ≤ t.run = ltb-false t.run o x in omega (arith, tops, ltb-false o (open_at w h) e)
        by true e =
            let f : o < open_at w h = ltb-true o (open_at w h) e in
            let oq : o < t.run = omega (arith, tops) in
            let lv : Listed (popped w t.run) h rs t.run = listed_same (unchained w t.run) (popped w t.run) h rs t.run (omega arith) (popped_chains w t.run lq kq) (listed_unchained w h rs t.run lq (ch t.run t.below) kq room t.opens low) in
            let i =
            ih (popped w t.run) rs o t.run (omega arith) (omega (arith, popped_length w t.run))
            (λ j x. omega (arith, popped_chain w t.run j (omega arith) lq kq, lk j (omega (arith, t.below))))
            (λ j x. popped_chain w t.run j (omega arith) lq kq ∙ ch j (omega (arith, t.below))) oq op lv in
            rw (cleared_pop h w o f, tops) (record {
              kept = λ j x n. i.kept j x (λ a y z. n a (omega (arith, t.below)) z) ∙ popped_opens w t.run lq kq j x (λ y. n (omega arith) (omega (arith, t.below)) (rw y t.opens));
              shut = shut i.kept i.shut;
              listed = i.listed;
            })
          where
            shut : ((j : ℕ) → j < 1024 → (o < j → j < t.run → opener (at rs j) ≡ true → ⊥) → opens_of (cleared h (popped w t.run) o).0 j ≡ opens_of (popped w t.run) j)
                → ((j : ℕ) → o < j → j < t.run → opener (at rs j) ≡ true → opens_of (cleared h (popped w t.run) o).0 j ≡ false)
                → (j : ℕ) → o < j → j < b → opener (at rs j) ≡ true → opens_of (cleared h (popped w t.run) o).0 j ≡ false
            shut kept below j x y z = which (ltb j t.run) refl (eqb j t.run) refl
              where
                which : (a : Bool) → ltb j t.run ≡ a → (c : Bool) → eqb j t.run ≡ c → opens_of (cleared h (popped w t.run) o).0 j ≡ false
                which true a c d = below j x (ltb-true j t.run a) z
                which false a true d =
                    let s : j ≡ t.run = eqb-true j t.run d in
                    kept j (omega arith) (λ p r u. omega arith) ∙ rw s (popped_own w t.run lq room)
                which false a false d =
                    let s : j ≡ t.run → ⊥ = eqb-false j t.run d in
                    let r : t.run ≤ j = ltb-false j t.run a in
                    absurd (clash z (t.shut j (omega arith) y))
