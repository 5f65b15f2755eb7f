-- After a match the memory is what the plain rule makes of the runs, and the chains list exactly the runs before the closer that can still
-- open.
--     match-ready       after a match that was found, all is ready again at the closer, which is tried again
-- Assumes nothing.
use Prim.Native.Nat.{ℕ, suc, ◌+◌, ◌-◌, ◌<◌, ◌≤◌}
use mathlib.Core.Path.{◌≡◌, refl, ◌∙◌, sym, ap}
use mathlib.Core.List.{List, [], ◌∷◌, ◌++◌}
use mathlib.Core.Bool.{Bool, true, false}
use native.Mathlib.Omega.{arith}
use lib.Dec.{eqb, ltb}
use lib.ListN.{length}
use borrow.Author.Tests.{eqb-true, eqb-false, ltb-true, ltb-false, lt-ltb}
use Rattle.record.specs.Choice.{and}
use Rattle.record.proofs.Bools.{clash}
use Rattle.runs.specs.Runs.{is_marker}
use Rattle.runs.specs.Plain.{Standing, Group, group, at, opener, closer, taken_by, matched}
use Rattle.slots.specs.Layout.{left_of, opens_of, with_left}
use Rattle.matcher.specs.Chains.{openers, Reads, Listed}
use Rattle.matcher.specs.Groups.{Grouped}
use Rattle.matcher.specs.State.{Ready, InOrder}
use Rattle.chains.specs.Walk.{Sound}
use Rattle.chains.specs.Step.{unchained, cleared, leaves, lowered, joined, taken_at, matched_at, Takable}
use Rattle.matcher.proofs.Lists.{openers_on}
use Rattle.matcher.proofs.Frames.{SameRuns, grouped_same, listed_same}
use Rattle.matcher.proofs.Chained.{closer_left}
use Rattle.chains.proofs.Pops.{leaves_on, leaves_off, lowered_on, lowered_off}
use Rattle.matcher.proofs.Order.{takable, match_order, ready_order, ready_open}
use Rattle.matcher.proofs.Writes.{Lasting, cleared_lasting, match_amount, match_chain, match_room, match_runs, match_opens, match_left_own, match_left_closer, match_left_other, match_chains, match_groups}
use Rattle.matcher.proofs.Matched.{matched_length, whole_same, marker_same, closes_same, chain_kept, left_own, left_closer, left_other, left_le, opens_between, opens_before, opens_after, level_low, level_own, shut_between, shut_own}
use Rattle.matcher.proofs.Between.{Clears, cleared_clears, listed_unchained, listed_move}
use Rattle.matcher.proofs.Joins.{joined_grouped}

-- a run with markers left that is no opener has its flag down
no_opener : (s : Standing) → 0 < s.left → opener s ≡ false → s.opens ≡ false
unfolding opener and
no_opener s h e = rw (lt-ltb 0 s.left h) at e

module _ (w : List ℕ) (height : ℕ) (rs : List Standing) (gs : List Group) (n o c : ℕ) (r : Ready w height rs gs n c) (lo : o < c) (lc : c < n) (op : opener (at rs o) ≡ true) (cl : closer (at rs c) ≡ true) (lg : length gs < 1000) where
  order : InOrder w height n c
  order = ready_order w height rs gs n c r

  t : Takable w height o c (length gs)
  t =
      takable order lc (omega (arith, r.reads.left c lc, closer_left (at rs c) cl)) (ready_open w height rs gs n c r o lo op) lg

  ko : o < 1024
  ko = omega (arith, r.few)

  kc : c < 1024
  kc = omega (arith, r.few)

  ln : c < length rs
  ln = omega (arith, r.reads.len)

  abbrev ts : List Standing
  ts = matched rs o c

  abbrev a : ℕ
  a = left_of w o

  abbrev b : ℕ
  b = left_of w c

  abbrev k : ℕ
  k = taken_at w o c

  abbrev v : List ℕ
  v = (cleared height w o).0

  abbrev h₁ : ℕ
  h₁ = (cleared height w o).1

  abbrev u : List ℕ
  u = leaves v o a k

  abbrev x₁ : List ℕ
  x₁ = with_left u o (a - k)

  abbrev x₂ : List ℕ
  x₂ = with_left x₁ c (b - k)

  abbrev f : List ℕ
  f = joined x₂ (length gs) o c k

  ea : left_of w o ≡ (at rs o).left
  ea = r.reads.left o (omega arith)

  eb : left_of w c ≡ (at rs c).left
  eb = r.reads.left c lc

  ek : taken_at w o c ≡ taken_by rs o c
  ek = rw (ea, eb)

  clears : Clears w rs o c v h₁
  clears =
      cleared_clears height w rs o c (omega (arith, r.few)) r.room (λ j h. r.chains j (omega arith)) (λ j h. r.reads.chain j (omega arith)) lo op r.listed

  -- what clearing, and all of the match, leave as it was
  lasting : Lasting w v
  lasting = cleared_lasting height w o t.ranged

  runs : SameRuns w f
  runs = match_runs w height o c (length gs) t

  reads_left : (j : ℕ) → j < n → left_of f j ≡ (at ts j).left
  reads_left j h = go (eqb j o) refl (eqb j c) refl
    where
      go : (y : Bool) → eqb j o ≡ y → (z : Bool) → eqb j c ≡ z → left_of f j ≡ (at ts j).left
      go true d z e = let q : j ≡ o = eqb-true j o d in rw q (match_left_own w height o c (length gs) t ∙ ap (λ y. left_of w o - y) ek ∙ ap (λ y. y - taken_by rs o c) ea ∙ sym (left_own rs o c lo ln))
      go false d true e = let q : j ≡ c = eqb-true j c e in rw q (match_left_closer w height o c (length gs) t ∙ ap (λ y. left_of w c - y) ek ∙ ap (λ y. y - taken_by rs o c) eb ∙ sym (left_closer rs o c lo ln))
      go false d false e =
          let q : j ≡ o → ⊥ = eqb-false j o d in
          let s : j ≡ c → ⊥ = eqb-false j c e in
          match_left_other w height o c (length gs) t j (omega (arith, r.few)) q s ∙ r.reads.left j h ∙ sym (left_other rs o c lo ln j (omega (arith, r.reads.len)) q s)

  -- whether a run that has markers left opens
  had : (j : ℕ) → j < n → 0 < left_of f j → 0 < left_of w j
  had j h p = omega (arith, reads_left j h, left_le rs o c lo ln j (omega (arith, r.reads.len)), r.reads.left j h)

  reads_opens : (j : ℕ) → j < n → 0 < left_of f j → opens_of f j ≡ (at ts j).opens
  reads_opens j h p = go (ltb o j) refl (ltb j c) refl
    where
      jn : j < length rs
      jn = omega (arith, r.reads.len)

      j4 : j < 1024
      j4 = omega (arith, r.few)

      same : opens_of w j ≡ (at rs j).opens
      same = r.reads.opens j h (had j h p)

      go : (y : Bool) → ltb o j ≡ y → (z : Bool) → ltb j c ≡ z → opens_of f j ≡ (at ts j).opens
      go false d z e =
          let q : j ≤ o = ltb-false o j d in
          match_opens w height o c (length gs) t j j4 ∙ clears.kept j j4 (λ s t w. omega arith) ∙ same ∙ sym (opens_before rs o c lo ln j q)
      go true d false e =
          let q : c ≤ j = ltb-false j c e in
          match_opens w height o c (length gs) t j j4 ∙ clears.kept j j4 (λ s t w. omega arith) ∙ same ∙ sym (opens_after rs o c lo ln j q jn)
      go true d true e = match_opens w height o c (length gs) t j j4 ∙ between (ltb-true o j d) (ltb-true j c e) (opener (at rs j)) refl ∙ sym (opens_between rs o c lo ln j (ltb-true o j d) (ltb-true j c e))
        where
          between : o < j → j < c → (z : Bool) → opener (at rs j) ≡ z → opens_of v j ≡ false
          between s t true q = clears.shut j s t q
          between s t false q = clears.kept j j4 (λ y z i. clash i q) ∙ same ∙ no_opener (at rs j) (omega (arith, had j h p, r.reads.left j h)) q

  reads : Reads f ts n
  reads =
      record {
        len = matched_length rs o c ∙ r.reads.len;
        whole = λ j h. runs.whole j (omega (arith, r.few)) ∙ r.reads.whole j h ∙ sym (whole_same rs o c lo ln j (omega (arith, r.reads.len)));
        left = reads_left;
        marker = λ j h. runs.marker j (omega (arith, r.few)) ∙ r.reads.marker j h ∙ sym (marker_same rs o c lo ln j (omega (arith, r.reads.len)));
        opens = reads_opens;
        closes = λ j h. runs.closes j (omega (arith, r.few)) ∙ r.reads.closes j h ∙ sym (closes_same rs o c lo ln j (omega (arith, r.reads.len)));
        chain = λ j h. runs.chain j (omega (arith, r.few)) ∙ r.reads.chain j h ∙ sym (chain_kept rs o c lo ln j (omega (arith, r.reads.len)));
        known = λ j h. ap is_marker (marker_same rs o c lo ln j (omega (arith, r.reads.len))) ∙ r.reads.known j h;
      }

  -- the chains
  listed : Listed f (lowered h₁ a k) ts c
  listed = listed_same u f (lowered h₁ a k) ts c (omega (arith, kc)) (match_chains w height o c (length gs) t) (go (eqb a k) refl)
    where
      high : h₁ ≡ suc (openers rs o)
      high = let e : openers rs (o + 1) ≡ openers rs o + 1 = openers_on rs o op in clears.listed.high ∙ let y : openers rs (o + 1) ≡ suc (openers rs o) = omega arith in y

      lower : (z : ℕ) → z ≡ suc (openers rs o) → z - 1 ≡ openers rs o
      lower z e = omega arith

      go : (z : Bool) → eqb (left_of w o) (taken_at w o c) ≡ z → Listed u (lowered h₁ a k) ts c
      go true e =
          let q : left_of w o ≡ taken_at w o c = eqb-true a k e in
          rw (leaves_on v o a k q, lowered_on h₁ a k q, lower h₁ high)
          (listed_move (unchained v o) (openers rs o) rs ts o c (omega arith) (level_low rs o c lo ln) (shut_own rs o c lo ln (sym ea ∙ q ∙ ek))
          (listed_unchained v (openers rs o) rs o ko (lasting.runs.chain o ko ∙ r.reads.chain o (omega arith)) (match_chain w height o c (length gs) t) (omega (arith, lasting.len, r.room)) op (rw high at clears.listed)))
      go false e =
          let q : left_of w o ≡ taken_at w o c → ⊥ = eqb-false a k e in
          let s : taken_by rs o c < (at rs o).left = omega (arith, ea, ek, match_amount w height o c (length gs) t) in
          rw (leaves_off v o a k q, lowered_off h₁ a k q)
          (listed_move v h₁ rs ts (o + 1) c (omega arith) (level_own rs o c lo ln op s) (shut_between rs o c lo ln) clears.listed)

  -- the groups
  grouped : Grouped f (gs ++ (group o c (taken_by rs o c) ∷ [])) n
  grouped = rw (← ek) (joined_grouped x₂ gs n o c k (grouped_same w x₂ gs n r.few (match_groups w height o c (length gs) t) r.grouped) r.few (omega arith) lc lg (omega (arith, match_room w height o c (length gs) t, r.room)))

  sound : Sound (matched_at w height o c (length gs)).0 (matched_at w height o c (length gs)).1 n c
  sound = (match_order w height n o c (length gs) order t).sound

  pub match_ready : Ready (matched_at w height o c (length gs)).0 (matched_at w height o c (length gs)).1 (matched rs o c) (gs ++ (group o c (taken_by rs o c) ∷ [])) n c
  unfolding matched_at
  match_ready =
      record {
        room = sound.room;
        few = r.few;
        within = r.within;
        falls = sound.links;
        chains = sound.chains;
        reads = reads;
        listed = listed;
        grouped = grouped;
      }
