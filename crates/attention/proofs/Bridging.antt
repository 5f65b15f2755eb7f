-- From the matcher's words to the writer's: the groups that the memory holds are the plain rule's, and they are kept so that a writer finds
-- them; the slots keep the record's runs.
-- Assumes nothing.
use mathlib.Core.Path.{◌≡◌, refl, sym, ap, ◌∙◌}
use mathlib.Core.Bool.{Bool, true, false}
use mathlib.Core.List.{List, [], ◌∷◌, ◌++◌}
use Prim.Native.Nat.{ℕ, zero, suc, ◌+◌, ◌≤◌, ◌<◌}
use native.Mathlib.Omega.{arith}
use lib.Dec.{leb, eqb}
use lib.ListN.{length, get_or, take, drop}
use lib.Seq.{drop-cons, drop-length, take-suc, take-length, length-take-le}
use borrow.Author.Tests.{leb-true, leb-false}
use Rattle.record.specs.Choice.{choose}
use Rattle.record.specs.declared.event.Event.{Event}
use Rattle.runs.specs.Runs.{runs_of}
use Rattle.runs.specs.Rule.{Profile}
use Rattle.runs.specs.Plain.{Standing, at, Group, group, group_at as nthGroup}
use Rattle.runs.specs.Pieces.{standing, outcome, closed, opened}
use Rattle.runs.specs.Output.{no_run}
use Rattle.slots.specs.Layout.{Room, whole_of, left_of, group_opener, group_closer, group_taken}
use Rattle.groups.proofs.Matches.{at_begin}
use Rattle.groups.proofs.Accounts.{outcome_account}
use Rattle.groups.proofs.Theorems.{closers_in_order}
use Rattle.matcher.specs.Groups.{first_closed, last_opened, Grouped}
use Rattle.matcher.specs.Promise.{GroupsOf}
use Rattle.writing.specs.Kept.{group_at, groups_from, groups_in, first_closing, latest_opening, Kept, Slotted}

-- the memory's groups, from group i on, are the list's
module _ {w : List ℕ} {gs : List Group} {n : ℕ} (m : Grouped w gs n) where
  one_group : (i : ℕ) → i < length gs → group_at w i ≡ nthGroup gs i
  one_group i h =
      let a : group_opener w i ≡ (nthGroup gs i).opener = m.opener i h in
      let b : group_closer w i ≡ (nthGroup gs i).closer = m.closer i h in
      let c : group_taken w i ≡ (nthGroup gs i).taken = m.taken i h in
      rw (a, b, c)

  groups_on : (k i : ℕ) → i + k ≡ length gs → groups_from k w i ≡ drop i gs
  unfolding groups_from
  groups_on zero i h =
      let e : i ≡ length gs = omega arith in
      rw e (sym (drop-length gs))
  groups_on (suc k) i h =
      let l : i < length gs = omega arith in
      let s : suc i ≡ i + 1 = omega arith in
      ap (λ (g : Group). g ∷ groups_from k w (i + 1)) (one_group i l)
      ∙ ap (λ (hs : List Group). nthGroup gs i ∷ hs) (groups_on k (i + 1) (omega arith) ∙ ap (λ (x : ℕ). drop x gs) (sym s))
      ∙ sym (drop-cons gs i (group 0 0 0) l)

  pub groups_same : groups_in w (length gs) ≡ gs
  groups_same = groups_on (length gs) 0 (omega arith)

  -- the first group that a run closes
  first_on : (k i q : ℕ) → i + k ≡ length gs → first_closing k w i q ≡ first_closed (drop i gs) q i
  unfolding first_closing first_closed
  first_on zero i q h =
      let e : i ≡ length gs = omega arith in
      rw (e, drop-length gs)
  first_on (suc k) i q h =
      let l : i < length gs = omega arith in
      let s : suc i ≡ i + 1 = omega arith in
      let f : first_closing k w (i + 1) q ≡ first_closed (drop (suc i) gs) q (i + 1) = first_on k (i + 1) q (omega arith) ∙ ap (λ (x : ℕ). first_closed (drop x gs) q (i + 1)) (sym s) in
      let c : group_closer w i ≡ (nthGroup gs i).closer = m.closer i l in
      ap (λ (x : ℕ). choose (eqb x q) (i + 1) (first_closing k w (i + 1) q)) c
      ∙ ap (λ (x : ℕ). choose (eqb (nthGroup gs i).closer q) (i + 1) x) f
      ∙ ap (λ (hs : List Group). first_closed hs q i) (sym (drop-cons gs i (group 0 0 0) l))

  -- the latest group that a run opens, among the first k
  last_snoc : (hs : List Group) (g : Group) (q i before : ℕ) → last_opened (hs ++ (g ∷ [])) q i before ≡ choose (eqb g.opener q) (i + length hs + 1) (last_opened hs q i before)
  unfolding last_opened
  last_snoc [] g q i before =
      let e : i + 0 + 1 ≡ i + 1 = omega arith in
      ap (λ (x : ℕ). choose (eqb g.opener q) x before) (sym e)
  last_snoc (h ∷ hs) g q i before =
      let e : i + 1 + length hs + 1 ≡ i + suc (length hs) + 1 = omega arith in
      last_snoc hs g q (i + 1) (choose (eqb h.opener q) (i + 1) before)
      ∙ ap (λ (x : ℕ). choose (eqb g.opener q) x (last_opened hs q (i + 1) (choose (eqb h.opener q) (i + 1) before))) e

  latest_on : (k q : ℕ) → k ≤ length gs → latest_opening k w q ≡ last_opened (take k gs) q 0 0
  unfolding latest_opening last_opened
  latest_on zero q h = refl
  latest_on (suc k) q h =
      let l : k < length gs = omega arith in
      let o : group_opener w k ≡ (nthGroup gs k).opener = m.opener k l in
      let n : length (take k gs) ≡ k = length-take-le k gs (omega arith) in
      let e : 0 + length (take k gs) + 1 ≡ k + 1 = omega arith in
      ap (λ (x : ℕ). choose (eqb x q) (k + 1) (latest_opening k w q)) o
      ∙ ap (λ (x : ℕ). choose (eqb (nthGroup gs k).opener q) (k + 1) x) (latest_on k q (omega arith))
      ∙ ap (λ (x : ℕ). choose (eqb (nthGroup gs k).opener q) x (last_opened (take k gs) q 0 0)) (sym e)
      ∙ sym (last_snoc (take k gs) (nthGroup gs k) q 0 0)
      ∙ ap (λ (hs : List Group). last_opened hs q 0 0) (sym (take-suc gs k (group 0 0 0) l))

-- what the matcher leaves on the runs of a record, said as a writer asks it
module _ (profile : Profile) (options : ℕ) (doc : List ℕ) (es : List Event) {w : List ℕ} {n groups tried : ℕ} (room : Room w) (count : n ≡ length (runs_of doc es)) (few : n ≤ 1024)
    (m : GroupsOf (outcome profile options doc es) n groups tried w) where
  gs : List Group
  gs = (outcome profile options doc es).groups

  pub kept_groups : groups_in w groups ≡ (outcome profile options doc es).groups
  kept_groups = ap (λ (k : ℕ). groups_in w k) m.made ∙ groups_same m.grouped

  rises : (i j : ℕ) → i ≤ j → j < groups → group_closer w i ≤ group_closer w j
  rises i j h l = go (leb (i + 1) j) refl
    where
      e : groups ≡ length (outcome profile options doc es).groups
      e = m.made

      lj : j < length (outcome profile options doc es).groups
      lj = omega (arith, e)

      li : i < length (outcome profile options doc es).groups
      li = omega (arith, e)

      go : (z : Bool) → leb (i + 1) j ≡ z → group_closer w i ≤ group_closer w j
      go true t =
          let f : i + 1 ≤ j = leb-true _ _ t in
          let a = m.grouped.closer i li in
          let b = m.grouped.closer j lj in
          let c = closers_in_order profile options doc es i j (omega arith) lj in
          omega arith
      go false t =
          let f : j < i + 1 = leb-false _ _ t in
          let x : i ≡ j = omega arith in
          let y : group_closer w i ≡ group_closer w j = ap (λ (k : ℕ). group_closer w k) x in
          omega arith

  -- the run q as its slot has it in the end
  whole_size : (q : ℕ) → q < n → whole_of w q ≡ (get_or (runs_of doc es) q no_run).size
  unfolding standing
  whole_size q h =
      let l : q < length (runs_of doc es) = omega arith in
      m.reads.whole q h ∙ (outcome_account profile options doc es).whole q ∙ ap (λ (r : Standing). r.whole) (at_begin profile options (runs_of doc es) q l)

  pub left_of_run : (q : ℕ) → q < n → left_of w q + closed (outcome profile options doc es).groups q + opened (outcome profile options doc es).groups q ≡ (get_or (runs_of doc es) q no_run).size
  unfolding standing
  left_of_run q h =
      let l : q < length (runs_of doc es) = omega arith in
      let a : left_of w q ≡ (at (outcome profile options doc es).runs q).left = m.reads.left q h in
      rw a
      ((outcome_account profile options doc es).spent q ∙ ap (λ (r : Standing). r.left) (at_begin profile options (runs_of doc es) q l))

  pub kept : Kept w groups n
  kept =
      let e : groups ≡ length (outcome profile options doc es).groups = m.made in
      let fits : length (outcome profile options doc es).groups ≤ 1000 = m.fits in
      record {
        room = room;
        few = omega arith;
        many = few;
        rising = rises;
        first = λ q h.
            m.grouped.first q h ∙ sym (first_on m.grouped (length (outcome profile options doc es).groups) 0 q (omega arith)) ∙ ap (λ (k : ℕ). first_closing k w 0 q) (sym e);
        latest = λ q h.
            m.grouped.latest q h
            ∙ ap (λ (hs : List Group). last_opened hs q 0 0) (sym (take-length (outcome profile options doc es).groups))
            ∙ sym (latest_on m.grouped (length (outcome profile options doc es).groups) q (omega arith))
            ∙ ap (λ (k : ℕ). latest_opening k w q) (sym e);
        earlier = λ i h.
            let l : i < length (outcome profile options doc es).groups = omega arith in
            m.grouped.earlier i l
            ∙ ap (λ (o : ℕ). last_opened (take i (outcome profile options doc es).groups) o 0 0) (sym (m.grouped.opener i l))
            ∙ sym (latest_on m.grouped i (group_opener w i) (omega arith));
        accounts = λ q h.
            let a : whole_of w q ≡ (get_or (runs_of doc es) q no_run).size = whole_size q h in
            let b = left_of_run q h in
            rw kept_groups (omega arith);
      }

  pub slotted : Slotted w n (runs_of doc es)
  unfolding standing
  slotted =
      record {
        as_many = sym count;
        size = whole_size;
        marker = λ q h.
            let l : q < length (runs_of doc es) = omega arith in
            m.reads.marker q h ∙ (outcome_account profile options doc es).marker q ∙ ap (λ (r : Standing). r.marker) (at_begin profile options (runs_of doc es) q l);
      }
