-- Where the plain rule and the chained matcher stand after each run, proved together: by induction on the runs, and on the matcher's steps.
--     up-to-plain        what the plain rule makes is what its rounds make that are left after any run
--     finish-up-to       a closer found further on and finished is the runs up to it, one by one
--     stands-both        where the matcher stands, the plain rule stands too
--     leads, each        the matcher's way to its answer, and a place after each run
-- Assumes nothing.
use Prim.Native.Nat.{ℕ, zero, suc, ◌+◌, ◌-◌, ◌*◌, ◌<◌, ◌≤◌}
use mathlib.Core.Path.{◌≡◌, refl, sym, ap, ◌∙◌}
use mathlib.Core.Bool.{Bool, true, false}
use mathlib.Core.List.{List, []}
use native.Mathlib.Omega.{arith}
use native.Mathlib.Numerals.{add-one}
use lib.Dec.{ltb}
use lib.ListN.{length}
use borrow.Author.Tests.{ltb-true, ltb-false}
use Rattle.std.specs.Prelude.{Result, Ok, Err}
use Rattle.runs.specs.declared.Next.{Next}
use Rattle.runs.specs.declared.Next.TheVariants.{Match, Done}
use Rattle.runs.specs.Rule.{Rule}
use Rattle.runs.specs.Plain.{Standing, Group, Look, hit, miss, settle, look, forth, matched, ends, total, plain}
use Rattle.chains.specs.Walk.{seek, passed, raised, onward}
use Rattle.matcher.specs.State.{Fresh, Ready, InOrder}
use Rattle.matcher.specs.Closer.{Finish, finish, closer_from}
use Rattle.matcher.specs.Along.{closer_by, along, closed_at, too_many}
use Rattle.matcher.specs.Promise.{ClosedAs, Handled}
use Rattle.matcher.specs.declared.closers.Closed.{Closed}
use Rattle.matcher.specs.declared.closers.TooMany.{TooMany}
use Rattle.matcher.proofs.Chained.{forth_suc, seek_look, passed_ready}
use Rattle.matcher.proofs.Matched.{matched_length}
use Rattle.matcher.proofs.Order.{onward_walks, ready_order}
use Rattle.matcher.proofs.Handling.{handled_by_closer_by}
use Rattle.matcher.proofs.Rounds.{forth_found, forth_split, forth_shift, raise, and_group, finish_match, finish_done, rounds_finish, rounds_longer}
use Rattle.matcher.proofs.Resolving.{fresh_ready}
use Rattle.matcher.proofs.Ways.{end_way, full_all, again_all}
use Rattle.claims.specs.Positions.{plain_up_to, rounds_left, Stands, at_the_first, after_passing, after_a_closer, StandsAt, Leads, at_the_last, no_room, by_a_closer}

-- one closer to its end: as many runs, and what comes next
finish_length : (k : ℕ) (rule : Rule) (rs : List Standing) (c until : ℕ) (gs : List Group) (t : ℕ) → length (finish k rule rs c until gs t).runs ≡ length rs
unfolding finish
finish_length zero rule rs c until gs t = refl
finish_length (suc k) rule rs c until gs t = go (λ ts d hs u. finish_length k rule ts d (d + 1) hs u) (forth rule (until - c) rs c 0)
  where
    go : ((ts : List Standing) (d : ℕ) (hs : List Group) (u : ℕ) → length (finish k rule ts d (d + 1) hs u).runs ≡ length ts) → (x : Next)
        → length (ends x (λ o d u. finish k rule (matched rs o d) d (d + 1) (and_group gs rs o d) (t + u)) (λ u. record { groups = gs; tried = t + u; runs = rs; next = until })).runs ≡ length rs
    go ih (Match o d u) = ih (matched rs o d) d (and_group gs rs o d) (t + u) ∙ matched_length rs o d
    go ih (Done u) = refl

finish_next : (k : ℕ) (rule : Rule) (rs : List Standing) (c : ℕ) (gs : List Group) (t : ℕ) → (finish k rule rs c (c + 1) gs t).next ≡ c + 1
unfolding finish
finish_next zero rule rs c gs t = refl
finish_next (suc k) rule rs c gs t = go (λ ts d hs u. finish_next k rule ts d hs u) (forth rule (c + 1 - c) rs c 0) refl
  where
    go : ((ts : List Standing) (d : ℕ) (hs : List Group) (u : ℕ) → (finish k rule ts d (d + 1) hs u).next ≡ d + 1) → (x : Next) → forth rule (c + 1 - c) rs c 0 ≡ x
        → (ends x (λ o d u. finish k rule (matched rs o d) d (d + 1) (and_group gs rs o d) (t + u)) (λ u. record { groups = gs; tried = t + u; runs = rs; next = c + 1 })).next ≡ c + 1
    go ih (Match o d u) e =
        let f = forth_found rule (c + 1 - c) rs c 0 o d u e in
        let same : d ≡ c = omega (arith, f.from, f.within) in
        ih (matched rs o d) d (and_group gs rs o d) (t + u) ∙ ap (λ y. y + 1) same
    go ih (Done u) e = refl

-- the plain rule up to a run
up_to_suc : (rule : Rule) (rs : List Standing) (i : ℕ)
    → plain_up_to rule rs (suc i) ≡ finish (total (plain_up_to rule rs i).runs + 1) rule (plain_up_to rule rs i).runs i (i + 1) (plain_up_to rule rs i).groups (plain_up_to rule rs i).tried
unfolding plain_up_to
up_to_suc rule rs i = refl

up_to_length : (rule : Rule) (rs : List Standing) (i : ℕ) → length (plain_up_to rule rs i).runs ≡ length rs
unfolding plain_up_to
up_to_length rule rs zero = refl
up_to_length rule rs (suc i) =
    let f = plain_up_to rule rs i in
    finish_length (total f.runs + 1) rule f.runs i (i + 1) f.groups f.tried ∙ up_to_length rule rs i

up_to_next : (rule : Rule) (rs : List Standing) (i : ℕ) → (plain_up_to rule rs i).next ≡ i
unfolding plain_up_to
up_to_next rule rs zero = refl
up_to_next rule rs (suc i) =
    let f = plain_up_to rule rs i in
    finish_next (total f.runs + 1) rule f.runs i f.groups f.tried ∙ add-one i

-- what the plain rule makes is what its rounds make that are left
pub up_to_plain : (rule : Rule) (rs : List Standing) (i : ℕ) → i ≤ length rs → plain rule rs ≡ rounds_left rule (plain_up_to rule rs i)
unfolding plain plain_up_to
up_to_plain rule rs zero h = refl
up_to_plain rule rs (suc i) h =
    let f = plain_up_to rule rs i in
    let next = up_to_next rule rs i in
    let on = rounds_finish rule (total f.runs + 1) f.runs i (i + 1) f.groups f.tried (omega arith) (omega (arith, up_to_length rule rs i)) (omega arith) in
    rw next at (up_to_plain rule rs i (omega arith)) ∙ on

-- as the plain rule stands: its groups, the candidates tried and its runs, at the run i
abbrev standing : List Group → ℕ → List Standing → ℕ → Finish
standing gs t rs i = record { groups = gs; tried = t; runs = rs; next = i }

module _ (rule : Rule) (rs₀ : List Standing) where
  -- one run more
  up_to_more : (i : ℕ) (gs : List Group) (t : ℕ) (rs : List Standing) → plain_up_to rule rs₀ i ≡ standing gs t rs i →
      plain_up_to rule rs₀ (i + 1) ≡ finish (total rs + 1) rule rs i (i + 1) gs t
  up_to_more i gs t rs e =
      ap (λ x. plain_up_to rule rs₀ x) (add-one i) ∙ up_to_suc rule rs₀ i ∙ ap (λ (f : Finish). finish (total f.runs + 1) rule f.runs i (i + 1) f.groups f.tried) e

-- one run alone
forth_none : (rule : Rule) (rs : List Standing) (i u : ℕ) → look rule rs i 0 ≡ miss u → forth rule (i + 1 - i) rs i 0 ≡ Done u
unfolding forth
forth_none rule rs i u e =
    let one : i + 1 - i ≡ suc zero = omega arith in
    ap (λ x. forth rule x rs i 0) one ∙ forth_suc rule zero rs i 0 ∙ ap (λ x. settle x (λ o u. Match o i u) (λ u. forth rule zero rs (i + 1) u)) e

forth_one : (rule : Rule) (m : ℕ) (rs : List Standing) (i o u : ℕ) → 0 < m → look rule rs i 0 ≡ hit o u → forth rule m rs i 0 ≡ Match o i u
forth_one rule zero rs i o u h e = absurd (omega arith)
forth_one rule (suc m) rs i o u h e = forth_suc rule m rs i 0 ∙ ap (λ x. settle x (λ o u. Match o i u) (λ u. forth rule m rs (i + 1) u)) e

-- where nothing is found up to a run, a closer is found and finished from there
finish_skip : (rule : Rule) (rs : List Standing) (c d until : ℕ) (gs : List Group) (t u : ℕ) → c ≤ d → d ≤ until → until ≤ length rs → forth rule (d - c) rs c 0 ≡ Done u →
    finish (total rs + 1) rule rs c until gs t ≡ finish (total rs + 1) rule rs d until gs (t + u)
finish_skip rule rs c d until gs t u a b l e = go (forth rule (until - d) rs d 0) refl
  where
    whole : forth rule (until - c) rs c 0 ≡ raise u (forth rule (until - d) rs d 0)
    whole =
        let f : until - c ≡ d - c + (until - d) = omega arith in
        let g : c + (d - c) ≡ d = omega arith in
        let z : u ≡ u + 0 = omega arith in
        rw (f, forth_split rule (d - c) (until - d) rs c 0, e, g) (ap (λ x. forth rule (until - d) rs d x) z ∙ forth_shift rule (until - d) rs d u 0)

    go : (x : Next) → forth rule (until - d) rs d 0 ≡ x → finish (total rs + 1) rule rs c until gs t ≡ finish (total rs + 1) rule rs d until gs (t + u)
    go (Match o p v) q =
        let z : t + (u + v) ≡ t + u + v = omega arith in
        finish_match rule rs c until gs t o p (u + v) (omega arith) l (whole ∙ ap (λ x. raise u x) q)
        ∙ ap (λ x. finish (total (matched rs o p) + 1) rule (matched rs o p) p (p + 1) (and_group gs rs o p) x) z
        ∙ sym (finish_match rule rs d until gs (t + u) o p v b l q)
    go (Done v) q =
        let z : t + (u + v) ≡ t + u + v = omega arith in
        finish_done rule (total rs) rs c until gs t (u + v) (whole ∙ ap (λ x. raise u x) q) ∙ ap (λ x. standing gs x rs until) z
        ∙ sym (finish_done rule (total rs) rs d until gs (t + u) v q)

-- a closer found further on and finished is the runs up to it, one by one
finish_up_to : (m : ℕ) (rule : Rule) (rs₀ : List Standing) (i : ℕ) (gs : List Group) (t : ℕ) (rs : List Standing) → plain_up_to rule rs₀ i ≡ standing gs t rs i → i + m ≤ length rs →
    plain_up_to rule rs₀ (finish (total rs + 1) rule rs i (i + m) gs t).next ≡ finish (total rs + 1) rule rs i (i + m) gs t
unfolding forth
finish_up_to zero rule rs₀ i gs t rs e h =
    let z : i + 0 ≡ i = omega arith in
    let y : i - i ≡ zero = omega arith in
    let x : t + 0 ≡ t = omega arith in
    let none : forth rule (i - i) rs i 0 ≡ Done 0 = rw y in
    rw (z, finish_done rule (total rs) rs i i gs t 0 none, x) e
finish_up_to (suc m) rule rs₀ i gs t rs e h = go (finish_up_to m rule rs₀ (i + 1)) (look rule rs i 0) refl
  where
    go : ((hs : List Group) (s : ℕ) (ts : List Standing) → plain_up_to rule rs₀ (i + 1) ≡ standing hs s ts (i + 1) → i + 1 + m ≤ length ts →
        plain_up_to rule rs₀ (finish (total ts + 1) rule ts (i + 1) (i + 1 + m) hs s).next ≡ finish (total ts + 1) rule ts (i + 1) (i + 1 + m) hs s) →
        (x : Look) → look rule rs i 0 ≡ x →
        plain_up_to rule rs₀ (finish (total rs + 1) rule rs i (i + suc m) gs t).next ≡ finish (total rs + 1) rule rs i (i + suc m) gs t
    go ih (hit o u) q =
        let far : finish (total rs + 1) rule rs i (i + suc m) gs t ≡ finish (total rs + 1) rule rs i (i + 1) gs t =
        finish_match rule rs i (i + suc m) gs t o i u (omega arith) h (forth_one rule (i + suc m - i) rs i o u (omega arith) q)
        ∙ sym (finish_match rule rs i (i + 1) gs t o i u (omega arith) (omega arith) (forth_one rule (i + 1 - i) rs i o u (omega arith) q)) in
        rw far (ap (λ x. plain_up_to rule rs₀ x) (finish_next (total rs + 1) rule rs i gs t) ∙ up_to_more rule rs₀ i gs t rs e)
    go ih (miss u) q =
        let none = forth_none rule rs i u q in
        let skip = finish_skip rule rs i (i + 1) (i + suc m) gs t u (omega arith) (omega arith) h none in
        let z : i + suc m ≡ i + 1 + m = omega arith in
        rw (skip, z) (ih gs (t + u) rs (up_to_more rule rs₀ i gs t rs e ∙ finish_done rule (total rs) rs i (i + 1) gs t u none) (omega arith))

-- where the matcher stands the plain rule stands too, with runs and groups that the memory has
pub record Both (rule : Rule) (n : ℕ) (rs₀ : List Standing) (w : List ℕ) (height i made tried : ℕ) : Type 0 where
  pub runs : List Standing
  pub groups : List Group
  pub up : plain_up_to rule rs₀ i ≡ standing groups tried runs i
  pub ready : Ready w height runs groups n i
  pub size : length groups ≡ made
  pub few : tried ≤ (made + i) * 1048576

module _ {rule : Rule} {n : ℕ} {rs₀ : List Standing} {w : List ℕ} {height i made tried : ℕ} (b : Both rule n rs₀ w height i made tried) (l : i < n) where
  order : InOrder w height n i
  order = ready_order w height b.runs b.groups n i b.ready

  long : length b.runs ≡ n
  long = b.ready.reads.len

  -- a run is passed
  both_passed : {u : ℕ} → seek rule w i 0 ≡ miss u → Both rule n rs₀ (passed w height i) (raised w height i) (i + 1) made (tried + u)
  unfolding onward
  both_passed {u} e =
      let r = b.ready in
      let same = seek_look rule w height b.runs n i 0 r.reads r.falls (r.chains i l) l r.listed in
      let none = forth_none rule b.runs i u (sym same ∙ e) in
      let walk = onward_walks (suc zero) rule w height n i 0 order (omega arith) in
      let count : u ≤ 0 + suc zero * 1024 = rw e at walk.count in
      record {
        runs = b.runs;
        groups = b.groups;
        up = up_to_more rule rs₀ i b.groups tried b.runs b.up ∙ finish_done rule (total b.runs) b.runs i (i + 1) b.groups tried u none;
        ready = passed_ready w height b.runs b.groups n i r l;
        size = b.size;
        few = omega (arith, b.few);
      }

  -- the closer that is found from here on
  abbrev found : Finish
  found = closer_from rule b.runs i b.groups tried

  found_up : plain_up_to rule rs₀ found.next ≡ found
  unfolding closer_from
  found_up =
      let z : i + (n - i) ≡ length b.runs = omega (arith, long) in
      rw z at (finish_up_to (n - i) rule rs₀ i b.groups tried b.runs b.up (omega (arith, long)))

  comes : (step : Result Closed TooMany) (w' : List ℕ) → (step, w') ≡ closer_by rule w height i n made tried → Handled rule b.runs b.groups n i tried step w'
  comes step w' e =
      let size = b.size in
      let fits = b.ready.grouped.fits in
      handled_by_closer_by rule step w' (record { order = order; more = l; room = omega arith; few = b.few }) e b.runs b.groups b.ready b.size

  module _ {next height' made' tried' : ℕ} {w' : List ℕ} (e : (Ok (closed_at next height' made' tried'), w') ≡ closer_by rule w height i n made tried) where
    closes : ClosedAs found n i next height' made' tried' w'
    closes = comes (Ok (closed_at next height' made' tried')) w' e

    both_closed : Both rule n rs₀ w' height' next made' tried'
    both_closed =
        record {
          runs = found.runs;
          groups = found.groups;
          up = rw (closes.at, closes.count) found_up;
          ready = rw closes.at closes.ready;
          size = sym closes.made;
          few = closes.few;
        }

    pub closes_onward : i < next
    closes_onward = omega (arith, closes.onward, closes.at)

    -- the next closer is this run, if it takes an opener
    closes_here : {o u : ℕ} → look rule b.runs i 0 ≡ hit o u → next ≡ i + 1
    unfolding closer_from
    closes_here {o} {u} h =
        let m = finish_match rule b.runs i (length b.runs) b.groups tried o i u (omega (arith, long)) (omega arith) (forth_one rule (length b.runs - i) b.runs i o u (omega (arith, long)) h) in
        closes.at ∙ ap (λ (f : Finish). f.next) m ∙ finish_next (total (matched b.runs o i) + 1) rule (matched b.runs o i) i (and_group b.groups b.runs o i) (tried + u)

  full_over : {w' : List ℕ} → (Err too_many, w') ≡ closer_by rule w height i n made tried → length rs₀ ≡ n → 1000 < length (plain rule rs₀).groups
  unfolding closer_from
  full_over {w'} e len =
      let over : 1000 < length found.groups = comes (Err too_many) w' e in
      let here : plain rule rs₀ ≡ rounds_left rule (standing b.groups tried b.runs i) = rw b.up at (up_to_plain rule rs₀ i (omega arith)) in
      let on = rounds_finish rule (total b.runs + 1) b.runs i (length b.runs) b.groups tried (omega (arith, long)) (omega arith) (omega arith) in
      rw (here ∙ on) (omega (arith, rounds_longer rule (total found.runs + 1) found.runs found.next found.groups found.tried))

pub stands_both : {rule : Rule} {n : ℕ} {w₀ : List ℕ} {rs₀ : List Standing} {w : List ℕ} {height i made tried : ℕ} → Fresh w₀ rs₀ n → Stands rule n w₀ w height i made tried →
    Both rule n rs₀ w height i made tried
unfolding plain_up_to
stands_both {n = n} {w₀ = w₀} {rs₀ = rs₀} f at_the_first = record { runs = rs₀; groups = []; up = refl; ready = fresh_ready w₀ rs₀ n f; size = refl; few = omega arith }
stands_both f (after_passing st l e) = both_passed (stands_both f st) l e
stands_both f (after_a_closer st l e) = both_closed (stands_both f st) l e

-- the way to the answer
pub leads : (k : ℕ) (rule : Rule) (n : ℕ) (w₀ : List ℕ) (rs₀ : List Standing) (w : List ℕ) (height i made tried : ℕ) → Fresh w₀ rs₀ n → Stands rule n w₀ w height i made tried → n - i < k →
    Leads rule n w₀ w height i made tried (along k rule w height n i made tried)
leads zero rule n w₀ rs₀ w height i made tried f st l = absurd (omega arith)
leads (suc k) rule n w₀ rs₀ w height i made tried f st l = go (leads k rule n w₀ rs₀) (ltb i n) refl (closer_by rule w height i n made tried) refl
  where
    b : Both rule n rs₀ w height i made tried
    b = stands_both f st

    go : ((v : List ℕ) (h j m t : ℕ) → Fresh w₀ rs₀ n → Stands rule n w₀ v h j m t → n - j < k → Leads rule n w₀ v h j m t (along k rule v h n j m t)) →
        (z : Bool) → ltb i n ≡ z → (x : Result Closed TooMany × List ℕ) → closer_by rule w height i n made tried ≡ x → Leads rule n w₀ w height i made tried (along (suc k) rule w height n i made tried)
    go ih false e x q =
        let h : n ≤ i = ltb-false i n e in
        let same : i ≡ n = omega (arith, b.ready.within) in
        rw (end_way rule w height n i made tried (suc k) h) (rw same (at_the_last (rw same at st)))
    go ih true e (Err x, w') q =
        rw (full_all rule w height n i made tried (sym q) (ltb-true i n e) (suc k) l refl) (no_room st (ltb-true i n e) (sym q))
    go ih true e (Ok c, w') q =
        let lt : i < n = ltb-true i n e in
        let z : suc k - 1 ≡ k = omega arith in
        let on = closes_onward b lt (sym q) in
        rw (again_all rule w height n i made tried (sym q) lt (suc k) l refl, z) (by_a_closer st lt (sym q) (ih w' c.height c.next c.groups c.tried f (after_a_closer st lt (sym q)) (omega arith)))

-- a place after each run, where there is room for all groups
pub each : (rule : Rule) (n : ℕ) (w₀ : List ℕ) (rs₀ : List Standing) → Fresh w₀ rs₀ n → length (plain rule rs₀).groups ≤ 1000 → (i : ℕ) → i ≤ n → StandsAt rule n w₀ i
each rule n w₀ rs₀ f fits zero h = record { memory = w₀; height = 0; made = 0; tried = 0; stands = at_the_first }
each rule n w₀ rs₀ f fits (suc i) h = next (each rule n w₀ rs₀ f fits i (omega arith))
  where
    next : StandsAt rule n w₀ i → StandsAt rule n w₀ (suc i)
    next p = go (seek rule p.memory i 0) refl (closer_by rule p.memory p.height i n p.made p.tried) refl
      where
        b : Both rule n rs₀ p.memory p.height i p.made p.tried
        b = stands_both f p.stands

        l : i < n
        l = omega arith

        go : (x : Look) → seek rule p.memory i 0 ≡ x → (y : Result Closed TooMany × List ℕ) → closer_by rule p.memory p.height i n p.made p.tried ≡ y → StandsAt rule n w₀ (suc i)
        go (miss u) e y q =
            record {
              memory = passed p.memory p.height i;
              height = raised p.memory p.height i;
              made = p.made;
              tried = p.tried + u;
              stands = rw (add-one i) at (after_passing p.stands l e);
            }
        go (hit o u) e (Err x, w') q = absurd (omega (arith, full_over b l (sym q) f.reads.len))
        go (hit o u) e (Ok c, w') q =
            let r = b.ready in
            let same = seek_look rule p.memory p.height b.runs n i 0 r.reads r.falls (r.chains i l) l r.listed in
            let there : c.next ≡ suc i = closes_here b l (sym q) (sym same ∙ e) ∙ add-one i in
            record { memory = w'; height = c.height; made = c.groups; tried = c.tried; stands = rw there at (after_a_closer p.stands l (sym q)) }
