-- The plain rule, match by match and closer by closer, over any rule and with no memory in sight.
--     forth-found               what a next match is: an opener before a closer, both with markers left
--     forth-split, forth-shift  onward in two parts, and from another count
--     matched-total             a match leaves fewer markers
--     rounds-match, -skip, -end the plain rule, by what is found up to some run
--     finish-match, finish-done one closer to its end, in the same way
--     rounds-finish             the plain rule is the plain rule from where that closer was finished
-- Assumes nothing.
use Prim.Native.Nat.{ℕ, zero, suc, ◌+◌, ◌-◌, ◌<◌, ◌≤◌}
use mathlib.Core.Path.{◌≡◌, refl, ◌∙◌, sym, ap}
use mathlib.Core.List.{List, [], ◌∷◌, ◌++◌}
use mathlib.Core.Bool.{Bool, true, false}
use native.Mathlib.Omega.{arith}
use native.Mathlib.Numerals.{add-one}
use lib.ListN.{length, length-append}
use Rattle.record.specs.Choice.{choose}
use Rattle.record.proofs.Bools.{and_left}
use Rattle.runs.specs.declared.Next.{Next}
use Rattle.runs.specs.declared.Next.TheVariants.{Match, Done}
use Rattle.runs.specs.Rule.{Rule}
use Rattle.runs.specs.Plain.{Standing, Group, group, at, opener, closer, candidate, takes, Look, hit, miss, settle, back, look, forth, taken_by, matched, Outcome, ends, rounds, total}
use Rattle.matcher.specs.Closer.{Finish, finish}
use Rattle.matcher.proofs.Chained.{opener_left, closer_left, forth_suc, back_suc, back_zero}
use Rattle.matcher.proofs.Matched.{matched_length, left_le, left_closer}
use Rattle.chains.proofs.Pops.{amount_le}

-- two answers of a search are never both
pub hit_miss : {o u t : ℕ} → hit o u ≡ miss t → ⊥
hit_miss e = let z : ◌≡◌ {A = ℕ} 0 1 = cc in omega arith

pub match_done : {o c u t : ℕ} → Match o c u ≡ Done t → ⊥
match_done e = let z : ◌≡◌ {A = ℕ} 0 1 = cc in omega arith

-- what a search back hits is an earlier run that can open
back_hit : (rule : Rule) (j : ℕ) (rs : List Standing) (c t o u : ℕ) → back rule j rs c t ≡ hit o u → (o < j) × (opener (at rs o) ≡ true)
unfolding choose candidate
back_hit rule zero rs c t o u e = absurd (hit_miss (sym e ∙ back_zero rule rs c t))
back_hit rule (suc j) rs c t o u e = go (back_hit rule j rs c) (candidate (at rs j) (at rs c)) refl (takes rule (at rs j) (at rs c)) refl
  where
    f : choose (candidate (at rs j) (at rs c)) (choose (takes rule (at rs j) (at rs c)) (hit j (t + 1)) (back rule j rs c (t + 1))) (back rule j rs c t) ≡ hit o u
    f = sym (back_suc rule j rs c t) ∙ e

    go : ((s p q : ℕ) → back rule j rs c s ≡ hit p q → (p < j) × (opener (at rs p) ≡ true)) → (y : Bool) → candidate (at rs j) (at rs c) ≡ y → (z : Bool) → takes rule (at rs j) (at rs c) ≡ z
        → (o < suc j) × (opener (at rs o) ≡ true)
    go ih false a z b = let r = ih t o u (rw a at f) in (omega arith, r.1)
    go ih true a false b = let r = ih (t + 1) o u (rw (a, b) at f) in (omega arith, r.1)
    go ih true a true b =
        let g : hit j (t + 1) ≡ hit o u = rw (a, b) at f in
        let h : j ≡ o = cc in
        (omega arith, rw h at (and_left (opener (at rs j)) _ a))

-- what a next match is
pub record Found (rs : List Standing) (i m o c : ℕ) : Type 0 where
  pub from : i ≤ c
  pub within : c < i + m
  pub before : o < c
  pub opens : opener (at rs o) ≡ true
  pub closes : closer (at rs c) ≡ true

look_hit : (rule : Rule) (rs : List Standing) (c t o u : ℕ) → look rule rs c t ≡ hit o u → (closer (at rs c) ≡ true) × (back rule c rs c t ≡ hit o u)
unfolding look choose
look_hit rule rs c t o u e = go (closer (at rs c)) refl
  where
    go : (z : Bool) → closer (at rs c) ≡ z → (closer (at rs c) ≡ true) × (back rule c rs c t ≡ hit o u)
    go true a = (a, rw a at e)
    go false a = let f : miss t ≡ hit o u = rw a at e in absurd (hit_miss (sym f))

pub forth_found : (rule : Rule) (m : ℕ) (rs : List Standing) (i t o c u : ℕ) → forth rule m rs i t ≡ Match o c u → Found rs i m o c
unfolding forth
forth_found rule zero rs i t o c u e = absurd (match_done (sym e))
forth_found rule (suc m) rs i t o c u e = go (λ v. forth_found rule m rs (i + 1) v o c u) (look rule rs i t) refl
  where
    go : ((v : ℕ) → forth rule m rs (i + 1) v ≡ Match o c u → Found rs (i + 1) m o c) → (x : Look) → look rule rs i t ≡ x → Found rs i (suc m) o c
    go ih (hit p q) a =
        let f : Match p i q ≡ Match o c u = sym (forth_suc rule m rs i t ∙ ap (λ x. settle x (λ o u. Match o i u) (λ u. forth rule m rs (i + 1) u)) a) ∙ e in
        let eo : p ≡ o = cc in
        let ec : i ≡ c = cc in
        let l = look_hit rule rs i t p q a in
        let b = back_hit rule i rs i t p q l.1 in
        rw (← eo, ← ec) (record { from = omega arith; within = omega arith; before = b.0; opens = b.1; closes = l.0 })
    go ih (miss q) a =
        let f : forth rule m rs (i + 1) q ≡ Match o c u = sym (forth_suc rule m rs i t ∙ ap (λ x. settle x (λ o u. Match o i u) (λ u. forth rule m rs (i + 1) u)) a) ∙ e in
        let r = ih q f in
        record { from = omega (arith, r.from); within = omega (arith, r.within); before = r.before; opens = r.opens; closes = r.closes }

-- onward in two parts
pub forth_split : (rule : Rule) (m l : ℕ) (rs : List Standing) (i t : ℕ)
    → forth rule (m + l) rs i t ≡ ends (forth rule m rs i t) (λ o c u. Match o c u) (λ u. forth rule l rs (i + m) u)
unfolding forth
forth_split rule zero l rs i t = let e : i + 0 ≡ i = omega arith in let f : 0 + l ≡ l = omega arith in rw (e, f)
forth_split rule (suc m) l rs i t =
    let e : suc m + l ≡ suc (m + l) = omega arith in
    rw (e, forth_suc) (go (λ u. forth_split rule m l rs (i + 1) u) (look rule rs i t))
  where
    go : ((u : ℕ) → forth rule (m + l) rs (i + 1) u ≡ ends (forth rule m rs (i + 1) u) (λ o c u. Match o c u) (λ u. forth rule l rs (i + 1 + m) u))
        → (x : Look)
        → settle x (λ o u. Match o i u) (λ u. forth rule (m + l) rs (i + 1) u)
        ≡ ends (settle x (λ o u. Match o i u) (λ u. forth rule m rs (i + 1) u)) (λ o c u. Match o c u) (λ u. forth rule l rs (i + suc m) u)
    go ih (hit o u) = refl
    go ih (miss u) = let e : i + suc m ≡ i + 1 + m = omega arith in rw e (ih u)

-- onward from another count
abbrev lift : ℕ → Look → Look
lift s (hit o u) = hit o (s + u)
lift s (miss u) = miss (s + u)

abbrev pub raise : ℕ → Next → Next
raise s (Match o c u) = Match o c (s + u)
raise s (Done u) = Done (s + u)

back_shift : (rule : Rule) (j : ℕ) (rs : List Standing) (c s t : ℕ) → back rule j rs c (s + t) ≡ lift s (back rule j rs c t)
unfolding choose
back_shift rule zero rs c s t = simp back_zero
back_shift rule (suc j) rs c s t =
    simp back_suc (go (back_shift rule j rs c s t) (back_shift rule j rs c s (t + 1)) (candidate (at rs j) (at rs c)) (takes rule (at rs j) (at rs c)))
  where
    go : back rule j rs c (s + t) ≡ lift s (back rule j rs c t) → back rule j rs c (s + (t + 1)) ≡ lift s (back rule j rs c (t + 1)) → (y z : Bool)
        → choose y (choose z (hit j (s + t + 1)) (back rule j rs c (s + t + 1))) (back rule j rs c (s + t))
        ≡ lift s (choose y (choose z (hit j (t + 1)) (back rule j rs c (t + 1))) (back rule j rs c t))
    go p q false z = p
    go p q true false = let e : s + t + 1 ≡ s + (t + 1) = omega arith in rw e q
    go p q true true = let e : s + t + 1 ≡ s + (t + 1) = omega arith in rw e

look_shift : (rule : Rule) (rs : List Standing) (c s t : ℕ) → look rule rs c (s + t) ≡ lift s (look rule rs c t)
unfolding look choose
look_shift rule rs c s t = go (back_shift rule c rs c s t) (closer (at rs c))
  where
    go : back rule c rs c (s + t) ≡ lift s (back rule c rs c t) → (z : Bool) → choose z (back rule c rs c (s + t)) (miss (s + t)) ≡ lift s (choose z (back rule c rs c t) (miss t))
    go p true = p
    go p false = refl

pub forth_shift : (rule : Rule) (m : ℕ) (rs : List Standing) (i s t : ℕ) → forth rule m rs i (s + t) ≡ raise s (forth rule m rs i t)
unfolding forth
forth_shift rule zero rs i s t = refl
forth_shift rule (suc m) rs i s t = rw (look_shift rule rs i s t) (go (λ u. forth_shift rule m rs (i + 1) s u) (look rule rs i t))
  where
    go : ((u : ℕ) → forth rule m rs (i + 1) (s + u) ≡ raise s (forth rule m rs (i + 1) u)) → (x : Look)
        → settle (lift s x) (λ o u. Match o i u) (λ u. forth rule m rs (i + 1) u) ≡ raise s (settle x (λ o u. Match o i u) (λ u. forth rule m rs (i + 1) u))
    go ih (hit o u) = refl
    go ih (miss u) = ih u

-- fewer markers left
total_le : (ts rs : List Standing) → length ts ≡ length rs → ((q : ℕ) → q < length rs → (at ts q).left ≤ (at rs q).left) → total ts ≤ total rs
unfolding total
total_le [] [] e h = omega arith
total_le [] (r ∷ rs) e h = absurd (omega arith)
total_le (t ∷ ts) [] e h = absurd (omega arith)
total_le (t ∷ ts) (r ∷ rs) e h =
    let a : t.left ≤ r.left = h 0 (omega arith) in
    let b = total_le ts rs (omega arith) (λ q l. h (suc q) (omega arith)) in
    omega arith

total_less : (ts rs : List Standing) (c : ℕ) → length ts ≡ length rs → ((q : ℕ) → q < length rs → (at ts q).left ≤ (at rs q).left) → c < length rs → (at ts c).left < (at rs c).left
    → total ts < total rs
unfolding total
total_less [] [] c e h l s = absurd (omega arith)
total_less [] (r ∷ rs) c e h l s = absurd (omega arith)
total_less (t ∷ ts) [] c e h l s = absurd (omega arith)
total_less (t ∷ ts) (r ∷ rs) zero e h l s =
    let a : t.left < r.left = s in
    let b = total_le ts rs (omega arith) (λ q l. h (suc q) (omega arith)) in
    omega arith
total_less (t ∷ ts) (r ∷ rs) (suc c) e h l s =
    let a : t.left ≤ r.left = h 0 (omega arith) in
    let b = total_less ts rs c (omega arith) (λ q l. h (suc q) (omega arith)) (omega arith) s in
    omega arith

pub matched_total : (rs : List Standing) (o c : ℕ) → o < c → c < length rs → 0 < (at rs o).left → 0 < (at rs c).left → total (matched rs o c) < total rs
matched_total rs o c lo lc a b =
    total_less (matched rs o c) rs c (matched_length rs o c) (left_le rs o c lo lc) lc
    (omega (arith, left_closer rs o c lo lc, amount_le (at rs o).left (at rs c).left a b))

-- a match that was found leaves fewer
pub found_total : (rs : List Standing) (i m o c : ℕ) → i + m ≤ length rs → Found rs i m o c → total (matched rs o c) < total rs
found_total rs i m o c h f =
    matched_total rs o c f.before (omega (arith, f.within)) (opener_left (at rs o) f.opens) (closer_left (at rs c) f.closes)

pub found_length : (rs : List Standing) (i m o c : ℕ) → i + m ≤ length rs → Found rs i m o c → c + 1 ≤ length (matched rs o c)
found_length rs i m o c h f = omega (arith, f.within, matched_length rs o c)

-- the groups with one more
abbrev pub and_group : List Group → List Standing → ℕ → ℕ → List Group
and_group gs rs o c = gs ++ (group o c (taken_by rs o c) ∷ [])

rounds_suc : (k : ℕ) (rule : Rule) (rs : List Standing) (c : ℕ) (gs : List Group) (t : ℕ)
    → rounds (suc k) rule rs c gs t
    ≡ ends (forth rule (length rs - c) rs c 0) (λ o d u. rounds k rule (matched rs o d) d (and_group gs rs o d) (t + u)) (λ u. record { groups = gs; tried = t + u; runs = rs })
unfolding rounds
rounds_suc k rule rs c gs t = refl

finish_suc : (k : ℕ) (rule : Rule) (rs : List Standing) (c until : ℕ) (gs : List Group) (t : ℕ)
    → finish (suc k) rule rs c until gs t
    ≡ ends (forth rule (until - c) rs c 0) (λ o d u. finish k rule (matched rs o d) d (d + 1) (and_group gs rs o d) (t + u)) (λ u. record { groups = gs; tried = t + u; runs = rs; next = until })
unfolding finish
finish_suc k rule rs c until gs t = refl

-- what is found up to some run is found among all, and where nothing is, all goes on from there
upto_match : (rule : Rule) (rs : List Standing) (c until o d u : ℕ) → c ≤ until → until ≤ length rs → forth rule (until - c) rs c 0 ≡ Match o d u → forth rule (length rs - c) rs c 0 ≡ Match o d u
upto_match rule rs c until o d u a b e =
    let f : length rs - c ≡ until - c + (length rs - until) = omega arith in
    rw (f, forth_split rule (until - c) (length rs - until) rs c 0, e)

upto_done : (rule : Rule) (rs : List Standing) (c until u : ℕ) → c ≤ until → until ≤ length rs → forth rule (until - c) rs c 0 ≡ Done u
    → forth rule (length rs - c) rs c 0 ≡ raise u (forth rule (length rs - until) rs until 0)
upto_done rule rs c until u a b e =
    let f : length rs - c ≡ until - c + (length rs - until) = omega arith in
    let g : c + (until - c) ≡ until = omega arith in
    let z : u ≡ u + 0 = omega arith in
    rw (f, forth_split rule (until - c) (length rs - until) rs c 0, e, g) (ap (λ x. forth rule (length rs - until) rs until x) z ∙ forth_shift rule (length rs - until) rs until u 0)

module _ (rule : Rule) where
  -- any number of rounds above the markers left is enough
  rounds_more : (k m : ℕ) (rs : List Standing) (c : ℕ) (gs : List Group) (t : ℕ) → c ≤ length rs → total rs < k → total rs < m → rounds k rule rs c gs t ≡ rounds m rule rs c gs t
  rounds_more zero m rs c gs t w a b = absurd (omega arith)
  rounds_more (suc k) zero rs c gs t w a b = absurd (omega arith)
  rounds_more (suc k) (suc m) rs c gs t w a b = go (rounds_more k m) (forth rule (length rs - c) rs c 0) refl
    where
      go : ((ts : List Standing) (d : ℕ) (hs : List Group) (u : ℕ) → d ≤ length ts → total ts < k → total ts < m → rounds k rule ts d hs u ≡ rounds m rule ts d hs u)
          → (z : Next) → forth rule (length rs - c) rs c 0 ≡ z → rounds (suc k) rule rs c gs t ≡ rounds (suc m) rule rs c gs t
      go ih (Done u) e = simp (rounds_suc, e)
      go ih (Match o d u) e =
          let f = forth_found rule (length rs - c) rs c 0 o d u e in
          let h : c + (length rs - c) ≤ length rs = omega arith in
          let l = found_length rs c (length rs - c) o d h f in
          let s = found_total rs c (length rs - c) o d h f in
          simp (rounds_suc, e) (ih (matched rs o d) d (and_group gs rs o d) (t + u) (omega arith) (omega arith) (omega arith))

  pub rounds_match : (rs : List Standing) (c until : ℕ) (gs : List Group) (t o d u : ℕ) → c ≤ until → until ≤ length rs → forth rule (until - c) rs c 0 ≡ Match o d u
      → rounds (total rs + 1) rule rs c gs t ≡ rounds (total (matched rs o d) + 1) rule (matched rs o d) d (and_group gs rs o d) (t + u)
  rounds_match rs c until gs t o d u a b e =
      let f = forth_found rule (until - c) rs c 0 o d u e in
      let h : c + (until - c) ≤ length rs = omega arith in
      let l = found_length rs c (until - c) o d h f in
      let s = found_total rs c (until - c) o d h f in
      rw (add-one (total rs), rounds_suc, upto_match rule rs c until o d u a b e)
      (rounds_more (total rs) (total (matched rs o d) + 1) (matched rs o d) d (and_group gs rs o d) (t + u) (omega arith) s (omega arith))

  pub rounds_skip : (k : ℕ) (rs : List Standing) (c until : ℕ) (gs : List Group) (t u : ℕ) → c ≤ until → until ≤ length rs → forth rule (until - c) rs c 0 ≡ Done u
      → rounds (k + 1) rule rs c gs t ≡ rounds (k + 1) rule rs until gs (t + u)
  rounds_skip k rs c until gs t u a b e =
      rw (add-one k, rounds_suc k rule rs c gs t, rounds_suc k rule rs until gs (t + u), upto_done rule rs c until u a b e) (go (forth rule (length rs - until) rs until 0))
    where
      go : (x : Next)
          → ends (raise u x) (λ o d v. rounds k rule (matched rs o d) d (and_group gs rs o d) (t + v)) (λ v. record { groups = gs; tried = t + v; runs = rs })
          ≡ ends x (λ o d v. rounds k rule (matched rs o d) d (and_group gs rs o d) (t + u + v)) (λ v. record { groups = gs; tried = t + u + v; runs = rs })
      go (Match o d v) = let e : t + (u + v) ≡ t + u + v = omega arith in rw e
      go (Done v) = let e : t + (u + v) ≡ t + u + v = omega arith in rw e

  pub rounds_end : (k : ℕ) (rs : List Standing) (c : ℕ) (gs : List Group) (t : ℕ) → length rs ≤ c → rounds (k + 1) rule rs c gs t ≡ record { groups = gs; tried = t; runs = rs }
  unfolding forth
  rounds_end k rs c gs t h =
      let e : length rs - c ≡ 0 = omega arith in
      let f : t + 0 ≡ t = omega arith in
      rw (add-one k, rounds_suc, e, f)

  -- no group is taken back
  pub rounds_longer : (k : ℕ) (rs : List Standing) (c : ℕ) (gs : List Group) (t : ℕ) → length gs ≤ length (rounds k rule rs c gs t).groups
  unfolding rounds
  rounds_longer zero rs c gs t = omega arith
  rounds_longer (suc k) rs c gs t = go (λ ts d hs u. rounds_longer k ts d hs u) (forth rule (length rs - c) rs c 0)
    where
      go : ((ts : List Standing) (d : ℕ) (hs : List Group) (u : ℕ) → length hs ≤ length (rounds k rule ts d hs u).groups) → (x : Next)
          → length gs ≤ length (ends x (λ o d u. rounds k rule (matched rs o d) d (and_group gs rs o d) (t + u)) (λ u. record { groups = gs; tried = t + u; runs = rs })).groups
      go ih (Match o d u) = omega (arith, ih (matched rs o d) d (and_group gs rs o d) (t + u), length-append gs (group o d (taken_by rs o d) ∷ []))
      go ih (Done u) = omega arith

  -- one closer, in the same way
  finish_more : (k m : ℕ) (rs : List Standing) (c until : ℕ) (gs : List Group) (t : ℕ) → c ≤ until → until ≤ length rs → total rs < k → total rs < m
      → finish k rule rs c until gs t ≡ finish m rule rs c until gs t
  finish_more zero m rs c until gs t v w a b = absurd (omega arith)
  finish_more (suc k) zero rs c until gs t v w a b = absurd (omega arith)
  finish_more (suc k) (suc m) rs c until gs t v w a b = go (finish_more k m) (forth rule (until - c) rs c 0) refl
    where
      go : ((ts : List Standing) (d to : ℕ) (hs : List Group) (u : ℕ) → d ≤ to → to ≤ length ts → total ts < k → total ts < m → finish k rule ts d to hs u ≡ finish m rule ts d to hs u)
          → (z : Next) → forth rule (until - c) rs c 0 ≡ z → finish (suc k) rule rs c until gs t ≡ finish (suc m) rule rs c until gs t
      go ih (Done u) e = simp (finish_suc, e)
      go ih (Match o d u) e =
          let f = forth_found rule (until - c) rs c 0 o d u e in
          let h : c + (until - c) ≤ length rs = omega arith in
          let l = found_length rs c (until - c) o d h f in
          let s = found_total rs c (until - c) o d h f in
          simp (finish_suc, e) (ih (matched rs o d) d (d + 1) (and_group gs rs o d) (t + u) (omega arith) (omega arith) (omega arith) (omega arith))

  pub finish_match : (rs : List Standing) (c until : ℕ) (gs : List Group) (t o d u : ℕ) → c ≤ until → until ≤ length rs → forth rule (until - c) rs c 0 ≡ Match o d u
      → finish (total rs + 1) rule rs c until gs t ≡ finish (total (matched rs o d) + 1) rule (matched rs o d) d (d + 1) (and_group gs rs o d) (t + u)
  finish_match rs c until gs t o d u a b e =
      let f = forth_found rule (until - c) rs c 0 o d u e in
      let h : c + (until - c) ≤ length rs = omega arith in
      let l = found_length rs c (until - c) o d h f in
      let s = found_total rs c (until - c) o d h f in
      rw (add-one (total rs), finish_suc, e)
      (finish_more (total rs) (total (matched rs o d) + 1) (matched rs o d) d (d + 1) (and_group gs rs o d) (t + u) (omega arith) (omega arith) s (omega arith))

  pub finish_done : (k : ℕ) (rs : List Standing) (c until : ℕ) (gs : List Group) (t u : ℕ) → forth rule (until - c) rs c 0 ≡ Done u
      → finish (k + 1) rule rs c until gs t ≡ record { groups = gs; tried = t + u; runs = rs; next = until }
  finish_done k rs c until gs t u e = rw (add-one k, finish_suc, e)

  pub finish_longer : (k : ℕ) (rs : List Standing) (c until : ℕ) (gs : List Group) (t : ℕ) → length gs ≤ length (finish k rule rs c until gs t).groups
  unfolding finish
  finish_longer zero rs c until gs t = omega arith
  finish_longer (suc k) rs c until gs t = go (λ ts d hs u. finish_longer k ts d (d + 1) hs u) (forth rule (until - c) rs c 0)
    where
      go : ((ts : List Standing) (d : ℕ) (hs : List Group) (u : ℕ) → length hs ≤ length (finish k rule ts d (d + 1) hs u).groups) → (x : Next)
          → length gs ≤ length (ends x (λ o d u. finish k rule (matched rs o d) d (d + 1) (and_group gs rs o d) (t + u)) (λ u. record { groups = gs; tried = t + u; runs = rs; next = until })).groups
      go ih (Match o d u) = omega (arith, ih (matched rs o d) d (and_group gs rs o d) (t + u), length-append gs (group o d (taken_by rs o d) ∷ []))
      go ih (Done u) = omega arith

  -- the plain rule from where a closer was finished
  abbrev after : Finish → Outcome
  after f = rounds (total f.runs + 1) rule f.runs f.next f.groups f.tried

  pub rounds_finish : (k : ℕ) (rs : List Standing) (c until : ℕ) (gs : List Group) (t : ℕ) → c ≤ until → until ≤ length rs → total rs < k
      → rounds (total rs + 1) rule rs c gs t ≡ after (finish k rule rs c until gs t)
  rounds_finish zero rs c until gs t v w a = absurd (omega arith)
  rounds_finish (suc k) rs c until gs t v w a = go (rounds_finish k) (forth rule (until - c) rs c 0) refl
    where
      go : ((ts : List Standing) (d to : ℕ) (hs : List Group) (u : ℕ) → d ≤ to → to ≤ length ts → total ts < k → rounds (total ts + 1) rule ts d hs u ≡ after (finish k rule ts d to hs u))
          → (z : Next) → forth rule (until - c) rs c 0 ≡ z → rounds (total rs + 1) rule rs c gs t ≡ after (finish (suc k) rule rs c until gs t)
      go ih (Done u) e = rw (finish_suc, e) (rounds_skip (total rs) rs c until gs t u v w e)
      go ih (Match o d u) e =
          let f = forth_found rule (until - c) rs c 0 o d u e in
          let h : c + (until - c) ≤ length rs = omega arith in
          let l = found_length rs c (until - c) o d h f in
          let s = found_total rs c (until - c) o d h f in
          rw (finish_suc, e)
          (rounds_match rs c until gs t o d u v w e ∙ ih (matched rs o d) d (d + 1) (and_group gs rs o d) (t + u) (omega arith) (omega arith) (omega arith))
