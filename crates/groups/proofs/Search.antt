-- A search that finds a match finds one as specs/Matches.antt has it, and so the groups of the plain rule come about by matches. By induction
-- on the runs looked back over, the runs gone onward over, and the matches.
-- Assumes nothing.
use Prim.Native.Nat.{ℕ, zero, suc, ◌+◌, ◌-◌, ◌≤◌, ◌<◌}
use mathlib.Core.Path.{◌≡◌, refl, ap}
use mathlib.Core.Bool.{Bool, true, false}
use mathlib.Core.List.{List}
use mathlib.Core.Option.{Option, none, some}
use native.Mathlib.Omega.{arith}
use lib.ListN.{length}
use borrow.Author.Tests.{ltb-true, eqb-true}
use Rattle.record.specs.Choice.{choose}
use Rattle.record.proofs.Bools.{and_left, and_right}
use Rattle.runs.specs.declared.Next.TheVariants.{Match}
use Rattle.runs.specs.Rule.{Rule}
use Rattle.runs.specs.Plain.{Standing, Look, hit, miss, at, opener, closer, same_container, candidate, takes, back, look, forth, next}
use Rattle.groups.specs.Matches.{Found}

-- equal containers are equal
pub one_container : (a b : Option ℕ) → same_container a b ≡ true → a ≡ b
unfolding same_container
one_container none none q = refl
one_container none (some b) q = let z : ◌≡◌ {A = ℕ} 0 1 = cc in absurd (omega arith)
one_container (some a) none q = let z : ◌≡◌ {A = ℕ} 0 1 = cc in absurd (omega arith)
one_container (some a) (some b) q = ap (λ (n : ℕ). some n) (eqb-true a b q)

-- what a search back finds
record Hit (rule : Rule) (rs : List Standing) (j c o : ℕ) : Type 0 where
  below : o < j
  candidate : candidate (at rs o) (at rs c) ≡ true
  taken : takes rule (at rs o) (at rs c) ≡ true

later : {rule : Rule} {rs : List Standing} {j c o : ℕ} → Hit rule rs j c o → Hit rule rs (suc j) c o
later h = record { below = omega (arith, h.below); candidate = h.candidate; taken = h.taken }

back_hit : (rule : Rule) (j : ℕ) (rs : List Standing) (c t o u : ℕ) → back rule j rs c t ≡ hit o u → Hit rule rs j c o
unfolding back choose
back_hit rule zero rs c t o u q = let z : ◌≡◌ {A = ℕ} 0 1 = cc in absurd (omega arith)
back_hit rule (suc j) rs c t o u q =
    go (back_hit rule j rs c t o u) (back_hit rule j rs c (t + 1) o u) (candidate (at rs j) (at rs c)) refl (takes rule (at rs j) (at rs c)) refl
  where
    go : (back rule j rs c t ≡ hit o u → Hit rule rs j c o) → (back rule j rs c (t + 1) ≡ hit o u → Hit rule rs j c o) →
        (y : Bool) → candidate (at rs j) (at rs c) ≡ y → (z : Bool) → takes rule (at rs j) (at rs c) ≡ z → Hit rule rs (suc j) c o
    go skip past true e true f =
        let r : hit j (t + 1) ≡ hit o u = rw (e, f) at q in
        let s : j ≡ o = cc in
        record { below = omega arith; candidate = rw s at e; taken = rw s at f }
    go skip past true e false f = later (past (rw (e, f) at q))
    go skip past false e z f = later (skip (rw e at q))

look_hit : (rule : Rule) (rs : List Standing) (c t o u : ℕ) → look rule rs c t ≡ hit o u → (closer (at rs c) ≡ true) × Hit rule rs c c o
unfolding look choose
look_hit rule rs c t o u q = go (closer (at rs c)) refl
  where
    go : (z : Bool) → closer (at rs c) ≡ z → (closer (at rs c) ≡ true) × Hit rule rs c c o
    go true e = (e, back_hit rule c rs c t o u (rw e at q))
    go false e = let x : miss t ≡ hit o u = rw e at q in let z : ◌≡◌ {A = ℕ} 0 1 = cc in absurd (omega arith)

is_found : (rule : Rule) (rs : List Standing) (from o c : ℕ) → from ≤ c → c < length rs → closer (at rs c) ≡ true → Hit rule rs c c o → Found rule rs from o c
unfolding candidate opener closer
is_found rule rs from o c h l q f =
    let k = f.candidate in
    record {
      earlier = f.below;
      onward = h;
      within = l;
      opens = and_right _ _ (and_left _ _ k);
      closes = and_right _ _ q;
      opener_left = ltb-true _ _ (and_left _ _ (and_left _ _ k));
      closer_left = ltb-true _ _ (and_left _ _ q);
      same_marker = eqb-true _ _ (and_left _ _ (and_right _ _ k));
      same_container_lem = one_container _ _ (and_right _ _ (and_right _ _ k));
      taken = f.taken;
    }

forth_found : (rule : Rule) (m : ℕ) (rs : List Standing) (from c t o d u : ℕ) → from ≤ c → c + m ≤ length rs → forth rule m rs c t ≡ Match o d u →
    Found rule rs from o d
unfolding forth
forth_found rule zero rs from c t o d u h l q = let z : ◌≡◌ {A = ℕ} 0 1 = cc in absurd (omega arith)
forth_found rule (suc m) rs from c t o d u h l q = go (λ v. forth_found rule m rs from (c + 1) v o d u (omega arith) (omega arith)) (look rule rs c t) refl
  where
    go : ((v : ℕ) → forth rule m rs (c + 1) v ≡ Match o d u → Found rule rs from o d) → (k : Look) → look rule rs c t ≡ k → Found rule rs from o d
    go on (hit p v) e =
        let r : Match p c v ≡ Match o d u = rw e at q in
        let s : p ≡ o = cc in
        let w : c ≡ d = cc in
        let f = look_hit rule rs c t p v e in
        let g = is_found rule rs from p c h (omega arith) f.0 f.1 in
        rw (s, w) at g
    go on (miss v) e = on v (rw e at q)

-- the next match is one
pub next_found : (rule : Rule) (rs : List Standing) (c o d u : ℕ) → c ≤ length rs → next rule rs c ≡ Match o d u → Found rule rs c o d
next_found rule rs c o d u h q = forth_found rule (length rs - c) rs c c 0 o d u (omega arith) (omega arith) q
