-- Each group of some matches: how it was made, what it joins, and that closers do not fall. By induction on the matches; the rest follows from
-- how a group was made and from the account of the groups before it.
-- Assumes nothing.
use Prim.Native.Nat.{ℕ, ◌≤◌, ◌<◌}
use mathlib.Core.Path.{◌≡◌, refl, sym, ◌∙◌}
use mathlib.Core.Bool.{Bool, true, false}
use mathlib.Core.List.{List, [], ◌∷◌, ◌++◌}
use mathlib.Core.Logic.{◌⊎◌, inl, inr}
use native.Mathlib.Omega.{arith}
use lib.Dec.{leb}
use lib.ListN.{length, take, length-append, get_or-append}
use lib.Seq.{take-append-le, take_at, get_or_at, get_or-take, length-take-le}
use borrow.Author.Tests.{leb-true, leb-false}
use Rattle.record.specs.Choice.{choose, and}
use Rattle.record.proofs.Bools.{and_left, and_right, and_split, clash}
use Rattle.runs.specs.Rule.{Rule}
use Rattle.runs.specs.Plain.{Standing, Group, at, amount, taken_by, matched, group, group_at}
use Rattle.groups.specs.Matches.{Matches, start, then}
use Rattle.groups.specs.Groups.{Made, Amount, both, single, Joined, Rising}
use Rattle.groups.proofs.Laws.{below, between_shut, open_was}
use Rattle.groups.proofs.Accounts.{matches_account}

-- a group of a longer list is the old one or the new one
add : (gs : List Group) (g : Group) (i : ℕ) → i < length (gs ++ (g ∷ [])) → (i < length gs) ⊎ (i ≡ length gs)
add gs g i h = go (below i (length gs))
  where
    go : (i < length gs) ⊎ (length gs ≤ i) → (i < length gs) ⊎ (i ≡ length gs)
    go (inl l) = inl l
    go (inr l) = inr (omega (arith, length-append gs (g ∷ [])))

old : (gs : List Group) (g : Group) (i : ℕ) → i < length gs → group_at (gs ++ (g ∷ [])) i ≡ group_at gs i
old gs g i h = get_or-append gs (g ∷ []) (group 0 0 0) i h

new : (gs : List Group) (g : Group) (i : ℕ) → i ≡ length gs → group_at (gs ++ (g ∷ [])) i ≡ g
new gs g i e = get_or_at gs g [] (group 0 0 0) i (sym e)

-- how each group was made
pub made : {rule : Rule} {rs₀ : List Standing} {gs : List Group} {rs : List Standing} {c : ℕ} → Matches rule rs₀ gs rs c → (i : ℕ) → i < length gs →
    Made rule rs₀ gs i
made start i h = absurd (omega arith)
made {rule} {rs₀} (then {gs} {rs} {from} o c m f) i h = go (λ l. made m i l) (add gs (group o c (taken_by rs o c)) i h)
  where
    go : (i < length gs → Made rule rs₀ gs i) → (i < length gs) ⊎ (i ≡ length gs) → Made rule rs₀ (gs ++ (group o c (taken_by rs o c) ∷ [])) i
    go ih (inl l) =
        let w = ih l in
        let e = old gs (group o c (taken_by rs o c)) i l in
        let t : take i (gs ++ (group o c (taken_by rs o c) ∷ [])) ≡ take i gs = take-append-le i gs (group o c (taken_by rs o c) ∷ []) (omega arith) in
        record { runs = w.runs; from = w.from; before = rw t w.before; found = rw e w.found; taken = rw e w.taken }
    go ih (inr l) =
        let e = new gs (group o c (taken_by rs o c)) i l in
        let t : take i (gs ++ (group o c (taken_by rs o c) ∷ [])) ≡ gs = take_at gs (group o c (taken_by rs o c) ∷ []) i (sym l) in
        record { runs = rs; from = from; before = rw t m; found = rw e f; taken = rw e refl }

-- no group was closed after the last closer
pub closed_by : {rule : Rule} {rs₀ : List Standing} {gs : List Group} {rs : List Standing} {c : ℕ} → Matches rule rs₀ gs rs c → (i : ℕ) → i < length gs →
    (group_at gs i).closer ≤ c
closed_by start i h = absurd (omega arith)
closed_by (then {gs} {rs} {from} o c m f) i h = go (λ l. closed_by m i l) (add gs (group o c (taken_by rs o c)) i h)
  where
    go : (i < length gs → (group_at gs i).closer ≤ from) → (i < length gs) ⊎ (i ≡ length gs) → (group_at (gs ++ (group o c (taken_by rs o c) ∷ [])) i).closer ≤ c
    go ih (inl l) = rw (old gs (group o c (taken_by rs o c)) i l) (omega (arith, ih l, f.onward))
    go ih (inr l) = rw (new gs (group o c (taken_by rs o c)) i l) (omega arith)

-- the runs between a group's two do not open any more
pub shut : {rule : Rule} {rs₀ : List Standing} {gs : List Group} {rs : List Standing} {c : ℕ} → Matches rule rs₀ gs rs c → (i q : ℕ) → i < length gs →
    (group_at gs i).opener < q → q < (group_at gs i).closer → (at rs q).opens ≡ false
shut start i q h x y = absurd (omega arith)
shut {rule} {rs₀} (then {gs} {rs} {from} o c m f) i q h x y = go (λ l u v. shut m i q l u v) (add gs (group o c (taken_by rs o c)) i h)
  where
    closes_open : (z : Bool) → (at (matched rs o c) q).opens ≡ z → (at rs q).opens ≡ false → (at (matched rs o c) q).opens ≡ false
    closes_open true e k = absurd (clash (open_was rs o c q e) k)
    closes_open false e k = e

    go : (i < length gs → (group_at gs i).opener < q → q < (group_at gs i).closer → (at rs q).opens ≡ false) → (i < length gs) ⊎ (i ≡ length gs) →
        (at (matched rs o c) q).opens ≡ false
    go ih (inl l) =
        let e = old gs (group o c (taken_by rs o c)) i l in
        closes_open (at (matched rs o c) q).opens refl (ih l (rw e at x) (rw e at y))
    go ih (inr l) =
        let e = new gs (group o c (taken_by rs o c)) i l in
        let x' : o < q = rw e at x in
        let y' : q < c = rw e at y in
        between_shut rs o c q x' y' (omega (arith, f.within))

-- a group among the first j
pub early : (gs : List Group) (i j : ℕ) → i < j → j < length gs → (group_at (take j gs) i ≡ group_at gs i) × (i < length (take j gs))
early gs i j h l = (get_or-take j gs i (group 0 0 0) h, omega (arith, length-take-le j gs (omega arith)))

-- "Closers are taken in order"
pub rising : {rule : Rule} {rs₀ : List Standing} {gs : List Group} {rs : List Standing} {c : ℕ} → Matches rule rs₀ gs rs c → Rising gs
rising {gs = gs} m i j h l =
    let w = made m j l in
    let e = early gs i j h l in
    let k : (group_at gs i).closer ≤ w.from = rw e.0 at (closed_by w.before i e.1) in
    omega (arith, w.found.onward)

-- "A match takes 2 from each if both have at least 2, else 1"
pub amounts : (a b : ℕ) → 0 < a → 0 < b → Amount a b (amount a b)
unfolding amount choose
amounts a b h k = go (and (leb 2 a) (leb 2 b)) refl
  where
    one : (leb 2 a ≡ false) ⊎ (leb 2 b ≡ false) → (a ≡ 1) ⊎ (b ≡ 1)
    one (inl e) = inl (omega (arith, leb-false 2 a e))
    one (inr e) = inr (omega (arith, leb-false 2 b e))

    go : (z : Bool) → and (leb 2 a) (leb 2 b) ≡ z → Amount a b (amount a b)
    go true e = rw e (both (leb-true 2 a (and_left _ _ e)) (leb-true 2 b (and_right _ _ e)))
    go false e = rw e (single (omega arith) (omega arith) (one (and_split _ _ e)))

-- what each group took, of what its two had left
pub took : {rule : Rule} {rs₀ : List Standing} {gs : List Group} {i : ℕ} (w : Made rule rs₀ gs i) →
    Amount (at w.runs (group_at gs i).opener).left (at w.runs (group_at gs i).closer).left (group_at gs i).taken
took w = rw w.taken (amounts _ _ w.found.opener_left w.found.closer_left)

one_two : {a b k : ℕ} → Amount a b k → (k ≡ 1) ⊎ (k ≡ 2)
one_two (both x y) = inr refl
one_two (single x y z) = inl refl

-- what each group joins
pub joined : {rule : Rule} {rs₀ : List Standing} {gs : List Group} {i : ℕ} → Made rule rs₀ gs i → Joined rs₀ (group_at gs i)
joined {rule} {rs₀} {gs} {i} w =
    let a = matches_account w.before in
    let f = w.found in
    record {
      earlier = f.earlier;
      within = omega (arith, f.within, a.as_many);
      can_open = a.opens _ f.opens;
      can_close = sym (a.closes _) ∙ f.closes;
      one_marker = sym (a.marker _) ∙ (f.same_marker ∙ a.marker _);
      one_container = sym (a.container _) ∙ (f.same_container_lem ∙ a.container _);
      one_or_two = one_two (took w);
    }
