-- The chains as lists, proved: where heads and links are as `Listed` has them, run by run.
-- Assumes nothing.
use Prim.Native.Nat.{ℕ, zero, suc, ◌+◌, ◌-◌, ◌<◌, ◌≤◌}
use mathlib.Core.Path.{◌≡◌, refl, sym, ap, ◌∙◌}
use mathlib.Core.Bool.{Bool, true, false}
use mathlib.Core.List.{List, [], ◌∷◌}
use mathlib.Core.Option.{Option}
use native.Mathlib.Omega.{arith}
use lib.Dec.{eqb}
use borrow.Author.Tests.{ne_eqb}
use Rattle.record.specs.Choice.{choose, and}
use Rattle.runs.specs.Runs.{is_marker}
use Rattle.runs.specs.Plain.{Standing, Group, at, opener}
use Rattle.runs.specs.Chains.{marker_number, chain_number}
use Rattle.runs.proofs.OneChain.{same_chain}
use Rattle.slots.specs.Layout.{link_of, head_of}
use Rattle.matcher.specs.Chains.{on, latest}
use Rattle.matcher.specs.State.{Ready}
use Rattle.matcher.proofs.Lists.{on_opener, on_chain, latest_le}
use Rattle.claims.specs.ChainsAsLists.{Container, nothing_open, entered, chain_for, ChainOfARun, linked, still_opens, still_open, ChainsList}

pub chain_of_a_run : ChainOfARun
unfolding chain_number
chain_of_a_run r = refl

-- a run that stands for its chain
abbrev like : ℕ → Option ℕ → Standing
like marker container = record { marker = marker; container = container; whole = 0; left = 0; opens = false; closes = false }

none_linked : (m : ℕ) (w : List ℕ) → linked m w 0 ≡ []
unfolding linked choose
none_linked zero w = refl
none_linked (suc m) w = refl

module _ (w : List ℕ) (height : ℕ) (rs : List Standing) (gs : List Group) (n i : ℕ) (r : Ready w height rs gs n i) (marker : ℕ) (container : Option ℕ) (known : is_marker marker ≡ true) where
  abbrev k : ℕ
  k = chain_number (like marker container)

  -- the runs on a chain are those of its marker and container
  on_still : (j : ℕ) → j < n → on rs k j ≡ still_opens marker container (at rs j)
  unfolding on still_opens
  on_still j h = ap (λ (x : Bool). and (opener (at rs j)) x) (same_chain (at rs j) (like marker container) (r.reads.known j h) known)

  -- from the latest run below j on
  linked_still : (j m : ℕ) → j ≤ i → latest rs k j ≤ m → linked m w (latest rs k j) ≡ still_open rs marker container j
  unfolding latest still_open linked choose
  linked_still zero m h l = none_linked m w
  linked_still (suc j) m h l = go (λ x y. linked_still j x (omega arith) y) m l (on rs k j) refl
    where
      below : j < n
      below = omega (arith, r.within)

      go : ((x : ℕ) → latest rs k j ≤ x → linked x w (latest rs k j) ≡ still_open rs marker container j) → (m : ℕ) → latest rs k (suc j) ≤ m → (z : Bool) → on rs k j ≡ z →
          linked m w (latest rs k (suc j)) ≡ still_open rs marker container (suc j)
      go ih zero l true e = let f : j + 1 ≤ 0 = rw e at l in absurd (omega arith)
      go ih (suc m) l true e =
          let f : j + 1 ≤ suc m = rw e at l in
          let link : link_of w j ≡ latest rs (chain_number (at rs j)) j = r.listed.links j (omega arith) (on_opener rs k j e) in
          let same : chain_number (at rs j) ≡ k = on_chain rs k j e in
          let opens : still_opens marker container (at rs j) ≡ true = sym (on_still j below) ∙ e in
          let a : eqb (j + 1) 0 ≡ false = ne_eqb (j + 1) 0 (λ q. omega arith) in
          let b : j + 1 - 1 ≡ j = omega arith in
          rw (e, opens, a, b, link, same) (ap (λ (l : List ℕ). j ∷ l) (ih m (omega (arith, latest_le rs k j))))
      go ih m l false e =
          let f : latest rs k j ≤ m = rw e at l in
          let shut : still_opens marker container (at rs j) ≡ false = sym (on_still j below) ∙ e in
          rw (e, shut) (ih m f)

-- there are 6,147 chains
three : (marker : ℕ) → marker_number marker ≤ 2
unfolding marker_number choose
three marker = go (eqb marker 42) (eqb marker 95) refl refl
  where
    go : (x y : Bool) → eqb marker 42 ≡ x → eqb marker 95 ≡ y → marker_number marker ≤ 2
    go true y d e = rw d (omega arith)
    go false true d e = rw (d, e) (omega arith)
    go false false d e = rw (d, e) (omega arith)

numbered : (marker : ℕ) (container : Option ℕ) → Container container → chain_for marker container < 6147
numbered marker container nothing_open = omega (arith, three marker)
numbered marker container (entered number h) = omega (arith, three marker)

pub chains_list : (w : List ℕ) (height : ℕ) (rs : List Standing) (gs : List Group) (n i : ℕ) → Ready w height rs gs n i → ChainsList w rs i
chains_list w height rs gs n i r marker container known c =
    let q : chain_number (like marker container) ≡ chain_for marker container = chain_of_a_run (like marker container) in
    let h : head_of w (chain_for marker container) ≡ latest rs (chain_number (like marker container)) i =
    r.listed.heads (chain_for marker container) (numbered marker container c) ∙ ap (λ x. latest rs x i) (sym q) in
    ap (λ p. linked p w p) h ∙ linked_still w height rs gs n i r marker container known i (latest rs (chain_number (like marker container)) i) (omega arith) (omega arith)
