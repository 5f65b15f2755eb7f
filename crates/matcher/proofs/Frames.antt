-- Parts of two memories that are the same, and what holds of one because it holds of the other. A writer states once which parts it keeps.
--     SameRuns, SameChains, SameGroups        the slots' runs; links, heads and open runs; the groups
--     reads_same, listed_same, grouped-same   what goes by them
-- Assumes nothing.
use Prim.Native.Nat.{ℕ, ◌+◌, ◌*◌, ◌<◌, ◌≤◌}
use mathlib.Core.Path.{◌≡◌, ◌∙◌, ap}
use mathlib.Core.List.{List}
use mathlib.Core.Bool.{not}
use native.Mathlib.Omega.{arith}
use lib.Dec.{eqb}
use lib.ListN.{get_or}
use Rattle.runs.specs.Plain.{Standing, Group}
use Rattle.slots.specs.Words.{get16}
use Rattle.slots.specs.Layout.{whole_of, left_of, marker_of, opens_of, closes_of, chain_of, link_of, head_of, open_at, first_group_of, latest_group_of}
use Rattle.matcher.specs.Chains.{Reads, Listed, openers}
use Rattle.matcher.specs.Groups.{Grouped}
use Rattle.matcher.proofs.Lists.{openers_le}

pub record SameRuns (w v : List ℕ) : Type 0 where
  pub whole : (j : ℕ) → j < 1024 → whole_of v j ≡ whole_of w j
  pub marker : (j : ℕ) → j < 1024 → marker_of v j ≡ marker_of w j
  pub closes : (j : ℕ) → j < 1024 → closes_of v j ≡ closes_of w j
  pub chain : (j : ℕ) → j < 1024 → chain_of v j ≡ chain_of w j

-- the two that a match changes
abbrev pub SameLeft : List ℕ → List ℕ → Type 0
SameLeft w v = (j : ℕ) → j < 1024 → left_of v j ≡ left_of w j

abbrev pub SameOpens : List ℕ → List ℕ → Type 0
SameOpens w v = (j : ℕ) → j < 1024 → opens_of v j ≡ opens_of w j

pub record SameChains (w v : List ℕ) : Type 0 where
  pub link : (j : ℕ) → j < 1024 → link_of v j ≡ link_of w j
  pub head : (k : ℕ) → k < 6147 → head_of v k ≡ head_of w k
  pub stack : (x : ℕ) → x < 1024 → open_at v x ≡ open_at w x

pub record SameGroups (w v : List ℕ) : Type 0 where
  pub first : (j : ℕ) → j < 1024 → first_group_of v j ≡ first_group_of w j
  pub latest : (j : ℕ) → j < 1024 → latest_group_of v j ≡ latest_group_of w j
  pub group : (p : ℕ) → 30726 ≤ p → get16 v p ≡ get16 w p

-- from the words and bytes of slots, which is how a writer knows them
pub same_runs : (w v : List ℕ) → ((j : ℕ) → j < 1024 → get16 v (j * 16) ≡ get16 w (j * 16)) → ((j : ℕ) → j < 1024 → get16 v (j * 16 + 8) ≡ get16 w (j * 16 + 8))
    → ((j : ℕ) → j < 1024 → get_or v (j * 16 + 4) 0 ≡ get_or w (j * 16 + 4) 0) → ((j : ℕ) → j < 1024 → get_or v (j * 16 + 6) 0 ≡ get_or w (j * 16 + 6) 0) → SameRuns w v
same_runs w v whole chain marker closes =
    record { whole = whole; marker = marker; closes = λ j h. ap (λ x. not (eqb x 0)) (closes j h); chain = chain }

pub same_opens : (w v : List ℕ) → ((j : ℕ) → j < 1024 → get_or v (j * 16 + 5) 0 ≡ get_or w (j * 16 + 5) 0) → SameOpens w v
same_opens w v f j h = ap (λ x. not (eqb x 0)) (f j h)

pub runs_then : {w v u : List ℕ} → SameRuns w v → SameRuns v u → SameRuns w u
runs_then {w} {v} {u} a b =
    record {
      whole = λ j h. b.whole j h ∙ a.whole j h;
      marker = λ j h. b.marker j h ∙ a.marker j h;
      closes = λ j h. b.closes j h ∙ a.closes j h;
      chain = λ j h. b.chain j h ∙ a.chain j h;
    }

pub groups_then : {w v u : List ℕ} → SameGroups w v → SameGroups v u → SameGroups w u
groups_then {w} {v} {u} a b =
    record { first = λ j h. b.first j h ∙ a.first j h; latest = λ j h. b.latest j h ∙ a.latest j h; group = λ p h. b.group p h ∙ a.group p h }

module _ (w v : List ℕ) where
  pub reads_same : (rs : List Standing) (n : ℕ) → n ≤ 1024 → SameRuns w v → SameLeft w v → SameOpens w v → Reads w rs n → Reads v rs n
  reads_same rs n f s sl so r =
      record {
        len = r.len;
        whole = λ j h. s.whole j (omega arith) ∙ r.whole j h;
        left = λ j h. sl j (omega arith) ∙ r.left j h;
        marker = λ j h. s.marker j (omega arith) ∙ r.marker j h;
        opens = λ j h o. so j (omega arith) ∙ r.opens j h (omega (arith, sl j (omega arith)));
        closes = λ j h. s.closes j (omega arith) ∙ r.closes j h;
        chain = λ j h. s.chain j (omega arith) ∙ r.chain j h;
        known = r.known;
      }

  pub listed_same : (height : ℕ) (rs : List Standing) (i : ℕ) → i ≤ 1024 → SameChains w v → Listed w height rs i → Listed v height rs i
  listed_same height rs i f s l =
      record {
        heads = λ k h. s.head k h ∙ l.heads k h;
        links = λ j h o. s.link j (omega arith) ∙ l.links j h o;
        high = l.high;
        stack = λ j h o. s.stack (openers rs j) (omega (arith, openers_le rs j)) ∙ l.stack j h o;
      }

  pub grouped_same : (gs : List Group) (n : ℕ) → n ≤ 1024 → SameGroups w v → Grouped w gs n → Grouped v gs n
  grouped_same gs n f s g =
      record {
        opener = λ j h. s.group (30726 + j * 8) (omega arith) ∙ g.opener j h;
        closer = λ j h. s.group (30726 + j * 8 + 2) (omega arith) ∙ g.closer j h;
        taken = λ j h. s.group (30726 + j * 8 + 4) (omega arith) ∙ g.taken j h;
        earlier = λ j h. s.group (30726 + j * 8 + 6) (omega arith) ∙ g.earlier j h;
        first = λ j h. s.first j (omega arith) ∙ g.first j h;
        latest = λ j h. s.latest j (omega arith) ∙ g.latest j h;
        fits = g.fits;
      }
