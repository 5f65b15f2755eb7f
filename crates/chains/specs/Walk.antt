-- The next match along the chains: run by run onward, each closer down its chain from the head.
-- Document 01, "Candidates tried": the call that finds the next match is equal "to a definition that reads, run by run onward, only that run's
-- own slot (whether it closes, and to put it on its chain once passed) and, at a closer, its chain from the head. Its premises are that links
-- fall and numbers are in range". `onward` is that definition, over any rule, and `Sound` are those premises.
-- Assumes nothing.
use Rattle.std.specs.Prelude.{ℕ, zero, suc, ◌+◌, ◌-◌, ◌<◌, ◌≤◌, Bool, List, eqb, ltb}
use Rattle.record.specs.Choice.{choose, and}
use Rattle.runs.specs.declared.Next.{Next}
use Rattle.runs.specs.declared.Next.TheVariants.{Match, Done}
use Rattle.runs.specs.Rule.{Side, Rule}
use Rattle.runs.specs.Plain.{Look, hit, miss, settle}
use Rattle.slots.specs.Layout.{Room, whole_of, left_of, marker_of, opens_of, closes_of, chain_of, link_of, head_of, with_link, with_head, with_open_at}

-- whether the run i has markers left and can close, or open, by its own slot
unfoldable pub closing : List ℕ → ℕ → Bool
closing w i = and (ltb 0 (left_of w i)) (closes_of w i)

unfoldable pub opening : List ℕ → ℕ → Bool
opening w i = and (ltb 0 (left_of w i)) (opens_of w i)

-- the run i as a side of a match
unfoldable pub both_at : List ℕ → ℕ → Bool
both_at w i = and (opens_of w i) (closes_of w i)

abbrev pub side_at : List ℕ → ℕ → Side
side_at w i = record { whole = whole_of w i; left = left_of w i; both = both_at w i }

-- whether the closer i takes the run o, by the rule
unfoldable pub takes_at : Rule → List ℕ → ℕ → ℕ → Bool
takes_at rule w o i = rule (marker_of w i) (side_at w o) (side_at w i)

-- the head of the run i's chain
abbrev pub first : List ℕ → ℕ → ℕ
first w i = head_of w (chain_of w i)

-- down a chain from p, a run's number plus 1 or 0 at its end, at most k runs, t tried before
unfoldable pub down : ℕ → Rule → List ℕ → ℕ → ℕ → ℕ → Look
down zero rule w i p t = miss t
down (suc k) rule w i p t =
    let on = down k rule w i (link_of w (p - 1)) (t + 1) in
    choose (eqb p 0) (miss t) (choose (takes_at rule w (p - 1) i) (hit (p - 1) (t + 1)) on)

-- at the run i: where it closes, down its chain from the head; links fall, so that p runs are enough
unfoldable pub seek : Rule → List ℕ → ℕ → ℕ → Look
seek rule w i t =
    let found = down (first w i) rule w i (first w i) t in
    choose (closing w i) found (miss t)

-- a passed run goes on its chain, and on top of the open runs, if it has markers left and can open
unfoldable pub passed : List ℕ → ℕ → ℕ → List ℕ
passed w height i = choose (opening w i) (with_open_at (with_head (with_link w i (first w i)) (chain_of w i) (i + 1)) height i) w

-- how many runs are open then
unfoldable pub raised : List ℕ → ℕ → ℕ → ℕ
raised w height i = choose (opening w i) (height + 1) height

-- onward from the run i over m runs, t tried before: what is found, and the memory and the height then
unfoldable pub onward : ℕ → Rule → List ℕ → ℕ → ℕ → ℕ → Next × (List ℕ × ℕ)
onward zero rule w height i t = (Done t, (w, height))
onward (suc m) rule w height i t =
    settle (seek rule w i t) (λ o u. (Match o i u, (w, height))) (λ u. onward m rule (passed w height i) (raised w height i) (i + 1) u)

-- links fall and numbers are in range, at the run `from` of n
pub record Sound (w : List ℕ) (height n from : ℕ) : Type 0 where
  pub room : Room w
  pub few : n ≤ 1024
  pub within : from ≤ n
  pub links : (i : ℕ) → i < n → link_of w i ≤ i
  pub chains : (i : ℕ) → i < n → chain_of w i < 6147
  pub heads : (k : ℕ) → k < 6147 → head_of w k ≤ from
  pub high : height ≤ from
