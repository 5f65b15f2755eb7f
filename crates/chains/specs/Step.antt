-- What one match writes into lent work memory, piece by piece. The promise that matters is stated elsewhere, over the runs themselves; these
-- pieces only name what each small function leaves.
-- Document 01: "A match takes 2 from each if both have at least 2, else 1; runs between lose open".
-- Assumes nothing.
use Rattle.std.specs.Prelude.{ℕ, zero, suc, ◌+◌, ◌-◌, ◌<◌, ◌≤◌, ◌≡◌, List, eqb, ltb}
use Rattle.record.specs.Choice.{choose}
use Rattle.runs.specs.Plain.{amount}
use Rattle.slots.specs.Layout.{Room, left_of, chain_of, link_of, open_at, first_group_of, latest_group_of, with_left, with_opens, with_head, with_first_group, with_latest_group, with_group}

-- the run q, the latest on its chain, leaves it
unfoldable pub unchained : List ℕ → ℕ → List ℕ
unchained w q = with_head w (chain_of w q) (link_of w q)

-- and can open no more
unfoldable pub popped : List ℕ → ℕ → List ℕ
popped w q = with_opens (unchained w q) q 0

-- of the open runs those above o lose open, from the top down: the memory, and how many are open then
unfoldable pub cleared : ℕ → List ℕ → ℕ → List ℕ × ℕ
cleared zero w o = (w, 0)
cleared (suc h) w o =
    let on = cleared h (popped w (open_at w h)) o in
    choose (ltb o (open_at w h)) on (w, suc h)

-- an opener that had a markers, of which k are taken, leaves its chain and the open runs if that empties it
unfoldable pub leaves : List ℕ → ℕ → ℕ → ℕ → List ℕ
leaves w o a k = choose (eqb a k) (unchained w o) w

unfoldable pub lowered : ℕ → ℕ → ℕ → ℕ
lowered height a k = choose (eqb a k) (height - 1) height

-- the group g of o and c, which takes k, linked to the opener's group before it; the closer's first group is kept
unfoldable pub joined : List ℕ → ℕ → ℕ → ℕ → ℕ → List ℕ
joined w g o c k =
    let v = with_latest_group (with_group w g o c k (latest_group_of w o)) o (g + 1) in
    choose (eqb (first_group_of w c) 0) (with_first_group v c (g + 1)) v

-- how many a match of o and c takes
abbrev pub taken_at : List ℕ → ℕ → ℕ → ℕ
taken_at w o c = amount (left_of w o) (left_of w c)

-- a match of o and c, the group g, where `height` runs are open: the memory, and how many are open then
unfoldable pub matched_at : List ℕ → ℕ → ℕ → ℕ → ℕ → List ℕ × ℕ
matched_at w height o c g =
    let a = left_of w o in
    let b = left_of w c in
    let k = taken_at w o c in
    let v = cleared height w o in
    (joined (with_left (with_left (leaves v.0 o a k) o (a - k)) c (b - k)) g o c k, lowered v.1 a k)

-- numbers are in range: of chains, and of open runs
pub record Ranged (w : List ℕ) (height : ℕ) : Type 0 where
  pub room : Room w
  pub low : height ≤ 1024
  pub runs : (x : ℕ) → x < height → open_at w x < 1024
  pub chains : (x : ℕ) → x < height → chain_of w (open_at w x) < 6147

-- and the opener, which is open, and the closer have markers left
pub record Takable (w : List ℕ) (height o c g : ℕ) : Type 0 where
  pub ranged : Ranged w height
  pub before : o < c
  pub within : c < 1024
  pub some : 0 < left_of w o
  pub some' : 0 < left_of w c
  pub few : g < 1000
  pub place : ℕ
  pub below : place < height
  pub stands : open_at w place ≡ o
