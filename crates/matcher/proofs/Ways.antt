-- The chained matcher's definition, turn by turn: what one turn of each loop makes of it.
-- Assumes nothing.
use Prim.Native.Nat.{ℕ, zero, suc, ◌+◌, ◌-◌, ◌<◌, ◌≤◌}
use mathlib.Core.Path.{◌≡◌, refl}
use mathlib.Core.List.{List}
use native.Mathlib.Omega.{arith}
use borrow.Author.Tests.{eq-eqb, ne_eqb, lt-ltb, le-ltb}
use Rattle.std.specs.Prelude.{Result, Ok, Err}
use Rattle.record.specs.Choice.{choose}
use Rattle.runs.specs.Rule.{Rule}
use Rattle.runs.specs.declared.Next.{Next}
use Rattle.runs.specs.declared.Next.TheVariants.{Match, Done}
use Rattle.chains.specs.Walk.{onward}
use Rattle.chains.specs.Step.{matched_at}
use Rattle.matcher.specs.Along.{closer_along, closer_by, along, closed_at, groups_at, too_many}
use Rattle.matcher.specs.declared.closers.Closed.{Closed}
use Rattle.matcher.specs.declared.closers.TooMany.{TooMany}

-- one turn for one closer
module _ (rule : Rule) (w : List ℕ) (held at until made count : ℕ) {x : Next} {w₁ : List ℕ} {h₁ : ℕ} (e : (x, (w₁, h₁)) ≡ onward (until - at) rule w held at 0) where
  pub done_way : {u : ℕ} → x ≡ Done u → closer_by rule w held at until made count ≡ (Ok (closed_at until h₁ made (count + u)), w₁)
  unfolding closer_along
  done_way d = rw (← e, d)

  pub full_way : {o c u : ℕ} → x ≡ Match o c u → made ≡ 1000 → closer_by rule w held at until made count ≡ (Err too_many, w₁)
  unfolding closer_along choose
  full_way d m = rw (← e, d, eq-eqb made 1000 m)

  pub again_way : {o c u : ℕ} {w₂ : List ℕ} {h₂ : ℕ} → x ≡ Match o c u → (made ≡ 1000 → ⊥) → made ≤ 1000 → (w₂, h₂) ≡ matched_at w₁ h₁ o c made →
      closer_by rule w held at until made count ≡ closer_by rule w₂ h₂ c (c + 1) (made + 1) (count + u)
  unfolding closer_along choose
  again_way d m s f =
      let k : 1000 - made ≡ suc (1000 - (made + 1)) = omega arith in
      rw (← e, d, ne_eqb made 1000 m, ← f, k)

-- one turn over the closers
module _ (rule : Rule) (w : List ℕ) (height n from made count : ℕ) where
  pub end_way : (k : ℕ) → n ≤ from → along k rule w height n from made count ≡ (Ok (groups_at made count), w)
  unfolding along choose
  end_way zero h = refl
  end_way (suc k) h = rw (le-ltb from n h)

  module _ {step : Result Closed TooMany} {w₁ : List ℕ} (e : (step, w₁) ≡ closer_by rule w height from n made count) (h : from < n) where
    pub full_all : (k : ℕ) {x : TooMany} → n - from < k → step ≡ Err x → along k rule w height n from made count ≡ (Err x, w₁)
    unfolding along choose
    full_all zero l d = absurd (omega arith)
    full_all (suc k) l d = rw (lt-ltb from n h, ← e, d)

    pub again_all : (k : ℕ) {c : Closed} → n - from < k → step ≡ Ok c →
        along k rule w height n from made count ≡ along (k - 1) rule w₁ c.height n c.next c.groups c.tried
    unfolding along choose
    again_all zero l d = absurd (omega arith)
    again_all (suc k) l d =
        let z : suc k - 1 ≡ k = omega arith in
        rw (lt-ltb from n h, ← e, d, z)
