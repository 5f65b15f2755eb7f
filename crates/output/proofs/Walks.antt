-- Some events lead from these open names to those: each exit has the innermost of them as its enter. A list of events that rises and leads
-- from what is open to nothing is sound, in any depth that it cannot pass.
-- Assumes nothing.
use Prim.Native.Nat.{ℕ, ◌+◌, ◌≤◌}
use mathlib.Core.Path.{◌≡◌, refl}
use mathlib.Core.Bool.{true}
use mathlib.Core.List.{List, [], ◌∷◌, ◌++◌}
use native.Mathlib.Omega.{arith}
use lib.ListN.{length}
use Rattle.record.specs.Event.{enter, exit}
use Rattle.record.specs.Sound.{sound_from}
use Rattle.record.specs.declared.event.Event.{Event}
use Rattle.record.proofs.Soundness.{sound_enter, sound_exit}

pub data Walks : List Event → List ℕ → List ℕ → Type 0 where
  stay : {h : List ℕ} → Walks [] h h
  into : {e : Event} {es : List Event} {h k : List ℕ} → e.kind ≡ 0 → Walks es (e.name ∷ h) k → Walks (e ∷ es) h k
  out : {e : Event} {es : List Event} {n : ℕ} {h k : List ℕ} → e.kind ≡ 1 → n ≡ e.name → Walks es h k → Walks (e ∷ es) (n ∷ h) k

-- two walks in a row
pub walks_append : {es fs : List Event} {h k m : List ℕ} → Walks es h k → Walks fs k m → Walks (es ++ fs) h m
walks_append stay v = v
walks_append (into z w) v = into z (walks_append w v)
walks_append (out z n w) v = out z n (walks_append w v)

-- and apart again
pub walks_split : (es : List Event) {fs : List Event} {h m : List ℕ} → Walks (es ++ fs) h m → (k : List ℕ) × Walks es h k × Walks fs k m
walks_split [] {h = h} w = (h, stay, w)
walks_split (e ∷ es) (into z w) = let r = walks_split es w in (r.0, into z r.1, r.2)
walks_split (e ∷ es) (out z n w) = let r = walks_split es w in (r.0, out z n r.1, r.2)

-- the same walk where more is open outside
pub walks_over : {es : List Event} {h k : List ℕ} (x : List ℕ) → Walks es h k → Walks es (h ++ x) (k ++ x)
walks_over x stay = stay
walks_over x (into z w) = into z (walks_over x w)
walks_over x (out z n w) = out z n (walks_over x w)

-- where a walk ends is decided by where it begins
pub walks_same : {es : List Event} {h k m : List ℕ} → Walks es h k → Walks es h m → k ≡ m
walks_same stay stay = refl
walks_same (into y w) (into z v) = walks_same w v
walks_same (into y w) (out z n v) = absurd (omega arith)
walks_same (out y m w) (into z v) = absurd (omega arith)
walks_same (out y m w) (out z n v) = walks_same w v

-- events whose kinds and names are good and whose places rise, from one place up to another
pub data Rises : ℕ → List Event → ℕ → Type 0 where
  ends : {at end : ℕ} → at ≤ end → Rises at [] end
  goes : {at end : ℕ} {e : Event} {es : List Event} → e.kind ≤ 1 → e.name ≤ 24 → at ≤ e.place → Rises e.place es end → Rises at (e ∷ es) end

-- one event before the rest
pub enters_at : {at end : ℕ} {es : List Event} (name place : ℕ) → name ≤ 24 → at ≤ place → Rises place es end → Rises at (enter name place ∷ es) end
enters_at name place n l r = let k : 0 ≤ 1 = omega arith in goes {e = enter name place} k n l r

pub leaves_at : {at end : ℕ} {es : List Event} (name place : ℕ) → name ≤ 24 → at ≤ place → Rises place es end → Rises at (exit name place ∷ es) end
leaves_at name place n l r = let k : 1 ≤ 1 = omega arith in goes {e = exit name place} k n l r

pub rises_to : {a b : ℕ} {es : List Event} → Rises a es b → a ≤ b
rises_to (ends h) = h
rises_to (goes k n l r) = let h = rises_to r in omega arith

-- from an earlier place
pub rises_from : {a b c : ℕ} {es : List Event} → a ≤ b → Rises b es c → Rises a es c
rises_from {a} {b} {c} h (ends l) = let k : a ≤ c = omega arith in ends k
rises_from {a} h (goes {e = e} k n l r) = let m : a ≤ e.place = omega arith in goes k n m r

pub rises_append : {a b c : ℕ} {es fs : List Event} → Rises a es b → Rises b fs c → Rises a (es ++ fs) c
rises_append (ends l) u = rises_from l u
rises_append (goes k n l r) u = goes k n l (rises_append r u)

-- both together
pub walked_sound : {last d : ℕ} {es : List Event} {h : List ℕ} (room : ℕ) → Rises last es d → Walks es h [] → length h + length es ≤ room →
    sound_from room d last h es ≡ true
unfolding sound_from
walked_sound room (ends l) stay f = refl
walked_sound {last} {d} {h = h} room (goes {e = e} {es = es} k n l r) (into z w) f =
    let p = rises_to r in
    sound_enter room d last h e es z n p l (omega arith) (walked_sound room r w (omega arith))
walked_sound {last} {d} room (goes {e = e} {es = es} k n l r) (out {n = m} {h = h} z q w) f =
    let p = rises_to r in
    let s = sound_exit room d last h e es z n p l (walked_sound room r w (omega arith)) in
    rw q s
