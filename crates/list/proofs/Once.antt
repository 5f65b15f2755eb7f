-- What document 01's words over event numbers allow as a result is one list of events.
-- Assumes nothing.
use Prim.Native.Nat.{ℕ}
use mathlib.Core.Path.{◌≡◌, refl, ap}
use mathlib.Core.List.{List, [], ◌∷◌}
use native.Mathlib.Omega.{arith}
use Rattle.record.specs.Event.{enter, exit}
use Rattle.record.specs.Stack.{nth}
use Rattle.record.specs.declared.event.Event.{Event}
use Rattle.list.specs.Neighbours.{mark_at}
use Rattle.list.specs.Gathered.{Named, by_point, by_bracket, by_other}
use Rattle.list.specs.Gathered.{Before, begins, joined, enters_none, Behind, ends, joins, exits_none, Gathered, finished, with_event, GatheredOnce}
use Rattle.list.proofs.Pairing.{one_enter}

named_once : {mark n m : ℕ} → Named mark n → Named mark m → n ≡ m
named_once by_point by_point = refl
named_once by_point (by_other p q) = absurd (p refl)
named_once by_bracket by_bracket = refl
named_once by_bracket (by_other p q) = absurd (q refl)
named_once (by_other p q) by_point = absurd (p refl)
named_once (by_other p q) by_bracket = absurd (q refl)
named_once (by_other p q) (by_other s t) = refl

module _ {document : List ℕ} {es : List Event} {k : ℕ} where
  pub before_once : {x y : List Event} → Before document es k x → Before document es k y → x ≡ y
  before_once (begins i f n) (begins j g m) = ap (λ (l : ℕ). enter l (nth es k).place ∷ []) (named_once n m)
  before_once (begins i f n) (joined {i = e} j) = absurd (f e j)
  before_once (begins {far = far} i f n) (enters_none g) = absurd (g far i)
  before_once (joined {i = e} j) (begins i f n) = absurd (f e j)
  before_once (joined j) (joined h) = refl
  before_once (joined j) (enters_none g) = refl
  before_once (enters_none g) (begins {far = far} i f n) = absurd (g far i)
  before_once (enters_none g) (joined h) = refl
  before_once (enters_none g) (enters_none h) = refl

  behind_once : {x y : List Event} → Behind document es k x → Behind document es k y → x ≡ y
  behind_once (ends {i = a} {name = x} i f n) (ends {i = b} {name = y} j g m) =
      let q : a ≡ b = one_enter i j in
      let s : x ≡ y = named_once {mark = mark_at document es b} (rw q at n) m in
      ap (λ (l : ℕ). exit l (nth es k).place ∷ []) s
  behind_once (ends {i = a} i f n) (joins {i = b} {j = e} j h) =
      let q : b ≡ a = one_enter j i in
      absurd (f e (rw q at h))
  behind_once (ends {i = a} i f n) (exits_none g) = absurd (g a i)
  behind_once (joins {i = b} {j = e} j h) (ends {i = a} i f n) =
      let q : b ≡ a = one_enter j i in
      absurd (f e (rw q at h))
  behind_once (joins j h) (joins i f) = refl
  behind_once (joins j h) (exits_none g) = refl
  behind_once (exits_none g) (ends {i = a} i f n) = absurd (g a i)
  behind_once (exits_none g) (joins j h) = refl
  behind_once (exits_none g) (exits_none h) = refl

pub once : {document : List ℕ} {es : List Event} {k : ℕ} {out other : List Event} → Gathered document es k out → Gathered document es k other → out ≡ other
once (finished h) (finished l) = refl
once (finished h) (with_event l b e g) = absurd (omega arith)
once (with_event l b e g) (finished h) = absurd (omega arith)
once (with_event {before = x} {behind = y} {out = o} l b e g) (with_event {before = u} {behind = v} {out = w} m c f h) =
    let p : x ≡ u = before_once b c in
    let q : y ≡ v = behind_once e f in
    let r : o ≡ w = once g h in
    cc

pub gathered_once : GatheredOnce
gathered_once document es out other g h = once g h
