-- Wherever the chained matcher stands it is on its way: the steps that are left come to its answer. Passing a run changes nothing but where the walk
-- goes on from and the count there.
--     onward-shift       onward along the chains from another count
--     closer-passing     one closer, from the run behind a run that is passed
--     along-passing      all closers in the same way
-- Assumes nothing.
use Prim.Native.Nat.{ℕ, zero, suc, ◌+◌, ◌-◌, ◌<◌}
use mathlib.Core.Path.{◌≡◌, refl, sym, ap, ◌∙◌}
use mathlib.Core.Bool.{Bool, true, false}
use mathlib.Core.List.{List}
use native.Mathlib.Omega.{arith}
use lib.Dec.{eqb, ltb}
use borrow.Author.Tests.{lt-ltb, ltb-true, ltb-false}
use Rattle.std.specs.Prelude.{Result, Ok, Err}
use Rattle.record.specs.Choice.{choose}
use Rattle.runs.specs.declared.Next.{Next}
use Rattle.runs.specs.declared.Next.TheVariants.{Match, Done}
use Rattle.runs.specs.Rule.{Rule}
use Rattle.runs.specs.Plain.{Standing, Look, hit, miss, settle}
use Rattle.slots.specs.Layout.{link_of}
use Rattle.chains.specs.Step.{matched_at}
use Rattle.chains.specs.Walk.{takes_at, first, down, closing, seek, passed, raised, onward}
use Rattle.matcher.specs.State.{Fresh}
use Rattle.matcher.specs.Along.{walked, closer_along, closer_by, stepped, along, chained, closed_at, too_many}
use Rattle.matcher.specs.declared.closers.Closed.{Closed}
use Rattle.matcher.specs.declared.closers.TooMany.{TooMany}
use Rattle.matcher.proofs.Chained.{onward_suc}
use Rattle.matcher.proofs.Rounds.{raise}
use Rattle.matcher.proofs.Ways.{done_way, end_way, again_all}
use Rattle.claims.specs.Positions.{Stands, at_the_first, after_passing, after_a_closer}
use Rattle.claims.proofs.Positions.{stands_both, closes_onward}

-- from another count
abbrev later : ℕ → Look → Look
later s (hit o u) = hit o (s + u)
later s (miss u) = miss (s + u)

down_shift : (k : ℕ) (rule : Rule) (w : List ℕ) (i p s t : ℕ) → down k rule w i p (s + t) ≡ later s (down k rule w i p t)
unfolding down choose
down_shift zero rule w i p s t = refl
down_shift (suc k) rule w i p s t = go (down_shift k rule w i (link_of w (p - 1)) s (t + 1)) (eqb p 0) (takes_at rule w (p - 1) i)
  where
    z : s + t + 1 ≡ s + (t + 1)
    z = omega arith

    go : down k rule w i (link_of w (p - 1)) (s + (t + 1)) ≡ later s (down k rule w i (link_of w (p - 1)) (t + 1)) → (x y : Bool) →
        choose x (miss (s + t)) (choose y (hit (p - 1) (s + t + 1)) (down k rule w i (link_of w (p - 1)) (s + t + 1)))
        ≡ later s (choose x (miss t) (choose y (hit (p - 1) (t + 1)) (down k rule w i (link_of w (p - 1)) (t + 1))))
    go ih true y = refl
    go ih false true = rw z
    go ih false false = rw z ih

seek_shift : (rule : Rule) (w : List ℕ) (i s t : ℕ) → seek rule w i (s + t) ≡ later s (seek rule w i t)
unfolding seek choose
seek_shift rule w i s t = go (down_shift (first w i) rule w i (first w i) s t) (closing w i)
  where
    go : down (first w i) rule w i (first w i) (s + t) ≡ later s (down (first w i) rule w i (first w i) t) → (x : Bool) →
        choose x (down (first w i) rule w i (first w i) (s + t)) (miss (s + t)) ≡ later s (choose x (down (first w i) rule w i (first w i) t) (miss t))
    go e true = e
    go e false = refl

abbrev raised_by : ℕ → Next × (List ℕ × ℕ) → Next × (List ℕ × ℕ)
raised_by s x = (raise s x.0, x.1)

onward_shift : (m : ℕ) (rule : Rule) (w : List ℕ) (height i s t : ℕ) → onward m rule w height i (s + t) ≡ raised_by s (onward m rule w height i t)
unfolding onward
onward_shift zero rule w height i s t = refl
onward_shift (suc m) rule w height i s t = rw (seek_shift rule w i s t) (go (λ u. onward_shift m rule (passed w height i) (raised w height i) (i + 1) s u) (seek rule w i t))
  where
    go : ((u : ℕ) → onward m rule (passed w height i) (raised w height i) (i + 1) (s + u) ≡ raised_by s (onward m rule (passed w height i) (raised w height i) (i + 1) u)) → (x : Look) →
        settle (later s x) (λ o u. (Match o i u, (w, height))) (λ u. onward m rule (passed w height i) (raised w height i) (i + 1) u)
        ≡ raised_by s (settle x (λ o u. (Match o i u, (w, height))) (λ u. onward m rule (passed w height i) (raised w height i) (i + 1) u))
    go ih (hit o u) = refl
    go ih (miss u) = ih u

-- one turn for one closer: its walk found nothing, or a match
abbrev turn : ℕ → Rule → ℕ → ℕ → ℕ → Next × (List ℕ × ℕ) → Result Closed TooMany × List ℕ
turn k rule until made count x =
    walked x (λ u v h. (Ok (closed_at until h made (count + u)), v))
    (λ o c u v h. choose (eqb made 1000) (Err too_many, v) (closer_along k rule (matched_at v h o c made).0 (matched_at v h o c made).1 c (c + 1) (made + 1) (count + u)))

closer_suc : (k : ℕ) (rule : Rule) (w : List ℕ) (height at until made count : ℕ)
    → closer_along (suc k) rule w height at until made count ≡ turn k rule until made count (onward (until - at) rule w height at 0)
unfolding closer_along
closer_suc k rule w height at until made count = refl

-- a run is passed: one closer, from behind it
module _ (rule : Rule) (w : List ℕ) (height i n u : ℕ) (l : i < n) (none : seek rule w i 0 ≡ miss u) where
  onward_passing : onward (n - i) rule w height i 0 ≡ raised_by u (onward (n - (i + 1)) rule (passed w height i) (raised w height i) (i + 1) 0)
  onward_passing =
      let m : n - i ≡ suc (n - (i + 1)) = omega arith in
      let z : u ≡ u + 0 = omega arith in
      ap (λ x. onward x rule w height i 0) m ∙ onward_suc (n - (i + 1)) rule w height i 0
      ∙ ap (λ x. settle x (λ o u. (Match o i u, (w, height))) (λ u. onward (n - (i + 1)) rule (passed w height i) (raised w height i) (i + 1) u)) none
      ∙ ap (λ x. onward (n - (i + 1)) rule (passed w height i) (raised w height i) (i + 1) x) z
      ∙ onward_shift (n - (i + 1)) rule (passed w height i) (raised w height i) (i + 1) u 0

  closer_passing : (made tried : ℕ) → closer_by rule w height i n made tried ≡ closer_by rule (passed w height i) (raised w height i) (i + 1) n made (tried + u)
  closer_passing made tried =
      closer_suc (1000 - made) rule w height i n made tried
      ∙ ap (λ x. turn (1000 - made) rule n made tried x) onward_passing
      ∙ go (onward (n - (i + 1)) rule (passed w height i) (raised w height i) (i + 1) 0)
      ∙ sym (closer_suc (1000 - made) rule (passed w height i) (raised w height i) (i + 1) n made (tried + u))
    where
      go : (x : Next × (List ℕ × ℕ)) → turn (1000 - made) rule n made tried (raised_by u x) ≡ turn (1000 - made) rule n made (tried + u) x
      go (Done v, (y, h)) = let z : tried + (u + v) ≡ tried + u + v = omega arith in rw z
      go (Match o c v, (y, h)) = let z : tried + (u + v) ≡ tried + u + v = omega arith in rw z

-- one turn over the closers
along_step : (rule : Rule) (w : List ℕ) (height n i made tried k : ℕ) → i < n →
    along (suc k) rule w height n i made tried ≡ stepped (closer_by rule w height i n made tried) (λ next h made' count' v. along k rule v h n next made' count')
unfolding along choose
along_step rule w height n i made tried k h = rw (lt-ltb i n h)

-- at the end of the runs nothing is left to do
closer_end : (rule : Rule) (w : List ℕ) (height n made tried : ℕ) → closer_by rule w height n n made tried ≡ (Ok (closed_at n height made tried), w)
unfolding onward
closer_end rule w height n made tried =
    let z : n - n ≡ zero = omega arith in
    let t : tried + 0 ≡ tried = omega arith in
    let none : (Done 0, (w, height)) ≡ onward (n - n) rule w height n 0 = rw z in
    rw t at (done_way rule w height n n made tried none refl)

module _ (rule : Rule) (w : List ℕ) (height i n u : ℕ) (l : i < n) (none : seek rule w i 0 ≡ miss u) (made tried : ℕ) where
  along_passing : (k : ℕ) → n - i < k → along k rule w height n i made tried ≡ along k rule (passed w height i) (raised w height i) n (i + 1) made (tried + u)
  along_passing zero h = absurd (omega arith)
  along_passing (suc k) h = go (ltb (i + 1) n) refl
    where
      go : (z : Bool) → ltb (i + 1) n ≡ z → along (suc k) rule w height n i made tried ≡ along (suc k) rule (passed w height i) (raised w height i) n (i + 1) made (tried + u)
      go true e =
          along_step rule w height n i made tried k l ∙ ap (λ x. stepped x (λ next h made' count' v. along k rule v h n next made' count')) (closer_passing rule w height i n u l none made tried)
          ∙ sym (along_step rule (passed w height i) (raised w height i) n (i + 1) made (tried + u) k (ltb-true (i + 1) n e))
      go false e =
          let last : i + 1 ≡ n = omega (arith, ltb-false (i + 1) n e) in
          let here : (Ok (closed_at n (raised w height i) made (tried + u)), passed w height i) ≡ closer_by rule w height i n made tried =
          sym (closer_passing rule w height i n u l none made tried ∙ rw last (closer_end rule (passed w height i) (raised w height i) n made (tried + u))) in
          again_all rule w height n i made tried here l (suc k) h refl
          ∙ end_way rule (passed w height i) (raised w height i) n n made (tried + u) (suc k - 1) (omega arith)
          ∙ sym (end_way rule (passed w height i) (raised w height i) n (i + 1) made (tried + u) (suc k) (omega arith))

-- the steps that are left come to the same
pub record OnTheWay (rule : Rule) (n : ℕ) (w₀ w : List ℕ) (height i made tried : ℕ) : Type 0 where
  pub turns : ℕ
  pub enough : n - i < turns
  pub way : chained rule w₀ n ≡ along turns rule w height n i made tried

pub on_the_way : {rule : Rule} {n : ℕ} {w₀ : List ℕ} {rs₀ : List Standing} {w : List ℕ} {height i made tried : ℕ} → Fresh w₀ rs₀ n → Stands rule n w₀ w height i made tried →
    OnTheWay rule n w₀ w height i made tried
unfolding chained
on_the_way {n = n} f at_the_first = record { turns = n + 1; enough = omega arith; way = refl }
on_the_way {rule} {n} f (after_passing {w} {height} {i} {made} {tried} {u} st l e) =
    let o = on_the_way f st in
    record { turns = o.turns; enough = omega (arith, o.enough); way = o.way ∙ along_passing rule w height i n u l e made tried o.turns o.enough }
on_the_way {rule} {n} f (after_a_closer {w} {w'} {height} {i} {made} {tried} st l e) =
    let o = on_the_way f st in
    let more = closes_onward (stands_both f st) l e in
    record { turns = o.turns - 1; enough = omega (arith, o.enough); way = o.way ∙ again_all rule w height n i made tried e l o.turns o.enough refl }
