-- The list that some events of a record are: its length, its first few, and what is behind them.
-- Assumes nothing.
use Rattle.std.proofs.Common.{◌≡◌, refl, sym, ap, ◌∙◌, ℕ, zero, suc, ◌+◌, ◌*◌, ◌-◌, ◌≤◌, ◌<◌, min, List, [], ◌∷◌, ◌++◌, length, take, drop, arith, ◌⊎◌, inl, inr}
use Rattle.std.proofs.lemmas.Bool.{cases_lt}
use Rattle.std.proofs.Math.Seq.{take-suc}
use Rattle.std.proofs.lemmas.List.{take_all, drop_all}
use Rattle.record.specs.Event.{event_at, events_by}
use Rattle.record.specs.EventsOf.{events_of, LastOf}
use Rattle.record.specs.Stack.{nth}
use Rattle.record.specs.declared.event.Event.{Event}
use Rattle.record.specs.declared.listed.Events.{Events}
use Rattle.record.proofs.Parts.{less, length_events, drop_events, nth_event, events_none}

pub length_of : (v : Events) → length (events_of v) ≡ v.count
unfolding events_of
length_of v = length_events v.width v.count v.bytes.now v.from

pub events_take : (w n k : ℕ) (s : List ℕ) (at : ℕ) → k ≤ n → take k (events_by w n s at) ≡ events_by w k s at
unfolding events_by
events_take w n zero s at h = refl
events_take w zero (suc k) s at h = absurd (omega arith)
events_take w (suc n) (suc k) s at h = ap (λ (l : List Event). event_at s at ∷ l) (events_take w n k s (at + w) (omega arith))

-- a list is as long as its first n where they are all
least : (n m count : ℕ) → m ≡ min n count → m ≤ count
least n m count e = omega arith

pub event_of : (v : Events) (k : ℕ) → k < v.count → event_at v.bytes.now (v.from + v.width * k) ≡ nth (events_of v) k
unfolding events_of
event_of v k h = sym (nth_event v.width v.count k v.bytes.now v.from h)

-- nor does a number past the length take or pass more
past : (n m count : ℕ) → m ≡ min n count → (m ≡ n) ⊎ ((m ≡ count) × (count ≤ n))
past n m count e = go (cases_lt n count)
  where
    go : (n < count) ⊎ (count ≤ n) → (m ≡ n) ⊎ ((m ≡ count) × (count ≤ n))
    go (inl h) = inl (omega arith)
    go (inr h) = inr (omega arith, h)

taken_same : (n m : ℕ) (es : List Event) → m ≡ min n (length es) → take m es ≡ take n es
taken_same n m es e = go (past n m (length es) e)
  where
    go : (m ≡ n) ⊎ ((m ≡ length es) × (length es ≤ n)) → take m es ≡ take n es
    go (inl k) = rw k
    go (inr k) = rw k.0 (take_all (length es) es (omega arith) ∙ sym (take_all n es k.1))

left_same : (n m : ℕ) (es : List Event) → m ≡ min n (length es) → drop m es ≡ drop n es
left_same n m es e = go (past n m (length es) e)
  where
    go : (m ≡ n) ⊎ ((m ≡ length es) × (length es ≤ n)) → drop m es ≡ drop n es
    go (inl k) = rw k
    go (inr k) = rw k.0 (drop_all (length es) es (omega arith) ∙ sym (drop_all n es k.1))

pub taken : (w count : ℕ) (s : List ℕ) (at n m : ℕ) → m ≡ min n count → events_by w m s at ≡ take n (events_by w count s at)
taken w count s at n m e =
    let k : m ≡ min n (length (events_by w count s at)) = rw (length_events w count s at) e in
    sym (events_take w count m s at (least n m count e)) ∙ taken_same n m (events_by w count s at) k

pub left : (w count : ℕ) (s : List ℕ) (at n m : ℕ) → m ≡ min n count → events_by w (count - m) s (at + w * m) ≡ drop n (events_by w count s at)
left w count s at n m e =
    let k : m ≡ min n (length (events_by w count s at)) = rw (length_events w count s at) e in
    sym (drop_events w count m s at (least n m count e)) ∙ left_same n m (events_by w count s at) k

pub none_of : (v : Events) → v.count ≡ 0 → events_of v ≡ []
unfolding events_of
none_of v e = events_none v.width v.count v.bytes.now v.from e

pub split_of : (v : Events) (e : Event) (rest : List Event) → (v.count ≡ 0 → ⊥) → e ≡ nth (events_of v) 0 → rest ≡ drop 1 (events_of v) → events_of v ≡ e ∷ rest
split_of v e rest h p q = go (events_of v) (λ z. h (sym (length_of v) ∙ ap length z)) p q
  where
    go : (es : List Event) → (es ≡ [] → ⊥) → e ≡ nth es 0 → rest ≡ drop 1 es → es ≡ e ∷ rest
    go [] n p q = absurd (n refl)
    go (x ∷ es) n p q = cc

pub split_last_of : (v : Events) (e : Event) (front : List Event) → (v.count ≡ 0 → ⊥) → e ≡ nth (events_of v) (v.count - 1) → front ≡ take (v.count - 1) (events_of v) →
    events_of v ≡ front ++ (e ∷ [])
split_last_of v e front h p q = go (events_of v) (v.count - 1) (omega (arith, length_of v)) p q
  where
    go : (es : List Event) (k : ℕ) → length es ≡ suc k → e ≡ nth es k → front ≡ take k es → es ≡ front ++ (e ∷ [])
    go es k l p q = rw (p, q) (sym (take_all (suc k) es (omega arith)) ∙ take-suc es k (record { kind = 0; name = 0; place = 0 }) (omega arith))

-- behind some of them are the last of them
split_width : (w m k : ℕ) → w * m + w * k ≡ w * (m + k)
split_width w zero k = omega arith
split_width w (suc m) k = omega (arith, split_width w m k, less w (suc m) (omega arith), less w (suc m + k) (omega arith))

pub ends_kept : (w at count n m : ℕ) → m ≡ min n count → at + w * m + w * (count - m) ≡ at + w * count
ends_kept w at count n m e =
    let k : m + (count - m) ≡ count = omega (arith, least n m count e) in
    omega (arith, split_width w m (count - m), ap (λ (j : ℕ). w * j) k)

-- and the last of the last are the last of all
pub last_again : {u v w : Events} → LastOf u v → LastOf v w → LastOf u w
last_again a b =
    record {
      record_kept = b.record_kept ∙ a.record_kept;
      width_kept = b.width_kept ∙ a.width_kept;
      end_kept = b.end_kept ∙ a.end_kept;
      fewer = omega (arith, a.fewer, b.fewer);
    }

pub last_same : (v : Events) → LastOf v v
last_same v = record { record_kept = refl; width_kept = refl; end_kept = refl; fewer = omega arith }
