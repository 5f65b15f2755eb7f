-- Every event of the record comes in the result, as it was, and as one event alone.
-- Assumes nothing.
use Prim.Native.Nat.{ℕ, zero, suc, ◌+◌, ◌≤◌, ◌<◌}
use mathlib.Core.Path.{◌≡◌, refl, sym, ap, ◌∙◌}
use mathlib.Core.Logic.{◌⊎◌, inl, inr}
use mathlib.Core.List.{List, [], ◌∷◌, ◌++◌}
use native.Mathlib.Nat.{zero-add}
use native.Mathlib.Omega.{arith}
use lib.ListN.{length, drop, length-append, length-drop}
use lib.Seq.{drop-nil, drop-append_seam}
use Rattle.record.specs.Stack.{nth}
use Rattle.record.specs.declared.event.Event.{Event}
use Rattle.list.specs.Gathered.{Gathered, finished, with_event, Comes, EveryEventComes}
use Rattle.list.proofs.Pairing.{order}
use Rattle.list.proofs.Lying.{split_off}
use Rattle.list.proofs.Once.{before_once, once}

drop_plus : (p q : ℕ) (xs : List Event) → drop (p + q) xs ≡ drop q (drop p xs)
drop_plus zero q xs = ap (λ (k : ℕ). drop k xs) (zero-add q)
drop_plus (suc p) q [] = drop-nil (suc p + q) ∙ sym (drop-nil q)
drop_plus (suc p) q (x ∷ xs) =
    let e : suc p + q ≡ suc (p + q) = omega arith in
    ap (λ (k : ℕ). drop k (x ∷ xs)) e ∙ drop_plus p q xs

drop_past : (out : List Event) (p : ℕ) (xs ys : List Event) → drop p out ≡ xs ++ ys → drop (p + length xs) out ≡ ys
drop_past out p xs ys q = drop_plus p (length xs) out ∙ ap (λ (l : List Event). drop (length xs) l) q ∙ drop-append_seam xs ys

module _ {document : List ℕ} {es : List Event} (out : List Event) where
  coming : {j k : ℕ} {r : List Event} (p : ℕ) → Gathered document es j r → drop p out ≡ r → j ≤ k → k < length es →
      (m : ℕ) × Comes document es out k m × (nth out m ≡ nth es k)
  coming p (finished h) q l u = absurd (omega arith)
  coming {j} {k} p (with_event {before = before} {behind = behind} {out = o} h b e g) q l u =
      let d = drop_past out p before (nth es j ∷ (behind ++ o)) q in
      let x = split_off out (p + length before) (nth es j) (behind ++ o) d in
      let n = drop_past out (p + length before + 1) behind o x.1 in
      go (order j k)
      (p + length before, record { within = x.0.within; before = before; stands = b; onward = rw d (with_event h b e g) }, x.0.same)
      (λ z. coming (p + length before + 1 + length behind) g n z u)
    where
      go : (j < k) ⊎ ((j ≡ k) ⊎ (k < j)) → (m : ℕ) × Comes document es out j m × (nth out m ≡ nth es j) →
          (j + 1 ≤ k → (m : ℕ) × Comes document es out k m × (nth out m ≡ nth es k)) → (m : ℕ) × Comes document es out k m × (nth out m ≡ nth es k)
      go (inl z) c f = f (omega arith)
      go (inr (inl z)) c f = rw z at c
      go (inr (inr z)) c f = absurd (omega arith)

module _ {document : List ℕ} {es : List Event} where
  -- and as one event alone
  pub comes_once : {out : List Event} {k m l : ℕ} → Comes document es out k m → Comes document es out k l → m ≡ l
  comes_once {out} {k} {m} {l} p q =
      let b : p.before ≡ q.before = before_once p.stands q.stands in
      let same = ap length (once p.onward q.onward) in
      let x = length-append p.before (drop m out) in
      let y = length-append q.before (drop l out) in
      omega (arith, ap length b, same, x, y, length-drop m out, length-drop l out, p.within, q.within)

pub every_event_comes : EveryEventComes
every_event_comes document es out g k h =
    let c = coming out 0 g refl (omega arith) h in
    (c.0, c.1, c.2, λ l d. comes_once c.1 d)
