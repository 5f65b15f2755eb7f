-- The two passes over the events: what is left gives, with what is done, what the whole gives.
-- Assumes nothing.
use mathlib.Core.Path.{◌≡◌, refl, sym, ap, ◌∙◌}
use mathlib.Core.Bool.{Bool, true, false}
use mathlib.Core.List.{List, [], ◌∷◌, ◌++◌, append-nil, append_assoc}
use Prim.Native.Nat.{ℕ, zero, suc, ◌+◌, ◌*◌, ◌-◌, ◌≤◌}
use native.Mathlib.Omega.{arith}
use Rattle.std.proofs.Common.{Ok, Err, length-drop}
use lib.ListN.{length, take, drop, length-append, take-append-drop}
use lib.Seq.{length-take-le}
use Rattle.record.specs.Choice.{choose, and}
use Rattle.record.specs.Outcome.{Resolution, offends, gives}
use Rattle.record.specs.Partners.{balanced}
use Rattle.record.specs.declared.event.Event.{Event}
use Rattle.record.proofs.Bools.{and_right}
use Rattle.partners.specs.Pen.{At, Fits, Filled}
use Rattle.partners.specs.Section.{Ready, Puts}
use Rattle.partners.specs.declared.Section.{Section}
use Rattle.partners.proofs.Pens.{start, all_fit, all_put, filled}
use Rattle.partners.proofs.Sections.{puts_none, puts_then, ready_first, ready_then}
use Rattle.heading.specs.Headings.{is_of, before_first, inner_of, leaves, shaped, with_text, resolved_from, offending, earliest, headings}
use Rattle.heading.specs.Steps.{judged_of}
use Rattle.heading.proofs.Seeking.{before_le}
use Rattle.heading.proofs.Leaves.{first_leaf, rest_leaves, leaf_apart}

-- inner events that have got their text are passed over
pub resolved_past : (k : ℕ) (es : List Event) → resolved_from k es ≡ resolved_from 0 (drop k es)
unfolding resolved_from
resolved_past zero es = refl
resolved_past (suc k) [] = refl
resolved_past (suc k) (e ∷ es) = resolved_past k es

-- none of a heading's inner events enters a heading
pub leaves_passed : (es rest : List Event) (i : ℕ) (good : Resolution) → leaves es ≡ true → earliest i (es ++ rest) good ≡ earliest (i + length es) rest good
unfolding leaves earliest offending choose and
leaves_passed [] rest i good q =
    let k : i ≡ i + 0 = omega arith in
    ap (λ (m : ℕ). earliest m rest good) k
leaves_passed (e ∷ []) rest i good q = let z : ◌≡◌ {A = ℕ} 0 1 = cc in absurd (omega arith)
leaves_passed (e ∷ f ∷ es) rest i good q =
    let apart = leaf_apart 0 e f (first_leaf e f es q) in
    let k : i + 1 + 1 + length es ≡ i + suc (suc (length es)) = omega arith in
    rw (apart.0, apart.1) (leaves_passed es rest (i + 1 + 1) good (rest_leaves e f es q) ∙ ap (λ (m : ℕ). earliest m rest good) k)

pub inner_leaves : (es : List Event) → shaped es ≡ true → leaves es ≡ true
unfolding shaped
inner_leaves es q = and_right _ _ q

-- an event that enters no heading
module _ (e : Event) (es : List Event) (q : is_of 0 11 e ≡ false) where
  pub other_passed : (i : ℕ) (good : Resolution) → earliest i (e ∷ es) good ≡ earliest (i + 1) es good
  unfolding earliest offending choose and
  other_passed i good = rw q

  pub other_resolved : resolved_from 0 (e ∷ es) ≡ e ∷ resolved_from 0 es
  unfolding resolved_from choose
  other_resolved = rw q

-- one that does
module _ (e : Event) (es : List Event) (q : is_of 0 11 e ≡ true) where
  pub heading_refused : (i : ℕ) (good : Resolution) → shaped (inner_of es) ≡ false → earliest i (e ∷ es) good ≡ offends i
  unfolding earliest offending choose and
  heading_refused i good h = rw (q, h)

  pub heading_passed : (i : ℕ) (good : Resolution) → shaped (inner_of es) ≡ true →
      earliest i (e ∷ es) good ≡ earliest (i + 1 + before_first (is_of 1 11) es) (drop (before_first (is_of 1 11) es) es) good
  unfolding earliest offending choose and inner_of
  heading_passed i good h =
      let l : leaves (take (before_first (is_of 1 11) es) es) ≡ true = inner_leaves (take (before_first (is_of 1 11) es) es) h in
      rw (q, h)
      (ap (λ (l : List Event). earliest (i + 1) l good) (sym (take-append-drop (before_first (is_of 1 11) es) es))
      ∙ leaves_passed (take (before_first (is_of 1 11) es) es) (drop (before_first (is_of 1 11) es) es) (i + 1) good l
      ∙ ap (λ (m : ℕ). earliest (i + 1 + m) (drop (before_first (is_of 1 11) es) es) good) (length-take-le (before_first (is_of 1 11) es) es (before_le (is_of 1 11) es)))

  pub heading_resolved : resolved_from 0 (e ∷ es) ≡ e ∷ (with_text (inner_of es) ++ resolved_from 0 (drop (before_first (is_of 1 11) es) es))
  unfolding resolved_from choose
  heading_resolved = rw (q, resolved_past (before_first (is_of 1 11) es) es)

  -- where no heading offends, this one has the right shape
  pub heading_shaped : (i : ℕ) (r : List Event) → earliest i (e ∷ es) (gives r) ≡ gives r → shaped (inner_of es) ≡ true
  unfolding earliest offending choose and
  heading_shaped i r h = go (shaped (inner_of es)) refl
    where
      go : (b : Bool) → shaped (inner_of es) ≡ b → b ≡ true
      go true p = refl
      go false p =
          let z : offends i ≡ gives r = rw (q, p) at h in
          let y : ◌≡◌ {A = ℕ} 0 1 = cc in
          absurd (omega arith)

-- a heading's inner events, and how many they are
inner_length : (es : List Event) → length (inner_of es) ≡ before_first (is_of 1 11) es
unfolding inner_of
inner_length es = length-take-le (before_first (is_of 1 11) es) es (before_le (is_of 1 11) es)

-- the first pass: i events are judged, up to those that are left, and come to `size` events
pub record Judging (es rest : List Event) (size : ℕ) : Type 0 where
  pub i : ℕ
  pub low : i + length rest ≡ length es
  pub same : (good : Resolution) → earliest i rest good ≡ earliest 0 es good
  pub count : size + length (resolved_from 0 rest) ≡ length (resolved_from 0 es)
  pub small : size ≤ 4 * i

module _ {es rest : List Event} {size : ℕ} (v : Judging es rest size) (e : Event) (xs : List Event) (c : rest ≡ e ∷ xs) where
  pub judging_other : is_of 0 11 e ≡ false → Judging es xs (size + 1)
  judging_other q =
      record {
        i = v.i + 1;
        low = omega (arith, v.low, ap length c);
        same = λ good. sym (ap (λ (l : List Event). earliest v.i l good) c ∙ other_passed e xs q v.i good) ∙ v.same good;
        count = omega (arith, v.count, ap (λ (l : List Event). length (resolved_from 0 l)) c, ap length (other_resolved e xs q));
        small = omega (arith, v.small);
      }

  module _ (q : is_of 0 11 e ≡ true) (inner : List Event) (en : inner ≡ inner_of xs) where
    pub judging_refused : (k : ℕ) → k ≡ length es - length rest → shaped inner ≡ false → Err (record { event = k }) ≡ judged_of (headings es)
    unfolding headings
    judging_refused k ek h =
        let z : k ≡ v.i = omega (arith, v.low) in
        let h' : shaped (inner_of xs) ≡ false = rw en at h in
        rw z
        (ap judged_of
        (sym (ap (λ (l : List Event). earliest v.i l (gives (resolved_from 0 es))) c ∙ heading_refused e xs q v.i (gives (resolved_from 0 es)) h')
        ∙ v.same (gives (resolved_from 0 es))))

    pub judging_heading : (t n : ℕ) → n ≡ length inner → shaped inner ≡ true → t ≡ length (with_text inner) → t ≤ n + 3 →
        (ys : List Event) → ys ≡ drop n xs → Judging es ys (size + 1 + t)
    judging_heading t n ln h et lt ys ey =
        let m : ℕ = before_first (is_of 1 11) xs in
        let k : n ≡ m = ln ∙ ap length en ∙ inner_length xs in
        let y : ys ≡ drop m xs = ey ∙ ap (λ (j : ℕ). drop j xs) k in
        let h' : shaped (inner_of xs) ≡ true = rw en at h in
        let r = ap (λ (l : List Event). length (resolved_from 0 l)) c ∙ ap length (heading_resolved e xs q) in
        let a = length-append (with_text (inner_of xs)) (resolved_from 0 (drop m xs)) in
        let t' : t ≡ length (with_text (inner_of xs)) = et ∙ ap (λ (l : List Event). length (with_text l)) en in
        let d : length (resolved_from 0 ys) ≡ length (resolved_from 0 (drop m xs)) = ap (λ (l : List Event). length (resolved_from 0 l)) y in
        let l : length ys ≡ length xs - m = ap length y ∙ length-drop m xs in
        let b : m ≤ length xs = before_le (is_of 1 11) xs in
        record {
          i = v.i + 1 + m;
          low = omega (arith, v.low, ap length c);
          same = λ good.
              ap (λ (l : List Event). earliest (v.i + 1 + m) l good) y
              ∙ sym (ap (λ (l : List Event). earliest v.i l good) c ∙ heading_passed e xs q v.i good h')
              ∙ v.same good;
          count = omega (arith, v.count, r, a);
          small = omega (arith, v.small);
        }

pub judging_done : {es rest : List Event} {size : ℕ} → Judging es rest size → rest ≡ [] → Ok size ≡ judged_of (headings es)
unfolding headings earliest resolved_from
judging_done {es} {rest} {size} v h =
    let r : List Event = resolved_from 0 es in
    let a : earliest v.i rest (gives r) ≡ gives r = ap (λ (l : List Event). earliest v.i l (gives r)) h in
    let b : length (resolved_from 0 rest) ≡ 0 = ap (λ (l : List Event). length (resolved_from 0 l)) h in
    let c : size ≡ length r = omega (arith, v.count, b) in
    ap (λ (m : ℕ). Ok m) c ∙ ap judged_of (sym a ∙ v.same (gives r))

-- the second pass: what is put so far, with what is left behind it, is the whole
pub record Writing (w : ℕ) (es : List Event) (s₀ : Section) (rest : List Event) (s : Section) : Type 0 where
  pub begun : At w s₀.out.now (resolved_from 0 es) 0 s₀.out.now s₀.pen
  pub i : ℕ
  pub fine : earliest i rest (gives (resolved_from 0 es)) ≡ gives (resolved_from 0 es)
  pub done : List Event
  pub split : resolved_from 0 es ≡ done ++ resolved_from 0 rest
  pub put : Puts s₀ done s

pub writing_start : (w n : ℕ) (es : List Event) (out : List ℕ) (s : Section) → s.out.now ≡ out → s.pen ≡ record { at = 4; width = w; number = 0; held = 12 + 12 * n } →
    8 ≤ w → n ≤ 8000 → length (resolved_from 0 es) ≡ n → balanced (resolved_from 0 es) ≡ true →
    headings es ≡ gives (resolved_from 0 es) → 4 + w * n ≤ length out → Writing w es s es s
unfolding headings
writing_start w n es out s o q wide few long bal h room =
    record {
      begun = rw o (start w n out (resolved_from 0 es) q long few bal wide room);
      i = 0;
      fine = h;
      done = [];
      split = refl;
      put = puts_none s;
    }

module _ {w : ℕ} {es : List Event} {s₀ : Section} {rest : List Event} {s : Section} (v : Writing w es s₀ rest s) where
  rest_fits : Ready s (resolved_from 0 rest)
  rest_fits =
      let a : Fits s₀.out.now s₀.pen (resolved_from 0 es) = all_fit v.begun in
      let f : Fits s₀.out.now s₀.pen (v.done ++ resolved_from 0 rest) = rw v.split at a in
      ready_then v.done (resolved_from 0 rest) v.put (record { fits = f })

  pub writing_done : rest ≡ [] → Filled w s₀.out.now (resolved_from 0 es) s.out.now
  unfolding resolved_from
  writing_done h =
      let z : v.done ≡ resolved_from 0 es = sym (v.split ∙ rw h (append-nil v.done)) in
      filled {p = s.pen} (all_put v.begun (rw (← z) v.put.put))

  -- where more is put, it is the whole with what is left then
  split_after : (fs r : List Event) → resolved_from 0 rest ≡ fs ++ r → resolved_from 0 es ≡ (v.done ++ fs) ++ r
  split_after fs r q = v.split ∙ ap (λ (l : List Event). v.done ++ l) q ∙ sym (append_assoc v.done fs r)

  module _ (e : Event) (xs : List Event) (c : rest ≡ e ∷ xs) where
    first_other : is_of 0 11 e ≡ false → resolved_from 0 rest ≡ e ∷ resolved_from 0 xs
    first_other q = ap (λ (l : List Event). resolved_from 0 l) c ∙ other_resolved e xs q

    first_heading : is_of 0 11 e ≡ true → resolved_from 0 rest ≡ e ∷ (with_text (inner_of xs) ++ resolved_from 0 (drop (before_first (is_of 1 11) xs) xs))
    first_heading q = ap (λ (l : List Event). resolved_from 0 l) c ∙ heading_resolved e xs q

    next_fits : (r : List Event) → resolved_from 0 rest ≡ e ∷ r → Ready s (e ∷ [])
    next_fits r q =
        let f : Ready s (e ∷ r) = rw q at rest_fits in
        ready_first (e ∷ []) r f

    pub writing_fits : Ready s (e ∷ [])
    writing_fits = go (is_of 0 11 e) refl
      where
        go : (b : Bool) → is_of 0 11 e ≡ b → Ready s (e ∷ [])
        go true q = next_fits _ (first_heading q)
        go false q = next_fits _ (first_other q)

    module _ {s₁ : Section} (w₁ : Puts s (e ∷ []) s₁) where
      pub writing_other : is_of 0 11 e ≡ false → Writing w es s₀ xs s₁
      writing_other q =
          record {
            begun = v.begun;
            i = v.i + 1;
            fine = sym (ap (λ (l : List Event). earliest v.i l (gives (resolved_from 0 es))) c ∙ other_passed e xs q v.i (gives (resolved_from 0 es))) ∙ v.fine;
            done = v.done ++ (e ∷ []);
            split = split_after (e ∷ []) (resolved_from 0 xs) (first_other q);
            put = puts_then v.done (e ∷ []) v.put w₁;
          }

      module _ (q : is_of 0 11 e ≡ true) (inner : List Event) (en : inner ≡ inner_of xs) where
        shaped_here : shaped (inner_of xs) ≡ true
        shaped_here = heading_shaped e xs q v.i (resolved_from 0 es) (ap (λ (l : List Event). earliest v.i l (gives (resolved_from 0 es))) (sym c) ∙ v.fine)

        pub writing_shaped : shaped inner ≡ true
        writing_shaped = rw en shaped_here

        pub writing_inner : Ready s₁ (with_text inner)
        writing_inner =
            let r : List Event = resolved_from 0 (drop (before_first (is_of 1 11) xs) xs) in
            let f : Ready s (e ∷ (with_text (inner_of xs) ++ r)) = rw (first_heading q) at rest_fits in
            rw en (ready_first (with_text (inner_of xs)) r (ready_then (e ∷ []) (with_text (inner_of xs) ++ r) w₁ f))

        pub writing_heading : {s₂ : Section} → Puts s₁ (with_text inner) s₂ → (n : ℕ) → n ≡ length inner → (ys : List Event) → ys ≡ drop n xs →
            Writing w es s₀ ys s₂
        writing_heading w₂ n ln ys ey =
            let m : ℕ = before_first (is_of 1 11) xs in
            let y : ys ≡ drop m xs = ey ∙ ap (λ (j : ℕ). drop j xs) (ln ∙ ap length en ∙ inner_length xs) in
            let fs : List Event = e ∷ with_text inner in
            let z : resolved_from 0 rest ≡ fs ++ resolved_from 0 ys = rw (y, en) (first_heading q) in
            record {
              begun = v.begun;
              i = v.i + 1 + m;
              fine = ap (λ (l : List Event). earliest (v.i + 1 + m) l (gives (resolved_from 0 es))) y
                  ∙ sym (ap (λ (l : List Event). earliest v.i l (gives (resolved_from 0 es))) c ∙ heading_passed e xs q v.i (gives (resolved_from 0 es)) shaped_here)
                  ∙ v.fine;
              done = v.done ++ fs;
              split = split_after fs (resolved_from 0 ys) z;
              put = puts_then v.done fs v.put (puts_then (e ∷ []) (with_text inner) w₁ w₂);
            }
