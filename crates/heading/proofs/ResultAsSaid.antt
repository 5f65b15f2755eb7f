-- What the resolver makes of a record's events, event by event and heading by heading, is what specs/Text.antt says: `WithTexts`.
-- Assumes nothing.
use mathlib.Core.Path.{◌≡◌, refl, sym, ap, ◌∙◌, subst}
use mathlib.Core.Bool.{Bool, true, false}
use mathlib.Core.List.{List, [], ◌∷◌, ◌++◌}
use Prim.Native.Nat.{ℕ, zero, suc, ◌+◌, ◌≤◌, ◌<◌}
use native.Mathlib.Omega.{arith}
use lib.ListN.{length, take, drop, length-drop}
use lib.Seq.{split_at, drop-cons, drop-append_seam}
use Rattle.record.specs.Event.{event, enter, exit}
use Rattle.record.specs.Stack.{nth, after}
use Rattle.record.specs.Sound.{sound_from}
use Rattle.record.specs.Outcome.{Resolution, gives}
use Rattle.record.specs.declared.event.Event.{Event}
use Rattle.record.proofs.Bools.{clash}
use Rattle.record.proofs.Soundness.{sound_rest, after_enter}
use Rattle.heading.specs.Headings.{is_of, before_first, inner_of, shaped, with_text, resolved_from, earliest, headings}
use Rattle.heading.specs.Text.{Texted, WithTexts, done, other, heading, ResultAsSaid}
use Rattle.heading.proofs.Leaves.{is_of_lem, of_is, not_of}
use Rattle.heading.proofs.Passes.{inner_leaves, other_passed, other_resolved, heading_passed, heading_resolved, heading_shaped}
use Rattle.heading.proofs.Offence.{event_is, shaped_of, before_is, inner_is, exit_comes}
use Rattle.heading.proofs.Resound.{last_place, open_names, sound_behind}
use Rattle.heading.proofs.Kept.{gives_is}
use Rattle.heading.proofs.Texted.{texted_shape}
use Rattle.heading.proofs.TextAsSaid.{texted, said_so}

-- what is said is made: no heading offends, and the events are these
pub record Made (es rs : List Event) : Type 0 where
  pub passed : (i : ℕ) (good : Resolution) → earliest i es good ≡ good
  pub resolved : resolved_from 0 es ≡ rs

made_other : {e : Event} {es rs : List Event} → (e.kind ≡ 0 → e.name ≡ 11 → ⊥) → Made es rs → Made (e ∷ es) (e ∷ rs)
made_other {e} {es} n m =
    let q = not_of 0 11 e n in
    record {
      passed = λ i good. other_passed e es q i good ∙ m.passed (i + 1) good;
      resolved = other_resolved e es q ∙ ap (λ (x : List Event). e ∷ x) m.resolved;
    }

made_heading : (p q : ℕ) (inner result es rs : List Event) → Texted inner result → Made es rs →
    Made (enter 11 p ∷ (inner ++ (exit 11 q ∷ es))) (enter 11 p ∷ (result ++ (exit 11 q ∷ rs)))
made_heading p q inner result es rs t m =
    let rest : List Event = exit 11 q ∷ es in
    let all : List Event = inner ++ rest in
    let sh : shaped inner ≡ true = shaped_of (texted_shape t) in
    let i = inner_is inner es (exit 11 q) (inner_leaves inner sh) (is_of_lem 1 11 (exit 11 q) refl refl) in
    let shaped_inner : shaped (inner_of all) ≡ true = ap shaped i.1 ∙ sh in
    let behind : drop (before_first (is_of 1 11) all) all ≡ rest = ap (λ (k : ℕ). drop k all) i.0 ∙ drop-append_seam inner rest in
    let enters : is_of 0 11 (enter 11 p) ≡ true = is_of_lem 0 11 (enter 11 p) refl refl in
    let x = made_other {e = exit 11 q} (λ k n. omega arith) m in
    record {
      passed = λ j good.
          heading_passed (enter 11 p) all enters j good shaped_inner
          ∙ ap (λ (l : List Event). earliest (j + 1 + before_first (is_of 1 11) all) l good) behind
          ∙ x.passed (j + 1 + before_first (is_of 1 11) all) good;
      resolved =
          heading_resolved (enter 11 p) all enters
          ∙ ap (λ (l : List Event). enter 11 p ∷ (with_text (inner_of all) ++ resolved_from 0 l)) behind
          ∙ ap (λ (l : List Event). enter 11 p ∷ (with_text (inner_of all) ++ l)) x.resolved
          ∙ ap (λ (l : List Event). enter 11 p ∷ (l ++ (exit 11 q ∷ rs))) (ap with_text i.1 ∙ sym (said_so inner result t));
    }

made : {es rs : List Event} → WithTexts es rs → Made es rs
unfolding earliest resolved_from
made done = record { passed = λ i good. refl; resolved = refl }
made (other n w) = made_other n (made w)
made (heading p q inner result es rs t w) = made_heading p q inner result es rs t (made w)

inner_taken : (es : List Event) → inner_of es ≡ take (before_first (is_of 1 11) es) es
unfolding inner_of
inner_taken es = refl

-- what is made is said: the events one by one, a heading's inner events at once; at most m are left
saying : (m : ℕ) (es : List Event) (i : ℕ) (rs : List Event) (deep d last : ℕ) (held : List ℕ) → length es ≤ m → sound_from deep d last held es ≡ true →
    earliest i es (gives rs) ≡ gives rs → WithTexts es (resolved_from 0 es)
unfolding resolved_from
saying zero [] i rs deep d last held l s q = done
saying zero (e ∷ es) i rs deep d last held l s q = absurd (omega arith)
saying (suc m) [] i rs deep d last held l s q = done
saying (suc m) (e ∷ es) i rs deep d last held l s q = go (is_of 0 11 e) refl (λ k j p. saying m (drop k es) j rs deep d p)
  where
    go : (b : Bool) → is_of 0 11 e ≡ b →
        ((k j p : ℕ) (h : List ℕ) → length (drop k es) ≤ m → sound_from deep d p h (drop k es) ≡ true → earliest j (drop k es) (gives rs) ≡ gives rs →
        WithTexts (drop k es) (resolved_from 0 (drop k es))) → WithTexts (e ∷ es) (resolved_from 0 (e ∷ es))
    go false z more =
        subst (WithTexts (e ∷ es)) (sym (other_resolved e es z))
        (other (λ k n. clash (is_of_lem 0 11 e k n) z)
        (more 0 (i + 1) e.place (after e e.name held) (omega arith) (sound_rest deep d last held e es s) (sym (other_passed e es z i (gives rs)) ∙ q)))
    go true z more =
        let n : ℕ = before_first (is_of 1 11) es in
        let inner : List Event = take n es in
        let x : Event = nth es n in
        let rest : List Event = drop (suc n) es in
        let o = of_is 0 11 e z in
        let sh : shaped (inner_of es) ≡ true = heading_shaped e es z i rs q in
        let s₁ : sound_from deep d e.place (e.name ∷ held) es ≡ true = rw (after_enter e e.name held o.0) at (sound_rest deep d last held e es s) in
        let here : n < length es = exit_comes es deep d e.place e.name held s₁ (inner_leaves (inner_of es) sh) in
        let ox = of_is 1 11 x (before_is (is_of 1 11) es here) in
        let whole : es ≡ inner ++ (x ∷ rest) = split_at es n (event 0 0 0) here in
        let s₂ = sound_behind inner (x ∷ rest) deep d e.place (e.name ∷ held) (ap (sound_from deep d e.place (e.name ∷ held)) (sym whole) ∙ s₁) in
        let s₃ = sound_rest deep d (last_place e.place inner) (open_names (e.name ∷ held) inner) x rest s₂ in
        let behind : drop n es ≡ x ∷ rest = drop-cons es n (event 0 0 0) here in
        let nx : is_of 0 11 x ≡ false = not_of 0 11 x (λ k _. omega (arith, ox.0)) in
        let passed : earliest (i + 1 + n + 1) rest (gives rs) ≡ gives rs =
        sym (heading_passed e es z i (gives rs) sh ∙ ap (λ (l : List Event). earliest (i + 1 + n) l (gives rs)) behind ∙ other_passed x rest nx (i + 1 + n) (gives rs)) ∙ q
        in
        let w : WithTexts rest (resolved_from 0 rest) = more (suc n) (i + 1 + n + 1) x.place _ (omega (arith, length-drop (suc n) es)) s₃ passed in
        let r : resolved_from 0 (e ∷ es) ≡ enter 11 e.place ∷ (with_text inner ++ (exit 11 x.place ∷ resolved_from 0 rest)) =
        heading_resolved e es z
        ∙ ap (λ (l : List Event). e ∷ (with_text (inner_of es) ++ resolved_from 0 l)) behind
        ∙ ap (λ (l : List Event). e ∷ (with_text (inner_of es) ++ l)) (other_resolved x rest nx)
        ∙ ap (λ (l : List Event). e ∷ (with_text l ++ (x ∷ resolved_from 0 rest))) (inner_taken es)
        ∙ ap (λ (f : Event). f ∷ (with_text inner ++ (x ∷ resolved_from 0 rest))) (event_is e 0 11 o.0 o.1)
        ∙ ap (λ (f : Event). enter 11 e.place ∷ (with_text inner ++ (f ∷ resolved_from 0 rest))) (event_is x 1 11 ox.0 ox.1)
        in
        let from : enter 11 e.place ∷ (inner ++ (exit 11 x.place ∷ rest)) ≡ e ∷ es =
        ap (λ (f : Event). enter 11 e.place ∷ (inner ++ (f ∷ rest))) (sym (event_is x 1 11 ox.0 ox.1))
        ∙ ap (λ (f : Event). f ∷ (inner ++ (x ∷ rest))) (sym (event_is e 0 11 o.0 o.1))
        ∙ ap (λ (l : List Event). e ∷ l) (sym whole)
        in
        let h : WithTexts (enter 11 e.place ∷ (inner ++ (exit 11 x.place ∷ rest))) (enter 11 e.place ∷ (with_text inner ++ (exit 11 x.place ∷ resolved_from 0 rest))) =
        heading e.place x.place inner (with_text inner) rest (resolved_from 0 rest) (texted inner (ap shaped (sym (inner_taken es)) ∙ sh)) w
        in
        subst (λ (l : List Event). WithTexts l (resolved_from 0 (e ∷ es))) from (subst (WithTexts _) (sym r) h)

pub result_as_said : ResultAsSaid
unfolding headings
result_as_said =
    record {
      said = λ es rs deep d s q.
          let g = gives_is es rs q in
          subst (WithTexts es) (sym g.0) (saying (length es) es 0 rs deep d 0 [] (omega arith) s g.1);
      alone = λ es rs w. let m = made w in m.passed 0 (gives (resolved_from 0 es)) ∙ ap gives m.resolved;
    }
