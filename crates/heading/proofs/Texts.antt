-- The text rule against its definition: where a text begins and ends, its four events, and what a heading's inner events become, with a text or
-- without.
-- Assumes nothing.
use Rattle.std.proofs.Common.{◌≡◌, refl, sym, ap, ◌∙◌, ℕ, ◌+◌, ◌-◌, ◌≤◌, ◌<◌, true, false, List, [], ◌∷◌, ◌++◌, reverse, length, take, drop, arith, length-append, length-drop}
use Rattle.std.proofs.lemmas.List.{take_all, length-take}
use Rattle.std.proofs.Math.Seq.{take-length}
use mathlib.Core.List.{reverse-append}
use lib.Dec.{eqb}
use borrow.Author.Tests.{eq-eqb, ne_eqb}
use Rattle.record.specs.Choice.{choose}
use Rattle.record.specs.Stack.{nth}
use Rattle.record.specs.declared.event.Event.{Event}
use Rattle.partners.specs.Section.{Ready, Puts}
use Rattle.partners.specs.declared.Section.{Section}
use Rattle.partners.proofs.Sections.{puts_then, ready_first, ready_then}
use Rattle.heading.specs.Headings.{before_first, through_last, starts_with, shaped, through_opening, is_data_or_run, before_text, to_last, before_closing, without_closing, text_events, through_text, text_round, with_text}
use Rattle.heading.specs.Shape.{Shape, bare, spaced}
use Rattle.heading.specs.Steps.{Ends}
use Rattle.heading.proofs.Seeking.{through_le, still_last}
use Rattle.heading.proofs.Offence.{shape_of}

-- a heading is as long as its opening run, at least
opening_in : {inner : List Event} → Shape inner → through_opening inner ≤ length inner
unfolding through_opening starts_with choose
opening_in (bare l) = omega arith
opening_in (spaced l) = omega arith

pub opening_fits : (inner : List Event) → shaped inner ≡ true → through_opening inner ≤ length inner
opening_fits inner q = opening_in (shape_of inner q)

-- indented, or not
pub opening_indented : (inner : List Event) → starts_with 14 inner ≡ true → 4 ≡ through_opening inner
unfolding through_opening choose
opening_indented inner q = rw q

pub opening_bare : (inner : List Event) → starts_with 14 inner ≡ false → 2 ≡ through_opening inner
unfolding through_opening choose
opening_bare inner q = rw q

-- the last of some events is the first from their end
pub starts_last : (es front : List Event) (e : Event) → es ≡ front ++ (e ∷ []) → (name : ℕ) → eqb e.name name ≡ starts_with name (reverse es)
unfolding starts_with
starts_last es front e c name = sym (ap (λ (l : List Event). starts_with name l) (ap reverse c ∙ reverse-append front (e ∷ [])))

pub starts_none : (name : ℕ) (es : List Event) → es ≡ [] → false ≡ starts_with name (reverse es)
unfolding starts_with
starts_none name es c = rw c

-- whether a `#` run is the last of some events
module _ (es : List Event) where
  pub closing_here : (n : ℕ) → n ≡ length es - 2 → (rs : List Event) → rs ≡ take n es → starts_with 12 (reverse es) ≡ true → rs ≡ without_closing es
  unfolding without_closing before_closing choose
  closing_here n en rs er q = rw (er, en, q)

  pub closing_other : starts_with 12 (reverse es) ≡ false → es ≡ without_closing es
  unfolding without_closing before_closing choose
  closing_other q = rw q (sym (take-length es))

-- without a closing run the last event is known
pub last_known : (behind marked unclosed : List Event) → marked ≡ to_last behind → unclosed ≡ without_closing marked → length unclosed ≡ length marked →
    marked ≡ to_last (without_closing (to_last behind))
unfolding to_last without_closing
last_known behind marked unclosed em eu l =
    let k : through_last is_data_or_run behind ≤ length behind = through_le is_data_or_run behind (length behind) (through_last is_data_or_run behind) refl refl in
    let m : length marked ≡ through_last is_data_or_run behind = omega (arith, ap length em, length-take (through_last is_data_or_run behind) behind) in
    let s : take (before_closing marked) marked ≡ marked = take_all (before_closing marked) marked (omega (arith, ap length eu, length-take (before_closing marked) marked)) in
    let t : through_last is_data_or_run marked ≡ through_last is_data_or_run behind = rw em (still_last is_data_or_run behind) in
    rw (← em, s) (sym (take_all (through_last is_data_or_run marked) marked (omega arith)))

-- where a text begins and ends: behind the opening run, before the first Data or `#` run, up to the last one, before a closing run, up to the last
-- one again
up_to : (n : ℕ) (es : List Event) → length (take n es) ≤ length es
up_to n es = omega (arith, length-take n es)

pub ends : (inner : List Event) (n opened skipped : ℕ) (text : List Event) (k : ℕ) → length inner ≡ n → opened ≡ through_opening inner →
    skipped ≡ before_first is_data_or_run (drop opened inner) → opened + skipped ≤ n → text ≡ to_last (without_closing (to_last (drop (opened + skipped) inner))) → k ≡ length text →
    Ends inner n (opened + skipped) (opened + skipped + k)
unfolding before_text through_text text_events to_last without_closing
ends inner n opened skipped text k en eo es ls et ek =
    let first : opened + skipped ≡ before_text inner = rw (es, eo) in
    let t : text ≡ text_events inner = et ∙ ap (λ (j : ℕ). to_last (without_closing (to_last (drop j inner)))) first in
    let rest : List Event = drop (opened + skipped) inner in
    let a = length-drop (opened + skipped) inner in
    let b = up_to (through_last is_data_or_run rest) rest in
    let c = up_to (before_closing (to_last rest)) (to_last rest) in
    let d = up_to (through_last is_data_or_run (without_closing (to_last rest))) (without_closing (to_last rest)) in
    record {
      first = first;
      last = omega (arith, first, ap length t);
      front = omega arith;
      whole = omega (arith, ap length et);
    }

-- no text
module _ (inner : List Event) (q : before_text inner ≡ through_text inner) where
  pub without : with_text inner ≡ inner
  unfolding with_text choose
  without = rw (eq-eqb (before_text inner) (through_text inner) q)

  pub unchanged_fits : {s : Section} → Ready s (with_text inner) → Ready s inner
  unchanged_fits f = rw without at f

  pub unchanged : {s s' : Section} → Puts s inner s' → Puts s (with_text inner) s'
  unchanged v = rw without v

-- a text
module _ (inner : List Event) (n before through : ℕ) (x : Ends inner n before through) where
  module _ (some : before < through) where
    -- three parts
    cut : with_text inner ≡ take before inner ++ (text_round (nth inner before).place (nth inner (through - 1)).place ++ drop through inner)
    unfolding with_text choose
    cut =
        rw (ne_eqb (before_text inner) (through_text inner) (λ z. omega (arith, x.first, x.last)), ← x.first, ← x.last)

    pub length_text : length inner ≡ n → length (with_text inner) ≡ before + 4 + (n - through)
    length_text l =
        let back : List Event = drop through inner in
        let round : List Event = text_round (nth inner before).place (nth inner (through - 1)).place in
        ap length cut
        ∙ omega (arith, length-append (take before inner) (round ++ back), length-take before inner, length-drop through inner, x.front, x.whole)

    -- they find their places, one after the other, and are the whole; the code has read the text's two places
    module _ {first last : Event} (a : first ≡ nth inner before) (b : last ≡ nth inner (through - 1)) (front back : List Event) (cf : front ≡ take before inner) (cb : back ≡ drop through inner) where
      whole : with_text inner ≡ front ++ (text_round first.place last.place ++ back)
      whole = rw (a, b, cf, cb) cut

      module _ {s : Section} where
        pub written : {s₁ s₂ s₃ : Section} → Puts s front s₁ → Puts s₁ (text_round first.place last.place) s₂ →
            Puts s₂ back s₃ → Puts s (with_text inner) s₃
        written w₁ w₂ w₃ =
            rw whole (puts_then front (text_round first.place last.place ++ back) w₁ (puts_then (text_round first.place last.place) back w₂ w₃))

        module _ (f : Ready s (with_text inner)) where
          all_fits : Ready s (front ++ (text_round first.place last.place ++ back))
          all_fits = rw whole at f

          pub front_fits : Ready s front
          front_fits = ready_first front (text_round first.place last.place ++ back) all_fits

          module _ {s₁ : Section} (w₁ : Puts s front s₁) where
            round_and_back : Ready s₁ (text_round first.place last.place ++ back)
            round_and_back = ready_then front (text_round first.place last.place ++ back) w₁ all_fits

            pub round_fits : Ready s₁ (text_round first.place last.place)
            round_fits = ready_first (text_round first.place last.place) back round_and_back

            pub back_fits : {s₂ : Section} → Puts s₁ (text_round first.place last.place) s₂ → Ready s₂ back
            back_fits w₂ = ready_then (text_round first.place last.place) back w₂ round_and_back
