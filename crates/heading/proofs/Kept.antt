-- What the resolver leaves as it was, and how little it adds.
--     outside_kept    the events outside headings keep their order and their places
--     seven-never     number 7 cannot come: the result has at most three times as many events
-- Assumes nothing.
use mathlib.Core.Path.{◌≡◌, refl, sym, ap, ◌∙◌}
use mathlib.Core.Bool.{Bool, true, false}
use mathlib.Core.Logic.{◌⊎◌, inl, inr}
use mathlib.Core.List.{List, [], ◌∷◌, ◌++◌}
use Prim.Native.Nat.{ℕ, zero, suc, ◌+◌, ◌*◌, ◌-◌, ◌≤◌, ◌<◌}
use native.Mathlib.Omega.{arith}
use lib.ListN.{length, take, drop, length-append, length-drop}
use lib.Seq.{drop-append_seam, drop-cons, length-take-le}
use lib.Dec.{eqb, ltb}
use borrow.Author.Tests.{eqb-false, le-ltb}
use Rattle.record.specs.Choice.{choose, and}
use Rattle.record.specs.Handed.{form_of}
use Rattle.record.specs.Event.{event, enter, exit, events_in}
use Rattle.record.specs.Stack.{nth}
use Rattle.record.specs.Check.{admitted, accept}
use Rattle.record.specs.Outcome.{Resolution, offends, gives, Outcome, accepted, refused, refusing, sized, settled}
use Rattle.record.specs.declared.event.Event.{Event}
use Rattle.record.specs.declared.form.Handed.{Handed}
use Rattle.record.specs.declared.form.Form.{Form}
use Rattle.record.proofs.Good.{admission}
use Rattle.record.proofs.Parts.{length_events}
use Rattle.heading.specs.Headings.{is_of, before_first, through_last, inner_of, leaves, shaped, is_data_or_run, before_text, to_last, before_closing, without_closing, text_events, through_text, text_round, with_text, resolved_from, earliest, headings}
use Rattle.heading.specs.Text.{Texted, text, closed, empty}
use Rattle.heading.specs.Outside.{outside_from, outside}
use Rattle.heading.proofs.Seeking.{before_le, before_here}
use Rattle.heading.proofs.Leaves.{of_is, not_of, before_past}
use Rattle.heading.proofs.Passes.{inner_leaves, other_passed, other_resolved, heading_passed, heading_resolved, heading_shaped}
use Rattle.heading.proofs.Judging.{either}
use Rattle.heading.proofs.Offence.{before_is, none_before, at_most, leaves_of}
use Rattle.heading.proofs.Texted.{before_pairs, behind_pairs}
use Rattle.heading.proofs.TextAsSaid.{texted}

-- inner events are passed over
outside_past : (k : ℕ) (es : List Event) → outside_from k es ≡ outside_from 0 (drop k es)
unfolding outside_from
outside_past zero es = refl
outside_past (suc k) [] = refl
outside_past (suc k) (e ∷ es) = outside_past k es

outside_other : (e : Event) (es : List Event) → is_of 0 11 e ≡ false → outside (e ∷ es) ≡ e ∷ outside es
unfolding outside_from choose
outside_other e es q = rw q

outside_heading : (e : Event) (es : List Event) → is_of 0 11 e ≡ true → outside (e ∷ es) ≡ e ∷ outside (drop (before_first (is_of 1 11) es) es)
unfolding outside_from choose
outside_heading e es q = rw q (ap (λ (l : List Event). e ∷ l) (outside_past (before_first (is_of 1 11) es) es))

-- a text's four events hold no exit of a heading
none_round : (p q : ℕ) → before_first (is_of 1 11) (text_round p q) ≡ 4
unfolding before_first is_of choose and
none_round p q = refl

-- two lists without one have none
none_both : (xs ys : List Event) → before_first (is_of 1 11) xs ≡ length xs → before_first (is_of 1 11) ys ≡ length ys →
    before_first (is_of 1 11) (xs ++ ys) ≡ length (xs ++ ys)
none_both xs ys p q = omega (arith, before_past (is_of 1 11) xs ys (omega arith), length-append xs ys)

none_text : {inner result : List Event} → Texted inner result → leaves inner ≡ true → before_first (is_of 1 11) result ≡ length result
none_text (text xs es zs name from q last to b w e z) l =
    none_both xs (text_round from to ++ zs) (none_before xs (leaves_of (before_pairs b)))
    (none_both (text_round from to) zs (none_round from to) (none_before zs (leaves_of (behind_pairs z))))
none_text (closed xs zs p q b z) l = none_before (xs ++ (enter 12 p ∷ exit 12 q ∷ zs)) l
none_text (empty xs b) l = none_before xs l

nothing : (es : List Event) → length es ≡ 0 → es ≡ []
nothing [] h = refl
nothing (e ∷ es) h = absurd (omega arith)

-- the events behind a heading's inner ones begin with its exit
rest_exits : (es : List Event) → before_first (is_of 1 11) (resolved_from 0 (drop (before_first (is_of 1 11) es) es)) ≡ 0
unfolding before_first resolved_from
rest_exits es = go (at_most (before_first (is_of 1 11) es) (length es) (before_le (is_of 1 11) es))
  where
    go : (before_first (is_of 1 11) es < length es) ⊎ (before_first (is_of 1 11) es ≡ length es) → before_first (is_of 1 11) (resolved_from 0 (drop (before_first (is_of 1 11) es) es)) ≡ 0
    go (inl h) =
        let x : Event = nth es (before_first (is_of 1 11) es) in
        let rest : List Event = drop (suc (before_first (is_of 1 11) es)) es in
        let q : is_of 1 11 x ≡ true = before_is (is_of 1 11) es h in
        let o = of_is 1 11 x q in
        ap (λ (l : List Event). before_first (is_of 1 11) (resolved_from 0 l)) (drop-cons es (before_first (is_of 1 11) es) (event 0 0 0) h)
        ∙ ap (before_first (is_of 1 11)) (other_resolved x rest (not_of 0 11 x (λ k n. omega (arith, o.0))))
        ∙ before_here (is_of 1 11) x (resolved_from 0 rest) q
    go (inr h) =
        let z : length (drop (before_first (is_of 1 11) es) es) ≡ 0 = omega (arith, length-drop (before_first (is_of 1 11) es) es) in
        ap (λ (l : List Event). before_first (is_of 1 11) (resolved_from 0 l)) (nothing (drop (before_first (is_of 1 11) es) es) z)

-- the events one by one, a heading's inner events at once; at most m are left
keeping : (m : ℕ) (es : List Event) (i : ℕ) (rs : List Event) → length es ≤ m → earliest i es (gives rs) ≡ gives rs → outside (resolved_from 0 es) ≡ outside es
unfolding resolved_from
keeping zero [] i rs l q = refl
keeping zero (e ∷ es) i rs l q = absurd (omega arith)
keeping (suc m) [] i rs l q = refl
keeping (suc m) (e ∷ es) i rs l q = go (is_of 0 11 e) refl (λ k j. keeping m (drop k es) j rs)
  where
    go : (b : Bool) → is_of 0 11 e ≡ b →
        ((k j : ℕ) → length (drop k es) ≤ m → earliest j (drop k es) (gives rs) ≡ gives rs → outside (resolved_from 0 (drop k es)) ≡ outside (drop k es)) →
        outside (resolved_from 0 (e ∷ es)) ≡ outside (e ∷ es)
    go false z more =
        ap outside (other_resolved e es z)
        ∙ outside_other e (resolved_from 0 es) z
        ∙ ap (λ (l : List Event). e ∷ l) (more 0 (i + 1) (omega arith) (sym (other_passed e es z i (gives rs)) ∙ q))
        ∙ sym (outside_other e es z)
    go true z more =
        let n : ℕ = before_first (is_of 1 11) es in
        let sh : shaped (inner_of es) ≡ true = heading_shaped e es z i rs q in
        let w : List Event = with_text (inner_of es) in
        let r : List Event = resolved_from 0 (drop n es) in
        let nt : before_first (is_of 1 11) w ≡ length w = none_text (texted (inner_of es) sh) (inner_leaves (inner_of es) sh) in
        let b : before_first (is_of 1 11) (w ++ r) ≡ length w = before_past (is_of 1 11) w r (omega arith) ∙ omega (arith, rest_exits es) in
        let d : drop (before_first (is_of 1 11) (w ++ r)) (w ++ r) ≡ r = ap (λ (k : ℕ). drop k (w ++ r)) b ∙ drop-append_seam w r in
        ap outside (heading_resolved e es z)
        ∙ outside_heading e (w ++ r) z
        ∙ ap (λ (l : List Event). e ∷ outside l) d
        ∙ ap (λ (l : List Event). e ∷ l) (more n (i + 1 + n) (omega (arith, length-drop n es)) (sym (heading_passed e es z i (gives rs) sh) ∙ q))
        ∙ sym (outside_heading e es z)

-- what a result is
pub gives_is : (es rs : List Event) → headings es ≡ gives rs → (rs ≡ resolved_from 0 es) × (earliest 0 es (gives rs) ≡ gives rs)
unfolding headings
gives_is es rs q = go (either 0 es (gives (resolved_from 0 es)))
  where
    go : (earliest 0 es (gives (resolved_from 0 es)) ≡ gives (resolved_from 0 es))
        ⊎ ((k : ℕ) × (earliest 0 es (gives (resolved_from 0 es)) ≡ offends k) × (0 ≤ k) × (k < 0 + length es)) → (rs ≡ resolved_from 0 es) × (earliest 0 es (gives rs) ≡ gives rs)
    go (inl p) =
        let z : gives (resolved_from 0 es) ≡ gives rs = sym p ∙ q in
        let y : rs ≡ resolved_from 0 es = cc in
        (y, ap (λ (l : List Event). earliest 0 es (gives l)) y ∙ p ∙ z)
    go (inr (j, p, l, u)) =
        let z : offends j ≡ gives rs = sym p ∙ q in
        let y : ◌≡◌ {A = ℕ} 0 1 = cc in
        absurd (omega arith)

pub outside_kept : (es rs : List Event) → headings es ≡ gives rs → outside rs ≡ outside es
outside_kept es rs q =
    let g = gives_is es rs q in
    ap outside g.0 ∙ keeping (length es) es 0 rs (omega arith) g.1

-- a text lies within the heading
up_to : {A : Type 0} (n : ℕ) (l : List A) → length (take n l) ≤ length l
up_to zero l = omega arith
up_to (suc n) [] = omega arith
up_to (suc n) (x ∷ l) = omega (arith, up_to n l)

text_within : (inner : List Event) → length (text_events inner) ≤ length inner - before_text inner
unfolding text_events to_last without_closing
text_within inner =
    let es : List Event = drop (before_text inner) inner in
    let fs : List Event = to_last es in
    let gs : List Event = without_closing fs in
    omega (arith, up_to (through_last is_data_or_run es) es, up_to (before_closing fs) fs, up_to (through_last is_data_or_run gs) gs, length-drop (before_text inner) inner)

-- a heading's inner events become few more
text_small : (inner : List Event) → length (with_text inner) ≤ 3 * length inner + 2
unfolding with_text through_text choose
text_small inner = go (eqb (before_text inner) (through_text inner)) refl
  where
    go : (b : Bool) → eqb (before_text inner) (through_text inner) ≡ b → length (with_text inner) ≤ 3 * length inner + 2
    go true e = rw e (omega arith)
    go false e =
        let ne : before_text inner ≡ through_text inner → ⊥ = eqb-false _ _ e in
        let round : List Event = text_round (nth inner (before_text inner)).place (nth inner (through_text inner - 1)).place in
        let zs : List Event = drop (through_text inner) inner in
        rw e
        (omega (arith, length-append (take (before_text inner) inner) (round ++ zs), up_to (before_text inner) inner, length-drop (through_text inner) inner, text_within inner))

pub resolved_small : (k : ℕ) (es : List Event) → k ≤ length es → length (resolved_from k es) + 3 * k ≤ 3 * length es
unfolding resolved_from choose inner_of
resolved_small k [] h = omega arith
resolved_small (suc k) (e ∷ es) h = omega (arith, resolved_small k es (omega arith))
resolved_small zero (e ∷ es) h = go (is_of 0 11 e) (resolved_small 0 es (omega arith)) (resolved_small (before_first (is_of 1 11) es) es (before_le (is_of 1 11) es))
  where
    go : (b : Bool) → length (resolved_from 0 es) + 3 * 0 ≤ 3 * length es → length (resolved_from (before_first (is_of 1 11) es) es) + 3 * before_first (is_of 1 11) es ≤ 3 * length es →
        length (choose b (e ∷ with_text (inner_of es) ++ resolved_from (before_first (is_of 1 11) es) es) (e ∷ resolved_from 0 es)) + 3 * 0 ≤ 3 * suc (length es)
    go false a b = omega arith
    go true a b =
        omega
        (arith, length-append (with_text (inner_of es)) (resolved_from (before_first (is_of 1 11) es) es), text_small (inner_of es), length-take-le (before_first (is_of 1 11) es) es (before_le (is_of 1 11) es))

few_events : (f : Form) (s : List ℕ) (d e : ℕ) → e ≤ 2048 → length (events_in f s d e) ≤ 2048
unfolding events_in
few_events f s d e h = omega (arith, length_events f.width e s (8 + f.front + d))

abbrev number_of : Outcome → ℕ
number_of (accepted es) = 0
number_of (refused r) = r.number

fits_seven : (f : Form) (rs : List Event) (outs : ℕ) → length rs ≤ 8000 → sized f rs outs ≡ refusing 7 0 → ⊥
unfolding sized choose
fits_seven f rs outs h r = go (ltb outs (4 + f.width * length rs)) (rw (le-ltb 8000 (length rs) h) at r)
  where
    go : (b : Bool) → choose b (refusing 8 0) (accepted rs) ≡ refusing 7 0 → ⊥
    go true q = omega (arith, ap number_of q)
    go false q = omega (arith, ap number_of q)

-- number 7 cannot come
pub seven_never : (h : Handed) (s : List ℕ) (works d e outs : ℕ) → admitted h s works ≡ accept d e →
    settled (form_of h) d (headings (events_in (form_of h) s d e)) outs ≡ refusing 7 0 → ⊥
seven_never h s works d e outs q = go (headings (events_in (form_of h) s d e)) refl
  where
    few : length (events_in (form_of h) s d e) ≤ 2048
    few = few_events (form_of h) s d e (admission h s works d e q).good.few

    go : (m : Resolution) → headings (events_in (form_of h) s d e) ≡ m → settled (form_of h) d m outs ≡ refusing 7 0 → ⊥
    go (offends k) p r = omega (arith, ap number_of r)
    go (gives rs) p r =
        fits_seven (form_of h) rs outs
        (omega (arith, few, ap length (gives_is (events_in (form_of h) s d e) rs p).0, resolved_small 0 (events_in (form_of h) s d e) (omega arith))) r
