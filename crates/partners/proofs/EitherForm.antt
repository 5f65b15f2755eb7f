-- What a call comes to on a record in either form: the check answers what is found, and where nothing is, the resolver is handed the same options, the same
-- document and the same events.
-- Assumes nothing.
use mathlib.Core.Path.{◌≡◌, refl, sym, ap, ◌∙◌}
use mathlib.Core.Bool.{Bool, true, false}
use mathlib.Core.List.{List, [], ◌∷◌}
use Prim.Native.Nat.{ℕ, ◌+◌, ◌*◌, ◌≤◌, ◌<◌}
use native.Mathlib.Omega.{arith}
use lib.ListN.{length}
use borrow.Author.Tests.{lt-ltb, le-ltb, ltb-true}
use Rattle.record.specs.Check.{first_return, Reading}
use Rattle.record.specs.Choice.{choose, and}
use Rattle.record.specs.Event.{document_in, events_in}
use Rattle.record.specs.Form.{old, second}
use Rattle.record.specs.Handed.{form_of, options_of}
use Rattle.record.specs.Outcome.{Resolution, offends, gives, Outcome, accepted, refusing, sized, settled, outcome, bytes_written}
use Rattle.record.specs.Partners.{record_in}
use Rattle.record.specs.ReadsBack.{Holdable}
use Rattle.record.specs.Sound.{placed}
use Rattle.record.specs.Stack.{none, fits_open, after}
use Rattle.record.specs.declared.event.Event.{Event}
use Rattle.record.specs.declared.form.Form.{Form}
use Rattle.record.specs.declared.form.Handed.{Handed}
use Rattle.record.specs.declared.form.Handed.TheVariants.{Old, Second}
use Rattle.partners.specs.EitherForm.{Finding, little_memory, options_over, document_over, events_over, return_at, broken, left_open, nothing}
use Rattle.partners.specs.EitherForm.{broken_from, found, answer_in, comes_to, ComesInEither, Either, EitherForm}
use Rattle.partners.specs.EitherForm.{Alike, both_good, the_memory, the_options, the_document_count, the_event_count, a_return, an_event, the_end}
use Rattle.partners.specs.EitherForm.{AlikeInBoth}
use Rattle.partners.specs.Records.{With, beside, within}
use Rattle.partners.proofs.Found.{checked_in_either}
use Rattle.partners.proofs.Holdable.{writable, holdable_nothing}
use Rattle.partners.proofs.Laid.{laid_out, its_events, its_options}

-- what is found lies in the document, or among the events
abbrev Within : ℕ → ℕ → Finding → Type 0
Within d e (return_at k) = k < d
Within d e (broken k) = k < e
Within d e little_memory = Unit {0}
Within d e options_over = Unit {0}
Within d e document_over = Unit {0}
Within d e events_over = Unit {0}
Within d e left_open = Unit {0}
Within d e nothing = Unit {0}

choice_within : (d e : ℕ) (b : Bool) (x y : Finding) → (b ≡ true → Within d e x) → Within d e y → Within d e (choose b x y)
unfolding choose
choice_within d e true x y p q = p refl
choice_within d e false x y p q = q

broken_within : (d n m k last : ℕ) (held : List ℕ) (es : List Event) → k + length es ≤ n → Within m n (broken_from d k last held es)
unfolding broken_from
broken_within d n m k last held [] h = choice_within m n (none held) nothing left_open (λ _. tt) tt
broken_within d n m k last held (e ∷ es) h =
    choice_within m n (and (placed e d last) (fits_open 64 e held)) (broken_from d (k + 1) e.place (after e e.name held) es) (broken k)
    (λ _. broken_within d n m (k + 1) e.place (after e e.name held) es (omega arith)) (omega arith)

found_within : (works options : ℕ) (document : List ℕ) (es : List Event) → Within (length document) (length es) (found works options document es)
unfolding found
found_within works options document es =
    choice_within _ _ _ little_memory _ (λ _. tt)
    (choice_within _ _ _ options_over _ (λ _. tt)
    (choice_within _ _ _ document_over _ (λ _. tt)
    (choice_within _ _ _ events_over _ (λ _. tt)
    (choice_within _ _ _ (return_at (first_return (length document) document 0)) _ (λ q. ltb-true _ _ q)
    (broken_within (length document) (length es) (length document) 0 0 [] es (omega arith))))))

-- and stands in each form at its own place
alike : (d e : ℕ) (x : Finding) → Within d e x → Alike d e (answer_in old d e x) (answer_in second d e x)
alike d e little_memory w = the_memory
alike d e options_over w = the_options
alike d e document_over w = the_document_count
alike d e events_over w = the_event_count
alike d e (return_at k) w = a_return k w
alike d e (broken k) w = an_event k w
alike d e left_open w = the_end
alike d e nothing w = both_good

pub alike_in_both : AlikeInBoth
alike_in_both options document es works b =
    rw (checked_in_either (Old options) options document es works beside b, checked_in_either Second options document es works within b)
    (alike (length document) (length es) (found works options document es) (found_within works options document es))

-- a resolver is asked only where nothing is found
asked : (f : Form) (x : Finding) (d e : ℕ) (resolve : ℕ → ℕ → Resolution) (m : Resolution) (outs : ℕ) → resolve d e ≡ m →
    outcome f (answer_in f d e x) resolve outs ≡ outcome f (answer_in f d e x) (λ a b. m) outs
asked f little_memory d e resolve m outs q = refl
asked f options_over d e resolve m outs q = refl
asked f document_over d e resolve m outs q = refl
asked f events_over d e resolve m outs q = refl
asked f (return_at k) d e resolve m outs q = refl
asked f (broken k) d e resolve m outs q = refl
asked f left_open d e resolve m outs q = refl
asked f nothing d e resolve m outs q = ap (λ (x : Resolution). settled f d x outs) q

pub comes_in_either : ComesInEither
comes_in_either resolve h options document es works outs o b =
    let f : Form = form_of h in
    let s : List ℕ = record_in (form_of h) options document es in
    let l = laid_out h options document es b in
    let resolved : ℕ → ℕ → Resolution = λ d e. resolve (options_of h s) (document_in f s d) (events_in f s d e) in
    ap (λ (r : Reading). outcome f r resolved outs) (checked_in_either h options document es works o b)
    ∙ asked f (found works options document es) (length document) (length es) resolved (resolve options document es) outs
    (ap (λ (n : ℕ). resolve n (document_in f s (length document)) (events_in f s (length document) (length es))) (its_options h options document es o)
    ∙ ap (λ (t : List ℕ). resolve options t (events_in f s (length document) (length es))) l.its_document
    ∙ ap (λ (t : List Event). resolve options document t) (its_events l))

-- where nothing is found it is what the one resolution comes to
comes_good : (resolve : ℕ → List ℕ → List Event → Resolution) (h : Handed) (options : ℕ) (document : List ℕ) (es : List Event) (works outs : ℕ) →
    With h options → options ≤ 63 → Holdable document es → 65536 ≤ works →
    comes_to resolve h (record_in (form_of h) options document es) works outs ≡ settled (form_of h) (length document) (resolve options document es) outs
comes_good resolve h options document es works outs o small holds memory =
    comes_in_either resolve h options document es works outs o (writable holds)
    ∙ ap (λ (x : Finding). outcome (form_of h) (answer_in (form_of h) (length document) (length es) x) (λ d e. resolve options document es) outs)
    (holdable_nothing works options document es memory small holds)

-- the cases of what a resolution comes to
many : (f : Form) (es : List Event) (outs : ℕ) → 8000 < length es → sized f es outs ≡ refusing 7 0
unfolding sized choose
many f es outs h = rw (lt-ltb 8000 (length es) h)

room : (f : Form) (es : List Event) (outs : ℕ) → length es ≤ 8000 → 4 + f.width * length es ≤ outs → sized f es outs ≡ accepted es
unfolding sized choose
room f es outs h r = rw (le-ltb 8000 (length es) h, le-ltb outs (4 + f.width * length es) r)

-- what is accepted is what the resolver gives
accepted_side : (a b : Bool) (x es : List Event) (n p n' p' : ℕ) → choose a (refusing n p) (choose b (refusing n' p') (accepted x)) ≡ accepted es → x ≡ es
unfolding choose
accepted_side true b x es n p n' p' q = let z : ◌≡◌ {A = ℕ} 0 1 = cc in absurd (omega arith)
accepted_side false true x es n p n' p' q = let z : ◌≡◌ {A = ℕ} 0 1 = cc in absurd (omega arith)
accepted_side false false x es n p n' p' q = cc

accepted_gives : (f : Form) (d : ℕ) (m : Resolution) (outs : ℕ) (es : List Event) → settled f d m outs ≡ accepted es → m ≡ gives es
unfolding sized
accepted_gives f d (offends k) outs es q = let z : ◌≡◌ {A = ℕ} 0 1 = cc in absurd (omega arith)
accepted_gives f d (gives x) outs es q = ap gives (accepted_side _ _ _ es _ _ _ _ q)

gives_one : (x y : List Event) → gives x ≡ gives y → x ≡ y
gives_one x y q = cc

module _ (d : ℕ) (m : Resolution) (outs₁ outs₂ : ℕ) (o₁ o₂ : Outcome) (p : o₁ ≡ settled old d m outs₁) (q : o₂ ≡ settled second d m outs₂) where
  by_resolution : (x : Resolution) → m ≡ x → (o₁ ≡ settled old d x outs₁) × (o₂ ≡ settled second d x outs₂)
  by_resolution x e = (p ∙ ap (λ (y : Resolution). settled old d y outs₁) e, q ∙ ap (λ (y : Resolution). settled second d y outs₂) e)

  either_settled : Either d m outs₁ outs₂ o₁ o₂
  either_settled =
      record {
        in_old = p;
        in_second = q;
        named = λ k e. by_resolution (offends k) e;
        too_many = λ es e h. let s = by_resolution (gives es) e in (s.0 ∙ many old es outs₁ h, s.1 ∙ many second es outs₂ h);
        written = λ es e h r₁ r₂.
            let s = by_resolution (gives es) e in
            let w₁ : o₁ ≡ accepted es = s.0 ∙ room old es outs₁ h r₁ in
            let w₂ : o₂ ≡ accepted es = s.1 ∙ room second es outs₂ h r₂ in
            (w₁, w₂, ap (bytes_written old) w₁, ap (bytes_written second) w₂);
        same_events = λ es₁ es₂ a b.
            gives_one es₁ es₂ (sym (accepted_gives old d m outs₁ es₁ (sym p ∙ a)) ∙ accepted_gives second d m outs₂ es₂ (sym q ∙ b));
      }

pub either_form : EitherForm
either_form resolve options document es works outs₁ outs₂ small holds memory =
    either_settled (length document) (resolve options document es) outs₁ outs₂
    (comes_to resolve (Old options) (record_in old options document es) works outs₁)
    (comes_to resolve Second (record_in second options document es) works outs₂)
    (comes_good resolve (Old options) options document es works outs₁ beside small holds memory)
    (comes_good resolve Second options document es works outs₂ within small holds memory)
