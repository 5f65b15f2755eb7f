-- The table's "given exactly when" for the resolver of attention: rows 1 to 8, row 6 by document 01's shape rule.
-- Assumes nothing.
use mathlib.Core.Path.{◌≡◌, refl}
use mathlib.Core.Bool.{Bool, true, false}
use mathlib.Core.List.{List}
use mathlib.Core.Option.{Option, none, some}
use Prim.Native.Nat.{ℕ, ◌≤◌, ◌<◌}
use native.Mathlib.Omega.{arith}
use lib.Dec.{leb}
use borrow.Author.Tests.{leb-true, leb-false}
use Rattle.record.specs.Handed.{form_of, options_of}
use Rattle.record.specs.Event.{document_in, events_in}
use Rattle.record.specs.Rows.{document_count_in, event_count_in}
use Rattle.record.specs.Outcome.{offends, gives}
use Rattle.record.specs.Written.{Judges, ExactlyWritten}
use Rattle.record.specs.declared.event.Event.{Event}
use Rattle.record.specs.declared.form.Handed.{Handed}
use Rattle.record.proofs.ExactlyWritten.{exactly_written}
use Rattle.runs.specs.Runs.{offender}
use Rattle.runs.specs.Rule.{Profile}
use Rattle.runs.specs.Output.{output}
use Rattle.attention.specs.Shape.{Offends}
use Rattle.attention.specs.Attention.{unless_offended, attention}
use Rattle.attention.proofs.Offenders.{earliest_offender, none_offends}

named : (o : Option ℕ) (es : List Event) (k : ℕ) → unless_offended o es ≡ offends k → o ≡ some k
named none es k q = let z : ◌≡◌ {A = ℕ} 0 1 = cc in absurd (omega arith)
named (some j) es k q = cc

unnamed : (o : Option ℕ) (es rs : List Event) → unless_offended o es ≡ gives rs → o ≡ none
unnamed none es rs q = refl
unnamed (some j) es rs q = let z : ◌≡◌ {A = ℕ} 0 1 = cc in absurd (omega arith)

not_before : (P : ℕ → Type 0) (k j : ℕ) → ((i : ℕ) → i < k → P i → ⊥) → P j → k ≤ j
not_before P k j f b = go (leb k j) refl
  where
    go : (z : Bool) → leb k j ≡ z → k ≤ j
    go true e = leb-true _ _ e
    go false e = absurd (f j (leb-false _ _ e) b)

pub judges : (profile : Profile) (options : ℕ) (doc : List ℕ) (es : List Event) → Judges (Offends doc options es) (attention profile options doc es)
unfolding attention
judges profile options doc es =
    record {
      earliest = λ k q.
          let f = earliest_offender doc options es k (named (offender doc options es) (output profile options doc es) k q) in
          (f.0, λ j b. not_before (Offends doc options es) k j f.1 b);
      none = λ rs q j b. none_offends doc options es (unnamed (offender doc options es) (output profile options doc es) rs q) j b;
    }

pub exactly_resolved : (profile : Profile) (h : Handed) (s : List ℕ) (works outs : ℕ) →
    ExactlyWritten h s works (Offends (document_in (form_of h) s (document_count_in (form_of h) s)) (options_of h s) (events_in (form_of h) s (document_count_in (form_of h) s) (event_count_in (form_of h) s)))
    (λ d e. attention profile (options_of h s) (document_in (form_of h) s d) (events_in (form_of h) s d e)) outs
exactly_resolved profile h s works outs =
    exactly_written h s works (Offends (document_in (form_of h) s (document_count_in (form_of h) s)) (options_of h s) (events_in (form_of h) s (document_count_in (form_of h) s) (event_count_in (form_of h) s)))
    (λ d e. attention profile (options_of h s) (document_in (form_of h) s d) (events_in (form_of h) s d e)) outs
    (λ q. judges profile (options_of h s) (document_in (form_of h) s (document_count_in (form_of h) s)) (events_in (form_of h) s (document_count_in (form_of h) s) (event_count_in (form_of h) s)))
