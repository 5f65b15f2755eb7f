-- The table's "given exactly when" for the heading resolver: rows 1 to 8, row 6 by document 01's shape rule.
-- Assumes nothing.
use mathlib.Core.Path.{◌≡◌, refl}
use mathlib.Core.Bool.{Bool, true, false}
use mathlib.Core.List.{List}
use Prim.Native.Nat.{ℕ, ◌≤◌}
use lib.Dec.{leb}
use borrow.Author.Tests.{leb-true, leb-false}
use Rattle.record.specs.Handed.{form_of}
use Rattle.record.specs.Event.{events_in}
use Rattle.record.specs.Check.{admitted, accept}
use Rattle.record.specs.Rows.{document_count_in, event_count_in}
use Rattle.record.specs.Written.{Judges, ExactlyWritten}
use Rattle.record.specs.declared.event.Event.{Event}
use Rattle.record.specs.declared.form.Handed.{Handed}
use Rattle.record.proofs.Good.{admission}
use Rattle.record.proofs.ExactlyWritten.{exactly_written}
use Rattle.heading.specs.Headings.{headings}
use Rattle.heading.specs.Shape.{Broken, Earliest}
use Rattle.heading.proofs.Offence.{earliest_offends, gives_unbroken}

not_before : (es : List Event) (k j : ℕ) → Earliest es k → Broken es j → k ≤ j
not_before es k j f b = go (leb k j) refl
  where
    go : (z : Bool) → leb k j ≡ z → k ≤ j
    go true e = leb-true _ _ e
    go false e = absurd (f.first j (leb-false _ _ e) b)

pub exactly_resolved : (h : Handed) (s : List ℕ) (works outs : ℕ) →
    ExactlyWritten h s works (Broken (events_in (form_of h) s (document_count_in (form_of h) s) (event_count_in (form_of h) s))) (λ d e. headings (events_in (form_of h) s d e)) outs
exactly_resolved h s works outs =
    exactly_written h s works (Broken (events_in (form_of h) s (document_count_in (form_of h) s) (event_count_in (form_of h) s))) (λ d e. headings (events_in (form_of h) s d e)) outs judges
  where
    judges : admitted h s works ≡ accept (document_count_in (form_of h) s) (event_count_in (form_of h) s) →
        Judges (Broken (events_in (form_of h) s (document_count_in (form_of h) s) (event_count_in (form_of h) s))) (headings (events_in (form_of h) s (document_count_in (form_of h) s) (event_count_in (form_of h) s)))
    judges q =
        let s₁ = (admission h s works (document_count_in (form_of h) s) (event_count_in (form_of h) s) q).good.sound_events in
        record {
          earliest = λ k e.
              let f = earliest_offends (events_in (form_of h) s (document_count_in (form_of h) s) (event_count_in (form_of h) s)) 64 (document_count_in (form_of h) s) k s₁ e in
              (f.broken, λ j b. not_before (events_in (form_of h) s (document_count_in (form_of h) s) (event_count_in (form_of h) s)) k j f b);
          none = λ rs e j b. gives_unbroken (events_in (form_of h) s (document_count_in (form_of h) s) (event_count_in (form_of h) s)) rs 64 (document_count_in (form_of h) s) s₁ e j b;
        }
