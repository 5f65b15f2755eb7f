-- The table's "given exactly when" for the list resolver: rows 1 to 8, row 6 by document 01's shape rule.
-- Assumes nothing.
use mathlib.Core.Path.{◌≡◌, refl}
use mathlib.Core.Bool.{false}
use mathlib.Core.Logic.{⊎_elim}
use mathlib.Core.List.{List, [], ◌∷◌}
use Prim.Native.Nat.{ℕ, ◌+◌, ◌≤◌}
use native.Mathlib.Omega.{arith}
use Rattle.record.specs.Handed.{form_of}
use Rattle.record.specs.Event.{document_in, events_in}
use Rattle.record.specs.Rows.{document_count_in, event_count_in}
use Rattle.record.specs.Written.{Judges, ExactlyWritten}
use Rattle.record.specs.declared.event.Event.{Event}
use Rattle.record.specs.declared.form.Handed.{Handed}
use Rattle.record.proofs.ExactlyWritten.{exactly_written}
use Rattle.list.specs.Tree.{tree_of}
use Rattle.list.specs.Lists.{offenders, lists}
use Rattle.list.proofs.Added.{result_of}
use Rattle.list.proofs.Earliest.{Rising, no_more, then, Among, front, behind, earliest}
use Rattle.list.specs.Offence.{Offends}
use Rattle.list.proofs.Offending.{named_offends, offends_named}

-- all of rising numbers are at or above the first bound
at_least : {k j : ℕ} {js : List ℕ} → Rising k js → Among j js → k ≤ j
at_least no_more a = elim a [ ]
at_least (then {j = i} l r) (front e) = omega arith
at_least (then {j = i} l r) (behind a) =
    let h = at_least r a in
    omega arith

nothing : {j : ℕ} (ks : List ℕ) → ks ≡ [] → Among j ks → ⊥
nothing [] q a = elim a [ ]
nothing (k ∷ ks) q a = let z : ◌≡◌ {A = ℕ} 0 1 = cc in omega arith

first_of : (ks : List ℕ) (k : ℕ) (rest : List ℕ) → ks ≡ k ∷ rest → Among k ks
first_of [] k rest q = let z : ◌≡◌ {A = ℕ} 0 1 = cc in absurd (omega arith)
first_of (j ∷ ks) k rest q = let e : k ≡ j = cc in front e

from_first : (ks : List ℕ) (k j : ℕ) (rest : List ℕ) → ks ≡ k ∷ rest → Rising (k + 1) rest → Among j ks → k ≤ j
from_first [] k j rest q r a = elim a [ ]
from_first (i ∷ ks) k j rest q r (front e) =
    let x : i ≡ k = cc in
    omega arith
from_first (i ∷ ks) k j rest q r (behind a) =
    let x : ks ≡ rest = cc in
    let h = at_least r (rw x at a) in
    omega arith

pub judges : (document : List ℕ) (es : List Event) → Judges (Offends document es) (lists document es)
judges document es =
    record {
      earliest = λ k q.
          let f = earliest document es k q in (
            named (first_of (offenders document 0 false (tree_of es) []) k f.0 f.1),
            λ j o. from_first (offenders document 0 false (tree_of es) []) k j f.0 f.1 f.2 (offends_named document 0 false (tree_of es) j [] o.item o.broken),
          );
      none = λ rs q j o.
          nothing (offenders document 0 false (tree_of es) []) (result_of document es rs q).0 (offends_named document 0 false (tree_of es) j [] o.item o.broken);
    }
  where
    named : {k : ℕ} → Among k (offenders document 0 false (tree_of es) []) → Offends document es k
    named {k} a = ⊎_elim (λ o. o) (λ b. absurd (nothing [] refl b)) (named_offends document 0 false (tree_of es) k [] a)

pub exactly_resolved : (h : Handed) (s : List ℕ) (works outs : ℕ) →
    ExactlyWritten h s works (Offends (document_in (form_of h) s (document_count_in (form_of h) s)) (events_in (form_of h) s (document_count_in (form_of h) s) (event_count_in (form_of h) s)))
    (λ d e. lists (document_in (form_of h) s d) (events_in (form_of h) s d e)) outs
exactly_resolved h s works outs =
    exactly_written h s works (Offends (document_in (form_of h) s (document_count_in (form_of h) s)) (events_in (form_of h) s (document_count_in (form_of h) s) (event_count_in (form_of h) s)))
    (λ d e. lists (document_in (form_of h) s d) (events_in (form_of h) s d e)) outs (λ q. judges (document_in (form_of h) s (document_count_in (form_of h) s)) (events_in (form_of h) s (document_count_in (form_of h) s) (event_count_in (form_of h) s)))
