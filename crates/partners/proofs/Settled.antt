-- The ways out of a resolver's call on a good record, each a case of `settled`: over any form, over what the resolver makes, and over its answers.
-- Assumes nothing.
use mathlib.Core.Path.{◌≡◌, sym}
use mathlib.Core.List.{List}
use Prim.Native.Nat.{ℕ, ◌+◌, ◌*◌, ◌≤◌, ◌<◌}
use lib.ListN.{length}
use borrow.Author.Tests.{lt-ltb, le-ltb}
use Rattle.record.specs.Choice.{choose}
use Rattle.record.specs.Form.{place_in}
use Rattle.record.specs.Outcome.{Resolution, offends, gives, Outcome, accepted, refusing, sized, settled, onto}
use Rattle.record.specs.Partners.{section_in}
use Rattle.record.specs.Promise.{Answered}
use Rattle.record.specs.declared.event.Event.{Event}
use Rattle.record.specs.declared.form.Form.{Form}
use Rattle.record.proofs.Output.{onto_none}

module _ {A : Type 0} (f : Form) (d : ℕ) (made : Resolution) (answers : Outcome → A) (out : List ℕ) (r : A) where
  pub offended : (k place : ℕ) → made ≡ offends k → place ≡ place_in f d k → r ≡ answers (refusing 6 place) →
      Answered f (settled f d made (length out)) answers out r out
  offended k place q e a = rw (q, ← e) (record { answer = a; output = sym (onto_none out) })

  module _ (es : List Event) (q : made ≡ gives es) (n : ℕ) (long : length es ≡ n) where
    pub too_many : 8000 < n → r ≡ answers (refusing 7 0) → Answered f (settled f d made (length out)) answers out r out
    unfolding sized choose
    too_many h a = rw (q, long, lt-ltb 8000 n h) (record { answer = a; output = sym (onto_none out) })

    module _ (few : n ≤ 8000) where
      pub too_short : length out < 4 + f.width * n → r ≡ answers (refusing 8 0) → Answered f (settled f d made (length out)) answers out r out
      unfolding sized choose
      too_short h a = rw (q, long, le-ltb 8000 n few, lt-ltb (length out) (4 + f.width * n) h) (record { answer = a; output = sym (onto_none out) })

      pub written : 4 + f.width * n ≤ length out → {out₂ : List ℕ} → out₂ ≡ onto (section_in f es) out → r ≡ answers (accepted es) →
          Answered f (settled f d made (length out)) answers out r out₂
      unfolding sized choose
      written h o a = rw (q, long, le-ltb 8000 n few, le-ltb (length out) (4 + f.width * n) h) (record { answer = a; output = o })
