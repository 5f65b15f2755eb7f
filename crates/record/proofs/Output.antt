-- What an output holds after a call: the bytes written, and behind them what it held; and what makes the whole promise of a call that writes.
-- Assumes nothing.
use mathlib.Core.Path.{◌≡◌, refl}
use mathlib.Core.List.{List, []}
use Prim.Native.Nat.{ℕ}
use lib.ListN.{length, take, drop, replicate}
use lib.Seq.{take-append_seam, drop-append_seam}
use Rattle.record.specs.Outcome.{Outcome, onto}
use Rattle.record.specs.declared.form.Form.{Form}
use Rattle.record.specs.Promise.{Answered, Writes}

pub onto_bytes : (bs out : List ℕ) → take (length bs) (onto bs out) ≡ bs
unfolding onto
onto_bytes bs out = take-append_seam bs (drop (length bs) out)

pub onto_rest : (bs out : List ℕ) → drop (length bs) (onto bs out) ≡ drop (length bs) out
unfolding onto
onto_rest bs out = drop-append_seam bs (drop (length bs) out)

-- nothing written, nothing changed
pub onto_none : (out : List ℕ) → onto [] out ≡ out
unfolding onto
onto_none out = refl

-- a call that answers and writes as it should, and whose work memory is then wiped, keeps the whole promise
pub then_wiped : {A : Type 0} {f : Form} {comes : ℕ → ℕ → Outcome} {answers : Outcome → A} {out work : List ℕ} {r : A} {out' work' : List ℕ} →
    Answered f (comes (length out) (length work)) answers out r out' → work' ≡ replicate (length work) 0 → Writes f comes answers out work r out' work'
then_wiped a w = record { answer = a.answer; output = a.output; wiped = w }
