-- A call's ways out, each a case of `settled`, over any form.
-- Assumes nothing.
use mathlib.Core.Path.{◌≡◌, refl, sym, ap}
use mathlib.Core.Bool.{true}
use mathlib.Core.List.{List}
use Prim.Native.Nat.{ℕ, ◌+◌, ◌*◌, ◌≤◌, ◌<◌}
use lib.ListN.{length}
use Rattle.std.specs.Prelude.{Result, Ok, Err}
use Rattle.record.specs.Bytes.{Wrote, u32_bytes}
use Rattle.record.specs.Form.{place_in}
use Rattle.record.specs.Handed.{form_of}
use Rattle.record.specs.Event.{events_in}
use Rattle.record.specs.Check.{admitted, accept}
use Rattle.record.specs.Outcome.{settled, onto}
use Rattle.record.specs.Partners.{balanced, section_in}
use Rattle.record.specs.Promise.{Answered}
use Rattle.record.specs.Sound.{sound}
use Rattle.record.specs.declared.event.Event.{Event}
use Rattle.record.specs.declared.form.Form.{Form}
use Rattle.record.specs.declared.form.Handed.{Handed}
use Rattle.record.specs.declared.check.Refusal.{Refusal}
use Rattle.record.proofs.Output.{onto_none}
use Rattle.partners.specs.Pen.{Filled}
use Rattle.partners.proofs.Laws.{sound_balanced}
use Rattle.partners.proofs.Pens.{filled_section}
use Rattle.partners.proofs.Settled as settledCases
use Rattle.partners.proofs.Settled.{offended}
use Rattle.heading.specs.Headings.{resolved_from, headings}
use Rattle.heading.specs.Promise.{answer_of, outcome_of}
use Rattle.heading.specs.Steps.{judged_of}
use Rattle.heading.proofs.Judging.{offends_is, sized_is}
use Rattle.heading.proofs.Resound.{resolved_sound}

-- what is written, of a good record, is sound, one event deeper at most: so every enter has its exit
pub result_balanced : (es : List Event) (d n : ℕ) → Ok n ≡ judged_of (headings es) → sound 64 d es ≡ true → balanced (resolved_from 0 es) ≡ true
result_balanced es d n q good = sound_balanced 65 d (resolved_from 0 es) (resolved_sound es (resolved_from 0 es) 64 d good (sized_is es n q).0)

-- the four ways out, of a form, after a document of d bytes and with whatever events
module _ (f : Form) (es : List Event) (d : ℕ) (out : List ℕ) where
  pub shape_broken : (k place : ℕ) → place ≡ place_in f d k → Err (record { event = k }) ≡ judged_of (headings es) →
      Answered f (settled f d (headings es) (length out)) answer_of out (Err (record { number = 6; place = place })) out
  shape_broken k place e q = offended f d (headings es) answer_of out _ k place (offends_is es k q).0 e refl

  module _ (n : ℕ) (q : Ok n ≡ judged_of (headings es)) where
    pub too_many : 8000 < n → Answered f (settled f d (headings es) (length out)) answer_of out (Err (record { number = 7; place = 0 })) out
    too_many h = let g = sized_is es n q in settledCases.too_many f d (headings es) answer_of out _ (resolved_from 0 es) g.0 n (sym g.1) h refl

    pub too_short : n ≤ 8000 → length out < 4 + f.width * n →
        Answered f (settled f d (headings es) (length out)) answer_of out (Err (record { number = 8; place = 0 })) out
    too_short few h = let g = sized_is es n q in settledCases.too_short f d (headings es) answer_of out _ (resolved_from 0 es) g.0 n (sym g.1) few h refl

    pub resolved : n ≤ 8000 → 8 ≤ f.width → 4 + f.width * n ≤ length out → {d₁ d₂ : List ℕ} → Wrote out 0 (u32_bytes n) d₁ →
        Filled f.width d₁ (resolved_from 0 es) d₂ → Answered f (settled f d (headings es) (length out)) answer_of out (Ok n) d₂
    resolved few wide room {d₁} {d₂} w v =
        let g = sized_is es n q in
        let o : d₂ ≡ onto (section_in f (resolved_from 0 es)) out = filled_section f (resolved_from 0 es) out d₁ d₂ wide (rw (← g.1) room) (rw (← g.1) w) v in
        settledCases.written f d (headings es) answer_of out _ (resolved_from 0 es) g.0 n (sym g.1) few room o (ap (λ (k : ℕ). Ok k) g.1)

-- the check's two ways on
pub not_admitted : (h : Handed) (s : List ℕ) (works : ℕ) (out : List ℕ) (r : Refusal) → Err r ≡ admitted h s works →
    Answered (form_of h) (outcome_of h s (length out) works) answer_of out (Err r) out
unfolding outcome_of
not_admitted h s works out r q = rw (← q) (record { answer = refl; output = sym (onto_none out) })

pub good_record : (h : Handed) (s : List ℕ) (works d e : ℕ) (out : List ℕ) (f : Form) {r : Result ℕ Refusal} {out' : List ℕ} → accept d e ≡ admitted h s works → f ≡ form_of h →
    Answered f (settled f d (headings (events_in f s d e)) (length out)) answer_of out r out' → Answered (form_of h) (outcome_of h s (length out) works) answer_of out r out'
unfolding outcome_of
good_record h s works d e out f q g w = rw (← q) (rw g at w)
