-- The end of a call, case by case: too many events, too short an output, or the section written.
-- Assumes nothing.
use mathlib.Core.Path.{◌≡◌, sym, ap, ◌∙◌}
use mathlib.Core.Bool.{true}
use mathlib.Core.List.{List}
use Prim.Native.Nat.{ℕ, ◌+◌, ◌*◌, ◌-◌, ◌≤◌, ◌<◌}
use native.Mathlib.Omega.{arith}
use lib.ListN.{length}
use Rattle.std.specs.Prelude.{Result, Ok, Err}
use borrow.Author.Tests.{lt-ltb, le-ltb}
use Rattle.record.specs.Choice.{choose}
use Rattle.record.specs.Bytes.{Wrote, u32_bytes}
use Rattle.record.specs.Event.{document_in, events_in}
use Rattle.record.specs.Outcome.{Outcome, accepted, refusing, sized, onto, bytes_written}
use Rattle.record.specs.Partners.{balanced}
use Rattle.record.specs.Sound.{sound}
use Rattle.record.specs.declared.check.Refusal.{Refusal}
use Rattle.record.specs.declared.event.Event.{Event}
use Rattle.record.specs.declared.form.Form.{Form}
use Rattle.record.proofs.Parts.{length_document}
use Rattle.partners.specs.Pen.{Filled}
use Rattle.partners.proofs.Laws.{sound_balanced}
use Rattle.partners.proofs.Pens.{filled_section}
use Rattle.runs.specs.Rule.{Profile}
use Rattle.runs.specs.Plain.{Group}
use Rattle.runs.specs.Runs.{runs_of}
use Rattle.runs.specs.Output.{output, replaced}
use Rattle.output.proofs.SoundOutput.{output_sound}
use Rattle.writing.specs.Kept.{Kept, Slotted, runs_in, written_of}
use Rattle.attention.specs.Result.{emptied_from, Matched, result_of, count_written, Ended}
use Rattle.attention.proofs.Bridging.{kept, slotted, kept_groups}
use Rattle.attention.proofs.Sizes.{accepted_record, size_same}

-- `sized`, case by case
pub sized_long : (f : Form) (es : List Event) (outs : ℕ) → 8000 < length es → sized f es outs ≡ refusing 7 0
unfolding sized choose
sized_long f es outs h = rw (lt-ltb _ _ h)

sized_short : (f : Form) (es : List Event) (outs : ℕ) → length es ≤ 8000 → outs < 4 + f.width * length es → sized f es outs ≡ refusing 8 0
unfolding sized choose
sized_short f es outs h k = rw (le-ltb _ _ h, lt-ltb _ _ k)

sized_fits : (f : Form) (es : List Event) (outs : ℕ) → length es ≤ 8000 → 4 + f.width * length es ≤ outs → sized f es outs ≡ accepted es
unfolding sized choose
sized_fits f es outs h k = rw (le-ltb _ _ h, le-ltb _ _ k)

unwritten : (f : Form) (o : Outcome) (n p : ℕ) (out : List ℕ) → o ≡ refusing n p → out ≡ onto (bytes_written f o) out
unfolding onto
unwritten f o n p out e = sym (ap (λ (x : Outcome). onto (bytes_written f x) out) e)

module _ {profile : Profile} {f : Form} {s : List ℕ} {d e options n groups tried : ℕ} {w : List ℕ}
    (m : Matched profile f s d e options n groups tried w) where
  -- what the writer writes is what the definition gives
  pub written_same : written_of f s d e w groups ≡ output profile options (document_in f s d) (events_in f s d e)
  unfolding output
  written_same =
      ap (λ (gs : List Group). replaced (events_in f s d e) (runs_of (document_in f s d) (events_in f s d e)) gs 0)
      (kept_groups profile options (document_in f s d) (events_in f s d e) m.room m.count m.few m.made)

  pub writer_kept : Kept w groups n
  writer_kept = kept profile options (document_in f s d) (events_in f s d e) m.room m.count m.few m.made

  pub writer_slots : Slotted w n (runs_in f s d e)
  writer_slots = slotted profile options (document_in f s d) (events_in f s d e) m.room m.count m.few m.made

  -- what comes out is sound, with room for all of its events to be open
  output_is_sound : length (output profile options (document_in f s d) (events_in f s d e)) ≤ 8000 →
      sound 8000 d (output profile options (document_in f s d) (events_in f s d e)) ≡ true
  output_is_sound few =
      let whole = m.good.whole in
      let l : length (document_in f s d) ≡ d = length_document f s d (omega arith) in
      let q = output_sound profile options (document_in f s d) (events_in f s d e) 64 (accepted_record options m.good m.none_offends) 8000 few in
      rw l at q

  -- the number that the code has
  module _ (emptied size : ℕ) (counted : emptied ≡ emptied_from n w 0) (sum : size ≡ e - 2 * emptied + 8 * groups) where
    pub size_is : size ≡ length (output profile options (document_in f s d) (events_in f s d e))
    size_is = sum ∙ ap (λ (x : ℕ). e - 2 * x + 8 * groups) counted ∙ size_same m

    pub ended_long : (out : List ℕ) {r : Result ℕ Refusal} → 8000 < size → r ≡ Err (record { number = 7; place = 0 }) → Ended profile f s d e options out r out
    ended_long out h er =
        let k = size_is in
        let q : result_of profile f s d e options (length out) ≡ refusing 7 0 = sized_long f _ _ (omega arith) in
        record { answer = er ∙ ap count_written (sym q); output = unwritten f _ 7 0 out q }

    same_room : 4 + f.width * size ≡ 4 + f.width * length (output profile options (document_in f s d) (events_in f s d e))
    same_room = ap (λ (x : ℕ). 4 + f.width * x) size_is

    pub ended_short : (out : List ℕ) {r : Result ℕ Refusal} → size ≤ 8000 → length out < 4 + f.width * size → r ≡ Err (record { number = 8; place = 0 }) →
        Ended profile f s d e options out r out
    ended_short out h l er =
        let k = size_is in
        let q : result_of profile f s d e options (length out) ≡ refusing 8 0 = sized_short f _ _ (omega arith) (omega (arith, same_room)) in
        record { answer = er ∙ ap count_written (sym q); output = unwritten f _ 8 0 out q }

    -- what the writer asks
    few_events : size ≤ 8000 → length (output profile options (document_in f s d) (events_in f s d e)) ≤ 8000
    few_events h = let k = size_is in omega arith

    pub writer_count : length (written_of f s d e w groups) ≡ size
    writer_count = ap length written_same ∙ sym size_is

    pub writer_balance : size ≤ 8000 → balanced (written_of f s d e w groups) ≡ true
    writer_balance h =
        ap balanced written_same
        ∙ sound_balanced 8000 d (output profile options (document_in f s d) (events_in f s d e)) (output_is_sound (few_events h))

    pub ended_written : (out out₁ out₂ : List ℕ) → size ≤ 8000 → 4 + f.width * size ≤ length out → Wrote out 0 (u32_bytes size) out₁ →
        Filled f.width out₁ (written_of f s d e w groups) out₂ → Ended profile f s d e options out (Ok size) out₂
    ended_written out out₁ out₂ h l a b =
        let result : List Event = output profile options (document_in f s d) (events_in f s d e) in
        let q : result_of profile f s d e options (length out) ≡ accepted result = sized_fits f _ _ (few_events h) (omega (arith, same_room)) in
        let a' : Wrote out 0 (u32_bytes (length result)) out₁ = rw size_is at a in
        let b' : Filled f.width out₁ result out₂ = rw written_same at b in
        record {
          answer = ap Ok size_is ∙ ap count_written (sym q);
          output =
              filled_section f result out out₁ out₂ m.good.known.wide (omega (arith, same_room)) a' b'
              ∙ ap (λ (o : Outcome). onto (bytes_written f o) out) (sym q);
        }
