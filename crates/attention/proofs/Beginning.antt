-- From the load pass to the matcher: with the runs in their slots and every chain empty, the matcher can begin.
-- Assumes nothing.
use mathlib.Core.Path.{◌≡◌, sym, ap, ◌∙◌}
use mathlib.Core.Bool.{not}
use mathlib.Core.List.{List}
use Prim.Native.Nat.{ℕ, ◌+◌, ◌*◌, ◌<◌}
use native.Mathlib.Omega.{arith}
use lib.Dec.{eqb}
use lib.ListN.{length, get_or, length-map}
use Rattle.record.specs.declared.event.Event.{Event}
use Rattle.runs.specs.Runs.{runs_of}
use Rattle.runs.specs.Rule.{Profile}
use Rattle.runs.specs.Plain.{at}
use Rattle.runs.specs.Pieces.{standing}
use Rattle.slots.specs.Words.{get16}
use Rattle.slots.specs.Layout.{Room, link_of, chain_of}
use Rattle.groups.specs.Matches.{begin}
use Rattle.loading.specs.Held.{Slotted}
use Rattle.loading.specs.Promise.{Ready as Loaded}
use Rattle.matcher.specs.State.{Fresh}
use Rattle.attention.specs.Start.{Cleared}

module _ {profile : Profile} {options : ℕ} {doc : List ℕ} {es : List Event} {n : ℕ} {w w' : List ℕ} (room : Room w) (l : Loaded profile doc es options n w) (c : Cleared w 6147 w') where
  pair_kept : (b : ℕ) → b + 1 < 16384 → get16 w' b ≡ get16 w b
  unfolding get16
  pair_kept b h =
      let x : get_or w' b 0 ≡ get_or w b 0 = c.slots b (omega arith) in
      let y : get_or w' (b + 1) 0 ≡ get_or w (b + 1) 0 = c.slots (b + 1) h in
      cc

  flag_kept : (b : ℕ) → b < 16384 → not (eqb (get_or w' b 0) 0) ≡ not (eqb (get_or w b 0) 0)
  flag_kept b h = ap (λ (x : ℕ). not (eqb x 0)) (c.slots b h)

  long : length (begin profile options doc es) ≡ n
  long = length-map (runs_of doc es) (standing profile options) ∙ sym l.count

  slot : (j : ℕ) → j < n → Slotted w j (at (begin profile options doc es) j)
  slot j h = l.holds.slots j (omega (arith, long))

  low : (j : ℕ) → j < n → j < 1024
  low j h = omega (arith, l.few)

  pub begins : Fresh w' (begin profile options doc es) n
  begins =
      let small = l.few in
      let same = c.same_length in
      record {
        room = omega arith;
        few = l.few;
        falls = λ j h.
            let k : j < 1024 = low j h in
            let e : link_of w' j ≡ 0 = pair_kept (j * 16 + 10) (omega arith) ∙ (slot j h).link in
            omega arith;
        chains = λ j h.
            let k : j < 1024 = low j h in
            let e : chain_of w' j ≡ chain_of w j = pair_kept (j * 16 + 8) (omega arith) in
            let f = (slot j h).chain_known in
            omega arith;
        reads =
            record {
              len = long;
              whole = λ j h. let k : j < 1024 = low j h in pair_kept (j * 16) (omega arith) ∙ (slot j h).whole;
              left = λ j h. let k : j < 1024 = low j h in pair_kept (j * 16 + 2) (omega arith) ∙ (slot j h).left;
              marker = λ j h. let k : j < 1024 = low j h in c.slots (j * 16 + 4) (omega arith) ∙ (slot j h).marker;
              opens = λ j h p. let k : j < 1024 = low j h in flag_kept (j * 16 + 5) (omega arith) ∙ (slot j h).opens;
              closes = λ j h. let k : j < 1024 = low j h in flag_kept (j * 16 + 6) (omega arith) ∙ (slot j h).closes;
              chain = λ j h. let k : j < 1024 = low j h in pair_kept (j * 16 + 8) (omega arith) ∙ (slot j h).chain;
              known = λ j h. (slot j h).marked;
            };
        heads = c.heads;
        first = λ q h. let k : q < 1024 = low q h in pair_kept (q * 16 + 12) (omega arith) ∙ (slot q h).first_group;
        latest = λ q h. let k : q < 1024 = low q h in pair_kept (q * 16 + 14) (omega arith) ∙ (slot q h).latest_group;
      }
