-- Empty chains are in order, and at a run whose chain is empty nothing is found: specs/OffChains.antt.
-- Assumes nothing.
use Prim.Native.Nat.{ℕ, ◌+◌, ◌-◌}
use mathlib.Core.Path.{◌≡◌, refl, ◌∙◌, sym, ap}
use mathlib.Core.List.{List}
use mathlib.Core.Bool.{Bool, true, false}
use native.Mathlib.Omega.{arith}
use Rattle.std.specs.Prelude.{Ok}
use Rattle.runs.specs.declared.Next.TheVariants.{Done}
use Rattle.runs.specs.Rule.{Rule}
use Rattle.runs.specs.Plain.{miss}
use Rattle.slots.specs.Layout.{head_of, chain_of}
use Rattle.chains.specs.Walk.{seek, closing, passed, raised, onward}
use Rattle.chains.proofs.Steps.{down_zero, seek_closing, seek_not, onward_miss, onward_end}
use Rattle.matcher.specs.OffChains.{EmptyIsInOrder, EmptyMayBegin, EmptyTakesNone}
use Rattle.matcher.specs.Along.{closed_at}
use Rattle.matcher.proofs.Ways.{done_way}

pub empty_is_in_order : EmptyIsInOrder
empty_is_in_order w n from room few within falls chains heads =
    record {
      sound = record { room = room; few = few; within = within; links = falls; chains = chains; heads = λ k h. omega (arith, heads k h); high = omega arith };
      earlier = λ x h. absurd (omega arith);
      rise = λ x y a h. absurd (omega arith);
      left = λ x h. absurd (omega arith);
      heads = λ k h p. absurd (omega (arith, heads k h));
      links = λ x h. absurd (omega arith);
    }

pub empty_may_begin : EmptyMayBegin
empty_may_begin w n from groups tried room few more falls chains heads made count =
    record { order = empty_is_in_order w n from room few (omega arith) falls chains heads; more = more; room = made; few = count }

module _ (rule : Rule) (w : List ℕ) (height from : ℕ) (e : head_of w (chain_of w from) ≡ 0) where
  none : seek rule w from 0 ≡ miss 0
  none = go (closing w from) refl
    where
      go : (z : Bool) → closing w from ≡ z → seek rule w from 0 ≡ miss 0
      go true q = seek_closing rule w from 0 q ∙ rw e (down_zero rule w from 0 0)
      go false q = seek_not rule w from 0 q

  past : onward (from + 1 - from) rule w height from 0 ≡ (Done 0, (passed w height from, raised w height from))
  past =
      onward_miss rule w height (from + 1) from 0 0 (omega arith) none
      ∙ onward_end rule (passed w height from) (raised w height from) (from + 1) (from + 1) 0 (omega arith)

pub empty_takes_none : EmptyTakesNone
empty_takes_none rule w height from groups tried e =
    let z : tried + 0 ≡ tried = omega arith in
    done_way rule w height from (from + 1) groups tried (sym (past rule w height from e)) refl ∙ ap (λ y. (Ok (closed_at (from + 1) (raised w height from) groups y), passed w height from)) z
