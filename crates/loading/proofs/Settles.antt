-- A slot filled from what stands at the two places that a run's events name holds that run as the plain rule begins with it.
-- Assumes nothing.
use mathlib.Core.Path.{◌≡◌, sym, ap, ◌∙◌}
use mathlib.Core.Bool.{Bool, true}
use mathlib.Core.List.{List, ◌∷◌}
use Prim.Native.Nat.{ℕ, ◌+◌, ◌-◌, ◌*◌, ◌<◌}
use native.Mathlib.Omega.{arith}
use lib.ListN.{get_or, take, drop}
use Rattle.std.specs.Prelude.{Some, None}
use Rattle.std.proofs.lemmas.Option.{none-some}
use Rattle.record.specs.Options.{option_on}
use Rattle.record.specs.Bytes.{u32_at}
use Rattle.record.specs.Event.{document_in, event_at}
use Rattle.record.specs.declared.event.Event.{Event}
use Rattle.record.specs.declared.form.Form.{Form}
use Rattle.characters.specs.Beside.{Character, neighbour_before, neighbour_after}
use Rattle.characters.specs.StandIn.{stand_in}
use Rattle.classes.specs.Lent.{lacks}
use Rattle.classes.proofs.Wide.{lacked}
use Rattle.runs.specs.Runs.{is_marker, innermost_of, run_of}
use Rattle.runs.specs.Flanking.{can_open, can_close}
use Rattle.runs.specs.Rule.{Profile}
use Rattle.runs.specs.Chains.{container_number, marker_number, chain_number}
use Rattle.runs.specs.Pieces.{standing}
use Rattle.runs.proofs.Firsts.{stand_opens, stand_closes}
use Rattle.loading.specs.Held.{Slotted}
use Rattle.loading.specs.Filling.{Filled, Settled, SettledOr}

-- the document where it stands in the record: a byte of it, and neighbours
module _ (f : Form) (s : List ℕ) (d at : ℕ) where
  part_is : take (4 + f.front + d - (4 + f.front)) (drop (4 + f.front) s) ≡ document_in f s d
  unfolding document_in
  part_is =
      let e : 4 + f.front + d - (4 + f.front) ≡ d = omega arith in
      rw e

  pub before_in : stand_in (neighbour_before (take (4 + f.front + d - (4 + f.front)) (drop (4 + f.front) s)) at) ≡
      stand_in (neighbour_before (document_in f s d) at)
  before_in = ap (λ (doc : List ℕ). stand_in (neighbour_before doc at)) part_is

  pub after_in : stand_in (neighbour_after (take (4 + f.front + d - (4 + f.front)) (drop (4 + f.front) s)) at) ≡
      stand_in (neighbour_after (document_in f s d) at)
  after_in = ap (λ (doc : List ℕ). stand_in (neighbour_after doc at)) part_is

  pub byte_in : get_or (take (4 + f.front + d - (4 + f.front)) (drop (4 + f.front) s)) at 0 ≡ get_or (document_in f s d) at 0
  byte_in = ap (λ (doc : List ℕ). get_or doc at 0) part_is

-- what the code reads and works out at the event's place
pub record Found (profile : Profile) (f : Form) (s : List ℕ)
    (d options at container from to marker before after : ℕ) (opens closes : Bool) (chain : ℕ) : Type 0 where
  pub place : from ≡ u32_at s (at + 4)
  pub end : to ≡ u32_at s (at + f.width + 4)
  pub byte : marker ≡ get_or (document_in f s d) from 0
  pub stands_before : before ≡ stand_in (neighbour_before (document_in f s d) from)
  pub stands_after : after ≡ stand_in (neighbour_after (document_in f s d) to)
  pub can_open : opens ≡ can_open profile.amended (option_on options 2) marker (Character before) (Character after)
  pub can_close : closes ≡ can_close profile.amended (option_on options 2) marker (Character before) (Character after)
  pub number : chain ≡ 3 * container + marker_number marker
  pub known : chain < 6147

module _ {profile : Profile} {f : Form} {s : List ℕ} {d options at container n from to marker before after chain : ℕ} {opens closes : Bool} {w w' : List ℕ}
    (v : Found profile f s d options at container from to marker before after opens closes chain)
    (o : Filled w n (to - from) marker opens closes chain w') where
  flags_open : opens ≡
      can_open profile.amended (option_on options 2) marker (neighbour_before (document_in f s d) from) (neighbour_after (document_in f s d) to)
  flags_open =
      v.can_open
      ∙ rw (v.stands_before, v.stands_after)
      (sym (stand_opens profile.amended (option_on options 2) marker (neighbour_before (document_in f s d) from) (neighbour_after (document_in f s d) to)))

  flags_close : closes ≡
      can_close profile.amended (option_on options 2) marker (neighbour_before (document_in f s d) from) (neighbour_after (document_in f s d) to)
  flags_close =
      v.can_close
      ∙ rw (v.stands_before, v.stands_after)
      (sym (stand_closes profile.amended (option_on options 2) marker (neighbour_before (document_in f s d) from) (neighbour_after (document_in f s d) to)))

  own : (es : List Event) (i : ℕ) (held : List ℕ) → container_number (innermost_of held) ≡ container →
      is_marker (get_or (document_in f s d) (u32_at s (at + 4)) 0) ≡ true →
      Slotted w' n (standing profile options (run_of (document_in f s d) (event_at s at) (event_at s (at + f.width) ∷ es) i held))
  unfolding standing chain_number
  own es i held ec em =
      record {
        marked = em;
        whole = rw (← v.end, ← v.place) o.whole;
        left = rw (← v.end, ← v.place) o.left;
        marker = rw (← v.place) (o.marker_byte ∙ v.byte);
        opens = rw (← v.end, ← v.place, ← v.byte) (o.can_open ∙ flags_open);
        closes = rw (← v.end, ← v.place, ← v.byte) (o.can_close ∙ flags_close);
        chain = rw (ec, ← v.place, ← v.byte) (o.chain_number ∙ v.number);
        chain_known = rw o.chain_number v.known;
        first_group = o.first_group;
        latest_group = o.latest_group;
        link = o.link;
      }

  pub settled : Settled profile f s d options at container w n w'
  settled = record { own = own; kept = o.kept }

-- what is lacking is not settled, for want of the ranges; what is not lacking is
pub not_settled : (marks : List ℕ) (c : ℕ) (Done : Type 0) → lacks marks c ≡ true → SettledOr marks None Done
not_settled marks c Done e = record { done = λ z. absurd (none-some _ z); undone = λ _. lacked marks c e }

pub now_settled : (marks : List ℕ) (Done : Type 0) → Done → SettledOr marks (Some tt) Done
now_settled marks Done d = record { done = λ _. d; undone = λ z. absurd (none-some _ (sym z)) }
